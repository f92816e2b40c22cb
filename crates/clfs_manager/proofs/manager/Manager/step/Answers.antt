use Rattle.clfs_manager.proofs.Words.{ℕ, refl, sym, subst, LogEntry, Unchanged, Passes}
use Rattle.clfs_model.specs.declared.reply.Reply.TheVariants as replies
use Rattle.clfs_manager.proofs.ReadKeeps.{still as still_passes}
use Rattle.clfs_manager.proofs.KeptFiles.{copy_stays, copy_unchanged}
use Rattle.clfs_manager.proofs.StepCalls.{copied, copy_same, no_memory_by, place_by, said, stepped, undamaged, still, written, refused_by}
use Rattle.clfs_manager.proofs.manager.Manager.step.Goals as goal

pub returns-in-OpenStream-clause-damage : goal.returns-in-OpenStream-clause-damage
returns-in-OpenStream-clause-damage g c = λ tells. undamaged _ _ _ _ replies.Stream _ _ _ refl (said _ _ _ c.reply_of.ensures.exact) (c.open_stream.ensures.call.step (g.D.Disk.state c.args.self.now.1).nature.tells_contents)

pub returns-in-OpenStream-clause-writes : goal.returns-in-OpenStream-clause-writes
returns-in-OpenStream-clause-writes g c = written replies.Stream _ _ _ _ (λ x e. cc e) (said _ _ _ c.reply_of.ensures.exact) c.open_stream.ensures.call.writes

pub returns-in-CreateArea-clause-damage : goal.returns-in-CreateArea-clause-damage
returns-in-CreateArea-clause-damage g c = λ tells. undamaged _ _ _ _ replies.Area _ _ _ refl (said _ _ _ c.reply_of-in-CreateArea.ensures.exact) (c.create_area.ensures.step (g.D.Disk.state c.args.self.now.1).nature.tells_contents)

pub returns-in-CreateArea-clause-writes : goal.returns-in-CreateArea-clause-writes
returns-in-CreateArea-clause-writes g c = rw c.create_area.ensures.disk (still _ _ _ _ replies.Area _ _ _ _ refl (said _ _ _ c.reply_of-in-CreateArea.ensures.exact) (c.create_area.ensures.step (g.D.Disk.state c.args.self.now.1).nature.tells_contents))

pub returns-in-DeleteArea-clause-damage : goal.returns-in-DeleteArea-clause-damage
returns-in-DeleteArea-clause-damage g c = λ tells. undamaged _ _ _ _ (λ _. replies.Done) _ _ _ refl (said _ _ _ c.reply_of-in-DeleteArea.ensures.exact) (c.delete_area.ensures.step (g.D.Disk.state c.args.self.now.1).nature.tells_contents)

pub returns-in-DeleteArea-clause-writes : goal.returns-in-DeleteArea-clause-writes
returns-in-DeleteArea-clause-writes g c = rw c.delete_area.ensures.disk (still _ _ _ _ (λ _. replies.Done) _ _ _ _ refl (said _ _ _ c.reply_of-in-DeleteArea.ensures.exact) (c.delete_area.ensures.step (g.D.Disk.state c.args.self.now.1).nature.tells_contents))

pub returns-in-Reserve-clause-damage : goal.returns-in-Reserve-clause-damage
returns-in-Reserve-clause-damage g c = λ tells. undamaged _ _ _ _ replies.Held _ _ _ refl (said _ _ _ c.reply_of-in-Reserve.ensures.exact) (c.reserve.ensures.call.step (g.D.Disk.state c.args.self.now.1).nature.tells_contents)

pub returns-in-Reserve-clause-writes : goal.returns-in-Reserve-clause-writes
returns-in-Reserve-clause-writes g c = written replies.Held _ _ _ _ (λ x e. cc e) (said _ _ _ c.reply_of-in-Reserve.ensures.exact) c.reserve.ensures.call.writes

pub returns-in-Release-clause-damage : goal.returns-in-Release-clause-damage
returns-in-Release-clause-damage g c = λ tells. undamaged _ _ _ _ replies.Held _ _ _ refl (said _ _ _ c.reply_of-in-Release.ensures.exact) (c.release.ensures.step (g.D.Disk.state c.args.self.now.1).nature.tells_contents)

pub returns-in-Release-clause-writes : goal.returns-in-Release-clause-writes
returns-in-Release-clause-writes g c = rw c.release.ensures.disk (still _ _ _ _ replies.Held _ _ _ _ refl (said _ _ _ c.reply_of-in-Release.ensures.exact) (c.release.ensures.step (g.D.Disk.state c.args.self.now.1).nature.tells_contents))

pub returns-in-Align-clause-damage : goal.returns-in-Align-clause-damage
returns-in-Align-clause-damage g c = λ tells. undamaged _ _ _ _ replies.Sectors _ _ _ refl (said _ _ _ c.reply_of-in-Align.ensures.exact) (c.align.ensures.step (g.D.Disk.state c.args.self.now.1).nature.tells_contents)

pub returns-in-Align-clause-writes : goal.returns-in-Align-clause-writes
returns-in-Align-clause-writes g c = still _ _ _ _ replies.Sectors _ _ _ _ refl (said _ _ _ c.reply_of-in-Align.ensures.exact) (c.align.ensures.step (g.D.Disk.state c.args.self.now.1).nature.tells_contents)

pub returns-in-Append-clause-damage : goal.returns-in-Append-clause-damage
returns-in-Append-clause-damage g c = λ tells. undamaged _ _ _ _ replies.Placed _ _ _ refl (said _ _ _ c.reply_of-in-Append.ensures.exact) (c.append.ensures.call.step (g.D.Disk.state c.args.self.now.1).nature.tells_contents)

pub returns-in-Append-clause-writes : goal.returns-in-Append-clause-writes
returns-in-Append-clause-writes g c = written replies.Placed _ _ _ _ (λ x e. cc e) (said _ _ _ c.reply_of-in-Append.ensures.exact) c.append.ensures.call.writes

pub returns-in-Flush-clause-damage : goal.returns-in-Flush-clause-damage
returns-in-Flush-clause-damage g c = λ tells. undamaged _ _ _ _ replies.Flushed _ _ _ refl (said _ _ _ c.reply_of-in-Flush.ensures.exact) (c.flush.ensures.call.step (g.D.Disk.state c.args.self.now.1).nature.tells_contents)

pub returns-in-Flush-clause-writes : goal.returns-in-Flush-clause-writes
returns-in-Flush-clause-writes g c = written replies.Flushed _ _ _ _ (λ x e. cc e) (said _ _ _ c.reply_of-in-Flush.ensures.exact) c.flush.ensures.call.writes

pub returns-in-FlushTo-clause-damage : goal.returns-in-FlushTo-clause-damage
returns-in-FlushTo-clause-damage g c = λ tells. undamaged _ _ _ _ replies.Flushed _ _ _ refl (said _ _ _ c.reply_of-in-FlushTo.ensures.exact) (c.flush_to.ensures.call.step (g.D.Disk.state c.args.self.now.1).nature.tells_contents)

pub returns-in-FlushTo-clause-writes : goal.returns-in-FlushTo-clause-writes
returns-in-FlushTo-clause-writes g c = written replies.Flushed _ _ _ _ (λ x e. cc e) (said _ _ _ c.reply_of-in-FlushTo.ensures.exact) c.flush_to.ensures.call.writes

pub returns-in-EndRead-clause-damage : goal.returns-in-EndRead-clause-damage
returns-in-EndRead-clause-damage g c = λ tells. undamaged _ _ _ _ (λ _. replies.Done) _ _ _ refl (said _ _ _ c.reply_of-in-EndRead.ensures.exact) (c.end_read.ensures.step (g.D.Disk.state c.args.self.now.1).nature.tells_contents)

pub returns-in-EndRead-clause-writes : goal.returns-in-EndRead-clause-writes
returns-in-EndRead-clause-writes g c = rw c.end_read.ensures.disk (still _ _ _ _ (λ _. replies.Done) _ _ _ _ refl (said _ _ _ c.reply_of-in-EndRead.ensures.exact) (c.end_read.ensures.step (g.D.Disk.state c.args.self.now.1).nature.tells_contents))

pub returns-in-WriteRestart-clause-damage : goal.returns-in-WriteRestart-clause-damage
returns-in-WriteRestart-clause-damage g c = λ tells. undamaged _ _ _ _ replies.Placed _ _ _ refl (said _ _ _ c.reply_of-in-WriteRestart.ensures.exact) (c.write_restart.ensures.call.step (g.D.Disk.state c.args.self.now.1).nature.tells_contents)

pub returns-in-WriteRestart-clause-writes : goal.returns-in-WriteRestart-clause-writes
returns-in-WriteRestart-clause-writes g c = written replies.Placed _ _ _ _ (λ x e. cc e) (said _ _ _ c.reply_of-in-WriteRestart.ensures.exact) c.write_restart.ensures.call.writes

pub returns-in-Advance-clause-damage : goal.returns-in-Advance-clause-damage
returns-in-Advance-clause-damage g c = λ tells. undamaged _ _ _ _ replies.Base _ _ _ refl (said _ _ _ c.reply_of-in-Advance.ensures.exact) (c.advance.ensures.call.step (g.D.Disk.state c.args.self.now.1).nature.tells_contents)

pub returns-in-Advance-clause-writes : goal.returns-in-Advance-clause-writes
returns-in-Advance-clause-writes g c = written replies.Base _ _ _ _ (λ x e. cc e) (said _ _ _ c.reply_of-in-Advance.ensures.exact) c.advance.ensures.call.writes

pub returns-in-SetArchive-clause-damage : goal.returns-in-SetArchive-clause-damage
returns-in-SetArchive-clause-damage g c = λ tells. undamaged _ _ _ _ (λ _. replies.Done) _ _ _ refl (said _ _ _ c.reply_of-in-SetArchive.ensures.exact) ((c.set_archive.ensures.call c.args.client).step (g.D.Disk.state c.args.self.now.1).nature.tells_contents)

pub returns-in-SetArchive-clause-writes : goal.returns-in-SetArchive-clause-writes
returns-in-SetArchive-clause-writes g c = written (λ _. replies.Done) _ _ _ _ (λ x e. cc e) (said _ _ _ c.reply_of-in-SetArchive.ensures.exact) (c.set_archive.ensures.call c.args.client).writes

pub returns-in-SetArchiveTail-clause-damage : goal.returns-in-SetArchiveTail-clause-damage
returns-in-SetArchiveTail-clause-damage g c = λ tells. undamaged _ _ _ _ replies.Tail _ _ _ refl (said _ _ _ c.reply_of-in-SetArchiveTail.ensures.exact) ((c.set_archive_tail.ensures.call c.args.client).step (g.D.Disk.state c.args.self.now.1).nature.tells_contents)

pub returns-in-SetArchiveTail-clause-writes : goal.returns-in-SetArchiveTail-clause-writes
returns-in-SetArchiveTail-clause-writes g c = written replies.Tail _ _ _ _ (λ x e. cc e) (said _ _ _ c.reply_of-in-SetArchiveTail.ensures.exact) (c.set_archive_tail.ensures.call c.args.client).writes

pub returns-in-ListExtents-clause-damage : goal.returns-in-ListExtents-clause-damage
returns-in-ListExtents-clause-damage g c = λ tells. undamaged _ _ _ _ replies.Extents _ _ _ refl (said _ _ _ c.reply_of-in-ListExtents.ensures.exact) (c.extents.ensures.step (g.D.Disk.state c.args.self.now.1).nature.tells_contents c.args.client)

pub returns-in-ListExtents-clause-writes : goal.returns-in-ListExtents-clause-writes
returns-in-ListExtents-clause-writes g c = still _ _ _ _ replies.Extents _ _ _ _ refl (said _ _ _ c.reply_of-in-ListExtents.ensures.exact) (c.extents.ensures.step (g.D.Disk.state c.args.self.now.1).nature.tells_contents c.args.client)

pub returns-in-InstallPolicy-clause-damage : goal.returns-in-InstallPolicy-clause-damage
returns-in-InstallPolicy-clause-damage g c = λ tells. undamaged _ _ _ _ (λ _. replies.Done) _ _ _ refl (said _ _ _ c.reply_of-in-InstallPolicy.ensures.exact) ((c.install_policy.ensures.call c.args.client).step (g.D.Disk.state c.args.self.now.1).nature.tells_contents)

pub returns-in-InstallPolicy-clause-writes : goal.returns-in-InstallPolicy-clause-writes
returns-in-InstallPolicy-clause-writes g c = written (λ _. replies.Done) _ _ _ _ (λ x e. cc e) (said _ _ _ c.reply_of-in-InstallPolicy.ensures.exact) (c.install_policy.ensures.call c.args.client).writes

pub returns-in-RemovePolicy-clause-damage : goal.returns-in-RemovePolicy-clause-damage
returns-in-RemovePolicy-clause-damage g c = λ tells. undamaged _ _ _ _ (λ _. replies.Done) _ _ _ refl (said _ _ _ c.reply_of-in-RemovePolicy.ensures.exact) ((c.remove_policy.ensures.call c.args.client).step (g.D.Disk.state c.args.self.now.1).nature.tells_contents)

pub returns-in-RemovePolicy-clause-writes : goal.returns-in-RemovePolicy-clause-writes
returns-in-RemovePolicy-clause-writes g c = written (λ _. replies.Done) _ _ _ _ (λ x e. cc e) (said _ _ _ c.reply_of-in-RemovePolicy.ensures.exact) (c.remove_policy.ensures.call c.args.client).writes

pub returns-in-SetSize-clause-damage : goal.returns-in-SetSize-clause-damage
returns-in-SetSize-clause-damage g c = λ tells. undamaged _ _ _ _ replies.Containers _ _ _ refl (said _ _ _ c.reply_of-in-SetSize.ensures.exact) ((c.set_size.ensures.call c.args.client).step (g.D.Disk.state c.args.self.now.1).nature.tells_contents)

pub returns-in-SetSize-clause-writes : goal.returns-in-SetSize-clause-writes
returns-in-SetSize-clause-writes g c = written replies.Containers _ _ _ _ (λ x e. cc e) (said _ _ _ c.reply_of-in-SetSize.ensures.exact) (c.set_size.ensures.call c.args.client).writes

pub returns-in-Info-clause-damage : goal.returns-in-Info-clause-damage
returns-in-Info-clause-damage g c = λ tells. undamaged _ _ _ _ replies.Info _ _ _ refl (said _ _ _ c.reply_of-in-Info.ensures.exact) (c.info.ensures.step (g.D.Disk.state c.args.self.now.1).nature.tells_contents c.args.client)

pub returns-in-Info-clause-writes : goal.returns-in-Info-clause-writes
returns-in-Info-clause-writes g c = still _ _ _ _ replies.Info _ _ _ _ refl (said _ _ _ c.reply_of-in-Info.ensures.exact) (c.info.ensures.step (g.D.Disk.state c.args.self.now.1).nature.tells_contents c.args.client)

pub returns-in-OpenStream-clause-moments : goal.returns-in-OpenStream-clause-moments
returns-in-OpenStream-clause-moments g c = rw c.in-OpenStream.is (c.open_stream.ensures.call.moments)

pub returns-in-OpenStream-clause-stopped : goal.returns-in-OpenStream-clause-stopped
returns-in-OpenStream-clause-stopped g c = c.open_stream.ensures.call.stopped

pub returns-in-Reserve-clause-moments : goal.returns-in-Reserve-clause-moments
returns-in-Reserve-clause-moments g c = rw c.in-Reserve.is (c.reserve.ensures.call.moments)

pub returns-in-Reserve-clause-stopped : goal.returns-in-Reserve-clause-stopped
returns-in-Reserve-clause-stopped g c = c.reserve.ensures.call.stopped

pub returns-in-Append-clause-moments : goal.returns-in-Append-clause-moments
returns-in-Append-clause-moments g c = rw c.in-Append.is (c.append.ensures.call.moments)

pub returns-in-Append-clause-stopped : goal.returns-in-Append-clause-stopped
returns-in-Append-clause-stopped g c = c.append.ensures.call.stopped

pub returns-in-Flush-clause-moments : goal.returns-in-Flush-clause-moments
returns-in-Flush-clause-moments g c = rw c.in-Flush.is (c.flush.ensures.call.moments)

pub returns-in-Flush-clause-stopped : goal.returns-in-Flush-clause-stopped
returns-in-Flush-clause-stopped g c = c.flush.ensures.call.stopped

pub returns-in-FlushTo-clause-moments : goal.returns-in-FlushTo-clause-moments
returns-in-FlushTo-clause-moments g c = rw c.in-FlushTo.is (c.flush_to.ensures.call.moments)

pub returns-in-FlushTo-clause-stopped : goal.returns-in-FlushTo-clause-stopped
returns-in-FlushTo-clause-stopped g c = c.flush_to.ensures.call.stopped

pub returns-in-Read-clause-moments : goal.returns-in-Read-clause-moments
returns-in-Read-clause-moments g c = rw c.in-Read.is (c.read.ensures.moments)

pub returns-in-Read-clause-stopped : goal.returns-in-Read-clause-stopped
returns-in-Read-clause-stopped g c = c.read.ensures.stopped

pub returns-in-ReadNext-clause-moments : goal.returns-in-ReadNext-clause-moments
returns-in-ReadNext-clause-moments g c = rw c.in-ReadNext.is (c.read_next.ensures.moments)

pub returns-in-ReadNext-clause-stopped : goal.returns-in-ReadNext-clause-stopped
returns-in-ReadNext-clause-stopped g c = c.read_next.ensures.stopped

pub returns-in-WriteRestart-clause-moments : goal.returns-in-WriteRestart-clause-moments
returns-in-WriteRestart-clause-moments g c = rw c.in-WriteRestart.is (c.write_restart.ensures.call.moments)

pub returns-in-WriteRestart-clause-stopped : goal.returns-in-WriteRestart-clause-stopped
returns-in-WriteRestart-clause-stopped g c = c.write_restart.ensures.call.stopped

pub returns-in-ReadRestart-clause-moments : goal.returns-in-ReadRestart-clause-moments
returns-in-ReadRestart-clause-moments g c = rw c.in-ReadRestart.is (c.read_restart.ensures.moments)

pub returns-in-ReadRestart-clause-stopped : goal.returns-in-ReadRestart-clause-stopped
returns-in-ReadRestart-clause-stopped g c = c.read_restart.ensures.stopped

pub returns-in-PreviousRestart-clause-moments : goal.returns-in-PreviousRestart-clause-moments
returns-in-PreviousRestart-clause-moments g c = rw c.in-PreviousRestart.is (c.previous_restart.ensures.moments)

pub returns-in-PreviousRestart-clause-stopped : goal.returns-in-PreviousRestart-clause-stopped
returns-in-PreviousRestart-clause-stopped g c = c.previous_restart.ensures.stopped

pub returns-in-Advance-clause-moments : goal.returns-in-Advance-clause-moments
returns-in-Advance-clause-moments g c = rw c.in-Advance.is (c.advance.ensures.call.moments)

pub returns-in-Advance-clause-stopped : goal.returns-in-Advance-clause-stopped
returns-in-Advance-clause-stopped g c = c.advance.ensures.call.stopped

pub returns-in-SetArchive-clause-moments : goal.returns-in-SetArchive-clause-moments
returns-in-SetArchive-clause-moments g c = rw c.in-SetArchive.is ((c.set_archive.ensures.call c.args.client).moments)

pub returns-in-SetArchive-clause-stopped : goal.returns-in-SetArchive-clause-stopped
returns-in-SetArchive-clause-stopped g c = (c.set_archive.ensures.call c.args.client).stopped

pub returns-in-SetArchiveTail-clause-moments : goal.returns-in-SetArchiveTail-clause-moments
returns-in-SetArchiveTail-clause-moments g c = rw c.in-SetArchiveTail.is ((c.set_archive_tail.ensures.call c.args.client).moments)

pub returns-in-SetArchiveTail-clause-stopped : goal.returns-in-SetArchiveTail-clause-stopped
returns-in-SetArchiveTail-clause-stopped g c = (c.set_archive_tail.ensures.call c.args.client).stopped

pub returns-in-InstallPolicy-clause-moments : goal.returns-in-InstallPolicy-clause-moments
returns-in-InstallPolicy-clause-moments g c = rw c.in-InstallPolicy.is ((c.install_policy.ensures.call c.args.client).moments)

pub returns-in-InstallPolicy-clause-stopped : goal.returns-in-InstallPolicy-clause-stopped
returns-in-InstallPolicy-clause-stopped g c = (c.install_policy.ensures.call c.args.client).stopped

pub returns-in-RemovePolicy-clause-moments : goal.returns-in-RemovePolicy-clause-moments
returns-in-RemovePolicy-clause-moments g c = rw c.in-RemovePolicy.is ((c.remove_policy.ensures.call c.args.client).moments)

pub returns-in-RemovePolicy-clause-stopped : goal.returns-in-RemovePolicy-clause-stopped
returns-in-RemovePolicy-clause-stopped g c = (c.remove_policy.ensures.call c.args.client).stopped

pub returns-in-SetSize-clause-moments : goal.returns-in-SetSize-clause-moments
returns-in-SetSize-clause-moments g c = rw c.in-SetSize.is ((c.set_size.ensures.call c.args.client).moments)

pub returns-in-SetSize-clause-stopped : goal.returns-in-SetSize-clause-stopped
returns-in-SetSize-clause-stopped g c = (c.set_size.ensures.call c.args.client).stopped

pub returns-in-CreateArea-clause-moments : goal.returns-in-CreateArea-clause-moments
returns-in-CreateArea-clause-moments g c = c.stored.ensures.survives c.args.client _ _ (subst (λ d. Passes Unchanged (g.D.Disk.state c.args.self.now.1) (g.D.Disk.state d)) (sym c.create_area.ensures.disk)
    (still_passes (g.D.Disk.state c.args.self.now.1)))

pub returns-in-CreateArea-clause-stopped : goal.returns-in-CreateArea-clause-stopped
returns-in-CreateArea-clause-stopped g c = λ _. c.create_area.ensures.disk

pub returns-in-DeleteArea-clause-moments : goal.returns-in-DeleteArea-clause-moments
returns-in-DeleteArea-clause-moments g c = c.stored.ensures.survives c.args.client _ _ (subst (λ d. Passes Unchanged (g.D.Disk.state c.args.self.now.1) (g.D.Disk.state d)) (sym c.delete_area.ensures.disk)
    (still_passes (g.D.Disk.state c.args.self.now.1)))

pub returns-in-DeleteArea-clause-stopped : goal.returns-in-DeleteArea-clause-stopped
returns-in-DeleteArea-clause-stopped g c = λ _. c.delete_area.ensures.disk

pub returns-in-Release-clause-moments : goal.returns-in-Release-clause-moments
returns-in-Release-clause-moments g c = c.stored.ensures.survives c.args.client _ _ (subst (λ d. Passes Unchanged (g.D.Disk.state c.args.self.now.1) (g.D.Disk.state d)) (sym c.release.ensures.disk)
    (still_passes (g.D.Disk.state c.args.self.now.1)))

pub returns-in-Release-clause-stopped : goal.returns-in-Release-clause-stopped
returns-in-Release-clause-stopped g c = λ _. c.release.ensures.disk

pub returns-in-EndRead-clause-moments : goal.returns-in-EndRead-clause-moments
returns-in-EndRead-clause-moments g c = c.stored.ensures.survives c.args.client _ _ (subst (λ d. Passes Unchanged (g.D.Disk.state c.args.self.now.1) (g.D.Disk.state d)) (sym c.end_read.ensures.disk)
    (still_passes (g.D.Disk.state c.args.self.now.1)))

pub returns-in-EndRead-clause-stopped : goal.returns-in-EndRead-clause-stopped
returns-in-EndRead-clause-stopped g c = λ _. c.end_read.ensures.disk

pub returns-in-Align-clause-moments : goal.returns-in-Align-clause-moments
returns-in-Align-clause-moments g c = c.stored.ensures.survives c.args.client _ _ (still_passes (g.D.Disk.state c.args.self.now.1))

pub returns-in-Align-clause-stopped : goal.returns-in-Align-clause-stopped
returns-in-Align-clause-stopped g c = λ _. refl

pub returns-in-ListExtents-clause-moments : goal.returns-in-ListExtents-clause-moments
returns-in-ListExtents-clause-moments g c = c.stored.ensures.survives c.args.client _ _ (still_passes (g.D.Disk.state c.args.self.now.1))

pub returns-in-ListExtents-clause-stopped : goal.returns-in-ListExtents-clause-stopped
returns-in-ListExtents-clause-stopped g c = λ _. refl

pub returns-in-Info-clause-moments : goal.returns-in-Info-clause-moments
returns-in-Info-clause-moments g c = c.stored.ensures.survives c.args.client _ _ (still_passes (g.D.Disk.state c.args.self.now.1))

pub returns-in-Info-clause-stopped : goal.returns-in-Info-clause-stopped
returns-in-Info-clause-stopped g c = λ _. refl

pub returns-in-OpenStream-clause-refused : goal.returns-in-OpenStream-clause-refused
returns-in-OpenStream-clause-refused g c = refused_by replies.Stream _ _ (λ x e. e) (said _ _ _ c.reply_of.ensures.exact) c.open_stream.ensures.call.refused

pub returns-in-Reserve-clause-refused : goal.returns-in-Reserve-clause-refused
returns-in-Reserve-clause-refused g c = refused_by replies.Held _ _ (λ x e. e) (said _ _ _ c.reply_of-in-Reserve.ensures.exact) c.reserve.ensures.call.refused

pub returns-in-Append-clause-refused : goal.returns-in-Append-clause-refused
returns-in-Append-clause-refused g c = refused_by replies.Placed _ _ (λ x e. e) (said _ _ _ c.reply_of-in-Append.ensures.exact) c.append.ensures.call.refused

pub returns-in-Flush-clause-refused : goal.returns-in-Flush-clause-refused
returns-in-Flush-clause-refused g c = refused_by replies.Flushed _ _ (λ x e. e) (said _ _ _ c.reply_of-in-Flush.ensures.exact) c.flush.ensures.call.refused

pub returns-in-FlushTo-clause-refused : goal.returns-in-FlushTo-clause-refused
returns-in-FlushTo-clause-refused g c = refused_by replies.Flushed _ _ (λ x e. e) (said _ _ _ c.reply_of-in-FlushTo.ensures.exact) c.flush_to.ensures.call.refused

pub returns-in-Read-clause-refused : goal.returns-in-Read-clause-refused
returns-in-Read-clause-refused g c = refused_by (λ (found : ℕ × LogEntry). replies.Found found.0 found.1) _ _ (λ x e. e) (said _ _ _ c.reply_of-in-Read.ensures.exact) c.read.ensures.refused

pub returns-in-ReadNext-clause-refused : goal.returns-in-ReadNext-clause-refused
returns-in-ReadNext-clause-refused g c = refused_by replies.Next _ _ (λ x e. e) (said _ _ _ c.reply_of-in-ReadNext.ensures.exact) c.read_next.ensures.refused

pub returns-in-WriteRestart-clause-refused : goal.returns-in-WriteRestart-clause-refused
returns-in-WriteRestart-clause-refused g c = refused_by replies.Placed _ _ (λ x e. e) (said _ _ _ c.reply_of-in-WriteRestart.ensures.exact) c.write_restart.ensures.call.refused

pub returns-in-ReadRestart-clause-refused : goal.returns-in-ReadRestart-clause-refused
returns-in-ReadRestart-clause-refused g c = refused_by (λ (found : ℕ × LogEntry). replies.Found found.0 found.1) _ _ (λ x e. e) (said _ _ _ c.reply_of-in-ReadRestart.ensures.exact) c.read_restart.ensures.refused

pub returns-in-PreviousRestart-clause-refused : goal.returns-in-PreviousRestart-clause-refused
returns-in-PreviousRestart-clause-refused g c = refused_by replies.Next _ _ (λ x e. e) (said _ _ _ c.reply_of-in-PreviousRestart.ensures.exact) c.previous_restart.ensures.refused

pub returns-in-Advance-clause-refused : goal.returns-in-Advance-clause-refused
returns-in-Advance-clause-refused g c = refused_by replies.Base _ _ (λ x e. e) (said _ _ _ c.reply_of-in-Advance.ensures.exact) c.advance.ensures.call.refused

pub returns-in-SetArchive-clause-refused : goal.returns-in-SetArchive-clause-refused
returns-in-SetArchive-clause-refused g c = refused_by (λ _. replies.Done) _ _ (λ x e. e) (said _ _ _ c.reply_of-in-SetArchive.ensures.exact) (c.set_archive.ensures.call c.args.client).refused

pub returns-in-SetArchiveTail-clause-refused : goal.returns-in-SetArchiveTail-clause-refused
returns-in-SetArchiveTail-clause-refused g c = refused_by replies.Tail _ _ (λ x e. e) (said _ _ _ c.reply_of-in-SetArchiveTail.ensures.exact) (c.set_archive_tail.ensures.call c.args.client).refused

pub returns-in-InstallPolicy-clause-refused : goal.returns-in-InstallPolicy-clause-refused
returns-in-InstallPolicy-clause-refused g c = refused_by (λ _. replies.Done) _ _ (λ x e. e) (said _ _ _ c.reply_of-in-InstallPolicy.ensures.exact) (c.install_policy.ensures.call c.args.client).refused

pub returns-in-RemovePolicy-clause-refused : goal.returns-in-RemovePolicy-clause-refused
returns-in-RemovePolicy-clause-refused g c = refused_by (λ _. replies.Done) _ _ (λ x e. e) (said _ _ _ c.reply_of-in-RemovePolicy.ensures.exact) (c.remove_policy.ensures.call c.args.client).refused

pub returns-in-SetSize-clause-refused : goal.returns-in-SetSize-clause-refused
returns-in-SetSize-clause-refused g c = refused_by replies.Containers _ _ (λ x e. e) (said _ _ _ c.reply_of-in-SetSize.ensures.exact) (c.set_size.ensures.call c.args.client).refused

pub returns-in-OpenStream-clause-step : goal.returns-in-OpenStream-clause-step
returns-in-OpenStream-clause-step g c = rw c.in-OpenStream.is (stepped _ _ _ _ replies.Stream _ _ _ (said _ _ _ c.reply_of.ensures.exact) (c.open_stream.ensures.call.step (g.D.Disk.state c.args.self.now.1).nature.tells_contents))

pub returns-in-CreateArea-clause-step : goal.returns-in-CreateArea-clause-step
returns-in-CreateArea-clause-step g c = rw c.in-CreateArea.is (stepped _ _ _ _ replies.Area _ _ _ (said _ _ _ c.reply_of-in-CreateArea.ensures.exact) (c.create_area.ensures.step (g.D.Disk.state c.args.self.now.1).nature.tells_contents))

pub returns-in-DeleteArea-clause-step : goal.returns-in-DeleteArea-clause-step
returns-in-DeleteArea-clause-step g c = rw c.in-DeleteArea.is (stepped _ _ _ _ (λ _. replies.Done) _ _ _ (said _ _ _ c.reply_of-in-DeleteArea.ensures.exact) (c.delete_area.ensures.step (g.D.Disk.state c.args.self.now.1).nature.tells_contents))

pub returns-in-Reserve-clause-step : goal.returns-in-Reserve-clause-step
returns-in-Reserve-clause-step g c = rw c.in-Reserve.is (stepped _ _ _ _ replies.Held _ _ _ (said _ _ _ c.reply_of-in-Reserve.ensures.exact) (c.reserve.ensures.call.step (g.D.Disk.state c.args.self.now.1).nature.tells_contents))

pub returns-in-Release-clause-step : goal.returns-in-Release-clause-step
returns-in-Release-clause-step g c = rw c.in-Release.is (stepped _ _ _ _ replies.Held _ _ _ (said _ _ _ c.reply_of-in-Release.ensures.exact) (c.release.ensures.step (g.D.Disk.state c.args.self.now.1).nature.tells_contents))

pub returns-in-Align-clause-step : goal.returns-in-Align-clause-step
returns-in-Align-clause-step g c = rw c.in-Align.is (stepped _ _ _ _ replies.Sectors _ _ _ (said _ _ _ c.reply_of-in-Align.ensures.exact) (c.align.ensures.step (g.D.Disk.state c.args.self.now.1).nature.tells_contents))

pub returns-in-Append-clause-step : goal.returns-in-Append-clause-step
returns-in-Append-clause-step g c = rw c.in-Append.is (stepped _ _ _ _ replies.Placed _ _ _ (said _ _ _ c.reply_of-in-Append.ensures.exact) (c.append.ensures.call.step (g.D.Disk.state c.args.self.now.1).nature.tells_contents))

pub returns-in-Flush-clause-step : goal.returns-in-Flush-clause-step
returns-in-Flush-clause-step g c = rw c.in-Flush.is (stepped _ _ _ _ replies.Flushed _ _ _ (said _ _ _ c.reply_of-in-Flush.ensures.exact) (c.flush.ensures.call.step (g.D.Disk.state c.args.self.now.1).nature.tells_contents))

pub returns-in-FlushTo-clause-step : goal.returns-in-FlushTo-clause-step
returns-in-FlushTo-clause-step g c = rw c.in-FlushTo.is (stepped _ _ _ _ replies.Flushed _ _ _ (said _ _ _ c.reply_of-in-FlushTo.ensures.exact) (c.flush_to.ensures.call.step (g.D.Disk.state c.args.self.now.1).nature.tells_contents))

pub returns-in-Read-clause-step : goal.returns-in-Read-clause-step
returns-in-Read-clause-step g c = rw c.in-Read.is (stepped _ _ _ _ (λ (found : ℕ × LogEntry). replies.Found found.0 found.1) _ _ _ (said _ _ _ c.reply_of-in-Read.ensures.exact) c.read.ensures.step)

pub returns-in-ReadNext-clause-step : goal.returns-in-ReadNext-clause-step
returns-in-ReadNext-clause-step g c = rw c.in-ReadNext.is (stepped _ _ _ _ replies.Next _ _ _ (said _ _ _ c.reply_of-in-ReadNext.ensures.exact) c.read_next.ensures.step)

pub returns-in-EndRead-clause-step : goal.returns-in-EndRead-clause-step
returns-in-EndRead-clause-step g c = rw c.in-EndRead.is (stepped _ _ _ _ (λ _. replies.Done) _ _ _ (said _ _ _ c.reply_of-in-EndRead.ensures.exact) (c.end_read.ensures.step (g.D.Disk.state c.args.self.now.1).nature.tells_contents))

pub returns-in-WriteRestart-clause-step : goal.returns-in-WriteRestart-clause-step
returns-in-WriteRestart-clause-step g c = rw c.in-WriteRestart.is (stepped _ _ _ _ replies.Placed _ _ _ (said _ _ _ c.reply_of-in-WriteRestart.ensures.exact) (c.write_restart.ensures.call.step (g.D.Disk.state c.args.self.now.1).nature.tells_contents))

pub returns-in-ReadRestart-clause-step : goal.returns-in-ReadRestart-clause-step
returns-in-ReadRestart-clause-step g c = rw c.in-ReadRestart.is (stepped _ _ _ _ (λ (found : ℕ × LogEntry). replies.Found found.0 found.1) _ _ _ (said _ _ _ c.reply_of-in-ReadRestart.ensures.exact) c.read_restart.ensures.step)

pub returns-in-PreviousRestart-clause-step : goal.returns-in-PreviousRestart-clause-step
returns-in-PreviousRestart-clause-step g c = rw c.in-PreviousRestart.is (stepped _ _ _ _ replies.Next _ _ _ (said _ _ _ c.reply_of-in-PreviousRestart.ensures.exact) c.previous_restart.ensures.step)

pub returns-in-Advance-clause-step : goal.returns-in-Advance-clause-step
returns-in-Advance-clause-step g c = rw c.in-Advance.is (stepped _ _ _ _ replies.Base _ _ _ (said _ _ _ c.reply_of-in-Advance.ensures.exact) (c.advance.ensures.call.step (g.D.Disk.state c.args.self.now.1).nature.tells_contents))

pub returns-in-SetArchive-clause-step : goal.returns-in-SetArchive-clause-step
returns-in-SetArchive-clause-step g c = rw c.in-SetArchive.is (stepped _ _ _ _ (λ _. replies.Done) _ _ _ (said _ _ _ c.reply_of-in-SetArchive.ensures.exact) ((c.set_archive.ensures.call c.args.client).step (g.D.Disk.state c.args.self.now.1).nature.tells_contents))

pub returns-in-SetArchiveTail-clause-step : goal.returns-in-SetArchiveTail-clause-step
returns-in-SetArchiveTail-clause-step g c = rw c.in-SetArchiveTail.is (stepped _ _ _ _ replies.Tail _ _ _ (said _ _ _ c.reply_of-in-SetArchiveTail.ensures.exact) ((c.set_archive_tail.ensures.call c.args.client).step (g.D.Disk.state c.args.self.now.1).nature.tells_contents))

pub returns-in-ListExtents-clause-step : goal.returns-in-ListExtents-clause-step
returns-in-ListExtents-clause-step g c = rw c.in-ListExtents.is (stepped _ _ _ _ replies.Extents _ _ _ (said _ _ _ c.reply_of-in-ListExtents.ensures.exact) (c.extents.ensures.step (g.D.Disk.state c.args.self.now.1).nature.tells_contents c.args.client))

pub returns-in-InstallPolicy-clause-step : goal.returns-in-InstallPolicy-clause-step
returns-in-InstallPolicy-clause-step g c = rw c.in-InstallPolicy.is (stepped _ _ _ _ (λ _. replies.Done) _ _ _ (said _ _ _ c.reply_of-in-InstallPolicy.ensures.exact) ((c.install_policy.ensures.call c.args.client).step (g.D.Disk.state c.args.self.now.1).nature.tells_contents))

pub returns-in-RemovePolicy-clause-step : goal.returns-in-RemovePolicy-clause-step
returns-in-RemovePolicy-clause-step g c = rw c.in-RemovePolicy.is (stepped _ _ _ _ (λ _. replies.Done) _ _ _ (said _ _ _ c.reply_of-in-RemovePolicy.ensures.exact) ((c.remove_policy.ensures.call c.args.client).step (g.D.Disk.state c.args.self.now.1).nature.tells_contents))

pub returns-in-SetSize-clause-step : goal.returns-in-SetSize-clause-step
returns-in-SetSize-clause-step g c = rw c.in-SetSize.is (stepped _ _ _ _ replies.Containers _ _ _ (said _ _ _ c.reply_of-in-SetSize.ensures.exact) ((c.set_size.ensures.call c.args.client).step (g.D.Disk.state c.args.self.now.1).nature.tells_contents))

pub returns-in-Info-clause-step : goal.returns-in-Info-clause-step
returns-in-Info-clause-step g c = rw c.in-Info.is (stepped _ _ _ _ replies.Info _ _ _ (said _ _ _ c.reply_of-in-Info.ensures.exact) (c.info.ensures.step (g.D.Disk.state c.args.self.now.1).nature.tells_contents c.args.client))

pub returns-in-OpenStream-clause-no_memory : goal.returns-in-OpenStream-clause-no_memory
returns-in-OpenStream-clause-no_memory g c = no_memory_by replies.Stream _ _ (λ x e. cc e) (said _ _ _ c.reply_of.ensures.exact) c.open_stream.ensures.call.no_memory

pub returns-in-Reserve-clause-no_memory : goal.returns-in-Reserve-clause-no_memory
returns-in-Reserve-clause-no_memory g c = no_memory_by replies.Held _ _ (λ x e. cc e) (said _ _ _ c.reply_of-in-Reserve.ensures.exact) c.reserve.ensures.call.no_memory

pub returns-in-Append-clause-no_memory : goal.returns-in-Append-clause-no_memory
returns-in-Append-clause-no_memory g c = no_memory_by replies.Placed _ _ (λ x e. cc e) (said _ _ _ c.reply_of-in-Append.ensures.exact) c.append.ensures.call.no_memory

pub returns-in-Flush-clause-no_memory : goal.returns-in-Flush-clause-no_memory
returns-in-Flush-clause-no_memory g c = no_memory_by replies.Flushed _ _ (λ x e. cc e) (said _ _ _ c.reply_of-in-Flush.ensures.exact) c.flush.ensures.call.no_memory

pub returns-in-FlushTo-clause-no_memory : goal.returns-in-FlushTo-clause-no_memory
returns-in-FlushTo-clause-no_memory g c = no_memory_by replies.Flushed _ _ (λ x e. cc e) (said _ _ _ c.reply_of-in-FlushTo.ensures.exact) c.flush_to.ensures.call.no_memory

pub returns-in-WriteRestart-clause-no_memory : goal.returns-in-WriteRestart-clause-no_memory
returns-in-WriteRestart-clause-no_memory g c = no_memory_by replies.Placed _ _ (λ x e. cc e) (said _ _ _ c.reply_of-in-WriteRestart.ensures.exact) c.write_restart.ensures.call.no_memory

pub returns-in-Advance-clause-no_memory : goal.returns-in-Advance-clause-no_memory
returns-in-Advance-clause-no_memory g c = no_memory_by replies.Base _ _ (λ x e. cc e) (said _ _ _ c.reply_of-in-Advance.ensures.exact) c.advance.ensures.call.no_memory

pub returns-in-SetArchive-clause-no_memory : goal.returns-in-SetArchive-clause-no_memory
returns-in-SetArchive-clause-no_memory g c = no_memory_by (λ _. replies.Done) _ _ (λ x e. cc e) (said _ _ _ c.reply_of-in-SetArchive.ensures.exact) (c.set_archive.ensures.call c.args.client).no_memory

pub returns-in-SetArchiveTail-clause-no_memory : goal.returns-in-SetArchiveTail-clause-no_memory
returns-in-SetArchiveTail-clause-no_memory g c = no_memory_by replies.Tail _ _ (λ x e. cc e) (said _ _ _ c.reply_of-in-SetArchiveTail.ensures.exact) (c.set_archive_tail.ensures.call c.args.client).no_memory

pub returns-in-InstallPolicy-clause-no_memory : goal.returns-in-InstallPolicy-clause-no_memory
returns-in-InstallPolicy-clause-no_memory g c = no_memory_by (λ _. replies.Done) _ _ (λ x e. cc e) (said _ _ _ c.reply_of-in-InstallPolicy.ensures.exact) (c.install_policy.ensures.call c.args.client).no_memory

pub returns-in-RemovePolicy-clause-no_memory : goal.returns-in-RemovePolicy-clause-no_memory
returns-in-RemovePolicy-clause-no_memory g c = no_memory_by (λ _. replies.Done) _ _ (λ x e. cc e) (said _ _ _ c.reply_of-in-RemovePolicy.ensures.exact) (c.remove_policy.ensures.call c.args.client).no_memory

pub returns-in-SetSize-clause-no_memory : goal.returns-in-SetSize-clause-no_memory
returns-in-SetSize-clause-no_memory g c = no_memory_by replies.Containers _ _ (λ x e. cc e) (said _ _ _ c.reply_of-in-SetSize.ensures.exact) (c.set_size.ensures.call c.args.client).no_memory

pub returns-in-Read-clause-no_memory : goal.returns-in-Read-clause-no_memory
returns-in-Read-clause-no_memory g c = λ _. c.read.ensures.flushed_part

pub returns-in-ReadNext-clause-no_memory : goal.returns-in-ReadNext-clause-no_memory
returns-in-ReadNext-clause-no_memory g c = λ _. c.read_next.ensures.flushed_part

pub returns-in-ReadRestart-clause-no_memory : goal.returns-in-ReadRestart-clause-no_memory
returns-in-ReadRestart-clause-no_memory g c = λ _. c.read_restart.ensures.flushed_part

pub returns-in-PreviousRestart-clause-no_memory : goal.returns-in-PreviousRestart-clause-no_memory
returns-in-PreviousRestart-clause-no_memory g c = λ _. c.previous_restart.ensures.flushed_part

pub returns-in-CreateArea-clause-no_memory : goal.returns-in-CreateArea-clause-no_memory
returns-in-CreateArea-clause-no_memory g c = λ _. c.stored.ensures.survives_reading 0 _ (subst (λ d. Passes Unchanged (g.D.Disk.state c.args.self.now.1) (g.D.Disk.state d)) (sym c.create_area.ensures.disk)
    (still_passes (g.D.Disk.state c.args.self.now.1)))

pub returns-in-DeleteArea-clause-no_memory : goal.returns-in-DeleteArea-clause-no_memory
returns-in-DeleteArea-clause-no_memory g c = λ _. c.stored.ensures.survives_reading 0 _ (subst (λ d. Passes Unchanged (g.D.Disk.state c.args.self.now.1) (g.D.Disk.state d)) (sym c.delete_area.ensures.disk)
    (still_passes (g.D.Disk.state c.args.self.now.1)))

pub returns-in-Release-clause-no_memory : goal.returns-in-Release-clause-no_memory
returns-in-Release-clause-no_memory g c = λ _. c.stored.ensures.survives_reading 0 _ (subst (λ d. Passes Unchanged (g.D.Disk.state c.args.self.now.1) (g.D.Disk.state d)) (sym c.release.ensures.disk)
    (still_passes (g.D.Disk.state c.args.self.now.1)))

pub returns-in-EndRead-clause-no_memory : goal.returns-in-EndRead-clause-no_memory
returns-in-EndRead-clause-no_memory g c = λ _. c.stored.ensures.survives_reading 0 _ (subst (λ d. Passes Unchanged (g.D.Disk.state c.args.self.now.1) (g.D.Disk.state d)) (sym c.end_read.ensures.disk)
    (still_passes (g.D.Disk.state c.args.self.now.1)))

pub returns-in-Align-clause-no_memory : goal.returns-in-Align-clause-no_memory
returns-in-Align-clause-no_memory g c = λ _. c.stored.ensures.survives_nothing 0

pub returns-in-ListExtents-clause-no_memory : goal.returns-in-ListExtents-clause-no_memory
returns-in-ListExtents-clause-no_memory g c = λ _. c.stored.ensures.survives_nothing 0

pub returns-in-Info-clause-no_memory : goal.returns-in-Info-clause-no_memory
returns-in-Info-clause-no_memory g c = λ _. c.stored.ensures.survives_nothing 0

pub returns-in-Read-clause-place : goal.returns-in-Read-clause-place
returns-in-Read-clause-place g c = rw c.in-Read.is (place_by _ (λ (found : ℕ × LogEntry). replies.Found found.0 found.1) _ _ (λ x given e. cc e) (said _ _ _ c.reply_of-in-Read.ensures.exact) c.read.ensures.place)

pub returns-in-ReadNext-clause-place : goal.returns-in-ReadNext-clause-place
returns-in-ReadNext-clause-place g c = rw c.in-ReadNext.is (place_by _ replies.Next _ _ (λ x given e. cc e) (said _ _ _ c.reply_of-in-ReadNext.ensures.exact) c.read_next.ensures.place)

pub returns-in-ReadRestart-clause-place : goal.returns-in-ReadRestart-clause-place
returns-in-ReadRestart-clause-place g c = rw c.in-ReadRestart.is (place_by _ (λ (found : ℕ × LogEntry). replies.Found found.0 found.1) _ _ (λ x given e. cc e) (said _ _ _ c.reply_of-in-ReadRestart.ensures.exact) c.read_restart.ensures.place)

pub returns-in-PreviousRestart-clause-place : goal.returns-in-PreviousRestart-clause-place
returns-in-PreviousRestart-clause-place g c = rw c.in-PreviousRestart.is (place_by _ replies.Next _ _ (λ x given e. cc e) (said _ _ _ c.reply_of-in-PreviousRestart.ensures.exact) c.previous_restart.ensures.place)

pub returns-in-OpenStream-clause-place : goal.returns-in-OpenStream-clause-place
returns-in-OpenStream-clause-place g c = rw c.in-OpenStream.is (λ _ _. tt)

pub returns-in-CreateArea-clause-place : goal.returns-in-CreateArea-clause-place
returns-in-CreateArea-clause-place g c = rw c.in-CreateArea.is (λ _ _. tt)

pub returns-in-DeleteArea-clause-place : goal.returns-in-DeleteArea-clause-place
returns-in-DeleteArea-clause-place g c = rw c.in-DeleteArea.is (λ _ _. tt)

pub returns-in-Reserve-clause-place : goal.returns-in-Reserve-clause-place
returns-in-Reserve-clause-place g c = rw c.in-Reserve.is (λ _ _. tt)

pub returns-in-Release-clause-place : goal.returns-in-Release-clause-place
returns-in-Release-clause-place g c = rw c.in-Release.is (λ _ _. tt)

pub returns-in-Align-clause-place : goal.returns-in-Align-clause-place
returns-in-Align-clause-place g c = rw c.in-Align.is (λ _ _. tt)

pub returns-in-Append-clause-place : goal.returns-in-Append-clause-place
returns-in-Append-clause-place g c = rw c.in-Append.is (λ _ _. tt)

pub returns-in-Flush-clause-place : goal.returns-in-Flush-clause-place
returns-in-Flush-clause-place g c = rw c.in-Flush.is (λ _ _. tt)

pub returns-in-FlushTo-clause-place : goal.returns-in-FlushTo-clause-place
returns-in-FlushTo-clause-place g c = rw c.in-FlushTo.is (λ _ _. tt)

pub returns-in-EndRead-clause-place : goal.returns-in-EndRead-clause-place
returns-in-EndRead-clause-place g c = rw c.in-EndRead.is (λ _ _. tt)

pub returns-in-WriteRestart-clause-place : goal.returns-in-WriteRestart-clause-place
returns-in-WriteRestart-clause-place g c = rw c.in-WriteRestart.is (λ _ _. tt)

pub returns-in-Advance-clause-place : goal.returns-in-Advance-clause-place
returns-in-Advance-clause-place g c = rw c.in-Advance.is (λ _ _. tt)

pub returns-in-SetArchive-clause-place : goal.returns-in-SetArchive-clause-place
returns-in-SetArchive-clause-place g c = rw c.in-SetArchive.is (λ _ _. tt)

pub returns-in-SetArchiveTail-clause-place : goal.returns-in-SetArchiveTail-clause-place
returns-in-SetArchiveTail-clause-place g c = rw c.in-SetArchiveTail.is (λ _ _. tt)

pub returns-in-ListExtents-clause-place : goal.returns-in-ListExtents-clause-place
returns-in-ListExtents-clause-place g c = rw c.in-ListExtents.is (λ _ _. tt)

pub returns-in-InstallPolicy-clause-place : goal.returns-in-InstallPolicy-clause-place
returns-in-InstallPolicy-clause-place g c = rw c.in-InstallPolicy.is (λ _ _. tt)

pub returns-in-RemovePolicy-clause-place : goal.returns-in-RemovePolicy-clause-place
returns-in-RemovePolicy-clause-place g c = rw c.in-RemovePolicy.is (λ _ _. tt)

pub returns-in-SetSize-clause-place : goal.returns-in-SetSize-clause-place
returns-in-SetSize-clause-place g c = rw c.in-SetSize.is (λ _ _. tt)

pub returns-in-Info-clause-place : goal.returns-in-Info-clause-place
returns-in-Info-clause-place g c = rw c.in-Info.is (λ _ _. tt)

pub returns-in-OpenStream-clause-copy : goal.returns-in-OpenStream-clause-copy
returns-in-OpenStream-clause-copy g c = copied replies.Stream _ _ _ _ (said _ _ _ c.reply_of.ensures.exact) c.open_stream.ensures.call.copy

pub returns-in-CreateArea-clause-copy : goal.returns-in-CreateArea-clause-copy
returns-in-CreateArea-clause-copy g c = copy_same g.D.Disk.state _ _ _ c.create_area.ensures.disk

pub returns-in-DeleteArea-clause-copy : goal.returns-in-DeleteArea-clause-copy
returns-in-DeleteArea-clause-copy g c = copy_same g.D.Disk.state _ _ _ c.delete_area.ensures.disk

pub returns-in-Reserve-clause-copy : goal.returns-in-Reserve-clause-copy
returns-in-Reserve-clause-copy g c = copied replies.Held _ _ _ _ (said _ _ _ c.reply_of-in-Reserve.ensures.exact) c.reserve.ensures.call.copy

pub returns-in-Release-clause-copy : goal.returns-in-Release-clause-copy
returns-in-Release-clause-copy g c = copy_same g.D.Disk.state _ _ _ c.release.ensures.disk

pub returns-in-Align-clause-copy : goal.returns-in-Align-clause-copy
returns-in-Align-clause-copy g c = copy_stays _ (g.D.Disk.state c.args.self.now.1)

pub returns-in-Append-clause-copy : goal.returns-in-Append-clause-copy
returns-in-Append-clause-copy g c = copied replies.Placed _ _ _ _ (said _ _ _ c.reply_of-in-Append.ensures.exact) c.append.ensures.call.copy

pub returns-in-Flush-clause-copy : goal.returns-in-Flush-clause-copy
returns-in-Flush-clause-copy g c = copied replies.Flushed _ _ _ _ (said _ _ _ c.reply_of-in-Flush.ensures.exact) c.flush.ensures.call.copy

pub returns-in-FlushTo-clause-copy : goal.returns-in-FlushTo-clause-copy
returns-in-FlushTo-clause-copy g c = copied replies.Flushed _ _ _ _ (said _ _ _ c.reply_of-in-FlushTo.ensures.exact) c.flush_to.ensures.call.copy

pub returns-in-Read-clause-copy : goal.returns-in-Read-clause-copy
returns-in-Read-clause-copy g c = copy_unchanged _ _ _ c.read.ensures.same

pub returns-in-ReadNext-clause-copy : goal.returns-in-ReadNext-clause-copy
returns-in-ReadNext-clause-copy g c = copy_unchanged _ _ _ c.read_next.ensures.same

pub returns-in-EndRead-clause-copy : goal.returns-in-EndRead-clause-copy
returns-in-EndRead-clause-copy g c = copy_same g.D.Disk.state _ _ _ c.end_read.ensures.disk

pub returns-in-WriteRestart-clause-copy : goal.returns-in-WriteRestart-clause-copy
returns-in-WriteRestart-clause-copy g c = copied replies.Placed _ _ _ _ (said _ _ _ c.reply_of-in-WriteRestart.ensures.exact) c.write_restart.ensures.call.copy

pub returns-in-ReadRestart-clause-copy : goal.returns-in-ReadRestart-clause-copy
returns-in-ReadRestart-clause-copy g c = copy_unchanged _ _ _ c.read_restart.ensures.same

pub returns-in-PreviousRestart-clause-copy : goal.returns-in-PreviousRestart-clause-copy
returns-in-PreviousRestart-clause-copy g c = copy_unchanged _ _ _ c.previous_restart.ensures.same

pub returns-in-Advance-clause-copy : goal.returns-in-Advance-clause-copy
returns-in-Advance-clause-copy g c = copied replies.Base _ _ _ _ (said _ _ _ c.reply_of-in-Advance.ensures.exact) c.advance.ensures.call.copy

pub returns-in-SetArchive-clause-copy : goal.returns-in-SetArchive-clause-copy
returns-in-SetArchive-clause-copy g c = copied (λ _. replies.Done) _ _ _ _ (said _ _ _ c.reply_of-in-SetArchive.ensures.exact) (c.set_archive.ensures.call c.args.client).copy

pub returns-in-SetArchiveTail-clause-copy : goal.returns-in-SetArchiveTail-clause-copy
returns-in-SetArchiveTail-clause-copy g c = copied replies.Tail _ _ _ _ (said _ _ _ c.reply_of-in-SetArchiveTail.ensures.exact) (c.set_archive_tail.ensures.call c.args.client).copy

pub returns-in-ListExtents-clause-copy : goal.returns-in-ListExtents-clause-copy
returns-in-ListExtents-clause-copy g c = copy_stays _ (g.D.Disk.state c.args.self.now.1)

pub returns-in-InstallPolicy-clause-copy : goal.returns-in-InstallPolicy-clause-copy
returns-in-InstallPolicy-clause-copy g c = copied (λ _. replies.Done) _ _ _ _ (said _ _ _ c.reply_of-in-InstallPolicy.ensures.exact) (c.install_policy.ensures.call c.args.client).copy

pub returns-in-RemovePolicy-clause-copy : goal.returns-in-RemovePolicy-clause-copy
returns-in-RemovePolicy-clause-copy g c = copied (λ _. replies.Done) _ _ _ _ (said _ _ _ c.reply_of-in-RemovePolicy.ensures.exact) (c.remove_policy.ensures.call c.args.client).copy

pub returns-in-SetSize-clause-copy : goal.returns-in-SetSize-clause-copy
returns-in-SetSize-clause-copy g c = copied replies.Containers _ _ _ _ (said _ _ _ c.reply_of-in-SetSize.ensures.exact) (c.set_size.ensures.call c.args.client).copy

pub returns-in-Info-clause-copy : goal.returns-in-Info-clause-copy
returns-in-Info-clause-copy g c = copy_stays _ (g.D.Disk.state c.args.self.now.1)
