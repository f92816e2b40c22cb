use Rattle.std.proofs.Common.{◌≡◌, sym, ap, subst, ◌∙◌, None, arith}
use Rattle.std.specs.Prelude.{Err, IsTrue}
use Rattle.clfs_disk.specs.Files.{Unchanged}
use Rattle.clfs_disk.specs.State.{DiskState}
use Rattle.clfs_model.specs.declared.call.Call.TheVariants as calls
use Rattle.clfs_model.specs.declared.state.State.{State}
use Rattle.clfs_model.specs.Flush.{flushed}
use Rattle.clfs_model.specs.Run.{asks}
use Rattle.clfs_manager.specs.Crashes.{CrashSurvives}
use Rattle.clfs_restore.specs.Archiving.{all_archived}
use Rattle.clfs_operations.proofs.ArchiveEnds.{just_loaded, archive_text, log_refusal_ends, unarchived_ends, cut_ends, moved_ends, unmoved_ends, archiving_is_done, not_off, not_long}
use Rattle.clfs_operations.specs.Loaded.{IsLoaded}
use Rattle.clfs_operations.proofs.Through.{AreOne}
use Rattle.clfs_operations.proofs.TxnEnds.{writes_as}
use Rattle.clfs_operations.proofs.archiving.archive.Goals.{in-Ok-move_tail, in-Err-move_tail}
use Rattle.clfs_operations.proofs.archiving.archive.Goals as goal

pub returns-in-Err-clause-ends : goal.returns-in-Err-clause-ends
returns-in-Err-clause-ends g c =
    let load = c.in-Err.ensures in
    log_refusal_ends c.refused-status.result c.in-Err.field-0.cause (g.D.Disk.state c.args.disk) (g.D.Disk.state c.in-Err.field-0.disk) _ _ _ _
    (record { is = load.refused; cause = load.cause; steady = load.steady; same = load.same_refused.0; time = load.same_refused.1 }) load.place
    c.refused-status.ensures

pub write_archive-requires : goal.write_archive-requires
write_archive-requires g c =
    let old = g.D.Disk.state c.args.disk in
    let mid = g.D.Disk.state c.in-Ok.manager.1 in
    let first = c.in-Ok.manager.0 in
    let open_log = c.in-Ok.ensures in
    let opened : IsLoaded 4 old mid first = record {
      stands = open_log.loaded;
      buffers_are = open_log.buffers;
      valid = open_log.valid;
      storable = open_log.storable;
      stable = open_log.stable;
      same = open_log.same.0;
      time = open_log.same.1;
      left = c.stored.ensures.survives_nothing 0;
    } in
    record { loaded = just_loaded old mid first opened }

pub returns-in-Err-write_archive-clause-ends : goal.returns-in-Err-write_archive-clause-ends
returns-in-Err-write_archive-clause-ends g c =
    let old = g.D.Disk.state c.args.disk in
    let mid = g.D.Disk.state c.in-Ok.manager.1 in
    let first = c.in-Ok.manager.0 in
    let open_log = c.in-Ok.ensures in
    let opened : IsLoaded 4 old mid first = record {
      stands = open_log.loaded;
      buffers_are = open_log.buffers;
      valid = open_log.valid;
      storable = open_log.storable;
      stable = open_log.stable;
      same = open_log.same.0;
      time = open_log.same.1;
      left = c.stored.ensures.survives_nothing 0;
    } in
    let after = g.D.Disk.state c.write_archive.new.manager.1 in
    let same : Unchanged old.files after.files = λ file. c.write_archive.ensures.same file ∙ open_log.same.0 file in
    let time = c.calls_join.ensures.reads _ _ _ open_log.same.1 c.write_archive.ensures.time in
    let cause = c.in-Err-write_archive.cause in
    let told = c.in-Err-write_archive.ensures in
    rw c.close-disk.ensures (unarchived_ends cause old mid after first opened told.refused told.damage
    (λ bytes long none. not_long _ (c.write_archive.ensures.off none) cause c.in-Err-write_archive.is bytes long) same time
    (λ e. let rose = told.cause (ap Err e) in omega (arith, rose, open_log.same.1.faults))
    (λ steady e. (told.steady (subst (λ n. IsTrue n.steady) (sym open_log.same.1.nature) steady)).0 (ap Err e))
    c.unarchived-status.result _ _ _ _ c.unarchived-status.ensures)

pub returns-in-Err-write_all-clause-ends : goal.returns-in-Err-write_all-clause-ends
returns-in-Err-write_all-clause-ends g c =
    let old = g.D.Disk.state c.args.disk in
    let mid = g.D.Disk.state c.in-Ok.manager.1 in
    let first = c.in-Ok.manager.0 in
    let open_log = c.in-Ok.ensures in
    let opened : IsLoaded 4 old mid first = record {
      stands = open_log.loaded;
      buffers_are = open_log.buffers;
      valid = open_log.valid;
      storable = open_log.storable;
      stable = open_log.stable;
      same = open_log.same.0;
      time = open_log.same.1;
      left = c.stored.ensures.survives_nothing 0;
    } in
    let after = g.D.Disk.state c.write_archive.new.manager.1 in
    let same : Unchanged old.files after.files = λ file. c.write_archive.ensures.same file ∙ open_log.same.0 file in
    let time = c.calls_join.ensures.reads _ _ _ open_log.same.1 c.write_archive.ensures.time in
    let told = c.in_default.ensures in
    let on = λ (none : first.archive ≡ None). not_off _ (c.write_archive.ensures.off none) _ c.in_default.is in
    let archive = archive_text old mid first c.new-bytes.result c.write_archive.new.out c.new-bytes.ensures opened on told.archive told.appended in
    let front = c.in-Err-write_all.ensures.err in
    rw c.close-disk-in-Err-write_all.ensures (cut_ends old after first c.write_archive.new.out _ _ _ _ archive same time (rw c.as_slice.ensures at front)
    c.in-Err-write_all.ensures.cause.failed c.write_all.ensures.cause.later)

-- what survives the move of the tail, by the state that was opened
survives_move : (old new : DiskState) (s first : State) → s ≡ first → CrashSurvives (asks 1 (calls.SetArchiveTail (flushed s))) s old new
    → CrashSurvives (asks 1 (calls.SetArchiveTail (flushed first))) first old new
survives_move old new s first still survives = subst (λ (u : State). CrashSurvives (asks 1 (calls.SetArchiveTail (flushed u))) u old new) still survives

pub returns-clause-ends : goal.returns-clause-ends
returns-clause-ends g c =
    let old = g.D.Disk.state c.args.disk in
    let mid = g.D.Disk.state c.in-Ok.manager.1 in
    let first = c.in-Ok.manager.0 in
    let open_log = c.in-Ok.ensures in
    let opened : IsLoaded 4 old mid first = record {
      stands = open_log.loaded;
      buffers_are = open_log.buffers;
      valid = open_log.valid;
      storable = open_log.storable;
      stable = open_log.stable;
      same = open_log.same.0;
      time = open_log.same.1;
      left = c.stored.ensures.survives_nothing 0;
    } in
    let after = g.D.Disk.state c.write_archive.new.manager.1 in
    let same : Unchanged old.files after.files = λ file. c.write_archive.ensures.same file ∙ open_log.same.0 file in
    let time = c.calls_join.ensures.reads _ _ _ open_log.same.1 c.write_archive.ensures.time in
    let told = c.in_default.ensures in
    let on = λ (none : first.archive ≡ None). not_off _ (c.write_archive.ensures.off none) _ c.in_default.is in
    let archive = archive_text old mid first c.new-bytes.result c.write_archive.new.out c.new-bytes.ensures opened on told.archive told.appended in
    let still : c.write_archive.new.manager.0 ≡ first = told.state (λ e. cc e) in
    let new = g.D.Disk.state c.move_tail.new.manager.1 in
    let whole = c.in_default-write_all.ensures.ok in
    let taken = rw c.as_slice.ensures at whole in
    rw c.close-disk-2.ensures (elim c.match-move_tail.branch [
      | in-Ok-move_tail w ↦ rw (w.status-is, w.sink-is) (moved_ends old mid after new first c.move_tail.new.manager.0 c.write_archive.new.out _ _ _ _
          archive opened same time (w.in-Ok-move_tail.ensures.moved ∙ ap all_archived still) c.stored-2.ensures.files c.stored-2.ensures.settled
          (writes_as _ ⊥ after new (λ e. absurd (cc e)) (λ f. absurd f) w.in-Ok-move_tail.ensures.writes)
          (survives_move after new _ first still (w.in-Ok-move_tail.ensures.moments 1)) taken c.write_all.ensures.cause.later)
      | in-Err-move_tail w ↦ rw (w.status-is, w.sink-is) (unmoved_ends w.printed-status.result old after new first c.write_archive.new.out _ _ _ _ _ _
          archive same time (writes_as _ (Unit {0}) after new (λ f. tt) (λ u. ap Err w.in-Err-move_tail.ensures.refused.0) w.in-Err-move_tail.ensures.writes)
          (survives_move after new _ first still (w.in-Err-move_tail.ensures.moments 1)) taken c.write_all.ensures.cause.later w.printed-status.ensures.status w.printed-status.ensures.whole w.printed-status.ensures.front
          w.printed-status.ensures.cause w.printed-status.ensures.later)
    ])

pub returns-in-Err-clause-complete : goal.returns-in-Err-clause-complete
returns-in-Err-clause-complete g c =
    let one : AreOne = record { no_damage = c.files_have_one_meaning.ensures.no_damage; no_base = c.files_have_one_meaning.ensures.no_base } in
    archiving_is_done one _ _ _ _ _ _ _ (returns-in-Err-clause-ends g c)

pub returns-in-Err-write_archive-clause-complete : goal.returns-in-Err-write_archive-clause-complete
returns-in-Err-write_archive-clause-complete g c =
    let one : AreOne = record { no_damage = c.files_have_one_meaning.ensures.no_damage; no_base = c.files_have_one_meaning.ensures.no_base } in
    archiving_is_done one _ _ _ _ _ _ _ (returns-in-Err-write_archive-clause-ends g c)

pub returns-in-Err-write_all-clause-complete : goal.returns-in-Err-write_all-clause-complete
returns-in-Err-write_all-clause-complete g c =
    let one : AreOne = record { no_damage = c.files_have_one_meaning.ensures.no_damage; no_base = c.files_have_one_meaning.ensures.no_base } in
    archiving_is_done one _ _ _ _ _ _ _ (returns-in-Err-write_all-clause-ends g c)

pub returns-clause-complete : goal.returns-clause-complete
returns-clause-complete g c =
    let one : AreOne = record { no_damage = c.files_have_one_meaning.ensures.no_damage; no_base = c.files_have_one_meaning.ensures.no_base } in
    archiving_is_done one _ _ _ _ _ _ _ (returns-clause-ends g c)
