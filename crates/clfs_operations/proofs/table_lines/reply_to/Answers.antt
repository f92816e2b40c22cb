use Rattle.std.proofs.Common.{refl, true}
use Rattle.clfs_cells.specs.declared.told.TxnReply.TheVariants as replies
use Rattle.clfs_operations.proofs.TableAsked.{answered_as, answered_leaving, lasts_of, no_damage_reply, nothing_asked, quiet_reply}
use Rattle.clfs_operations.proofs.table_lines.reply_to.Goals as goal

pub returns-in-Begin : goal.returns-in-Begin
returns-in-Begin g c = rw c.in-Begin.is (answered_leaving _ g.D.Disk.state _ _ _ _ _ _ _ _ (λ value e. cc e) c.begun.ensures (c.begin.ensures.step _) c.begin.ensures.writes c.begin.ensures.stopped
    (λ tells. quiet_reply c.only_faults_break_a_store.ensures.quiet true _ _ _ replies.Begun c.begin.result _ refl c.begun.ensures (c.begin.ensures.step true))
    refl refl c.begin.ensures.moments c.begin.ensures.table)

pub returns-in-Set : goal.returns-in-Set
returns-in-Set g c = rw c.in-Set.is (answered_leaving _ g.D.Disk.state _ _ _ _ _ _ _ _ (λ value e. cc e) c.done.ensures (c.set.ensures.step _) c.set.ensures.writes c.set.ensures.stopped
    (λ tells. quiet_reply c.only_faults_break_a_store.ensures.quiet true _ _ _ (λ done. replies.Done) c.set.result _ refl c.done.ensures (c.set.ensures.step true))
    refl refl c.set.ensures.moments c.set.ensures.table)

pub returns-in-Back : goal.returns-in-Back
returns-in-Back g c = rw c.in-Back.is (answered_leaving _ g.D.Disk.state _ _ _ _ _ _ _ _ (λ value e. cc e) c.done-in-Back.ensures c.back.ensures.step c.back.ensures.writes c.back.ensures.stopped
    (λ tells. no_damage_reply (λ done. replies.Done) c.back.result _ (λ value. refl) c.done-in-Back.ensures (c.back.ensures.damage tells))
    refl refl c.back.ensures.moments c.back.ensures.table)

pub returns-in-Commit : goal.returns-in-Commit
returns-in-Commit g c = rw c.in-Commit.is (answered_as _ g.D.Disk.state _ _ _ _ _ _ _ _ (λ value e. cc e) c.done-in-Commit.ensures (c.commit.ensures.step _) c.commit.ensures.writes c.commit.ensures.stopped
    (λ tells. quiet_reply c.only_faults_break_a_store.ensures.quiet true _ _ _ (λ done. replies.Done) c.commit.result _ refl c.done-in-Commit.ensures (c.commit.ensures.step true))
    refl c.commit.ensures.moments c.commit.ensures.table (λ whole safe answered. lasts_of (λ done. replies.Done) c.commit.result _ c.done-in-Commit.ensures c.commit.ensures.lasts answered whole safe))

pub returns-in-Rollback : goal.returns-in-Rollback
returns-in-Rollback g c = rw c.in-Rollback.is (answered_leaving _ g.D.Disk.state _ _ _ _ _ _ _ _ (λ value e. cc e) c.done-in-Rollback.ensures c.rollback.ensures.step c.rollback.ensures.writes c.rollback.ensures.stopped
    (λ tells. no_damage_reply (λ done. replies.Done) c.rollback.result _ (λ value. refl) c.done-in-Rollback.ensures (c.rollback.ensures.damage tells))
    refl refl c.rollback.ensures.moments c.rollback.ensures.table)

pub returns-in-Checkpoint : goal.returns-in-Checkpoint
returns-in-Checkpoint g c = rw c.in-Checkpoint.is (answered_leaving _ g.D.Disk.state _ _ _ _ _ _ _ _ (λ value e. cc e) c.done-in-Checkpoint.ensures (c.checkpoint.ensures.step _) c.checkpoint.ensures.writes c.checkpoint.ensures.stopped
    (λ tells. quiet_reply c.only_faults_break_a_store.ensures.quiet true _ _ _ (λ done. replies.Done) c.checkpoint.result _ refl c.done-in-Checkpoint.ensures (c.checkpoint.ensures.step true))
    refl refl c.checkpoint.ensures.moments c.checkpoint.ensures.table)

pub returns-in-Get : goal.returns-in-Get
returns-in-Get g c = rw c.in-Get.is (nothing_asked _ _ _ _ (c.get.ensures.step _) (λ e. cc e) refl refl refl)
