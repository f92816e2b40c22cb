use Rattle.clfs_share.proofs.Deleting.{deleted_next}
use Rattle.clfs_share.proofs.leaving.leave.Goals as goal

pub loop-number-preserved : goal.loop-number-preserved
loop-number-preserved g c =
    deleted_next c.loop-number.number c.args.session.now c.loop-number.session c.delete_area.new.session c.loop-number.invariant c.delete_area.ensures
