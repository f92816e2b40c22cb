use Rattle.clfs_restore.proofs.Made.{free_cause}
use Rattle.clfs_restore.proofs.restoring.cause_after_fault.Goals as goal

pub returns-in-Ok : goal.returns-in-Ok
returns-in-Ok c = c.in-Ok.ensures.right

pub returns-in-Err : goal.returns-in-Err
returns-in-Err c = free_cause c.args.archives.now c.args.up_to c.in-Err.cause c.in-Err.ensures.cause
