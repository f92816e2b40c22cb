use Rattle.clfs_restore.proofs.Words.{err_from_is_err_and}
use Rattle.clfs_restore.proofs.restoring.judge.Goals as goal

pub returns-in_err-chosen-clause-cause : goal.returns-in_err-chosen-clause-cause
returns-in_err-chosen-clause-cause c =
    let p = err_from_is_err_and c.from_residual.result c.from_residual.ensures.1 in
    rw (p.1, p.2) c.in_err-chosen.ensures.cause

pub returns-clause-right : goal.returns-clause-right
returns-clause-right c = (c.in_ok-chosen.chosen.0, c.in_ok-chosen.chosen.1, c.in_ok-chosen.ensures.chosen)
