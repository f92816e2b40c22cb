use Rattle.clfs_base.proofs.Words.{inr, err_from_is_err_and}
use Rattle.clfs_base.proofs.CopyReads.{used_by, used_outside, reads_join}
use Rattle.clfs_base.proofs.newest.read_used.Goals as goal

pub returns-in_err-first-clause-told : goal.returns-in_err-first-clause-told
returns-in_err-first-clause-told g c =
    let p = err_from_is_err_and c.from_residual.result c.from_residual.ensures.1 in
    rw p.1 (used_outside p.0 (inr p.2))

pub returns-clause-told : goal.returns-clause-told
returns-clause-told g c = used_by c.slot_by.result c.in_ok-first.first c.in_ok-second.second c.in_ok-first.ensures.told c.in_ok-second.ensures.told c.slot_by.ensures.exact

pub returns-clause-time : goal.returns-clause-time
returns-clause-time g c = reads_join _ _ _ c.in_ok-first.ensures.time c.in_ok-second.ensures.time
