use Rattle.clfs_restore.proofs.Words.{true, err_from_is_err_and}
use Rattle.clfs_restore.proofs.Listing.{off, on}
use Rattle.clfs_restore.proofs.archiving.see_archiving.Goals as goal

pub returns-in_err-extents-clause-off : goal.returns-in_err-extents-clause-off
returns-in_err-extents-clause-off g c =
    let p = err_from_is_err_and c.from_residual.result c.from_residual.ensures.1 in
    rw (p.1, p.2) (off c.args.manager.now.0 c.in_err-extents.field-0.0 c.requires.unbroken (c.in_err-extents.ensures.step true 0))

pub returns-clause-on : goal.returns-clause-on
returns-clause-on g c = on c.args.manager.now.0 c.in_ok-extents.field-0 c.requires.unbroken (c.in_ok-extents.ensures.step true 0)
