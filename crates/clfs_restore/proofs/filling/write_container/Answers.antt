use Rattle.clfs_restore.proofs.Words.{◌+◌, ℕ, List, sym, subst, IsPiece}
use Rattle.clfs_restore.proofs.Kept.{holds_written}
use Rattle.clfs_restore.proofs.filling.write_container.Goals as goal

pub returns-clause-holds : goal.returns-clause-holds
returns-clause-holds g c tells =
    holds_written c.args.archives.now c.args.archive.now c.args.up_to c.args.i c.in_ok-end.end c.as_slice.result.now (g.D.Disk.state c.args.disk.now).files
    (g.D.Disk.state c.write.new.self).files
    (subst (λ (l : List ℕ). IsPiece c.args.archives.now c.args.archive.now c.args.up_to (c.args.archive.now.image.first + c.args.i) l c.in_ok-end.end)
    (sym c.as_slice.ensures.value) c.in_ok-end.ensures) (c.in_ok-write.ensures.written tells).1
