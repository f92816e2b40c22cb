use Rattle.clfs_restore.proofs.Words.{sym, subst, IsTrue, Nature}
use Rattle.clfs_restore.proofs.Kept.{filled_still}
use Rattle.clfs_restore.proofs.filling.fill_files.Goals as goal

pub returns-clause-filled : goal.returns-clause-filled
returns-clause-filled g c tells =
    filled_still c.args.archives.now c.args.archive.now c.args.up_to c.in_ok-end.end (g.D.Disk.state c.write_containers.new.disk).files
    (g.D.Disk.state c.sync.new.self).files (λ file some. c.sync.ensures.same file)
    (c.in_ok-end.ensures.filled (subst (λ (n : Nature). IsTrue n.tells_contents) (sym c.make_containers.ensures.time.nature) tells))
