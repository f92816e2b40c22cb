use Rattle.clfs_archive.proofs.Counting.{few_with}
use Rattle.clfs_archive.proofs.Sealing.{sealed_one}
use Rattle.clfs_archive.proofs.archive.Archive.push.Goals as goal

pub returns-clause-told : goal.returns-clause-told
returns-clause-told c = λ from start next heads are is up last zero all.
    rw c.push_reserved.ensures.items (sealed_one from start next c.self.inside.blocks.items c.args.block heads (rw (← c.self.view_is) at are) is up last zero all)

pub returns-clause-few : goal.returns-clause-few
returns-clause-few c = λ lsn from few.
    rw c.push_reserved.ensures.items (few_with lsn c.self.inside.blocks.items c.args.block from (rw (← c.self.view_is) at few))
