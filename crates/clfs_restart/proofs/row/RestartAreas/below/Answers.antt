use Rattle.clfs_restart.proofs.Places.{below_of}
use Rattle.clfs_restart.proofs.row.RestartAreas.below.Goals as goal

pub returns : goal.returns
returns c =
    below_of c.args.self.now _ _ c.args.lsn c.self.inside.heads.items _ _ c.place_of.result _ c.self.view_is c.self.invariant
    c.deref.ensures.value c.deref-2.ensures.value c.place_of.ensures c.from_base.ensures
