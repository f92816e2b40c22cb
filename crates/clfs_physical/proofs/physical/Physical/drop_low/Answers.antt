use Rattle.clfs_physical.proofs.Words.{◌≢◌, ◌⊎◌, inl, subst, Leaves, Newest, Stores, low_of}
use Rattle.clfs_physical.proofs.Joining.{leaves_nothing}
use Rattle.clfs_physical.proofs.Taken.{low_else}
use Rattle.clfs_physical.proofs.physical.Physical.drop_low.Goals as goal

pub returns-then-first-self-clause-moments : goal.returns-then-first-self-clause-moments
returns-then-first-self-clause-moments g c settled whole blocks stores =
    leaves_nothing (λ image. Stores whole c.args.self.now blocks image ⊎ Stores whole (low_of c.args.first c.args.self.now) blocks image) _ settled (inl stores)

pub returns-clause-moments : goal.returns-clause-moments
returns-clause-moments g c settled whole blocks stores =
    let apart : c.args.first ≢ c.args.self.now.image.first =
    subst (λ (n : Newest). c.args.first ≢ n.image.first) c.self.view_is c.if-first-self.false in
    subst (λ (n : Newest). Leaves (λ image. Stores whole c.args.self.now blocks image ⊎ Stores whole n blocks image)
    (g.D.Disk.state c.args.disk.now) (g.D.Disk.state c.write_copy.new.disk)) (low_else c.args.first c.args.self.now apart)
    (c.write_copy.ensures.moments settled whole blocks stores)
