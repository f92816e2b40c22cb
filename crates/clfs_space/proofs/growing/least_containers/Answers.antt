use Rattle.clfs_space.proofs.Fewest.{least_containers-is}
use Rattle.clfs_space.proofs.growing.least_containers.Goals as goal

pub returns-clause-value : goal.returns-clause-value
returns-clause-value c =
    rw c.unwrap_or.ensures
    (least_containers-is c.args.shape.now c.args.place.now c.args.hold c.args.containers c.args.reserved c.containers_for.result
    c.requires.active c.requires.reserved c.containers_for.ensures.some c.containers_for.ensures.none)
