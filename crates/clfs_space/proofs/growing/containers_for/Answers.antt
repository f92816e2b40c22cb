use Rattle.std.proofs.Common.{◌≡◌, arith}
use Rattle.std.specs.Int.{div_ceil}
use Rattle.clfs_space.proofs.Thresholds.{each_of, missing_of, threshold, out_of_reach}
use Rattle.clfs_space.proofs.growing.containers_for.Goals as goal

pub returns-then-next-place-clause-none : goal.returns-then-next-place-clause-none
returns-then-next-place-clause-none c =
    let next : c.div_ceil-next.result ≡ div_ceil (missing_of c.args.shape.now c.args.place.now c.args.wanted) (each_of c.args.shape.now) = cc in
    out_of_reach c.args.shape.now c.args.place.now c.args.hold c.args.wanted c.requires.shape (omega (arith, next, c.if-next-place.true))

pub returns-clause-some : goal.returns-clause-some
returns-clause-some c =
    let next : c.div_ceil-next.result ≡ div_ceil (missing_of c.args.shape.now c.args.place.now c.args.wanted) (each_of c.args.shape.now) = cc in
    rw c.active_containers.ensures
    (threshold c.args.shape.now c.args.place.now c.args.hold c.args.wanted c.div_ceil-next.result c.requires.shape next c.if-next-place.false)
