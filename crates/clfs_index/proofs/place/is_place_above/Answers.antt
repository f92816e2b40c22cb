use Rattle.std.proofs.Common.{◌+◌, arith}
use Rattle.clfs_index.proofs.Places.{between_neighbours}
use Rattle.clfs_index.proofs.place.is_place_above.Goals as goal

pub returns-else-near-eq0 : goal.returns-else-near-eq0
returns-else-near-eq0 c = λ up_to.
    let before = c.lies_up_to.ensures.within up_to in
    between_neighbours c.args.heads.now (c.args.lsn + 1) c.args.near c.requires (omega (arith, before))
    (λ d inside. let above = c.lies_above.ensures c.if-not-lies_above.false d inside in omega (arith, above))
    (λ d some. let below = c.lies_up_to.ensures.up_to up_to d in omega (arith, below))
