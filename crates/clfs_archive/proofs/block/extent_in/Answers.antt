use Rattle.clfs_archive.proofs.Extents.{between_places, no_extent, some_extent}
use Rattle.clfs_archive.proofs.block.extent_in.Goals as goal

pub returns-then-first-end : goal.returns-then-first-end
returns-then-first-end c = λ heads are.
    no_extent c.args.stable c.args.tail c.args.container _ _ c.args.blocks.now heads are
    (between_places c.args.stable c.args.tail c.args.container _ _ _ _ c.args.blocks.now c.start_in.ensures c.end_in.ensures c.place_of-first.ensures
    c.place_of-end.ensures) c.if-first-end.true

pub returns : goal.returns
returns c = λ heads are.
    rw c.offset.ensures.value
    (some_extent c.args.stable c.args.tail c.args.container _ _ c.args.blocks.now heads _ _ c.requires are
    (between_places c.args.stable c.args.tail c.args.container _ _ _ _ c.args.blocks.now c.start_in.ensures c.end_in.ensures c.place_of-first.ensures
    c.place_of-end.ensures) c.if-first-end.false)
