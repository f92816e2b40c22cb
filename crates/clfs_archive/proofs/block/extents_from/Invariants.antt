use Rattle.std.proofs.Common.{◌≡◌, ◌+◌, ◌-◌, ◌<◌, List}
use Rattle.std.specs.List.{filter_map, range_with_len}
use Rattle.clfs_lsn.specs.Lsn.{container_of}
use Rattle.clfs_lsn.specs.declared.entry.Head.{Head}
use Rattle.clfs_model.specs.Heads.{container_extent}
use Rattle.clfs_archive.specs.Blocks.{AreBlocks}
use Rattle.clfs_archive.proofs.block.extents_from.Given as goal

abbrev pub invariant-loop-container : goal.invariant-loop-container
invariant-loop-container l = record {
  so_far : (heads : List Head) → AreBlocks l.tail l.stable l.blocks heads
      → l.extents.items ≡ filter_map (container_extent l.stable l.tail heads) (range_with_len (container_of l.tail) (l.container - container_of l.tail));
  none : l.last + 1 < container_of l.tail → l.container ≡ container_of l.tail;
}
