use Rattle.std.proofs.Common.{get_or, length, arith}
use Rattle.std.proofs.lemmas.List.FromFn.{fill_by_all}
use Rattle.clfs_disk.specs.Files.{picked_byte}
use Rattle.clfs_disk.proofs.copies.pick_bytes.Goals as goal

pub returns : goal.returns
returns c =
    fill_by_all (λ i. picked_byte c.args.pick i (get_or c.args.read.now.items i 0) (get_or c.args.synced.now.items i 0))
    c.loop-at.read.items (length c.args.read.now.items) 0 c.loop-at.invariant.long
    (λ k lt. c.loop-at.invariant.below k (omega (arith, lt, c.loop-at-test.false, c.len-at-end.ensures)))
