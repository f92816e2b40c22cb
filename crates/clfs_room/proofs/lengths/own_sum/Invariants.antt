use Rattle.std.proofs.Common.{◌≡◌, ◌≤◌, ◌*◌, length, take}
use Rattle.clfs_lsn.specs.Limits.{most_sizes}
use Rattle.clfs_model.specs.Space.{own_sum}
use Rattle.clfs_room.proofs.lengths.own_sum.Given as goal

abbrev pub invariant-loop-len : goal.invariant-loop-len
invariant-loop-len l = record {
  few : length l.lengths ≤ most_sizes;
  sum : l.sectors ≡ own_sum (take l.len-index l.lengths);
  small : l.sectors ≤ l.len-index * 8521762;
}
