use Rattle.std.proofs.Common.{◌≡◌, ◌<◌, ◌≤◌, ℕ, length, get_or}
use Rattle.clfs_disk.specs.Files.{picked_byte}
use Rattle.clfs_disk.proofs.copies.pick_bytes.Given as goal

abbrev pub invariant-loop-at : goal.invariant-loop-at
invariant-loop-at l = record {
  long : length l.read.items ≡ length l.fn.read.items;
  below : (k : ℕ) → k < l.at → get_or l.read.items k 0 ≡ picked_byte l.pick k (get_or l.fn.read.items k 0) (get_or l.synced.items k 0);
  above : (k : ℕ) → l.at ≤ k → get_or l.read.items k 0 ≡ get_or l.fn.read.items k 0;
}
