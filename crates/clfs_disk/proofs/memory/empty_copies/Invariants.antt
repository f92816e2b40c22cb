use Rattle.std.proofs.Common.{◌≡◌, [], ℕ, length}
use Rattle.clfs_disk.specs.Copies.{read_files, synced_files, first_files}
use Rattle.clfs_disk.proofs.memory.empty_copies.Given as goal

abbrev pub invariant-loop : goal.invariant-loop
invariant-loop l = record {
  count : length l.files.items ≡ l.counter;
  read : (file : ℕ) → read_files l.files.items file ≡ [];
  synced : (file : ℕ) → synced_files l.files.items file ≡ [];
  first : (file : ℕ) → first_files l.files.items file ≡ [];
}
