use Rattle.std.proofs.Common.{◌≡◌, ◌<◌, ℕ, length}
use Rattle.clfs_disk.specs.Copies.{read_files, synced_files, first_files}
use Rattle.clfs_disk.proofs.memory.sync_files.Given as goal

abbrev pub invariant-loop-copies : goal.invariant-loop-copies
invariant-loop-copies l = record {
  count : length l.copies-items ≡ length l.fn.files.items;
  read : (file : ℕ) → read_files l.copies-items file ≡ read_files l.fn.files.items file;
  first : (file : ℕ) → first_files l.copies-items file ≡ first_files l.fn.files.items file;
  below : (file : ℕ) → file < l.copies-index → synced_files l.copies-items file ≡ read_files l.fn.files.items file;
}
