use Rattle.std.proofs.Common.{◌≡◌, ◌<◌, ◌≤◌, ℕ, length}
use Rattle.clfs_disk.specs.Files.{picked}
use Rattle.clfs_disk.specs.Copies.{read_files, synced_files, first_files}
use Rattle.clfs_disk.proofs.memory.crash_files.Given as goal

abbrev pub invariant-loop-copies : goal.invariant-loop-copies
invariant-loop-copies l = record {
  count : length l.copies-items ≡ length l.fn.files.items;
  read_below : (file : ℕ) → file < l.copies-index → read_files l.copies-items file ≡ picked l.pick (read_files l.fn.files.items file)
      (synced_files l.fn.files.items file);
  synced_below : (file : ℕ) → file < l.copies-index → synced_files l.copies-items file ≡ picked l.pick (read_files l.fn.files.items file)
      (synced_files l.fn.files.items file);
  first_below : (file : ℕ) → file < l.copies-index → first_files l.copies-items file ≡ picked l.pick (read_files l.fn.files.items file)
      (synced_files l.fn.files.items file);
  read_above : (file : ℕ) → l.copies-index ≤ file → read_files l.copies-items file ≡ read_files l.fn.files.items file;
  synced_above : (file : ℕ) → l.copies-index ≤ file → synced_files l.copies-items file ≡ synced_files l.fn.files.items file;
}
