use Rattle.std.proofs.Common.{◌≡◌, [], ℕ, length}
use Rattle.clfs_disk.specs.Table.{files_of}
use Rattle.clfs_disk.proofs.steady.empty_files.Given as goal

abbrev pub invariant-loop : goal.invariant-loop
invariant-loop l = record { count : length l.files.items ≡ l.counter; empty : (file : ℕ) → files_of l.files.items file ≡ [] }
