use Rattle.std.proofs.Common.{◌≡◌, [], ℕ, length}
use Rattle.clfs_planned.specs.Contents.{contents_of}
use Rattle.clfs_planned.proofs.files.empty_files.Given as goal

abbrev pub invariant-loop : goal.invariant-loop
invariant-loop l = record { count : length l.files.items ≡ l.counter; empty : (file : ℕ) → contents_of l.files.items file ≡ [] }
