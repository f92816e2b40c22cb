use Rattle.std.proofs.Common.{◌≡◌, ◌≤◌, length}
use Rattle.clfs_files.proofs.file.StoredFile.read.Given as goal

abbrev pub invariant-loop : goal.invariant-loop
invariant-loop l = record { bound : l.done ≤ length l.out; room : length l.out ≡ length l.initial.out }
