use Rattle.std.proofs.Common.{◌≡◌, length}
use Rattle.clfs_files.proofs.directory.open_files.Given as goal

abbrev pub invariant-loop-file : goal.invariant-loop-file
invariant-loop-file l = length l.files.items ≡ l.file
