use Rattle.clfs_base.proofs.Words.{◌≡◌, files_in}
use Rattle.clfs_base.proofs.decoder.read_files.Given as goal

-- the numbers so far are read
abbrev pub invariant-loop-i : goal.invariant-loop-i
invariant-loop-i l = l.files ≡ files_in l.bytes l.i
