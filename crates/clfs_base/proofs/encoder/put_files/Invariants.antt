use Rattle.clfs_base.proofs.Words.{◌≡◌, take, flat_map, filled, number_bytes}
use Rattle.clfs_base.proofs.encoder.put_files.Given as goal

-- the numbers so far, and zeros after them
abbrev pub invariant-loop-i : goal.invariant-loop-i
invariant-loop-i l = l.out ≡ filled 512 (flat_map number_bytes (take l.i l.files))
