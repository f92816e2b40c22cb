use Rattle.clfs_base.proofs.Words.{◌≡◌, take, flat_map, filled, spelled_row}
use Rattle.clfs_base.proofs.encoder.put_rows.Given as goal

-- the rows so far, and zeros after them
abbrev pub invariant-loop-i : goal.invariant-loop-i
invariant-loop-i l = l.out ≡ filled 15808 (flat_map (spelled_row l.layout.longest_name) (take l.i l.rows))
