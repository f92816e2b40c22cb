use Rattle.clfs_base.proofs.Words.{◌≡◌, rows_of}
use Rattle.clfs_base.proofs.decoder.read_rows.Given as goal

-- the rows so far are read
abbrev pub invariant-loop-i : goal.invariant-loop-i
invariant-loop-i l = l.rows.items ≡ rows_of l.layout l.bytes l.i
