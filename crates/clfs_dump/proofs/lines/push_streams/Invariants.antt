use Rattle.clfs_dump.proofs.Words.{◌≡◌, ◌+◌, ◌++◌, drop, stream_lines}
use Rattle.clfs_dump.proofs.lines.push_streams.Given as goal

abbrev pub invariant-loop-i : goal.invariant-loop-i
invariant-loop-i l = l.out ++ stream_lines (l.i + 1) (drop l.i l.rows) ≡ l.fn.out ++ stream_lines 1 l.rows
