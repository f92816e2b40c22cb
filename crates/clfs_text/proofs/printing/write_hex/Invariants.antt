use Rattle.std.proofs.Common.{◌≡◌, ◌+◌, ◌-◌, ◌^◌, ◌<◌, ◌≤◌, ◌++◌, drop, false}
use Rattle.std.specs.Fmt.{digits_onto}
use Rattle.clfs_lsn.specs.Words.{hex_text}
use Rattle.clfs_text.proofs.printing.write_hex.Given as goal

abbrev pub invariant-loop-left : goal.invariant-loop-left
invariant-loop-left l = record {
  within : l.start + 1 ≤ l.end;
  room : l.end ≤ l.start + 8;
  small : l.left < 16 ^ (l.start + 9 - l.end);
  so_far : digits_onto (l.start + 65 - l.end) 16 false l.left (drop (l.start + 1) l.digits) ≡ hex_text l.number ++ drop l.end l.fn.digits;
}

abbrev pub decreases-loop-left : goal.decreases-loop-left
decreases-loop-left l = l.left
