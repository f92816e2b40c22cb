use Rattle.std.proofs.Common.{◌≡◌, ◌≤◌, ◌^◌, ◌-◌, drop, get_or}
use Rattle.std.specs.Char.{digit_value}
use Rattle.clfs_text.proofs.Fields.{field}
use Rattle.clfs_text.proofs.lsns.number_before_colon.Given as goal

abbrev pub invariant-loop-i : goal.invariant-loop-i
invariant-loop-i l = record {
  so_far : field l.value (drop l.i l.rest) ≡ field (digit_value (get_or l.text 0 0)) l.rest;
  small : l.value ≤ (2 ^ 32 - 1);
}
