use Rattle.std.proofs.Common.{◌≡◌, ◌*◌, ◌≤◌, ◌<◌, take, drop}
use Rattle.std.specs.Prelude.{None}
use Rattle.clfs_text.proofs.Pairs.{pairs, behind}
use Rattle.clfs_text.proofs.bytes.decode_into.Given as goal

abbrev pub invariant-loop-i : goal.invariant-loop-i
invariant-loop-i l = record {
  rest : l.rest ≡ drop (2 * l.i) l.text;
  good : l.greatest ≤ 15 → pairs l.text ≡ behind (take l.i l.out) (pairs (drop (2 * l.i) l.text));
  bad : 15 < l.greatest → pairs l.text ≡ None;
}
