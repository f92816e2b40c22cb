use Rattle.std.proofs.Common.{◌≡◌, ◌≤◌, drop}
use Rattle.clfs_lsn.specs.Words.{is_decimal_digit, decimal_number}
use Rattle.clfs_text.proofs.Scans.{scan}
use Rattle.clfs_text.proofs.numbers.long_decimal_number.Given as goal

abbrev pub invariant-loop-byte : goal.invariant-loop-byte
invariant-loop-byte l = record {
  so_far : scan is_decimal_digit 10 l.most l.value (drop l.byte-index l.word) ≡ decimal_number l.most l.word;
  small : l.value ≤ l.most;
}
