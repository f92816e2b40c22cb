use Rattle.std.proofs.Common.{◌≡◌, ◌≤◌, ◌^◌, ◌-◌, drop}
use Rattle.clfs_lsn.specs.Words.{is_lower_hex_digit, hex_number}
use Rattle.clfs_text.proofs.Scans.{scan}
use Rattle.clfs_text.proofs.numbers.hex_number.Given as goal

abbrev pub invariant-loop-byte : goal.invariant-loop-byte
invariant-loop-byte l = record {
  so_far : scan is_lower_hex_digit 16 (2 ^ 32 - 1) l.value (drop l.byte-index l.word) ≡ hex_number l.word;
  small : l.value ≤ (2 ^ 32 - 1);
}
