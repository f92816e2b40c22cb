use Rattle.std.proofs.Common.{sym, ◌∙◌, arith}
use Rattle.std.proofs.lemmas.Bool.{not-false}
use Rattle.clfs_lsn.specs.Words.{is_decimal_digit}
use Rattle.clfs_text.proofs.Scans.{scan_word}
use Rattle.clfs_text.proofs.numbers.long_decimal_number.Goals as goal

pub loop-byte-init : goal.loop-byte-init
loop-byte-init c = record {
  so_far = scan_word is_decimal_digit 10 c.args.most c.args.word.now (omega arith)
      (not-false _ (sym c.begins_badly.ensures ∙ c.if-begins_badly.false));
  small = omega arith;
}
