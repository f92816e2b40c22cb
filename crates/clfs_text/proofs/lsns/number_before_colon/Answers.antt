use Rattle.std.proofs.Common.{Some, sym, ◌∙◌, ap, arith, get_or}
use Rattle.std.specs.Char.{digit_value}
use Rattle.std.proofs.lemmas.Bool.{ne_eqb}
use Rattle.clfs_lsn.specs.Words.{is_lower_hex_digit}
use Rattle.clfs_text.proofs.Scans.{digit_there, no_digit}
use Rattle.clfs_text.proofs.Fields.{some_byte, digit_small, field_colon, field_step, field_bad, field_large, field_end, number_read, number_missing}
use Rattle.clfs_text.proofs.lsns.number_before_colon.Goals as goal

pub returns-then-byte-eq58 : goal.returns-then-byte-eq58
returns-then-byte-eq58 c =
    let text = c.args.text.now in
    let rest = c.split_at.result.1.now in
    let behind = c.split_at-then-byte-eq58.result.1.now in
    let value = c.loop-i.value in
    let first = digit_there (is_lower_hex_digit (get_or text 0 0)) (digit_value (get_or text 0 0)) c.in_ok-value.value (sym c.hex_digit.ensures
    ∙ c.in_ok-value.was) in
    number_read text rest behind value (some_byte text (sym c.is_empty.ensures ∙ c.if-is_empty.false)) c.split_at.ensures.back first.0
    (ne_eqb (get_or text 0 0) 48 c.if-text-eq48.false) (digit_small (get_or text 0 0) first.0)
    (sym c.loop-i.invariant.so_far ∙ field_colon value rest c.loop-i.i c.loop-i-test.true c.if-byte-eq58.true
    ∙ ap (λ more. Some (value, more)) (sym c.split_at-then-byte-eq58.ensures.back))

pub returns-in_err-value-2 : goal.returns-in_err-value-2
returns-in_err-value-2 c =
    let text = c.args.text.now in
    let rest = c.split_at.result.1.now in
    let i = c.loop-i.i in
    let first = digit_there (is_lower_hex_digit (get_or text 0 0)) (digit_value (get_or text 0 0)) c.in_ok-value.value (sym c.hex_digit.ensures
    ∙ c.in_ok-value.was) in
    let bad = no_digit (is_lower_hex_digit (get_or rest i 0)) (digit_value (get_or rest i 0)) (sym c.hex_digit-in-loop-i.ensures
    ∙ c.in_err-value-2.was) in
    rw c.from_residual-in_err-value-2.ensures
    (number_missing text rest (some_byte text (sym c.is_empty.ensures ∙ c.if-is_empty.false)) c.split_at.ensures.back first.0
    (ne_eqb (get_or text 0 0) 48 c.if-text-eq48.false) (digit_small (get_or text 0 0) first.0)
    (sym c.loop-i.invariant.so_far ∙ field_bad c.loop-i.value rest i c.loop-i-test.true (ne_eqb (get_or rest i 0) 58 c.if-byte-eq58.false) bad))

pub returns-then-value : goal.returns-then-value
returns-then-value c =
    let text = c.args.text.now in
    let rest = c.split_at.result.1.now in
    let i = c.loop-i.i in
    let first = digit_there (is_lower_hex_digit (get_or text 0 0)) (digit_value (get_or text 0 0)) c.in_ok-value.value (sym c.hex_digit.ensures
    ∙ c.in_ok-value.was) in
    let there = digit_there (is_lower_hex_digit (get_or rest i 0)) (digit_value (get_or rest i 0)) c.in_ok-value-2.field-0 (sym
    c.hex_digit-in-loop-i.ensures
    ∙ c.in_ok-value-2.was) in
    number_missing text rest (some_byte text (sym c.is_empty.ensures ∙ c.if-is_empty.false)) c.split_at.ensures.back first.0
    (ne_eqb (get_or text 0 0) 48 c.if-text-eq48.false) (digit_small (get_or text 0 0) first.0)
    (sym c.loop-i.invariant.so_far ∙ field_large c.loop-i.value rest i c.loop-i-test.true (ne_eqb (get_or rest i 0) 58 c.if-byte-eq58.false)
    (omega (arith, there.1, c.if-value.true)))

pub loop-i-preserved : goal.loop-i-preserved
loop-i-preserved c =
    let rest = c.split_at.result.1.now in
    let i = c.loop-i.i in
    let there = digit_there (is_lower_hex_digit (get_or rest i 0)) (digit_value (get_or rest i 0)) c.in_ok-value-2.field-0 (sym
    c.hex_digit-in-loop-i.ensures
    ∙ c.in_ok-value-2.was) in
    let step = field_step c.loop-i.value rest i c.loop-i-test.true (ne_eqb (get_or rest i 0) 58 c.if-byte-eq58.false) there.0 (omega (
      arith,
      there.1,
      c.if-value.false,
    )) in
    record {
      so_far = rw there.1 at (sym step) ∙ c.loop-i.invariant.so_far;
      small = c.if-value.false;
    }

pub returns : goal.returns
returns c =
    let text = c.args.text.now in
    let rest = c.split_at.result.1.now in
    let first = digit_there (is_lower_hex_digit (get_or text 0 0)) (digit_value (get_or text 0 0)) c.in_ok-value.value (sym c.hex_digit.ensures
    ∙ c.in_ok-value.was) in
    number_missing text rest (some_byte text (sym c.is_empty.ensures ∙ c.if-is_empty.false)) c.split_at.ensures.back first.0
    (ne_eqb (get_or text 0 0) 48 c.if-text-eq48.false) (digit_small (get_or text 0 0) first.0)
    (sym c.loop-i.invariant.so_far ∙ field_end c.loop-i.value rest c.loop-i.i c.loop-i-test.false)
