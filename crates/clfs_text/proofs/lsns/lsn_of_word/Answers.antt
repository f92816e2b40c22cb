use Rattle.std.proofs.Common.{sym, ◌∙◌}
use Rattle.clfs_text.proofs.Colons.{three_numbers, no_sequence}
use Rattle.clfs_text.proofs.lsns.lsn_of_word.Goals as goal

pub returns-in_err-sequence : goal.returns-in_err-sequence
returns-in_err-sequence c =
    c.from_residual-in_err-sequence.ensures
    ∙ sym (no_sequence c.in_ok-container.container c.in_ok-offset.offset c.args.word.now c.in_ok-container.behind.now c.in_ok-offset.last.now
    c.in_ok-container.ensures c.in_ok-offset.ensures (sym c.hex_number.ensures ∙ c.in_err-sequence.was))

pub returns : goal.returns
returns c =
    c.lsn_of_parts.ensures
    ∙ sym (three_numbers c.in_ok-container.container c.in_ok-offset.offset c.in_ok-sequence.sequence c.args.word.now c.in_ok-container.behind.now
    c.in_ok-offset.last.now c.in_ok-container.ensures c.in_ok-offset.ensures (sym c.hex_number.ensures ∙ c.in_ok-sequence.was))
