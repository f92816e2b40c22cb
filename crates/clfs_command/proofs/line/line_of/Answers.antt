use Rattle.std.proofs.Common.{◌∙◌, ap, ap₂, sym, take}
use Rattle.std.proofs.lemmas.List.{take_more}
use Rattle.clap.specs.Words.{with_rule}
use Rattle.clfs_command.specs.Forms.{with_forms}
use Rattle.clfs_command.specs.Line.{command_named}
use Rattle.clfs_command.proofs.Lines.{one_more}
use Rattle.clfs_command.proofs.line.line_of.Goals as goal

pub loop-word-preserved : goal.loop-word-preserved
loop-word-preserved c =
    let words = c.args.form.now.words.now in
    let start = command_named c.args.form.now.name.now in
    let begun = take c.loop-word.word-index words in
    c.in_ok-line.ensures.shape c.word_of.ensures.local
    ∙ ap₂ with_rule c.loop-word.invariant c.word_of.ensures.rule
    ∙ sym (ap (with_forms start) (take_more words c.loop-word.word-index _ c.loop-word-test.true) ∙ one_more start begun _)
