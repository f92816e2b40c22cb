use Rattle.std.proofs.Common.{◌∙◌, ap, ap₂, refl, sym, take}
use Rattle.std.proofs.lemmas.List.{take_more}
use Rattle.clap.specs.Words.{with_subcommand}
use Rattle.clfs_command.specs.Forms.{bare_line, with_lines}
use Rattle.clfs_command.proofs.Lines.{one_command_more}
use Rattle.clfs_command.proofs.line.command_line.Goals as goal

pub loop-form-preserved : goal.loop-form-preserved
loop-form-preserved c =
    let forms = c.commands-form-items.result.now in
    let begun = take c.loop-form.form-index forms in
    c.in_ok-line.ensures ∙ ap₂ with_subcommand c.loop-form.invariant refl
    ∙ sym (ap (with_lines bare_line) (take_more forms c.loop-form.form-index _ c.loop-form-test.true) ∙ one_command_more bare_line begun _)
