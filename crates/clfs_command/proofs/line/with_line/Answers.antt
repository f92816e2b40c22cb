use Rattle.std.proofs.Common.{◌∙◌, ap}
use Rattle.std.proofs.lemmas.Result.{IfOk-weaker}
use Rattle.clap.specs.Words.{App, app_of, with_subcommand}
use Rattle.clfs_command.proofs.Lines.{is_local}
use Rattle.clfs_command.proofs.line.with_line.Goals as goal

pub returns : goal.returns
returns c =
    let made = c.in_ok-line_of.ensures in
    IfOk-weaker c.subcommand.result _ _
    (λ r added. added.shape (is_local _ c.args.form.now made) ∙ ap (λ (x : App). with_subcommand (app_of c.args.line) x.top) made) c.subcommand.ensures
