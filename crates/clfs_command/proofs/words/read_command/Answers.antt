use Rattle.std.proofs.Common.{◌∙◌}
use Rattle.std.proofs.lemmas.Result.{IfErr-weaker, IfOk-weaker}
use Rattle.clfs_command.proofs.NoCommands.{some_fault, is_simple, is_plain, is_found, none_named}
use Rattle.clfs_command.proofs.words.read_command.Goals as goal

pub returns-in-Err-clause-usage : goal.returns-in-Err-clause-usage
returns-in-Err-clause-usage c = λ e.
    let line = c.in_ok-line.ensures in
    none_named _ _ line (some_fault _ c.in-Err.error (c.in-Err.ensures.kinds (is_simple _ line)) (c.refusal_of.ensures e))

pub returns-in-Ok-clause-command : goal.returns-in-Ok-clause-command
returns-in-Ok-clause-command c =
    let line = c.in_ok-line.ensures in
    let found = is_found _ _ line (c.in-Ok.ensures.kinds (is_simple _ line)) _ (c.in-Ok.ensures.matches (is_plain _ line)).1 in
    IfOk-weaker c.command_in.result _ _ (λ command is. found ∙ is) c.command_in.ensures.command

pub returns-in-Ok-clause-usage : goal.returns-in-Ok-clause-usage
returns-in-Ok-clause-usage c =
    let line = c.in_ok-line.ensures in
    let found = is_found _ _ line (c.in-Ok.ensures.kinds (is_simple _ line)) _ (c.in-Ok.ensures.matches (is_plain _ line)).1 in
    IfErr-weaker c.command_in.result _ _ (λ refusal is named. found ∙ is) c.command_in.ensures.usage
