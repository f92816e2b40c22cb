use Rattle.std.proofs.Common.{◌∙◌}
use Rattle.std.proofs.lemmas.Result.{IfErr-weaker, IfOk-weaker}
use Rattle.clfs_command.proofs.NoCommands.{some_fault}
use Rattle.clfs_command.proofs.NoDoors.{is_simple, is_plain, is_asked, none_asked}
use Rattle.clfs_command.proofs.door.door_by.Goals as goal

pub returns-in-Err-clause-usage : goal.returns-in-Err-clause-usage
returns-in-Err-clause-usage c = λ e.
    let line = c.in_ok-line.ensures in
    none_asked _ _ line (some_fault _ c.in-Err.error (c.in-Err.ensures.kinds (is_simple _ line)) (c.refusal_of.ensures e))

pub returns-in-Ok-clause-door : goal.returns-in-Ok-clause-door
returns-in-Ok-clause-door c =
    let line = c.in_ok-line.ensures in
    let found = is_asked _ _ line (c.in-Ok.ensures.kinds (is_simple _ line)) _ (c.in-Ok.ensures.matches (is_plain _ line)).0 in
    IfOk-weaker c.door_in.result _ _ (λ door is. found ∙ is) c.door_in.ensures.door

pub returns-in-Ok-clause-usage : goal.returns-in-Ok-clause-usage
returns-in-Ok-clause-usage c =
    let line = c.in_ok-line.ensures in
    let found = is_asked _ _ line (c.in-Ok.ensures.kinds (is_simple _ line)) _ (c.in-Ok.ensures.matches (is_plain _ line)).0 in
    IfErr-weaker c.door_in.result _ _ (λ refusal is named. found ∙ is named) c.door_in.ensures.usage
