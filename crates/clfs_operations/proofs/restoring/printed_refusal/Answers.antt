use Rattle.std.proofs.Common.{◌∙◌}
use Rattle.clfs_operations.proofs.RestoreTold.{told_restore_line, told_restore_nothing}
use Rattle.clfs_operations.proofs.restoring.printed_refusal.Goals as goal

pub returns-in-Ok : goal.returns-in-Ok
returns-in-Ok g c =
    let line = c.requires.line in
    told_restore_line c.printed.result c.args.status c.args.cause c.as_slice.result.now _ _ _ _ (c.as_slice.ensures ∙ (rw c.in-Ok.is at line)) c.requires.status c.requires.other
    c.printed.ensures.status c.printed.ensures.whole c.printed.ensures.front c.printed.ensures.cause c.printed.ensures.later

pub returns-in-Err : goal.returns-in-Err
returns-in-Err g c = told_restore_nothing c.args.cause _ _ c.requires.calm
