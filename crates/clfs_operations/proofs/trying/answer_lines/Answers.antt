use Rattle.std.proofs.Common.{◌≡◌, ◌++◌, ◌∷◌, [], ap, ◌∙◌}
use Rattle.std.specs.Prelude.{map}
use Rattle.clfs_trial.specs.Generated.{line_at}
use Rattle.clfs_trial.specs.Stage.{stage_after}
use Rattle.clfs_operations.specs.Trial.{told_lsn}
use Rattle.clfs_operations.proofs.Trials.{none_tried, next_line, one_tried}
use Rattle.clfs_operations.proofs.trying.answer_lines.Goals as goal

pub loop-init : goal.loop-init
loop-init g c = none_tried c.args.manager.now.0 (g.D.Disk.state c.args.manager.now.1) c.args.number c.new-generator.result c.new-tally.result c.new-generator.ensures
    c.new-tally.ensures

pub loop-preserved : goal.loop-preserved
loop-preserved g c =
    let s = c.args.manager.now.0 in
    let old = g.D.Disk.state c.args.manager.now.1 in
    let mid = c.loop.manager.0 in
    let between = g.D.Disk.state c.loop.manager.1 in
    let way = c.loop.invariant in
    let line : c.push_line.new.out ≡ line_at c.args.number c.loop.counter (map told_lsn way.tried.answers) =
    next_line s old c.args.number c.loop.counter c.loop.tally c.loop.generator mid between c.push_line.new.out c.cleared-line.result way c.cleared-line.ensures
    c.in_ok-push_line.ensures.line in
    one_tried (record { calls = c.unbroken_stays.ensures.calls; reopening = c.unbroken_stays.ensures.reopening }) s old c.args.number c.loop.counter c.loop.tally c.loop.generator mid between way c.as_slice.result.now
    c.in_ok-reply.reply c.reply_to_line.new.manager.0 (g.D.Disk.state c.reply_to_line.new.manager.1) c.told.new.self c.counting-tally.result (c.as_slice.ensures ∙ line)
    c.in_ok-reply.ensures
    (λ n told at. c.told.ensures n told at ∙ ap (λ lsn. stage_after n (told ++ lsn ∷ [])) c.told_lsn.ensures)
    c.counting-tally.ensures
