use Rattle.std.proofs.lemmas.Result.{IfOk-weaker}
use Rattle.clfs_operations.proofs.Trials.{summed}
use Rattle.clfs_operations.proofs.trying.sums.Goals as goal

pub returns : goal.returns
returns g c =
    IfOk-weaker c.trial_text.result _ _
    (λ text is. summed c.args.number c.args.count c.args.manager.now.0 (g.D.Disk.state c.args.manager.now.1) c.in_ok-tally.tally c.answer_lines.new.manager.0
    (g.D.Disk.state c.answer_lines.new.manager.1) c.in_ok-flushed.flushed text c.requires.state c.requires.told c.requires.steady c.requires.whole
    c.in_ok-tally.ensures c.in_ok-flushed.ensures is)
    c.trial_text.ensures
