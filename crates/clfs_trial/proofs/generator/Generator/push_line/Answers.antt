use Rattle.std.proofs.Common.{◌≡◌, ◌∙◌, ap, length}
use Rattle.clfs_trial.specs.Generated.{line_at}
use Rattle.clfs_trial.specs.Stage.{next_line}
use Rattle.clfs_trial.proofs.Lines.{line_is}
use Rattle.clfs_trial.proofs.generator.Generator.push_line.Goals as goal

pub returns-clause-line : goal.returns-clause-line
returns-clause-line c = λ number told at.
    let line : next_line c.args.self.now ≡ line_at number (length told) told = ap next_line at ∙ line_is number told in
    rw (← line) c.push_next.ensures.text
