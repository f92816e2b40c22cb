use Rattle.std.proofs.Common.{◌∙◌, ap}
use Rattle.clfs_trial.specs.Stage.{moved_on}
use Rattle.clfs_trial.proofs.Lines.{moved_is}
use Rattle.clfs_trial.proofs.generator.Generator.told.Goals as goal

pub returns : goal.returns
returns c = λ number told at. c.move_on.ensures ∙ ap (λ stage. moved_on stage c.args.lsn) at ∙ moved_is number told c.args.lsn
