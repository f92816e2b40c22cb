use Rattle.clfs_laws.proofs.ReopenCases.{reopening_keeps}
use Rattle.clfs_laws.proofs.StepCases.{refusal_keeps}
use Rattle.clfs_laws.proofs.refusals.refusals_change_nothing.Goals as goal

pub returns-clause-calls : goal.returns-clause-calls
returns-clause-calls c = refusal_keeps

pub returns-clause-reopening : goal.returns-clause-reopening
returns-clause-reopening c = reopening_keeps
