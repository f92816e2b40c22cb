use Rattle.clfs_laws.proofs.Words.{refl}
use Rattle.clfs_model.specs.declared.refusal.Refusal.TheVariants as refusals
use Rattle.clfs_laws.proofs.Replies.{first_refusal}
use Rattle.clfs_laws.proofs.ReplyKinds.{step_kind, missing_area}
use Rattle.clfs_laws.proofs.steps.replies_are_of_their_calls.Goals as goal

pub returns-clause-kind : goal.returns-clause-kind
returns-clause-kind c = step_kind

pub returns-clause-missing : goal.returns-clause-missing
returns-clause-missing c = λ told s client call happened t step.
    missing_area s client call (first_refusal told s client call happened refusals.NoSuchArea t refl step)
