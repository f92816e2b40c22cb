use Rattle.clfs_laws.proofs.Words.{◌≡◌, inl, inr, Some, cases_Bool, refusal, is_of_call}
use Rattle.clfs_laws.proofs.FineSteps.{fine_refused}
use Rattle.clfs_laws.proofs.Replies.{first_refusal, own_refusal, no_bad_line}
use Rattle.clfs_laws.proofs.steps.refusals_are_the_calls_own.Goals as goal

pub returns-clause-first : goal.returns-clause-first
returns-clause-first c = first_refusal

pub returns-clause-comes : goal.returns-clause-comes
returns-clause-comes c = λ told s t client call reply first whole meets step memory. fine_refused told s t client call reply first whole step memory meets

pub returns-clause-own : goal.returns-clause-own
returns-clause-own c = own_refusal

pub returns-clause-none : goal.returns-clause-none
returns-clause-none c = λ told s client call happened given t none step. elim (cases_Bool (is_of_call given)) [
  | inl own ↦ absurd (let met : refusal s client call ≡ Some given = first_refusal told s client call happened given t own step in cc)
  | inr other ↦ other
]

pub returns-clause-no_bad_line : goal.returns-clause-no_bad_line
returns-clause-no_bad_line c = no_bad_line
