use Rattle.clfs_laws.proofs.Unbroken.{call_whole, reopening_whole, fine_reply_told, journal_whole}
use Rattle.clfs_laws.proofs.refusals.unbroken_stays.Goals as goal

pub returns-clause-calls : goal.returns-clause-calls
returns-clause-calls c = λ told s client call happened reply t whole fine step.
    let is = call_whole told s client call happened reply t whole fine step in (is.whole, is.silent)

pub returns-clause-reopening : goal.returns-clause-reopening
returns-clause-reopening c = λ told s happened reply t whole fine step.
    let is = reopening_whole told s happened reply t whole fine step in (is.whole, is.silent)

pub returns-clause-fine : goal.returns-clause-fine
returns-clause-fine c = fine_reply_told

pub returns-clause-part : goal.returns-clause-part
returns-clause-part c = λ told before s t entries whole goes fine. journal_whole told before s t entries goes whole fine
