use Rattle.clfs_txn.proofs.Words.{refl, true, Err}
use Rattle.clfs_model.specs.declared.reply.Reply.TheVariants as log_replies
use Rattle.clfs_txn.proofs.Leads.{leads_call, leads_on}
use Rattle.clfs_txn.proofs.LoadParts.{no_damage, refused_as}
use Rattle.clfs_txn.proofs.Written.{nothing}
use Rattle.clfs_txn.proofs.LoadMoments.{info_meanwhile}
use Rattle.clfs_txn.proofs.table.TableLog.load_stream.Goals as goal

pub returns-in-Ok-clause-step : goal.returns-in-Ok-clause-step
returns-in-Ok-clause-step g c =
    leads_on _ _ _ _ _ _ _ _ (leads_call _ _ _ _ _ (log_replies.Info c.in-Ok.info) _ (c.in-Ok.ensures.step _)) c.load_of.ensures.step

pub returns-in-Err-clause-step : goal.returns-in-Err-clause-step
returns-in-Err-clause-step g c = leads_call _ _ _ _ _ (log_replies.Refused c.in-Err.refusal) _ (c.in-Err.ensures.step _)

pub returns-in-Err-clause-writes : goal.returns-in-Err-clause-writes
returns-in-Err-clause-writes g c = nothing _ _ (λ f. c.in-Err.ensures.calm (refused_as _ _ f))

pub returns-in-Err-clause-damage : goal.returns-in-Err-clause-damage
returns-in-Err-clause-damage g c = λ tells container offset at is.
    no_damage true _ _ _ log_replies.Info (Err c.in-Err.refusal) _ container offset at refl (c.in-Err.ensures.step true) (refused_as _ _ is)

pub returns-in-Ok-clause-moments : goal.returns-in-Ok-clause-moments
returns-in-Ok-clause-moments g c = λ under.
    info_meanwhile under _ _ _ _ _ _ c.in-Ok.info _ _ (c.in-Ok.ensures.step _) (c.load_of.ensures.moments under)

pub returns-in-Err-clause-moments : goal.returns-in-Err-clause-moments
returns-in-Err-clause-moments g c = λ under along present. present
