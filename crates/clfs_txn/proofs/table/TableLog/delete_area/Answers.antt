use Rattle.clfs_txn.proofs.Words.{ap, ◌∙◌, refl, sym, true, replied}
use Rattle.clfs_model.specs.declared.call.Call.TheVariants as log_calls
use Rattle.clfs_model.specs.declared.reply.Reply.TheVariants as replies
use Rattle.clfs_txn.proofs.Asked.{same_step}
use Rattle.clfs_txn.proofs.Breaking.{still_logged}
use Rattle.clfs_txn.proofs.Leads.{leads_call}
use Rattle.clfs_txn.proofs.Quiet.{QuietLaws, still_broken}
use Rattle.clfs_txn.proofs.table.TableLog.delete_area.Goals as goal

pub invariant_of-self : goal.invariant_of-self
invariant_of-self g c =
    let laws : QuietLaws = record { unbroken = c.unbroken_stays.ensures.calls; broken = c.broken_stays.ensures.calls } in
    record {
      knows = c.self.invariant.knows ∙ sym (still_broken laws true _ _ _ _ _ (record { disk = refl; reads = refl; memory = refl }) (c.delete_area.ensures.step true));
      client = c.self.invariant.client;
      logged = still_logged c.steps_only_add_records.ensures true _ _ _ _ _ _ c.self.inside.memory c.stored.ensures.valid (c.delete_area.ensures.step true) c.self.invariant.logged;
    }

pub returns-clause-step : goal.returns-clause-step
returns-clause-step g c = λ told cause.
    leads_call told _ _ _ _ (replied (λ _. replies.Done) c.delete_area.result) _
    (same_step told _ _ _ _ _ _ _ _ _ (ap (λ v. v.0.log) c.self.view_is) (c.client.ensures ∙ ap (λ v. v.0.memory.client) c.self.view_is)
    (ap (λ a. log_calls.DeleteArea a) (c.area.ensures ∙ ap (λ v. v.0.memory.area) c.self.view_is)) (c.delete_area.ensures.step told))
