use Rattle.clfs_txn.proofs.Words.{ap, ◌∙◌, refl, sym, true, replied}
use Rattle.clfs_model.specs.declared.reply.Reply.TheVariants as replies
use Rattle.clfs_txn.proofs.Asked.{same_step, end_read_is}
use Rattle.clfs_txn.proofs.Breaking.{still_logged}
use Rattle.clfs_txn.proofs.Quiet.{QuietLaws, still_broken}
use Rattle.clfs_txn.proofs.Leads.{leads_call}
use Rattle.clfs_txn.proofs.table.TableLog.end_read.Goals as goal

pub invariant_of-self : goal.invariant_of-self
invariant_of-self g c =
    let laws : QuietLaws = record { unbroken = c.unbroken_stays.ensures.calls; broken = c.broken_stays.ensures.calls } in
    record {
      knows = c.self.invariant.knows ∙ sym (still_broken laws true _ _ _ _ _ (record { disk = refl; reads = refl; memory = refl }) (c.end_read.ensures.step true));
      client = c.self.invariant.client;
      logged = still_logged c.steps_only_add_records.ensures true _ _ _ _ _ _ c.self.inside.memory c.stored.ensures.valid (c.end_read.ensures.step true) c.self.invariant.logged;
    }

pub returns-clause-step : goal.returns-clause-step
returns-clause-step g c = λ told rest.
    leads_call told _ _ _ (λ _. rest) (replied (λ _. replies.Done) c.end_read.result) _
    (same_step told _ _ _ _ _ _ _ _ _ (ap (λ v. v.0.log) c.self.view_is) (c.client.ensures ∙ ap (λ v. v.0.memory.client) c.self.view_is)
    (end_read_is _ _ _ (c.area.ensures ∙ ap (λ v. v.0.memory.area) c.self.view_is)) (c.end_read.ensures.step told))

pub returns-clause-same : goal.returns-clause-same
returns-clause-same g c =
    let laws : QuietLaws = record { unbroken = c.unbroken_stays.ensures.calls; broken = c.broken_stays.ensures.calls } in
    still_broken laws true _ _ _ _ _ (record { disk = refl; reads = refl; memory = refl }) (c.end_read.ensures.step true) ∙ ap (λ v. v.0.log.broken) c.self.view_is

pub returns-clause-ended : goal.returns-clause-ended
returns-clause-ended g c = λ told. (
  replied (λ _. replies.Done) c.end_read.result,
  same_step told _ _ _ _ _ _ _ _ _ (ap (λ v. v.0.log) c.self.view_is) (c.client.ensures ∙ ap (λ v. v.0.memory.client) c.self.view_is)
      (end_read_is _ _ _ (c.area.ensures ∙ ap (λ v. v.0.memory.area) c.self.view_is)) (c.end_read.ensures.step told),
)
