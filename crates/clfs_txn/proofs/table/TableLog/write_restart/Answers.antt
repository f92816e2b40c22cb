use Rattle.clfs_txn.proofs.Words.{◌≡◌, ap, ◌∙◌, refl, false, true, checkpoint_bytes, checkpoint_of}
use Rattle.clfs_model.specs.declared.reply.Reply.TheVariants as replies
use Rattle.clfs_txn.proofs.Asked.{same_steps, restart_is}
use Rattle.clfs_txn.proofs.Breaking.{Laws, kept_after, unchanged}
use Rattle.clfs_txn.proofs.Moments.{call_leaves, none_leaves}
use Rattle.clfs_txn.proofs.table.TableLog.write_restart.Goals as goal

pub invariant_of-self : goal.invariant_of-self
invariant_of-self g c =
    let laws : Laws = record { fault = c.faults_break.ensures.fault; damage = c.faults_break.ensures.damage; unbroken = c.unbroken_stays.ensures.calls; adds = c.steps_only_add_records.ensures } in
    let whole : c.self.inside.manager.0.broken ≡ false = ap (λ v. v.0.log.broken) c.self.view_is ∙ c.requires in
    kept_after laws _ _ _ replies.Placed c.write_restart-reply.result _ c.self.inside.memory c.self.inside.broken _ c.stored.ensures.valid c.self.invariant
    (λ _. refl) whole (c.write_restart-reply.ensures.call.step true) c.breaks-self-inside.ensures

pub returns-clause-step : goal.returns-clause-step
returns-clause-step g c = λ told.
    same_steps told _ _ _ _ _ _ replies.Placed c.write_restart-reply.result _ (ap (λ v. v.0.log) c.self.view_is)
    (c.client.ensures ∙ ap (λ v. v.0.memory.client) c.self.view_is)
    (restart_is _ _ _ _ _ (c.area.ensures ∙ ap (λ v. v.0.memory.area) c.self.view_is)
    (c.in_ok-bytes.ensures.held ∙ ap checkpoint_bytes (c.checkpoint-checkpoint.ensures ∙ ap (λ v. checkpoint_of v.0.memory) c.self.view_is)))
    (c.write_restart-reply.ensures.call.step told)

pub returns-clause-kept : goal.returns-clause-kept
returns-clause-kept g c =
    unchanged c.refusals_change_nothing.ensures.calls true _ _ _ _ replies.Placed c.write_restart-reply.result _ (ap (λ v. v.0.log) c.self.view_is)
    (c.write_restart-reply.ensures.call.step true)

pub returns-clause-moments : goal.returns-clause-moments
returns-clause-moments g c = λ under.
    call_leaves g.D.Disk.state under _ _ _ _ _ _ _ _ _ (c.client.ensures ∙ ap (λ v. v.0.memory.client) c.self.view_is)
    (restart_is _ _ _ _ _ (c.area.ensures ∙ ap (λ v. v.0.memory.area) c.self.view_is)
    (c.in_ok-bytes.ensures.held ∙ ap checkpoint_bytes (c.checkpoint-checkpoint.ensures ∙ ap (λ v. checkpoint_of v.0.memory) c.self.view_is)))
    (ap (λ v. v.0.log) c.self.view_is) (ap (λ v. v.1) c.self.view_is) c.requires c.write_restart-reply.ensures.call.moments

pub returns-in_err-bytes-clause-moments : goal.returns-in_err-bytes-clause-moments
returns-in_err-bytes-clause-moments g c = λ under.
    none_leaves g.D.Disk.state under _ _ _ _ _ _ (ap (λ v. v.0.log) c.self.view_is) (ap (λ v. v.1) c.self.view_is)
    c.requires c.stored.ensures.survives
