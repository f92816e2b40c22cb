use Rattle.clfs_txn.proofs.Words.{◌≡◌, ap, ◌∙◌, refl, false, true, subst, IsValid}
use Rattle.clfs_model.specs.declared.reply.Reply.TheVariants as replies
use Rattle.clfs_txn.proofs.Asked.{same_steps, append_is}
use Rattle.clfs_txn.proofs.Breaking.{Laws, kept_after, broken_then, whole_then, unchanged}
use Rattle.clfs_txn.proofs.Appended.{links_reply, cursors_reply}
use Rattle.clfs_txn.proofs.LoadParts.{no_damage}
use Rattle.clfs_txn.proofs.Moments.{call_leaves, none_leaves}
use Rattle.clfs_txn.proofs.table.TableLog.append.Goals as goal

pub invariant_of-self : goal.invariant_of-self
invariant_of-self g c =
    let laws : Laws = record { fault = c.faults_break.ensures.fault; damage = c.faults_break.ensures.damage; unbroken = c.unbroken_stays.ensures.calls; adds = c.steps_only_add_records.ensures } in
    let whole : c.self.inside.manager.0.broken ≡ false = ap (λ v. v.0.log.broken) c.self.view_is ∙ c.requires in
    kept_after laws _ _ _ replies.Placed c.append-reply.result _ c.self.inside.memory c.self.inside.broken _ c.stored.ensures.valid c.self.invariant
    (λ _. refl) whole (c.append-reply.ensures.call.step true) c.breaks-self-inside.ensures

pub returns-clause-whole : goal.returns-clause-whole
returns-clause-whole g c =
    let laws : Laws = record { fault = c.faults_break.ensures.fault; damage = c.faults_break.ensures.damage; unbroken = c.unbroken_stays.ensures.calls; adds = c.steps_only_add_records.ensures } in
    let whole : c.self.inside.manager.0.broken ≡ false = ap (λ v. v.0.log.broken) c.self.view_is ∙ c.requires in
    whole_then c.append-reply.result _ (broken_then laws true _ _ _ replies.Placed c.append-reply.result _ (λ _. refl) whole (c.append-reply.ensures.call.step true))

pub returns-clause-step : goal.returns-clause-step
returns-clause-step g c = λ told.
    same_steps told _ _ _ _ _ _ replies.Placed c.append-reply.result _ (ap (λ v. v.0.log) c.self.view_is)
    (c.client.ensures ∙ ap (λ v. v.0.memory.client) c.self.view_is)
    (append_is _ _ _ _ _ (c.area.ensures ∙ ap (λ v. v.0.memory.area) c.self.view_is) c.in_ok-draft.ensures c.none-sizes.ensures)
    (c.append-reply.ensures.call.step told)

pub returns-clause-kept : goal.returns-clause-kept
returns-clause-kept g c =
    unchanged c.refusals_change_nothing.ensures.calls true _ _ _ _ replies.Placed c.append-reply.result _ (ap (λ v. v.0.log) c.self.view_is)
    (c.append-reply.ensures.call.step true)

pub returns-clause-linked : goal.returns-clause-linked
returns-clause-linked g c =
    let valid : IsValid c.args.self.now.0.log = subst IsValid (ap (λ v. v.0.log) c.self.view_is) c.stored.ensures.valid in
    links_reply c.steps_only_add_records.ensures true _ _ _ _ c.append-reply.result _ valid c.requires refl (returns-clause-step g c true)

pub returns-clause-cursors : goal.returns-clause-cursors
returns-clause-cursors g c = cursors_reply true _ _ _ _ c.append-reply.result _ c.requires refl (returns-clause-step g c true)

pub returns-clause-no_damage : goal.returns-clause-no_damage
returns-clause-no_damage g c = λ container offset at.
    no_damage true _ _ _ replies.Placed c.append-reply.result _ container offset at refl (c.append-reply.ensures.call.step true)

pub returns-clause-moments : goal.returns-clause-moments
returns-clause-moments g c = λ under.
    call_leaves g.D.Disk.state under _ _ _ _ _ _ _ _ _ (c.client.ensures ∙ ap (λ v. v.0.memory.client) c.self.view_is)
    (append_is _ _ _ _ _ (c.area.ensures ∙ ap (λ v. v.0.memory.area) c.self.view_is) c.in_ok-draft.ensures c.none-sizes.ensures)
    (ap (λ v. v.0.log) c.self.view_is) (ap (λ v. v.1) c.self.view_is) c.requires c.append-reply.ensures.call.moments

pub returns-in_err-draft-clause-moments : goal.returns-in_err-draft-clause-moments
returns-in_err-draft-clause-moments g c = λ under.
    none_leaves g.D.Disk.state under _ _ _ _ _ _ (ap (λ v. v.0.log) c.self.view_is) (ap (λ v. v.1) c.self.view_is)
    c.requires c.stored.ensures.survives
