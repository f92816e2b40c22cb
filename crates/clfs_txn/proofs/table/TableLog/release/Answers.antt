use Rattle.clfs_txn.proofs.Words.{◌≡◌, ap, ◌∙◌, refl, false, true}
use Rattle.clfs_model.specs.declared.reply.Reply.TheVariants as replies
use Rattle.clfs_txn.proofs.Breaking.{Laws, kept_after}
use Rattle.clfs_txn.proofs.Written.{no_fault, no_want}
use Rattle.clfs_txn.proofs.LoadParts.{no_damage}
use Rattle.clfs_txn.proofs.table.TableLog.release.Goals as goal

pub invariant_of-self : goal.invariant_of-self
invariant_of-self g c =
    let laws : Laws = record { fault = c.faults_break.ensures.fault; damage = c.faults_break.ensures.damage; unbroken = c.unbroken_stays.ensures.calls; adds = c.steps_only_add_records.ensures } in
    let whole : c.self.inside.manager.0.broken ≡ false = ap (λ v. v.0.log.broken) c.self.view_is ∙ c.requires in
    kept_after laws _ _ _ replies.Held c.release-reply.result _ c.self.inside.memory c.self.inside.broken _ c.stored.ensures.valid c.self.invariant
    (λ _. refl) whole (c.release-reply.ensures.step true) c.breaks-self-inside.ensures

pub returns-clause-calm : goal.returns-clause-calm
returns-clause-calm g c =
    let whole : c.self.inside.manager.0.broken ≡ false = ap (λ v. v.0.log.broken) c.self.view_is ∙ c.requires in
    no_fault true _ _ _ replies.Held c.release-reply.result _ whole refl (c.release-reply.ensures.step true)

pub returns-clause-fed : goal.returns-clause-fed
returns-clause-fed g c =
    let whole : c.self.inside.manager.0.broken ≡ false = ap (λ v. v.0.log.broken) c.self.view_is ∙ c.requires in
    no_want c.refusals_are_the_calls_own.ensures.own _ _ _ _ c.release-reply.result _ whole (c.release-reply.ensures.step true)

pub returns-clause-no_damage : goal.returns-clause-no_damage
returns-clause-no_damage g c = λ container offset at.
    no_damage true _ _ _ replies.Held c.release-reply.result _ container offset at refl (c.release-reply.ensures.step true)
