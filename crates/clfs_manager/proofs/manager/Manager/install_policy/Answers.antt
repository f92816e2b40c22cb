use Rattle.clfs_manager.proofs.WritingCalls.{stored_done, stored_faulted, call_stopped, call_refused}
use Rattle.clfs_manager.proofs.Words.{with_policies, refl, sym, ◌∙◌, false, arith, ap, State}
use Rattle.clfs_model.specs.declared.call.Call.TheVariants as calls
use Rattle.clfs_model.specs.declared.reply.Reply.TheVariants as replies
use Rattle.clfs_model.specs.Policies.{with_policy}
use Rattle.clfs_manager.proofs.FlushKeeps.{on_ok, on_err, managed_broken}
use Rattle.clfs_manager.proofs.SettingsKeep.{settings_done}
use Rattle.clfs_manager.proofs.StoredKeeps.{managed_done}
use Rattle.clfs_manager.proofs.Intact.{intact_managed}
use Rattle.clfs_manager.proofs.CurrentCopy.{current_on_disk}
use Rattle.clfs_manager.proofs.manager.Manager.install_policy.Goals as goal

pub invariant_of-self : goal.invariant_of-self
invariant_of-self g c =
    managed_broken (g.D.Disk.state c.self.inside.disk) (g.D.Disk.state c.store_policies.new.disk) c.self.inside.log c.store_policies.new.self
    c.calls_follow_laws.ensures.opened_valid c.calls_follow_laws.ensures.opened_storable c.self.invariant c.if-self.false
    (on_err c.store_policies.result (sym c.is_err.ensures.value ∙ c.if-is_err.true) c.store_policies.ensures.change.broken)

pub invariant_of-self-2 : goal.invariant_of-self-2
invariant_of-self-2 g c =
    let old = c.self.inside.log in
    let s : State = old.state.value in
    let managed = c.self.invariant in
    let ok = sym c.is_err.ensures.value ∙ c.if-is_err.false in
    let t : State = with_policy s c.args.policy in
    let step = c.calls_follow_laws.ensures.ways.answered false s 1 (calls.InstallPolicy c.args.policy) replies.Done t (managed.broken ∙ c.if-self.false)
    (sym c.policy_refusal.ensures ∙ c.in_default.is) refl refl in
    managed_done (g.D.Disk.state c.self.inside.disk) (g.D.Disk.state c.store_policies.new.disk) old c.store_policies.new.self t 1 (calls.InstallPolicy c.args.policy) replies.Done
    c.calls_follow_laws.ensures.valid c.calls_follow_laws.ensures.storable
    (record { is_client = record { least = omega arith; greatest = omega arith }; arguments = tt }) managed c.if-self.false step
    (settings_done (g.D.Disk.state c.self.inside.disk) (g.D.Disk.state c.store_policies.new.disk) old c.store_policies.new.self c.policies_with-policies.result t
    c.policies_with-policies.ensures.state (on_ok c.store_policies.result ok c.store_policies.ensures.change.state) (on_ok c.store_policies.result ok c.store_policies.ensures.change.holds)
    (on_ok c.store_policies.result ok c.store_policies.ensures.same) (on_ok c.store_policies.result ok c.store_policies.ensures.change.stored)
    (on_ok c.store_policies.result ok c.store_policies.ensures.change.calls.settled) c.store_policies.ensures.change.calls.time.nature)

pub policy_refusal-requires : goal.policy_refusal-requires
policy_refusal-requires g c = record { sound = (intact_managed (g.D.Disk.state c.self.inside.disk) c.self.inside.log c.self.invariant c.if-self.false).sound }

pub policies_with-policies-requires-clause-sound : goal.policies_with-policies-requires-clause-sound
policies_with-policies-requires-clause-sound g c = (intact_managed (g.D.Disk.state c.self.inside.disk) c.self.inside.log c.self.invariant c.if-self.false).sound

pub store_policies-requires-clause-sound : goal.store_policies-requires-clause-sound
store_policies-requires-clause-sound g c = (intact_managed (g.D.Disk.state c.self.inside.disk) c.self.inside.log c.self.invariant c.if-self.false).sound

pub returns-then-self-clause-call : goal.returns-then-self-clause-call
returns-then-self-clause-call g c = λ client. call_stopped c.calls_follow_laws.ensures.ways g.D.Disk.state c.self.inside.log c.self.inside.disk c.args.self.now c.self.view_is c.self.invariant c.if-self.true client (calls.InstallPolicy c.args.policy) (λ _. replies.Done)

pub returns-in-Some-clause-call : goal.returns-in-Some-clause-call
returns-in-Some-clause-call g c = λ client. call_refused c.calls_follow_laws.ensures.crashes c.calls_follow_laws.ensures.ways g.D.Disk.state c.self.inside.log c.self.inside.disk c.args.self.now c.self.view_is c.self.invariant c.if-self.false client
    (calls.InstallPolicy c.args.policy) (λ _. replies.Done) c.in-Some.refusal (sym c.policy_refusal.ensures ∙ c.in-Some.is)

pub returns-then-is_err-clause-call : goal.returns-then-is_err-clause-call
returns-then-is_err-clause-call g c = λ client. stored_faulted c.calls_follow_laws.ensures.crashes c.calls_follow_laws.ensures.ways c.calls_follow_laws.ensures.valid g.D.Disk.state c.self.inside.log c.store_policies.new.self c.self.inside.disk c.store_policies.new.disk c.args.self.now c.self.view_is c.self.invariant c.if-self.false client
    (calls.InstallPolicy c.args.policy) (λ _. replies.Done) (with_policies c.policies_with-policies.result c.self.inside.log.state.value) (sym c.policy_refusal.ensures ∙ c.in_default.is) (sym c.policies_with-policies.ensures.state) refl
    c.store_policies.result (sym c.is_err.ensures.value ∙ c.if-is_err.true) c.store_policies.ensures.change.broken c.store_policies.ensures.change.meanwhile c.store_policies.ensures.change.calls.time c.store_policies.ensures.change.calls.cause c.store_policies.ensures.change.calls.steady

pub returns-clause-call : goal.returns-clause-call
returns-clause-call g c = λ client. stored_done c.calls_follow_laws.ensures.crashes c.calls_follow_laws.ensures.ways c.calls_follow_laws.ensures.valid g.D.Disk.state c.self.inside.log c.store_policies.new.self c.self.inside.disk c.store_policies.new.disk c.args.self.now c.self.view_is c.self.invariant c.if-self.false client
    (calls.InstallPolicy c.args.policy) (λ _. replies.Done) tt refl (with_policies c.policies_with-policies.result c.self.inside.log.state.value) (sym c.policy_refusal.ensures ∙ c.in_default.is) refl (sym c.policies_with-policies.ensures.state)
    c.store_policies.result (sym c.is_err.ensures.value ∙ c.if-is_err.false) c.store_policies.ensures.change.state c.store_policies.ensures.change.stored c.store_policies.ensures.change.meanwhile c.store_policies.ensures.change.calls.time c.store_policies.ensures.change.calls.steady
    (invariant_of-self-2 g c) (on_ok c.store_policies.result (sym c.is_err.ensures.value ∙ c.if-is_err.false) c.store_policies.ensures.same).broken (on_ok c.store_policies.result (sym c.is_err.ensures.value ∙ c.if-is_err.false) c.store_policies.ensures.files)

pub returns-clause-current : goal.returns-clause-current
returns-clause-current g c =
    let ok = sym c.is_err.ensures.value ∙ c.if-is_err.false in
    let state = on_ok c.store_policies.result ok c.store_policies.ensures.change.state in
    current_on_disk (g.D.Disk.state c.store_policies.new.disk) c.store_policies.new.self (invariant_of-self-2 g c)
    (ap (λ (u : State). u.broken) state ∙ c.self.invariant.broken ∙ c.if-self.false) (on_ok c.store_policies.result ok c.store_policies.ensures.current)
