use Rattle.clfs_manager.proofs.Words.{nat_tests, ◌==◌, Err, None, Ok, Result, not, asks, Refusal, WritesAs, Log, ◌≡◌, ℕ, true, arith, subst, refl, sym, ap}
use Rattle.clfs_manager.proofs.Words.{◌∙◌, false, Fine, State, size_refusal, with_containers, PhysicalRefusal, CopyIsCurrent}
use Rattle.clfs_manager.proofs.CopyingCalls.{crash_answered, crash_not_grown}
use Rattle.clfs_manager.proofs.WritingCalls.{sized_fine, sized_faulted, sized_starved, call_done, call_faulted, call_starved, call_idle, call_refused}
use Rattle.clfs_manager.proofs.WritingCalls.{call_stopped}
use Rattle.clfs_model.specs.declared.call.Call.TheVariants as calls
use Rattle.clfs_model.specs.declared.reply.Reply.TheVariants as replies
use Rattle.clfs_manager.proofs.FlushKeeps.{managed_broken}
use Rattle.clfs_manager.proofs.Intact.{intact_managed, managed_intact, writes_seen}
use Rattle.clfs_manager.proofs.CurrentCopy.{current_answered}
use Rattle.clfs_manager.proofs.KeptFiles.{copy_of_call, not_faulted}
use Rattle.clfs_manager.proofs.manager.Manager.set_size.Goals.{in-Ok, in-Err-DiskFault, in-Err-NoMemory}
use Rattle.clfs_manager.proofs.manager.Manager.set_size.Goals as goal

unlike : (a b : ℕ) → (a ≡ b → ⊥) → not (a == b) ≡ true
unlike a b differs = grind (arith, nat_tests, differs)

like : (a b : ℕ) → a ≡ b → not (a == b) ≡ true → ⊥
like a b same differs = grind (arith, nat_tests, same, differs)

pub resize-requires-clause-intact : goal.resize-requires-clause-intact
resize-requires-clause-intact g c = intact_managed (g.D.Disk.state c.self.inside.disk) c.self.inside.log c.self.invariant c.if-self.false

pub resize-requires-clause-valid : goal.resize-requires-clause-valid
resize-requires-clause-valid g c =
    let s : State = c.self.inside.log.state.value in
    let n = c.args.containers in
    let managed = c.self.invariant in
    let step = c.calls_follow_laws.ensures.ways.answered false s 1 (calls.SetSize n) (replies.Containers n) (with_containers n s) (managed.broken ∙ c.if-self.false)
    (ap (λ (t : State). size_refusal t c.args.containers) (sym c.space.ensures) ∙ sym c.size_refusal.ensures ∙ c.in_default.is) refl refl in
    c.calls_follow_laws.ensures.valid false s 1 (calls.SetSize n) Fine (replies.Containers n) (with_containers n s) managed.valid step

pub invariant_of-self : goal.invariant_of-self
invariant_of-self g c =
    let old = c.self.inside.log in
    let new = g.D.Disk.state c.resize.new.disk in
    elim c.match-resize.branch [
      | in-Ok w ↦ managed_intact new c.resize.new.self w.in-Ok.ensures.change.intact
      | in-Err-DiskFault w ↦
          let done = rw w.in-Err-DiskFault.field-0-is at w.in-Err-DiskFault.ensures in
          managed_broken (g.D.Disk.state c.self.inside.disk) new old c.resize.new.self c.calls_follow_laws.ensures.opened_valid
          c.calls_follow_laws.ensures.opened_storable c.self.invariant c.if-self.false (done.change.broken refl)
      | in-Err-NoMemory w ↦
          let done = rw w.in-Err-NoMemory.field-0-is at w.in-Err-NoMemory.ensures in managed_intact new c.resize.new.self (done.change.kept refl)
    ]

pub space-requires : goal.space-requires
space-requires g c = record { sound = (intact_managed (g.D.Disk.state c.self.inside.disk) c.self.inside.log c.self.invariant c.if-self.false).sound }

pub returns-then-self-clause-call : goal.returns-then-self-clause-call
returns-then-self-clause-call g c = λ client. call_stopped c.calls_follow_laws.ensures.ways g.D.Disk.state c.self.inside.log c.self.inside.disk c.args.self.now c.self.view_is c.self.invariant c.if-self.true client (calls.SetSize c.args.containers) replies.Containers

pub returns-in-Some-clause-call : goal.returns-in-Some-clause-call
returns-in-Some-clause-call g c = λ client. call_refused c.calls_follow_laws.ensures.crashes c.calls_follow_laws.ensures.ways g.D.Disk.state c.self.inside.log c.self.inside.disk c.args.self.now c.self.view_is c.self.invariant c.if-self.false client (calls.SetSize c.args.containers) replies.Containers
    c.in-Some.refusal (ap (λ (t : State). size_refusal t c.args.containers) (sym c.space.ensures) ∙ sym c.size_refusal.ensures ∙ c.in-Some.is)

pub returns-then-containers-clause-call : goal.returns-then-containers-clause-call
returns-then-containers-clause-call g c = λ client. call_idle c.calls_follow_laws.ensures.crashes c.calls_follow_laws.ensures.ways g.D.Disk.state c.self.inside.log c.self.inside.disk c.args.self.now c.self.view_is c.self.invariant c.if-self.false client (calls.SetSize c.args.containers) replies.Containers
    c.args.containers refl (ap (λ (t : State). size_refusal t c.args.containers) (sym c.space.ensures) ∙ sym c.size_refusal.ensures ∙ c.in_default.is) refl
    (ap (λ (n : ℕ). with_containers n c.self.inside.log.state.value) (sym (c.if-containers.true ∙ c.containers.ensures.value)))

pub returns-clause-call : goal.returns-clause-call
returns-clause-call g c = λ client.
    let s : State = c.self.inside.log.state.value in
    let call = calls.SetSize c.args.containers in
    let none : size_refusal s c.args.containers ≡ None = ap (λ (t : State). size_refusal t c.args.containers) (sym c.space.ensures) ∙ sym c.size_refusal.ensures ∙ c.in_default.is in
    let Writes : Result ℕ Refusal → Type 0 = λ r. WritesAs g.D.Disk.state client call replies.Containers r c.args.self.now (c.resize.new.self.state.value, c.resize.new.disk) in
    let old = g.D.Disk.state c.self.inside.disk in
    let new = g.D.Disk.state c.resize.new.disk in
    let moments = crash_answered c.calls_follow_laws.ensures.crashes g.D.Disk.state c.self.inside.log c.self.inside.disk c.args.self.now c.self.view_is c.self.invariant client call
    (with_containers c.args.containers s) (g.D.Disk.state c.resize.new.disk) none refl (c.resize.ensures.change.moments (asks client call) s) in
    elim c.match-resize.branch [
      | in-Ok w ↦ subst Writes (sym w.result-is) (call_done c.calls_follow_laws.ensures.ways g.D.Disk.state c.self.inside.log c.resize.new.self c.self.inside.disk c.resize.new.disk c.args.self.now c.self.view_is c.self.invariant c.if-self.false
          client call replies.Containers c.args.containers refl none refl w.in-Ok.ensures.change.state
          (writes_seen g.D.Disk.state (s, c.self.inside.disk) c.args.self.now c.self.view_is _ new (sized_fine c.resize.result w.in-Ok.field-0 c.args.containers old new w.in-Ok.is c.resize.ensures.change.writes)) moments
          (copy_of_call g.D.Disk.state c.self.inside.log c.resize.new.self c.self.inside.disk c.resize.new.disk c.args.self.now c.self.view_is c.self.invariant c.if-self.false
          (invariant_of-self g c).whole c.resize.ensures.change.writes.time.nature _ (λ fine. w.in-Ok.ensures.change.files (λ f. cc f))))
      | in-Err-DiskFault w ↦
          let done = rw w.in-Err-DiskFault.field-0-is at w.in-Err-DiskFault.ensures in
          subst Writes (sym w.result-is) (call_faulted c.calls_follow_laws.ensures.ways g.D.Disk.state c.self.inside.log c.resize.new.self c.self.inside.disk c.resize.new.disk c.args.self.now c.self.view_is c.self.invariant c.if-self.false
          client call replies.Containers none (unlike c.args.containers s.containers (λ same. c.if-containers.false (same ∙ sym c.containers.ensures.value))) (done.change.broken refl)
          (writes_seen g.D.Disk.state (s, c.self.inside.disk) c.args.self.now c.self.view_is _ new (sized_faulted c.resize.result old new (w.in-Err-DiskFault.is ∙ ap (λ e. Err e) w.in-Err-DiskFault.field-0-is) c.resize.ensures.change.writes)) moments)
      | in-Err-NoMemory w ↦
          let done = rw w.in-Err-NoMemory.field-0-is at w.in-Err-NoMemory.ensures in
          subst Writes (sym w.result-is) (call_starved c.calls_follow_laws.ensures.ways g.D.Disk.state c.self.inside.log c.resize.new.self c.self.inside.disk c.resize.new.disk c.args.self.now c.self.view_is c.self.invariant c.if-self.false
          client call replies.Containers refl (ap (λ (log : Log). log.state.value) (done.change.no_memory refl))
          (writes_seen g.D.Disk.state (s, c.self.inside.disk) c.args.self.now c.self.view_is _ new (sized_starved c.resize.result old new (w.in-Err-NoMemory.is ∙ ap (λ e. Err e) w.in-Err-NoMemory.field-0-is) c.resize.ensures.change.writes)) moments
          (crash_not_grown c.calls_follow_laws.ensures.crashes g.D.Disk.state c.self.inside.log c.self.inside.disk c.args.self.now c.self.view_is c.self.invariant new
          (done.change.old_size refl))
          (copy_of_call g.D.Disk.state c.self.inside.log c.resize.new.self c.self.inside.disk c.resize.new.disk c.args.self.now c.self.view_is c.self.invariant c.if-self.false
          (invariant_of-self g c).whole c.resize.ensures.change.writes.time.nature _ (λ fine. done.change.files not_faulted)))
    ]

pub returns-clause-current : goal.returns-clause-current
returns-clause-current g c = λ called.
    let new = g.D.Disk.state c.resize.new.disk in
    let Current : Result ℕ Refusal → Type 0 = λ r. CopyIsCurrent r new in
    elim c.match-resize.branch [
      | in-Ok w ↦ subst Current (sym w.result-is) (current_answered {E = PhysicalRefusal} (Ok (tt {0})) new c.resize.new.self w.in-Ok.ensures.change.intact w.in-Ok.ensures.current)
      | in-Err-DiskFault w ↦ subst Current (sym w.result-is) (tt {0})
      | in-Err-NoMemory w ↦ subst Current (sym w.result-is) (tt {0})
    ]

pub returns-then-containers-clause-current : goal.returns-then-containers-clause-current
returns-then-containers-clause-current g c = λ called.
    let s : State = c.self.inside.log.state.value in
    let changes : not (c.args.containers == s.containers) ≡ true = rw (← c.self.view_is) at called in
    absurd (like c.args.containers s.containers (c.if-containers.true ∙ c.containers.ensures.value) changes)
