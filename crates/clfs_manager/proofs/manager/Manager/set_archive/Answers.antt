use mathlib.Core.Bool.{beq}
use Rattle.clfs_manager.proofs.WritingCalls.{stored_done, stored_faulted, call_stopped, call_idle}
use Rattle.clfs_manager.proofs.Words.{with_archive, option_map_or, if◌then◌else◌, is_none, is_some, Option, Some, None, ◌≡◌, ℕ, Bool, true, ap, ◌≤◌, refl}
use Rattle.clfs_manager.proofs.Words.{sym, subst, ◌∙◌, false, arith, container_of, Fine, State, hold, IsValid}
use Rattle.clfs_model.specs.declared.call.Call.TheVariants as calls
use Rattle.clfs_model.specs.declared.reply.Reply.TheVariants as replies
use Rattle.clfs_model.specs.Answers.{archiving}
use Rattle.clfs_manager.proofs.FlushKeeps.{on_ok, on_err, managed_broken}
use Rattle.clfs_manager.proofs.SettingsKeep.{archive_done}
use Rattle.clfs_manager.proofs.StoredKeeps.{managed_done}
use Rattle.clfs_manager.proofs.CurrentCopy.{current_on_disk}
use Rattle.clfs_manager.proofs.manager.Manager.set_archive.Goals as goal

on_as : (s : State) (found on : Bool) → found ≡ is_some s.archive → (beq found on) ≡ true → is_some s.archive ≡ on
on_as s true true is same = sym is
on_as s true false is same = absurd (cc same)
on_as s false true is same = absurd (cc same)
on_as s false false is same = sym is

stays_by : (s : State) (tail : Option ℕ) (on : Bool) → s.archive ≡ tail → is_some tail ≡ on → s ≡ archiving s on
stays_by s None true is same = absurd (cc same)
stays_by s None false is same = ap (λ (t : Option ℕ). record s { archive = t }) is
stays_by s (Some tail) true is same =
    ap (λ (t : Option ℕ). record s { archive = t }) (is ∙ ap (λ (t : Option ℕ). Some (option_map_or (λ (at : ℕ). at) t (hold s))) (sym is))
stays_by s (Some tail) false is same = absurd (cc same)

stays : (s : State) (on : Bool) → is_some s.archive ≡ on → s ≡ archiving s on
stays s on is = stays_by s s.archive on refl is

no_tail : (tail : Option ℕ) → false ≡ is_some tail → is_none tail ≡ true
no_tail None is = refl
no_tail (Some tail) is = absurd (cc is)

other : (s : State) (found on : Bool) → found ≡ is_some s.archive → (beq found on) ≡ false → (if on then is_none s.archive else is_some s.archive) ≡ true
other s true true is differs = absurd (cc differs)
other s true false is differs = sym is
other s false true is differs = no_tail s.archive is
other s false false is differs = absurd (cc differs)

pub change_archive-requires-clause-valid : goal.change_archive-requires-clause-valid
change_archive-requires-clause-valid g c =
    let s : State = c.self.inside.log.state.value in
    let managed = c.self.invariant in
    let step = c.calls_follow_laws.ensures.ways.answered false s 1 (calls.SetArchive c.args.on) (replies.Done) (archiving s c.args.on) (managed.broken ∙ c.if-self.false) refl refl refl in
    subst IsValid (sym (c.archive_for-tail.ensures)) (c.calls_follow_laws.ensures.valid false s 1 (calls.SetArchive c.args.on) Fine (replies.Done) (archiving s c.args.on) managed.valid step)

pub change_archive-requires-clause-up : goal.change_archive-requires-clause-up
change_archive-requires-clause-up g c =
    let s : State = c.self.inside.log.state.value in
    let managed = c.self.invariant in
    let step = c.calls_follow_laws.ensures.ways.answered false s 1 (calls.SetArchive c.args.on) (replies.Done) (archiving s c.args.on) (managed.broken ∙ c.if-self.false) refl refl refl in
    subst (λ (t : State). container_of (hold s) ≤ container_of (hold t)) (sym (c.archive_for-tail.ensures))
    (c.the_holds_container_never_falls.ensures.step false s 1 (calls.SetArchive c.args.on) Fine (replies.Done) (archiving s c.args.on) managed.valid step)

pub invariant_of-self : goal.invariant_of-self
invariant_of-self g c =
    managed_broken (g.D.Disk.state c.self.inside.disk) (g.D.Disk.state c.change_archive.new.disk) c.self.inside.log c.change_archive.new.self
    c.calls_follow_laws.ensures.opened_valid c.calls_follow_laws.ensures.opened_storable c.self.invariant c.if-self.false
    (on_err c.change_archive.result (sym c.is_err.ensures.value ∙ c.if-is_err.true) c.change_archive.ensures.change.broken)

pub invariant_of-self-2 : goal.invariant_of-self-2
invariant_of-self-2 g c =
    let old = c.self.inside.log in
    let s : State = old.state.value in
    let managed = c.self.invariant in
    let ok = sym c.is_err.ensures.value ∙ c.if-is_err.false in
    let t : State = archiving s c.args.on in
    let step = c.calls_follow_laws.ensures.ways.answered false s 1 (calls.SetArchive c.args.on) (replies.Done) t (managed.broken ∙ c.if-self.false) refl refl refl in
    managed_done (g.D.Disk.state c.self.inside.disk) (g.D.Disk.state c.change_archive.new.disk) old c.change_archive.new.self t 1 (calls.SetArchive c.args.on) (replies.Done)
    c.calls_follow_laws.ensures.valid c.calls_follow_laws.ensures.storable
    (record { is_client = record { least = omega arith; greatest = omega arith }; arguments = tt }) managed c.if-self.false step
    (archive_done (g.D.Disk.state c.self.inside.disk) (g.D.Disk.state c.change_archive.new.disk) old c.change_archive.new.self c.archive_for-tail.result t
    (c.archive_for-tail.ensures) (on_ok c.change_archive.result ok c.change_archive.ensures.change.state) (on_ok c.change_archive.result ok c.change_archive.ensures.change.holds)
    (on_ok c.change_archive.result ok c.change_archive.ensures.forgotten)
    (on_ok c.change_archive.result ok c.change_archive.ensures.same) (on_ok c.change_archive.result ok c.change_archive.ensures.change.stored)
    (on_ok c.change_archive.result ok c.change_archive.ensures.change.calls.settled) c.change_archive.ensures.change.calls.time.nature)

pub returns-then-self-clause-call : goal.returns-then-self-clause-call
returns-then-self-clause-call g c = λ client. call_stopped c.calls_follow_laws.ensures.ways g.D.Disk.state c.self.inside.log c.self.inside.disk c.args.self.now c.self.view_is c.self.invariant c.if-self.true client (calls.SetArchive c.args.on) (λ _. replies.Done)

pub returns-then-is_some-on-clause-call : goal.returns-then-is_some-on-clause-call
returns-then-is_some-on-clause-call g c = λ client. call_idle c.calls_follow_laws.ensures.crashes c.calls_follow_laws.ensures.ways g.D.Disk.state c.self.inside.log c.self.inside.disk c.args.self.now c.self.view_is c.self.invariant c.if-self.false client
    (calls.SetArchive c.args.on) (λ _. replies.Done) tt refl refl refl (stays c.self.inside.log.state.value c.args.on (on_as c.self.inside.log.state.value c.is_some.result c.args.on (c.is_some.ensures ∙ ap is_some (c.tail.ensures ∙ (c.self.invariant.whole c.if-self.false).memory.archive)) c.if-is_some-on.true))

pub returns-then-is_err-clause-call : goal.returns-then-is_err-clause-call
returns-then-is_err-clause-call g c = λ client. stored_faulted c.calls_follow_laws.ensures.crashes c.calls_follow_laws.ensures.ways c.calls_follow_laws.ensures.valid g.D.Disk.state c.self.inside.log c.change_archive.new.self c.self.inside.disk c.change_archive.new.disk c.args.self.now c.self.view_is c.self.invariant c.if-self.false client
    (calls.SetArchive c.args.on) (λ _. replies.Done) (with_archive c.archive_for-tail.result c.self.inside.log.state.value) refl (sym c.archive_for-tail.ensures)
    (other c.self.inside.log.state.value c.is_some.result c.args.on (c.is_some.ensures ∙ ap is_some (c.tail.ensures ∙ (c.self.invariant.whole c.if-self.false).memory.archive)) c.if-is_some-on.false)
    c.change_archive.result (sym c.is_err.ensures.value ∙ c.if-is_err.true) c.change_archive.ensures.change.broken c.change_archive.ensures.change.meanwhile c.change_archive.ensures.change.calls.time c.change_archive.ensures.change.calls.cause c.change_archive.ensures.change.calls.steady

pub returns-clause-call : goal.returns-clause-call
returns-clause-call g c = λ client. stored_done c.calls_follow_laws.ensures.crashes c.calls_follow_laws.ensures.ways c.calls_follow_laws.ensures.valid g.D.Disk.state c.self.inside.log c.change_archive.new.self c.self.inside.disk c.change_archive.new.disk c.args.self.now c.self.view_is c.self.invariant c.if-self.false client
    (calls.SetArchive c.args.on) (λ _. replies.Done) tt refl (with_archive c.archive_for-tail.result c.self.inside.log.state.value) refl refl (sym c.archive_for-tail.ensures)
    c.change_archive.result (sym c.is_err.ensures.value ∙ c.if-is_err.false) c.change_archive.ensures.change.state c.change_archive.ensures.change.stored c.change_archive.ensures.change.meanwhile c.change_archive.ensures.change.calls.time c.change_archive.ensures.change.calls.steady
    (invariant_of-self-2 g c) (on_ok c.change_archive.result (sym c.is_err.ensures.value ∙ c.if-is_err.false) c.change_archive.ensures.same).broken (on_ok c.change_archive.result (sym c.is_err.ensures.value ∙ c.if-is_err.false) c.change_archive.ensures.files)

pub returns-clause-current : goal.returns-clause-current
returns-clause-current g c = λ called.
    let ok = sym c.is_err.ensures.value ∙ c.if-is_err.false in
    let state = on_ok c.change_archive.result ok c.change_archive.ensures.change.state in
    current_on_disk (g.D.Disk.state c.change_archive.new.disk) c.change_archive.new.self (invariant_of-self-2 g c)
    (ap (λ (u : State). u.broken) state ∙ c.self.invariant.broken ∙ c.if-self.false) (on_ok c.change_archive.result ok c.change_archive.ensures.current)
