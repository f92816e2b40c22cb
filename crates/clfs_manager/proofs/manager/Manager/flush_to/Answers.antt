use Rattle.clfs_manager.proofs.Words.{is_pending, nat_tests, ◌&&◌, nat_le, nat_lt, ◌≡◌, Bool, true, arith, WritesAs, ℕ, false, refl, sym, ap, subst, ◌∙◌}
use Rattle.clfs_manager.proofs.Words.{Result, Refusal, State, flush, flushed}
use Rattle.clfs_manager.proofs.WritingCalls.{fault_calls, flushed_written, call_idle, call_refused, call_stopped, stored_done, stored_faulted}
use Rattle.clfs_manager.proofs.Intact.{intact_managed}
use Rattle.clfs_manager.proofs.OwnRefusals.{error_of}
use Rattle.clfs_model.specs.declared.call.Call.TheVariants as calls
use Rattle.clfs_model.specs.declared.reply.Reply.TheVariants as replies
use Rattle.clfs_manager.proofs.FlushKeeps.{is_above, is_later, on_ok, on_err, managed_broken, managed_flushed}
use Rattle.clfs_manager.proofs.KeptFiles.{files_flushed}
use Rattle.clfs_manager.proofs.manager.Manager.flush_to.Goals as goal

asked_to : (lsn stable : ℕ) (pending : Bool) → nat_lt lsn stable ≡ false → pending ≡ true → (nat_le stable lsn && pending) ≡ true
asked_to lsn stable pending later is = let least : nat_le stable lsn ≡ true = grind (arith, nat_tests, later) in rw (least, is) refl

pub invariant_of-self : goal.invariant_of-self
invariant_of-self g c =
    managed_broken (g.D.Disk.state c.self.inside.disk) (g.D.Disk.state c.write_out.new.disk) c.self.inside.log c.write_out.new.self
    c.calls_follow_laws.ensures.opened_valid c.calls_follow_laws.ensures.opened_storable c.self.invariant c.if-self.false
    (on_err c.write_out.result (sym c.is_err.ensures.value ∙ c.if-is_err.true) c.write_out.ensures.change.broken)

pub invariant_of-self-2 : goal.invariant_of-self-2
invariant_of-self-2 g c =
    let old = c.self.inside.log in
    let s : State = old.state.value in
    let managed = c.self.invariant in
    let ok = sym c.is_err.ensures.value ∙ c.if-is_err.false in
    let later = is_later c.args.lsn (flushed s) (sym c.in_ok-found.ensures.above ∙ c.in_default.is) in
    let none = c.in_ok-found.ensures.allowed in
    let step = c.calls_follow_laws.ensures.ways.answered false s c.args.client (calls.FlushTo c.args.area c.args.lsn) (replies.Flushed (flushed (flush s))) (flush s) (managed.broken ∙ c.if-self.false)
    none (rw later refl) (rw later refl) in
    managed_flushed (g.D.Disk.state c.self.inside.disk) (g.D.Disk.state c.write_out.new.disk) old c.write_out.new.self c.args.client (calls.FlushTo c.args.area c.args.lsn) _
    c.calls_follow_laws.ensures.valid c.calls_follow_laws.ensures.storable (record { is_client = c.requires.client; arguments = tt })
    managed c.if-self.false (on_ok c.write_out.result ok c.write_out.ensures.change.state) step (on_ok c.write_out.result ok c.write_out.ensures.change.holds)
    (on_ok c.write_out.result ok c.write_out.ensures.same) (on_ok c.write_out.result ok c.write_out.ensures.change.stored)
    (on_ok c.write_out.result ok c.write_out.ensures.change.calls.settled) c.write_out.ensures.change.calls.time.nature

pub flushed_above-requires : goal.flushed_above-requires
flushed_above-requires g c = record { sound = (intact_managed (g.D.Disk.state c.self.inside.disk) c.self.inside.log c.self.invariant c.if-self.false).sound }

pub write_out-requires : goal.write_out-requires
write_out-requires g c = record { sound = (intact_managed (g.D.Disk.state c.self.inside.disk) c.self.inside.log c.self.invariant c.if-self.false).sound }

pub returns-then-self-clause-call : goal.returns-then-self-clause-call
returns-then-self-clause-call g c = call_stopped c.calls_follow_laws.ensures.ways g.D.Disk.state c.self.inside.log c.self.inside.disk c.args.self.now c.self.view_is c.self.invariant c.if-self.true c.args.client (calls.FlushTo c.args.area c.args.lsn) replies.Flushed

pub returns-in_err-found-clause-call : goal.returns-in_err-found-clause-call
returns-in_err-found-clause-call g c =
    subst (λ (r : Result ℕ Refusal). WritesAs g.D.Disk.state c.args.client (calls.FlushTo c.args.area c.args.lsn) replies.Flushed r c.args.self.now c.args.self.now)
    (sym (error_of c.from_residual.result c.in_err-found.field-0.0 c.from_residual.ensures.1))
    (call_refused c.calls_follow_laws.ensures.crashes c.calls_follow_laws.ensures.ways g.D.Disk.state c.self.inside.log c.self.inside.disk c.args.self.now c.self.view_is c.self.invariant c.if-self.false c.args.client (calls.FlushTo c.args.area c.args.lsn) replies.Flushed
    c.in_err-found.field-0.0 c.in_err-found.ensures.refused)

pub returns-in-Some-clause-call : goal.returns-in-Some-clause-call
returns-in-Some-clause-call g c =
    let is = is_above c.args.lsn (flushed c.self.inside.log.state.value) c.in-Some.stable (sym c.in_ok-found.ensures.above ∙ c.in-Some.is) in
    call_idle c.calls_follow_laws.ensures.crashes c.calls_follow_laws.ensures.ways g.D.Disk.state c.self.inside.log c.self.inside.disk c.args.self.now c.self.view_is c.self.invariant c.if-self.false c.args.client (calls.FlushTo c.args.area c.args.lsn) replies.Flushed
    c.in-Some.stable refl c.in_ok-found.ensures.allowed (rw is.0 (ap (λ (n : ℕ). replies.Flushed n) is.1)) (rw is.0 refl)

pub returns-then-is_err-clause-call : goal.returns-then-is_err-clause-call
returns-then-is_err-clause-call g c =
    let later = is_later c.args.lsn (flushed c.self.inside.log.state.value) (sym c.in_ok-found.ensures.above ∙ c.in_default.is) in
    stored_faulted c.calls_follow_laws.ensures.crashes c.calls_follow_laws.ensures.ways c.calls_follow_laws.ensures.valid g.D.Disk.state c.self.inside.log c.write_out.new.self c.self.inside.disk c.write_out.new.disk c.args.self.now c.self.view_is c.self.invariant c.if-self.false c.args.client
    (calls.FlushTo c.args.area c.args.lsn) replies.Flushed (flush c.self.inside.log.state.value) c.in_ok-found.ensures.allowed (rw later refl)
    (asked_to c.args.lsn (flushed c.self.inside.log.state.value) (is_pending c.self.inside.log.state.value) later (fault_calls (is_pending c.self.inside.log.state.value) c.write_out.result _ c.write_out.ensures.quiet (sym c.is_err.ensures.value ∙ c.if-is_err.true)))
    c.write_out.result (sym c.is_err.ensures.value ∙ c.if-is_err.true) c.write_out.ensures.change.broken c.write_out.ensures.change.meanwhile c.write_out.ensures.change.calls.time c.write_out.ensures.change.calls.cause c.write_out.ensures.change.calls.steady

pub returns-clause-call : goal.returns-clause-call
returns-clause-call g c =
    let later = is_later c.args.lsn (flushed c.self.inside.log.state.value) (sym c.in_ok-found.ensures.above ∙ c.in_default.is) in
    stored_done c.calls_follow_laws.ensures.crashes c.calls_follow_laws.ensures.ways c.calls_follow_laws.ensures.valid g.D.Disk.state c.self.inside.log c.write_out.new.self c.self.inside.disk c.write_out.new.disk c.args.self.now c.self.view_is c.self.invariant c.if-self.false c.args.client
    (calls.FlushTo c.args.area c.args.lsn) replies.Flushed c.flushed.result refl (flush c.self.inside.log.state.value) c.in_ok-found.ensures.allowed
    (rw later (ap replies.Flushed (flushed_written c.self.inside.log.state.value c.write_out.new.self c.flushed.result (on_ok c.write_out.result (sym c.is_err.ensures.value ∙ c.if-is_err.false) c.write_out.ensures.change.state)
    (on_ok c.write_out.result (sym c.is_err.ensures.value ∙ c.if-is_err.false) c.write_out.ensures.change.holds) c.flushed.ensures.none))) (rw later refl)
    c.write_out.result (sym c.is_err.ensures.value ∙ c.if-is_err.false) c.write_out.ensures.change.state c.write_out.ensures.change.stored c.write_out.ensures.change.meanwhile c.write_out.ensures.change.calls.time c.write_out.ensures.change.calls.steady
    (invariant_of-self-2 g c) (on_ok c.write_out.result (sym c.is_err.ensures.value ∙ c.if-is_err.false) c.write_out.ensures.same).broken
    (files_flushed (g.D.Disk.state c.self.inside.disk) (g.D.Disk.state c.write_out.new.disk) _ _ (on_ok c.write_out.result (sym c.is_err.ensures.value ∙ c.if-is_err.false) c.write_out.ensures.same).physical c.write_out.ensures.lengths)
