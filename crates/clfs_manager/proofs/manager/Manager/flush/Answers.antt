use Rattle.clfs_manager.proofs.Words.{ap, Area, is_pending, Result, ℕ, subst, Refusal, WritesAs, ◌≡◌, refl, sym, ◌∙◌, false, None, State, flush, flushed}
use Rattle.clfs_manager.proofs.Words.{refusal}
use Rattle.clfs_manager.proofs.OwnRefusals.{error_of}
use Rattle.clfs_manager.proofs.WritingCalls.{fault_calls, flushed_written, call_refused, call_stopped, stored_done, stored_faulted}
use Rattle.clfs_manager.proofs.Intact.{intact_managed}
use Rattle.clfs_model.specs.declared.call.Call.TheVariants as calls
use Rattle.clfs_model.specs.declared.reply.Reply.TheVariants as replies
use Rattle.clfs_manager.proofs.FlushKeeps.{on_ok, on_err, managed_broken, managed_flushed}
use Rattle.clfs_manager.proofs.KeptFiles.{files_flushed}
use Rattle.clfs_manager.proofs.manager.Manager.flush.Goals as goal

pub invariant_of-self : goal.invariant_of-self
invariant_of-self g c =
    managed_broken (g.D.Disk.state c.self.inside.disk) (g.D.Disk.state c.write_out.new.disk) c.self.inside.log c.write_out.new.self
    c.calls_follow_laws.ensures.opened_valid c.calls_follow_laws.ensures.opened_storable c.self.invariant c.if-self.false
    (on_err c.write_out.result (sym c.is_err.ensures.value ∙ c.if-is_err.true) c.write_out.ensures.change.broken)

pub invariant_of-self-2 : goal.invariant_of-self-2
invariant_of-self-2 g c =
    let old = c.self.inside.log in
    let s : State = old.state.value in
    let managed = c.self.invariant in
    let ok = sym c.is_err.ensures.value ∙ c.if-is_err.false in
    let there = c.in_ok-area_place.ensures.there in
    let none : refusal s c.args.client (calls.Flush c.args.area) ≡ None = rw there refl in
    let step = c.calls_follow_laws.ensures.ways.answered false s c.args.client (calls.Flush c.args.area) (replies.Flushed (flushed (flush s))) (flush s) (managed.broken ∙ c.if-self.false)
    none refl refl in
    managed_flushed (g.D.Disk.state c.self.inside.disk) (g.D.Disk.state c.write_out.new.disk) old c.write_out.new.self c.args.client (calls.Flush c.args.area) _
    c.calls_follow_laws.ensures.valid c.calls_follow_laws.ensures.storable (record { is_client = c.requires.client; arguments = tt })
    managed c.if-self.false (on_ok c.write_out.result ok c.write_out.ensures.change.state) step (on_ok c.write_out.result ok c.write_out.ensures.change.holds)
    (on_ok c.write_out.result ok c.write_out.ensures.same) (on_ok c.write_out.result ok c.write_out.ensures.change.stored)
    (on_ok c.write_out.result ok c.write_out.ensures.change.calls.settled) c.write_out.ensures.change.calls.time.nature

pub area_place-requires : goal.area_place-requires
area_place-requires g c = record { sound = (intact_managed (g.D.Disk.state c.self.inside.disk) c.self.inside.log c.self.invariant c.if-self.false).sound }

pub write_out-requires : goal.write_out-requires
write_out-requires g c = record { sound = (intact_managed (g.D.Disk.state c.self.inside.disk) c.self.inside.log c.self.invariant c.if-self.false).sound }

pub returns-then-self-clause-call : goal.returns-then-self-clause-call
returns-then-self-clause-call g c = call_stopped c.calls_follow_laws.ensures.ways g.D.Disk.state c.self.inside.log c.self.inside.disk c.args.self.now c.self.view_is c.self.invariant c.if-self.true c.args.client (calls.Flush c.args.area) replies.Flushed

pub returns-in_err-area_place-clause-call : goal.returns-in_err-area_place-clause-call
returns-in_err-area_place-clause-call g c =
    subst (λ (r : Result ℕ Refusal). WritesAs g.D.Disk.state c.args.client (calls.Flush c.args.area) replies.Flushed r c.args.self.now c.args.self.now)
    (sym (error_of c.from_residual.result c.in_err-area_place.field-0.0 c.from_residual.ensures.1))
    (call_refused c.calls_follow_laws.ensures.crashes c.calls_follow_laws.ensures.ways g.D.Disk.state c.self.inside.log c.self.inside.disk c.args.self.now c.self.view_is c.self.invariant c.if-self.false c.args.client (calls.Flush c.args.area) replies.Flushed
    c.in_err-area_place.field-0.0 (c.in_err-area_place.ensures.told (λ (area : Area). None)))

pub returns-then-is_err-clause-call : goal.returns-then-is_err-clause-call
returns-then-is_err-clause-call g c = stored_faulted c.calls_follow_laws.ensures.crashes c.calls_follow_laws.ensures.ways c.calls_follow_laws.ensures.valid g.D.Disk.state c.self.inside.log c.write_out.new.self c.self.inside.disk c.write_out.new.disk c.args.self.now c.self.view_is c.self.invariant c.if-self.false c.args.client
    (calls.Flush c.args.area) replies.Flushed (flush c.self.inside.log.state.value) (rw c.in_ok-area_place.ensures.there refl) refl
    (fault_calls (is_pending c.self.inside.log.state.value) c.write_out.result _ c.write_out.ensures.quiet (sym c.is_err.ensures.value ∙ c.if-is_err.true))
    c.write_out.result (sym c.is_err.ensures.value ∙ c.if-is_err.true) c.write_out.ensures.change.broken c.write_out.ensures.change.meanwhile c.write_out.ensures.change.calls.time c.write_out.ensures.change.calls.cause c.write_out.ensures.change.calls.steady

pub returns-clause-call : goal.returns-clause-call
returns-clause-call g c = stored_done c.calls_follow_laws.ensures.crashes c.calls_follow_laws.ensures.ways c.calls_follow_laws.ensures.valid g.D.Disk.state c.self.inside.log c.write_out.new.self c.self.inside.disk c.write_out.new.disk c.args.self.now c.self.view_is c.self.invariant c.if-self.false c.args.client
    (calls.Flush c.args.area) replies.Flushed c.flushed.result refl (flush c.self.inside.log.state.value) (rw c.in_ok-area_place.ensures.there refl)
    (ap replies.Flushed (flushed_written c.self.inside.log.state.value c.write_out.new.self c.flushed.result (on_ok c.write_out.result (sym c.is_err.ensures.value ∙ c.if-is_err.false) c.write_out.ensures.change.state)
    (on_ok c.write_out.result (sym c.is_err.ensures.value ∙ c.if-is_err.false) c.write_out.ensures.change.holds) c.flushed.ensures.none)) refl
    c.write_out.result (sym c.is_err.ensures.value ∙ c.if-is_err.false) c.write_out.ensures.change.state c.write_out.ensures.change.stored c.write_out.ensures.change.meanwhile c.write_out.ensures.change.calls.time c.write_out.ensures.change.calls.steady
    (invariant_of-self-2 g c) (on_ok c.write_out.result (sym c.is_err.ensures.value ∙ c.if-is_err.false) c.write_out.ensures.same).broken
    (files_flushed (g.D.Disk.state c.self.inside.disk) (g.D.Disk.state c.write_out.new.disk) _ _ (on_ok c.write_out.result (sym c.is_err.ensures.value ∙ c.if-is_err.false) c.write_out.ensures.same).physical c.write_out.ensures.lengths)
