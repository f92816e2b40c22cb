use Rattle.clfs_manager.proofs.WritingCalls.{stored_done, stored_faulted, call_stopped, call_refused}
use Rattle.clfs_manager.proofs.Words.{refl, sym, ◌∙◌, false, arith, ap, Some, Fine, State, with_archive}
use Rattle.clfs_model.specs.declared.call.Call.TheVariants as calls
use Rattle.clfs_model.specs.declared.reply.Reply.TheVariants as replies
use Rattle.clfs_manager.proofs.FlushKeeps.{on_ok, on_err, managed_broken}
use Rattle.clfs_manager.proofs.SettingsKeep.{archive_done}
use Rattle.clfs_manager.proofs.StoredKeeps.{managed_done}
use Rattle.clfs_manager.proofs.CurrentCopy.{current_on_disk}
use Rattle.clfs_manager.proofs.manager.Manager.set_archive_tail.Goals as goal

pub change_archive-requires-clause-valid : goal.change_archive-requires-clause-valid
change_archive-requires-clause-valid g c =
    let s : State = c.self.inside.log.state.value in
    let managed = c.self.invariant in
    let step = c.calls_follow_laws.ensures.ways.answered false s 1 (calls.SetArchiveTail c.args.lsn) (replies.Tail c.args.lsn) (with_archive (Some c.args.lsn) s) (managed.broken ∙ c.if-self.false) (sym c.tail_refusal.ensures ∙ c.in_default.is) refl refl in
    c.calls_follow_laws.ensures.valid false s 1 (calls.SetArchiveTail c.args.lsn) Fine (replies.Tail c.args.lsn) (with_archive (Some c.args.lsn) s) managed.valid step

pub change_archive-requires-clause-up : goal.change_archive-requires-clause-up
change_archive-requires-clause-up g c =
    let s : State = c.self.inside.log.state.value in
    let managed = c.self.invariant in
    let step = c.calls_follow_laws.ensures.ways.answered false s 1 (calls.SetArchiveTail c.args.lsn) (replies.Tail c.args.lsn) (with_archive (Some c.args.lsn) s) (managed.broken ∙ c.if-self.false) (sym c.tail_refusal.ensures ∙ c.in_default.is) refl refl in
    c.the_holds_container_never_falls.ensures.step false s 1 (calls.SetArchiveTail c.args.lsn) Fine (replies.Tail c.args.lsn) (with_archive (Some c.args.lsn) s) managed.valid step

pub invariant_of-self : goal.invariant_of-self
invariant_of-self g c =
    managed_broken (g.D.Disk.state c.self.inside.disk) (g.D.Disk.state c.change_archive.new.disk) c.self.inside.log c.change_archive.new.self
    c.calls_follow_laws.ensures.opened_valid c.calls_follow_laws.ensures.opened_storable c.self.invariant c.if-self.false
    (on_err c.change_archive.result (sym c.is_err.ensures.value ∙ c.if-is_err.true) c.change_archive.ensures.change.broken)

pub invariant_of-self-2 : goal.invariant_of-self-2
invariant_of-self-2 g c =
    let old = c.self.inside.log in
    let s : State = old.state.value in
    let managed = c.self.invariant in
    let ok = sym c.is_err.ensures.value ∙ c.if-is_err.false in
    let t : State = with_archive (Some c.args.lsn) s in
    let step = c.calls_follow_laws.ensures.ways.answered false s 1 (calls.SetArchiveTail c.args.lsn) (replies.Tail c.args.lsn) t (managed.broken ∙ c.if-self.false) (sym c.tail_refusal.ensures ∙ c.in_default.is) refl refl in
    managed_done (g.D.Disk.state c.self.inside.disk) (g.D.Disk.state c.change_archive.new.disk) old c.change_archive.new.self t 1 (calls.SetArchiveTail c.args.lsn) (replies.Tail c.args.lsn)
    c.calls_follow_laws.ensures.valid c.calls_follow_laws.ensures.storable
    (record { is_client = record { least = omega arith; greatest = omega arith }; arguments = tt }) managed c.if-self.false step
    (archive_done (g.D.Disk.state c.self.inside.disk) (g.D.Disk.state c.change_archive.new.disk) old c.change_archive.new.self (Some c.args.lsn) t
    (refl) (on_ok c.change_archive.result ok c.change_archive.ensures.change.state) (on_ok c.change_archive.result ok c.change_archive.ensures.change.holds)
    (on_ok c.change_archive.result ok c.change_archive.ensures.forgotten)
    (on_ok c.change_archive.result ok c.change_archive.ensures.same) (on_ok c.change_archive.result ok c.change_archive.ensures.change.stored)
    (on_ok c.change_archive.result ok c.change_archive.ensures.change.calls.settled) c.change_archive.ensures.change.calls.time.nature)

pub returns-then-self-clause-call : goal.returns-then-self-clause-call
returns-then-self-clause-call g c = λ client. call_stopped c.calls_follow_laws.ensures.ways g.D.Disk.state c.self.inside.log c.self.inside.disk c.args.self.now c.self.view_is c.self.invariant c.if-self.true client (calls.SetArchiveTail c.args.lsn) replies.Tail

pub returns-in-Some-clause-call : goal.returns-in-Some-clause-call
returns-in-Some-clause-call g c = λ client. call_refused c.calls_follow_laws.ensures.crashes c.calls_follow_laws.ensures.ways g.D.Disk.state c.self.inside.log c.self.inside.disk c.args.self.now c.self.view_is c.self.invariant c.if-self.false client
    (calls.SetArchiveTail c.args.lsn) replies.Tail c.in-Some.refusal (sym c.tail_refusal.ensures ∙ c.in-Some.is)

pub returns-then-is_err-clause-call : goal.returns-then-is_err-clause-call
returns-then-is_err-clause-call g c = λ client. stored_faulted c.calls_follow_laws.ensures.crashes c.calls_follow_laws.ensures.ways c.calls_follow_laws.ensures.valid g.D.Disk.state c.self.inside.log c.change_archive.new.self c.self.inside.disk c.change_archive.new.disk c.args.self.now c.self.view_is c.self.invariant c.if-self.false client
    (calls.SetArchiveTail c.args.lsn) replies.Tail (with_archive (Some c.args.lsn) c.self.inside.log.state.value) (sym c.tail_refusal.ensures ∙ c.in_default.is) refl refl
    c.change_archive.result (sym c.is_err.ensures.value ∙ c.if-is_err.true) c.change_archive.ensures.change.broken c.change_archive.ensures.change.meanwhile c.change_archive.ensures.change.calls.time c.change_archive.ensures.change.calls.cause c.change_archive.ensures.change.calls.steady

pub returns-clause-call : goal.returns-clause-call
returns-clause-call g c = λ client. stored_done c.calls_follow_laws.ensures.crashes c.calls_follow_laws.ensures.ways c.calls_follow_laws.ensures.valid g.D.Disk.state c.self.inside.log c.change_archive.new.self c.self.inside.disk c.change_archive.new.disk c.args.self.now c.self.view_is c.self.invariant c.if-self.false client
    (calls.SetArchiveTail c.args.lsn) replies.Tail c.args.lsn refl (with_archive (Some c.args.lsn) c.self.inside.log.state.value) (sym c.tail_refusal.ensures ∙ c.in_default.is) refl refl
    c.change_archive.result (sym c.is_err.ensures.value ∙ c.if-is_err.false) c.change_archive.ensures.change.state c.change_archive.ensures.change.stored c.change_archive.ensures.change.meanwhile c.change_archive.ensures.change.calls.time c.change_archive.ensures.change.calls.steady
    (invariant_of-self-2 g c) (on_ok c.change_archive.result (sym c.is_err.ensures.value ∙ c.if-is_err.false) c.change_archive.ensures.same).broken (on_ok c.change_archive.result (sym c.is_err.ensures.value ∙ c.if-is_err.false) c.change_archive.ensures.files)

pub returns-clause-current : goal.returns-clause-current
returns-clause-current g c =
    let ok = sym c.is_err.ensures.value ∙ c.if-is_err.false in
    let state = on_ok c.change_archive.result ok c.change_archive.ensures.change.state in
    current_on_disk (g.D.Disk.state c.change_archive.new.disk) c.change_archive.new.self (invariant_of-self-2 g c)
    (ap (λ (u : State). u.broken) state ∙ c.self.invariant.broken ∙ c.if-self.false) (on_ok c.change_archive.result ok c.change_archive.ensures.current)
