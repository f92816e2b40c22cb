use Rattle.clfs_manager.proofs.WritingCalls.{call_done, call_faulted, call_refused, call_stopped}
use Rattle.clfs_manager.proofs.Words.{ap, Outcome, asks, refl, sym, ◌∙◌, false, Fine, State, flush, with_base}
use Rattle.clfs_manager.proofs.Changing.{two_survive}
use Rattle.clfs_manager.proofs.CopyingCalls.{crash_answered, flush_survives}
use Rattle.clfs_model.specs.declared.call.Call.TheVariants as calls
use Rattle.clfs_model.specs.declared.reply.Reply.TheVariants as replies
use Rattle.clfs_manager.proofs.AdvancedLog.{advanced_step}
use Rattle.clfs_manager.proofs.FlushKeeps.{on_ok, on_err, managed_broken}
use Rattle.clfs_manager.proofs.Intact.{managed_intact, writes_as, writes_seen}
use Rattle.clfs_manager.proofs.CurrentCopy.{current_on_disk}
use Rattle.clfs_manager.proofs.KeptFiles.{copy_of_call, counts_kept}
use Rattle.clfs_manager.proofs.manager.Manager.advance.Goals as goal

pub advance-requires-clause-valid : goal.advance-requires-clause-valid
advance-requires-clause-valid g c =
    let s : State = c.self.inside.log.state.value in
    let managed = c.self.invariant in
    let step = advanced_step c.calls_follow_laws.ensures.ways s c.args.client c.args.area c.args.lsn c.in-Ok.stream (managed.broken ∙ c.if-self.false)
    c.in-Ok.ensures.allowed c.in-Ok.ensures.answer in
    c.calls_follow_laws.ensures.valid false s c.args.client (calls.Advance c.args.area c.args.lsn) Fine (replies.Base c.args.lsn)
    (with_base c.in-Ok.stream c.args.lsn (flush s)) managed.valid step

pub advance-requires-clause-storable : goal.advance-requires-clause-storable
advance-requires-clause-storable g c =
    let s : State = c.self.inside.log.state.value in
    let managed = c.self.invariant in
    let step = advanced_step c.calls_follow_laws.ensures.ways s c.args.client c.args.area c.args.lsn c.in-Ok.stream (managed.broken ∙ c.if-self.false)
    c.in-Ok.ensures.allowed c.in-Ok.ensures.answer in
    c.calls_follow_laws.ensures.storable false s c.args.client (calls.Advance c.args.area c.args.lsn) Fine (replies.Base c.args.lsn)
    (with_base c.in-Ok.stream c.args.lsn (flush s)) managed.valid managed.storable (record { is_client = c.requires.client; arguments = tt }) step

pub advance-requires-clause-held : goal.advance-requires-clause-held
advance-requires-clause-held g c =
    let s : State = c.self.inside.log.state.value in
    let managed = c.self.invariant in
    let step = advanced_step c.calls_follow_laws.ensures.ways s c.args.client c.args.area c.args.lsn c.in-Ok.stream (managed.broken ∙ c.if-self.false)
    c.in-Ok.ensures.allowed c.in-Ok.ensures.answer in
    c.the_holds_container_never_falls.ensures.step false s c.args.client (calls.Advance c.args.area c.args.lsn) Fine (replies.Base c.args.lsn)
    (with_base c.in-Ok.stream c.args.lsn (flush s)) managed.valid step

pub invariant_of-self : goal.invariant_of-self
invariant_of-self g c =
    managed_broken (g.D.Disk.state c.self.inside.disk) (g.D.Disk.state c.advance.new.disk) c.self.inside.log c.advance.new.self
    c.calls_follow_laws.ensures.opened_valid c.calls_follow_laws.ensures.opened_storable c.self.invariant c.if-self.false
    (on_err c.advance.result (sym c.is_err.ensures.value ∙ c.if-is_err.true) c.advance.ensures.broken)

pub invariant_of-self-2 : goal.invariant_of-self-2
invariant_of-self-2 g c =
    managed_intact (g.D.Disk.state c.advance.new.disk) c.advance.new.self
    (on_ok c.advance.result (sym c.is_err.ensures.value ∙ c.if-is_err.false) c.advance.ensures.change.left)

pub returns-then-self-clause-call : goal.returns-then-self-clause-call
returns-then-self-clause-call g c = call_stopped c.calls_follow_laws.ensures.ways g.D.Disk.state c.self.inside.log c.self.inside.disk c.args.self.now c.self.view_is c.self.invariant c.if-self.true c.args.client (calls.Advance c.args.area c.args.lsn) replies.Base

pub returns-in-Err-clause-call : goal.returns-in-Err-clause-call
returns-in-Err-clause-call g c = call_refused c.calls_follow_laws.ensures.crashes c.calls_follow_laws.ensures.ways g.D.Disk.state c.self.inside.log c.self.inside.disk c.args.self.now c.self.view_is c.self.invariant c.if-self.false c.args.client (calls.Advance c.args.area c.args.lsn) replies.Base c.in-Err.refusal c.in-Err.ensures.refused

pub returns-then-is_err-clause-call : goal.returns-then-is_err-clause-call
returns-then-is_err-clause-call g c =
    let s : State = c.self.inside.log.state.value in
    let managed = c.self.invariant in
    let call = calls.Advance c.args.area c.args.lsn in
    let is = c.in-Ok.ensures.answer in
    let moments = crash_answered c.calls_follow_laws.ensures.crashes g.D.Disk.state c.self.inside.log c.self.inside.disk c.args.self.now c.self.view_is c.self.invariant c.args.client call
    (with_base c.in-Ok.stream c.args.lsn (flush s)) (g.D.Disk.state c.advance.new.disk) c.in-Ok.ensures.allowed (ap (λ (o : Outcome). o.state) is) (λ before moved. c.advance.ensures.change.moments (asks c.args.client call) s
    (two_survive (asks c.args.client call) s s (flush s) before
    (flush_survives c.states_between_survive.ensures.advance s c.args.client c.args.area c.args.lsn managed.valid managed.storable
    (managed.broken ∙ c.if-self.false) c.in-Ok.ensures.allowed)) moved) in
    call_faulted c.calls_follow_laws.ensures.ways g.D.Disk.state c.self.inside.log c.advance.new.self c.self.inside.disk c.advance.new.disk c.args.self.now c.self.view_is c.self.invariant c.if-self.false c.args.client call replies.Base c.in-Ok.ensures.allowed refl
    (on_err c.advance.result (sym c.is_err.ensures.value ∙ c.if-is_err.true) c.advance.ensures.broken)
    (writes_seen g.D.Disk.state (s, c.self.inside.disk) c.args.self.now c.self.view_is _ (g.D.Disk.state c.advance.new.disk)
    (writes_as _ _ (g.D.Disk.state c.self.inside.disk) (g.D.Disk.state c.advance.new.disk) (λ f. refl) (λ f. sym c.is_err.ensures.value ∙ c.if-is_err.true) c.advance.ensures.change.writes)) moments

pub returns-clause-call : goal.returns-clause-call
returns-clause-call g c =
    let s : State = c.self.inside.log.state.value in
    let managed = c.self.invariant in
    let call = calls.Advance c.args.area c.args.lsn in
    let is = c.in-Ok.ensures.answer in
    let moments = crash_answered c.calls_follow_laws.ensures.crashes g.D.Disk.state c.self.inside.log c.self.inside.disk c.args.self.now c.self.view_is c.self.invariant c.args.client call
    (with_base c.in-Ok.stream c.args.lsn (flush s)) (g.D.Disk.state c.advance.new.disk) c.in-Ok.ensures.allowed (ap (λ (o : Outcome). o.state) is) (λ before moved. c.advance.ensures.change.moments (asks c.args.client call) s
    (two_survive (asks c.args.client call) s s (flush s) before
    (flush_survives c.states_between_survive.ensures.advance s c.args.client c.args.area c.args.lsn managed.valid managed.storable
    (managed.broken ∙ c.if-self.false) c.in-Ok.ensures.allowed)) moved) in
    let ok = sym c.is_err.ensures.value ∙ c.if-is_err.false in
    let intact = on_ok c.advance.result ok c.advance.ensures.change.left in
    call_done c.calls_follow_laws.ensures.ways g.D.Disk.state c.self.inside.log c.advance.new.self c.self.inside.disk c.advance.new.disk c.args.self.now c.self.view_is c.self.invariant c.if-self.false c.args.client call replies.Base c.args.lsn refl c.in-Ok.ensures.allowed
    (sym (ap (λ (o : Outcome). o.reply) is)) (on_ok c.advance.result ok c.advance.ensures.change.state ∙ sym (ap (λ (o : Outcome). o.state) is))
    (writes_seen g.D.Disk.state (s, c.self.inside.disk) c.args.self.now c.self.view_is _ (g.D.Disk.state c.advance.new.disk)
    (writes_as _ _ (g.D.Disk.state c.self.inside.disk) (g.D.Disk.state c.advance.new.disk) (λ f. absurd (cc (f, ok))) (λ f. absurd (cc f)) c.advance.ensures.change.writes)) moments
    (copy_of_call g.D.Disk.state c.self.inside.log c.advance.new.self c.self.inside.disk c.advance.new.disk c.args.self.now c.self.view_is c.self.invariant c.if-self.false
    (λ _. intact.opened) c.advance.ensures.change.writes.time.nature _
    (λ fine. counts_kept _ _ c.self.inside.log c.advance.new.self intact.sound.unbroken (on_ok c.advance.result ok c.advance.ensures.files)))

pub returns-clause-current : goal.returns-clause-current
returns-clause-current g c =
    let ok = sym c.is_err.ensures.value ∙ c.if-is_err.false in
    let intact = on_ok c.advance.result ok c.advance.ensures.change.left in
    current_on_disk (g.D.Disk.state c.advance.new.disk) c.advance.new.self (managed_intact (g.D.Disk.state c.advance.new.disk) c.advance.new.self intact)
    intact.sound.whole (on_ok c.advance.result ok c.advance.ensures.current)
