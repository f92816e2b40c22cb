use Rattle.clfs_manager.proofs.Words.{DiskState, is_of_call, Log, asks, ap, Outcome, ◌≡◌, refl, ◌+◌, ℕ, true, List, length, sym, subst, ◌∙◌, false, IfErr}
use Rattle.clfs_manager.proofs.Words.{Option, Some, None, Result, Fine, State, BaseImage, Refusal, open_refusal, stream_number, IsNotAdded, with_stream}
use Rattle.clfs_model.specs.declared.refusal.Refusal.TheVariants as refusals
use Rattle.clfs_manager.proofs.WritingCalls.{call_idle, call_made, call_refused, call_stopped}
use Rattle.clfs_manager.proofs.Intact.{intact_managed}
use Rattle.clfs_manager.proofs.AddedStream.{added_step, new_answer, old_answer}
use Rattle.clfs_manager.proofs.CopyingCalls.{crash_answered, crash_not_called}
use Rattle.std.proofs.Common.{Ok, Err}
use Rattle.clfs_model.specs.declared.call.Call.TheVariants as calls
use Rattle.clfs_model.specs.declared.reply.Reply.TheVariants as replies
use Rattle.clfs_manager.proofs.AddedStream.{managed_added, new_step}
use Rattle.clfs_manager.proofs.CurrentCopy.{current_answered}
use Rattle.clfs_manager.proofs.KeptFiles.{copy_of_call}
use Rattle.clfs_manager.proofs.manager.Manager.open_stream.Goals as goal

passes : (s : State) (given name : List ℕ) (found : Option Refusal) → given ≡ name → found ≡ open_refusal s given → found ≡ None → open_refusal s name ≡ None
passes s given name found same is none = rw (← same) (sym is ∙ none)

not_own : (P : Type 0) (disk : DiskState) (before after : Log) (result : Result ℕ Refusal) → IfErr result (λ given. IsNotAdded given disk before after)
    → IfErr result (λ given. is_of_call given ≡ true → P)
not_own P disk before after (Ok number) is = tt
not_own P disk before after (Err refusals.NoMemory) is = λ own. absurd (cc own)
not_own P disk before after (Err refusals.DiskFault) is = λ own. absurd (cc own)
not_own P disk before after (Err _) is = absurd is

pub add_stream-requires-clause-valid : goal.add_stream-requires-clause-valid
add_stream-requires-clause-valid g c =
    let s : State = c.self.inside.log.state.value in
    let managed = c.self.invariant in
    let memory = (managed.whole c.if-self.false).memory in
    let named = sym (c.number.ensures s (sym memory.streams)) ∙ c.in_default-number.is in
    let none : stream_number s c.args.name.now ≡ None = subst (λ (name : List ℕ). stream_number s name ≡ None) c.as_slice-bytes.ensures named in
    let allowed : open_refusal s c.args.name.now ≡ None = passes s c.as_slice-bytes.result.now c.args.name.now c.open_refusal.result c.as_slice-bytes.ensures
    (c.open_refusal.ensures s (sym memory.streams) (sym memory.dedicated ∙ sym (ap (λ (image : BaseImage). image.dedicated) c.image.ensures.exact))) c.in_default.is in
    let step = new_step c.calls_follow_laws.ensures.ways s c.args.client c.args.name.now (managed.broken ∙ c.if-self.false) allowed none in
    c.calls_follow_laws.ensures.valid false s c.args.client (calls.OpenStream c.args.name.now) Fine (replies.Stream (length s.streams + 1)) (with_stream c.args.name.now s) managed.valid step

pub add_stream-requires-clause-storable : goal.add_stream-requires-clause-storable
add_stream-requires-clause-storable g c =
    let s : State = c.self.inside.log.state.value in
    let managed = c.self.invariant in
    let memory = (managed.whole c.if-self.false).memory in
    let named = sym (c.number.ensures s (sym memory.streams)) ∙ c.in_default-number.is in
    let none : stream_number s c.args.name.now ≡ None = subst (λ (name : List ℕ). stream_number s name ≡ None) c.as_slice-bytes.ensures named in
    let allowed : open_refusal s c.args.name.now ≡ None = passes s c.as_slice-bytes.result.now c.args.name.now c.open_refusal.result c.as_slice-bytes.ensures
    (c.open_refusal.ensures s (sym memory.streams) (sym memory.dedicated ∙ sym (ap (λ (image : BaseImage). image.dedicated) c.image.ensures.exact))) c.in_default.is in
    let step = new_step c.calls_follow_laws.ensures.ways s c.args.client c.args.name.now (managed.broken ∙ c.if-self.false) allowed none in
    c.calls_follow_laws.ensures.storable false s c.args.client (calls.OpenStream c.args.name.now) Fine (replies.Stream (length s.streams + 1)) (with_stream c.args.name.now s)
    managed.valid managed.storable (record { is_client = c.requires.client; arguments = c.requires.name }) step

pub add_stream-requires-clause-held : goal.add_stream-requires-clause-held
add_stream-requires-clause-held g c =
    let s : State = c.self.inside.log.state.value in
    let managed = c.self.invariant in
    let memory = (managed.whole c.if-self.false).memory in
    let named = sym (c.number.ensures s (sym memory.streams)) ∙ c.in_default-number.is in
    let none : stream_number s c.args.name.now ≡ None = subst (λ (name : List ℕ). stream_number s name ≡ None) c.as_slice-bytes.ensures named in
    let allowed : open_refusal s c.args.name.now ≡ None = passes s c.as_slice-bytes.result.now c.args.name.now c.open_refusal.result c.as_slice-bytes.ensures
    (c.open_refusal.ensures s (sym memory.streams) (sym memory.dedicated ∙ sym (ap (λ (image : BaseImage). image.dedicated) c.image.ensures.exact))) c.in_default.is in
    let step = new_step c.calls_follow_laws.ensures.ways s c.args.client c.args.name.now (managed.broken ∙ c.if-self.false) allowed none in
    c.the_holds_container_never_falls.ensures.step false s c.args.client (calls.OpenStream c.args.name.now) Fine (replies.Stream (length s.streams + 1)) (with_stream c.args.name.now s) managed.valid step

pub invariant_of-self : goal.invariant_of-self
invariant_of-self g c =
    managed_added (g.D.Disk.state c.self.inside.disk) (g.D.Disk.state c.add_stream.new.disk) c.self.inside.log c.add_stream.new.self c.add_stream.result
    c.calls_follow_laws.ensures.opened_valid c.calls_follow_laws.ensures.opened_storable c.self.invariant c.if-self.false
    c.add_stream.ensures.intact c.add_stream.ensures.refused

pub add_stream-requires-clause-intact : goal.add_stream-requires-clause-intact
add_stream-requires-clause-intact g c = intact_managed (g.D.Disk.state c.self.inside.disk) c.self.inside.log c.self.invariant c.if-self.false

pub returns-then-self-clause-call : goal.returns-then-self-clause-call
returns-then-self-clause-call g c = call_stopped c.calls_follow_laws.ensures.ways g.D.Disk.state c.self.inside.log c.self.inside.disk c.args.self.now c.self.view_is c.self.invariant c.if-self.true c.args.client (calls.OpenStream c.args.name.now) replies.Stream

pub returns-in-Some-clause-call : goal.returns-in-Some-clause-call
returns-in-Some-clause-call g c =
    let s : State = c.self.inside.log.state.value in
    let memory = (c.self.invariant.whole c.if-self.false).memory in
    let judged = c.open_refusal.ensures s (sym memory.streams) (sym memory.dedicated ∙ sym (ap (λ (image : BaseImage). image.dedicated) c.image.ensures.exact)) in
    call_refused c.calls_follow_laws.ensures.crashes c.calls_follow_laws.ensures.ways g.D.Disk.state c.self.inside.log c.self.inside.disk c.args.self.now c.self.view_is c.self.invariant c.if-self.false c.args.client (calls.OpenStream c.args.name.now) replies.Stream
    c.in-Some.refusal (subst (λ (name : List ℕ). open_refusal s name ≡ Some c.in-Some.refusal) c.as_slice-bytes.ensures (sym judged ∙ c.in-Some.is))

pub returns-in-Some-number-clause-call : goal.returns-in-Some-number-clause-call
returns-in-Some-number-clause-call g c =
    let s : State = c.self.inside.log.state.value in
    let memory = (c.self.invariant.whole c.if-self.false).memory in
    let judged = c.open_refusal.ensures s (sym memory.streams) (sym memory.dedicated ∙ sym (ap (λ (image : BaseImage). image.dedicated) c.image.ensures.exact)) in
    let allowed : open_refusal s c.args.name.now ≡ None = passes s c.as_slice-bytes.result.now c.args.name.now c.open_refusal.result c.as_slice-bytes.ensures judged c.in_default.is in
    let some : stream_number s c.args.name.now ≡ Some c.in-Some-number.number = subst (λ (name : List ℕ). stream_number s name ≡ Some c.in-Some-number.number) c.as_slice-bytes.ensures
    (sym (c.number.ensures s (sym memory.streams)) ∙ c.in-Some-number.is) in
    let is = old_answer s c.args.client c.in-Some-number.number c.args.name.now some in
    call_idle c.calls_follow_laws.ensures.crashes c.calls_follow_laws.ensures.ways g.D.Disk.state c.self.inside.log c.self.inside.disk c.args.self.now c.self.view_is c.self.invariant c.if-self.false c.args.client (calls.OpenStream c.args.name.now) replies.Stream
    c.in-Some-number.number refl allowed (sym (ap (λ (o : Outcome). o.reply) is)) (sym (ap (λ (o : Outcome). o.state) is))

pub returns-clause-call : goal.returns-clause-call
returns-clause-call g c =
    let s : State = c.self.inside.log.state.value in
    let memory = (c.self.invariant.whole c.if-self.false).memory in
    let judged = c.open_refusal.ensures s (sym memory.streams) (sym memory.dedicated ∙ sym (ap (λ (image : BaseImage). image.dedicated) c.image.ensures.exact)) in
    let allowed : open_refusal s c.args.name.now ≡ None = passes s c.as_slice-bytes.result.now c.args.name.now c.open_refusal.result c.as_slice-bytes.ensures judged c.in_default.is in
    let named = sym (c.number.ensures s (sym memory.streams)) ∙ c.in_default-number.is in
    let none : stream_number s c.args.name.now ≡ None = subst (λ (name : List ℕ). stream_number s name ≡ None) c.as_slice-bytes.ensures named in
    let call = calls.OpenStream c.args.name.now in
    call_made g.D.Disk.state c.self.inside.log c.add_stream.new.self c.self.inside.disk c.add_stream.new.disk c.args.self.now c.self.view_is c.self.invariant c.if-self.false c.args.client call replies.Stream c.add_stream.result
    (λ told. added_step c.calls_follow_laws.ensures.ways told (g.D.Disk.state c.add_stream.new.disk) c.self.inside.log c.add_stream.new.self c.args.client c.args.name.now c.add_stream.result
    (c.self.invariant.broken ∙ c.if-self.false) allowed none c.add_stream.ensures.number c.add_stream.ensures.state c.add_stream.ensures.refused)
    c.add_stream.ensures.writes
    (crash_answered c.calls_follow_laws.ensures.crashes g.D.Disk.state c.self.inside.log c.self.inside.disk c.args.self.now c.self.view_is c.self.invariant c.args.client call
    (with_stream c.args.name.now s) (g.D.Disk.state c.add_stream.new.disk) allowed (ap (λ (o : Outcome). o.state) (new_answer s c.args.client c.args.name.now none))
    (c.add_stream.ensures.moments (asks c.args.client call) s))
    (λ want. crash_not_called c.calls_follow_laws.ensures.crashes g.D.Disk.state c.self.inside.log c.self.inside.disk c.add_stream.new.disk c.args.self.now c.self.view_is c.self.invariant
    (c.add_stream.ensures.no_memory want))
    (not_own _ (g.D.Disk.state c.add_stream.new.disk) c.self.inside.log c.add_stream.new.self c.add_stream.result c.add_stream.ensures.refused)
    (copy_of_call g.D.Disk.state c.self.inside.log c.add_stream.new.self c.self.inside.disk c.add_stream.new.disk c.args.self.now c.self.view_is c.self.invariant c.if-self.false
    (invariant_of-self g c).whole c.add_stream.ensures.writes.time.nature _ c.add_stream.ensures.files)

pub returns-clause-current : goal.returns-clause-current
returns-clause-current g c = λ called. current_answered c.add_stream.result (g.D.Disk.state c.add_stream.new.disk) c.add_stream.new.self
    c.add_stream.ensures.intact c.add_stream.ensures.current
