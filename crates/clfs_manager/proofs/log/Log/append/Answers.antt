use Rattle.clfs_manager.proofs.Words.{cut, Request, asks, bad_line, Survives, ◌≡◌, ◌≤◌, ℕ, true, false, refl, sym, ap, subst, ◌∙◌, List, length, All, Err}
use Rattle.clfs_manager.proofs.Words.{IsErr, IsErrOf, IsOk, Result, AreaTable, area_at, TakesThrough, Refusal, Fault, Area, State, flush_if, hold_sizes}
use Rattle.clfs_manager.proofs.Words.{need_of, next_lsn, plain_record, put, seal_if, spend_if, spent_of, grown, own_sum, Step, fills_buffers, grows}
use Rattle.clfs_manager.proofs.Words.{making_ready_writes, with_broken, Steps, WritesDisk}
use Rattle.clfs_manager.proofs.Crashes.{crash_still, crash_then, survives_as}
use Rattle.clfs_manager.proofs.Stages.{appended_stages, while_appended}
use Rattle.clfs_model.specs.declared.call.Call.TheVariants as calls
use Rattle.clfs_model.specs.declared.refusal.Refusal.TheVariants as refusals
use Rattle.clfs_model.specs.declared.reply.Reply.TheVariants as replies
use Rattle.clfs_model.specs.Step.{append_writes}
use Rattle.clfs_manager.proofs.AppendCall.{append_enough, append_step, asked, grows_not, stopped_step}
use Rattle.clfs_manager.proofs.Intact.{writes_as, writes_then}
use Rattle.clfs_manager.proofs.OwnRefusals.{error_of, refused_step, writes_refused}
use Rattle.clfs_manager.proofs.PreparedCall.{as_fault}
use Rattle.clfs_manager.proofs.ReadKeeps.{broken_left}
use Rattle.clfs_manager.proofs.RestartCall.{left_intact}
use Rattle.clfs_manager.proofs.KeptFiles.{counts_none, counts_then}
use Rattle.clfs_manager.proofs.log.Log.append.Goals as goal

pub returns-in_err-place-clause-step : goal.returns-in_err-place-clause-step
returns-in_err-place-clause-step g c = λ told.
    let s : State = c.args.self.now.state.value in
    let call = calls.Append c.args.area c.args.draft.now c.args.reserved c.args.sizes.now in
    let given : Refusal = c.in_err-place.field-0.0 in
    let own = c.refusals_are_the_calls_own.ensures.own s c.args.client call given c.in_err-place.ensures.finds.refused in
    subst (λ (r : Result ℕ Refusal). Steps {A = ℕ} told s c.args.client call (λ lsn. replies.Placed lsn) r s)
    (sym (error_of c.from_residual.result given c.from_residual.ensures.1))
    (refused_step c.ways_of_a_step.ensures told s c.args.client call given c.requires.intact.sound.whole own c.in_err-place.ensures.finds.refused)

pub returns-in_err-place-clause-writes : goal.returns-in_err-place-clause-writes
returns-in_err-place-clause-writes g c =
    let s : State = c.args.self.now.state.value in
    let given : Refusal = c.in_err-place.field-0.0 in
    let own = c.refusals_are_the_calls_own.ensures.own s c.args.client (calls.Append c.args.area c.args.draft.now c.args.reserved c.args.sizes.now) given
    c.in_err-place.ensures.finds.refused in
    let disk = g.D.Disk.state c.args.disk.now in
    subst (λ (r : Result ℕ Refusal). WritesDisk (IsErrOf r refusals.DiskFault) disk disk)
    (sym (error_of c.from_residual.result given c.from_residual.ensures.1)) (writes_refused given disk own)

pub returns-in_err-prepare-clause-quiet : goal.returns-in_err-prepare-clause-quiet
returns-in_err-prepare-clause-quiet g c = λ quiet.
    let old = c.args.self.now in
    let s : State = old.state.value in
    let place = c.in_ok-place.place in
    let area : Area = area_at place old.areas.areas in
    let draft = c.args.draft.now in
    let sizes = c.args.sizes.now in
    let n = length draft.bytes in
    let need : ℕ = need_of c.args.reserved n sizes in
    let sound = c.requires.intact.sound in
    let need_is : c.need_of.result ≡ need = c.need_of.ensures.value ∙ ap (λ (k : ℕ). need_of c.args.reserved k c.as_slice.result.now) c.len-len.ensures
    ∙ ap (λ (lengths : List ℕ). need_of c.args.reserved n lengths) c.as_slice.ensures.value in
    let none : grows s c.need_of.result ≡ false = rw need_is (grows_not s need (c.quiet_appends_want_no_disk.ensures.grown s draft c.args.reserved sizes quiet)) in
    (c.prepare.ensures.quiet none).1

pub returns-in_err-prepare-clause-step : goal.returns-in_err-prepare-clause-step
returns-in_err-prepare-clause-step g c = λ told.
    let old = c.args.self.now in
    let s : State = old.state.value in
    let place = c.in_ok-place.place in
    let area : Area = area_at place old.areas.areas in
    let draft = c.args.draft.now in
    let sizes = c.args.sizes.now in
    let n = length draft.bytes in
    let need : ℕ = need_of c.args.reserved n sizes in
    let sound = c.requires.intact.sound in
    let need_is : c.need_of.result ≡ need = c.need_of.ensures.value ∙ ap (λ (k : ℕ). need_of c.args.reserved k c.as_slice.result.now) c.len-len.ensures
    ∙ ap (λ (lengths : List ℕ). need_of c.args.reserved n lengths) c.as_slice.ensures.value in
    let t : State = c.prepare.new.self.state.value in
    let call = calls.Append c.args.area draft c.args.reserved sizes in
    let given : Refusal = c.in_err-prepare.field-0.0 in
    subst (λ (r : Result ℕ Refusal). Steps {A = ℕ} told s c.args.client call (λ lsn. replies.Placed lsn) r t)
    (sym (error_of c.from_residual-in_err-prepare.result given c.from_residual-in_err-prepare.ensures.1))
    (stopped_step c.ways_of_a_step.ensures told s t c.args.client call given sound.whole c.in_ok-place.ensures.finds.allowed
    (λ fault. asked (append_writes s draft c.args.reserved sizes) (λ quiet.
    let none : grows s c.need_of.result ≡ false = rw need_is (grows_not s need (c.quiet_appends_want_no_disk.ensures.grown s draft c.args.reserved sizes quiet)) in
    (c.prepare.ensures.quiet none).0 (subst (λ r. IsErrOf r refusals.DiskFault) (sym c.in_err-prepare.was) (ap (λ (r : Refusal). Err r) fault))))
    refl c.in_err-prepare.ensures.refused)

pub returns-in_err-prepare-clause-writes : goal.returns-in_err-prepare-clause-writes
returns-in_err-prepare-clause-writes g c =
    let given : Refusal = c.in_err-prepare.field-0.0 in
    let same = error_of c.from_residual-in_err-prepare.result given c.from_residual-in_err-prepare.ensures.1 in
    writes_as (IsErrOf c.prepare.result refusals.DiskFault) _ _ _
    (λ fault. let kept = subst (λ r. IsErrOf r refusals.DiskFault) c.in_err-prepare.was fault in rw same (as_fault given refusals.DiskFault kept))
    (λ fault. let kept = rw same at fault in subst (λ r. IsErrOf r refusals.DiskFault) (sym c.in_err-prepare.was) (as_fault given refusals.DiskFault kept)) c.prepare.ensures.writes

pub append_grown-requires-clause-enough : goal.append_grown-requires-clause-enough
append_grown-requires-clause-enough g c =
    let old = c.args.self.now in
    let s : State = old.state.value in
    let place = c.in_ok-place.place in
    let area : Area = area_at place old.areas.areas in
    let draft = c.args.draft.now in
    let sizes = c.args.sizes.now in
    let n = length draft.bytes in
    let need : ℕ = need_of c.args.reserved n sizes in
    let sound = c.requires.intact.sound in
    subst (λ (t : AreaTable). spent_of c.args.reserved n ≤ (area_at place t.areas).held) (sym c.in_ok-prepare.ensures.areas)
    (append_enough s area draft c.args.reserved sizes c.in_ok-place.ensures.passes)

pub append_grown-requires-clause-takes : goal.append_grown-requires-clause-takes
append_grown-requires-clause-takes g c =
    let old = c.args.self.now in
    let s : State = old.state.value in
    let place = c.in_ok-place.place in
    let area : Area = area_at place old.areas.areas in
    let draft = c.args.draft.now in
    let sizes = c.args.sizes.now in
    let n = length draft.bytes in
    let need : ℕ = need_of c.args.reserved n sizes in
    let sound = c.requires.intact.sound in
    let takes : TakesThrough (spend_if c.args.reserved area n (grown s need)) area (plain_record area draft) (own_sum sizes) =
    c.calls_that_pass_find_room.ensures.append s c.args.client c.args.area area draft c.args.reserved sizes sound.valid sound.storable
    c.in_ok-place.ensures.finds.two c.in_ok-place.ensures.finds.there c.in_ok-place.ensures.passes in
    let need_is : c.need_of.result ≡ need = c.need_of.ensures.value ∙ ap (λ (k : ℕ). need_of c.args.reserved k c.as_slice.result.now) c.len-len.ensures
    ∙ ap (λ (lengths : List ℕ). need_of c.args.reserved n lengths) c.as_slice.ensures.value in
    let state : c.prepare.new.self.state.value ≡ grown s need = c.in_ok-prepare.ensures.state ∙ ap (grown s) need_is in
    subst (λ (t : AreaTable). TakesThrough (spend_if c.args.reserved (area_at place t.areas) n c.prepare.new.self.state.value) (area_at place t.areas)
    (plain_record (area_at place t.areas) draft) (own_sum sizes)) (sym c.in_ok-prepare.ensures.areas)
    (subst (λ (v : State). TakesThrough (spend_if c.args.reserved area n v) area (plain_record area draft) (own_sum sizes)) (sym state) takes)

pub returns-in-Ok-clause-step : goal.returns-in-Ok-clause-step
returns-in-Ok-clause-step g c = λ told.
    let old = c.args.self.now in
    let s : State = old.state.value in
    let place = c.in_ok-place.place in
    let area : Area = area_at place old.areas.areas in
    let draft = c.args.draft.now in
    let sizes = c.args.sizes.now in
    let n = length draft.bytes in
    let need : ℕ = need_of c.args.reserved n sizes in
    let sound = c.requires.intact.sound in
    let need_is : c.need_of.result ≡ need = c.need_of.ensures.value ∙ ap (λ (k : ℕ). need_of c.args.reserved k c.as_slice.result.now) c.len-len.ensures
    ∙ ap (λ (lengths : List ℕ). need_of c.args.reserved n lengths) c.as_slice.ensures.value in
    let state : c.prepare.new.self.state.value ≡ grown s need = c.in_ok-prepare.ensures.state ∙ ap (grown s) need_is in
    let prepared : State = c.prepare.new.self.state.value in
    let lsn_by : AreaTable → State → ℕ = λ t v. next_lsn (spend_if c.args.reserved (area_at place t.areas) n v) n in
    let at = c.in-Ok.ensures.lsn ∙ ap (λ (t : AreaTable). lsn_by t prepared) c.in_ok-prepare.ensures.areas ∙ ap (λ (v : State). lsn_by old.areas v) state
    ∙ c.small_changes_make_the_calls.ensures.lsn s area c.args.reserved n need in
    let by : AreaTable → State → State = λ t v. flush_if draft.flush (seal_if draft.seal (hold_sizes (area_at place t.areas) sizes
    (put (spend_if c.args.reserved (area_at place t.areas) n v) (plain_record (area_at place t.areas) draft)))) in
    let to = c.in-Ok.ensures.change.state ∙ ap (λ (t : AreaTable). by t prepared) c.in_ok-prepare.ensures.areas ∙ ap (λ (v : State). by old.areas v) state
    ∙ c.small_changes_make_the_calls.ensures.append s area draft c.args.reserved sizes in
    append_step c.ways_of_a_step.ensures told s c.append_grown.new.self.state.value c.args.client c.args.area area draft c.args.reserved sizes c.in-Ok.lsn sound.whole
    c.in_ok-place.ensures.finds.allowed c.in_ok-place.ensures.finds.there at to

pub returns-in-Ok-clause-left : goal.returns-in-Ok-clause-left
returns-in-Ok-clause-left g c = left_intact (g.D.Disk.state c.append_grown.new.disk) c.append_grown.new.self c.in-Ok.ensures.change.left

pub returns-in-Ok-clause-quiet : goal.returns-in-Ok-clause-quiet
returns-in-Ok-clause-quiet g c = λ quiet.
    let old = c.args.self.now in
    let s : State = old.state.value in
    let place = c.in_ok-place.place in
    let area : Area = area_at place old.areas.areas in
    let draft = c.args.draft.now in
    let sizes = c.args.sizes.now in
    let n = length draft.bytes in
    let need : ℕ = need_of c.args.reserved n sizes in
    let sound = c.requires.intact.sound in
    let need_is : c.need_of.result ≡ need = c.need_of.ensures.value ∙ ap (λ (k : ℕ). need_of c.args.reserved k c.as_slice.result.now) c.len-len.ensures
    ∙ ap (λ (lengths : List ℕ). need_of c.args.reserved n lengths) c.as_slice.ensures.value in
    let state : c.prepare.new.self.state.value ≡ grown s need = c.in_ok-prepare.ensures.state ∙ ap (grown s) need_is in
    let laws = c.quiet_appends_want_no_disk.ensures in
    let none : grows s c.need_of.result ≡ false = rw need_is (grows_not s need (laws.grown s draft c.args.reserved sizes quiet)) in
    let prepared : State = c.prepare.new.self.state.value in
    let ready_by : AreaTable → State → Type 0 = λ t v. making_ready_writes (spend_if c.args.reserved (area_at place t.areas) n v) n ≡ false in
    let seal_by : AreaTable → State → Type 0 = λ t v. fills_buffers (hold_sizes (area_at place t.areas) sizes
    (put (spend_if c.args.reserved (area_at place t.areas) n v) (plain_record (area_at place t.areas) draft))) ≡ false in
    let ready : ready_by c.prepare.new.self.areas prepared = subst (λ (t : AreaTable). ready_by t prepared) (sym c.in_ok-prepare.ensures.areas)
    (subst (λ (v : State). ready_by old.areas v) (sym state) (laws.ready s area draft c.args.reserved sizes quiet)) in
    let seal : draft.seal ≡ true → seal_by c.prepare.new.self.areas prepared = λ is. subst (λ (t : AreaTable). seal_by t prepared) (sym c.in_ok-prepare.ensures.areas)
    (subst (λ (v : State). seal_by old.areas v) (sym state) (laws.seal s area draft c.args.reserved sizes quiet is)) in
    (c.append_grown.ensures.quiet ready seal (laws.flush s draft c.args.reserved sizes quiet)).1 ∙ (c.prepare.ensures.quiet none).1

pub returns-in-Ok-clause-writes : goal.returns-in-Ok-clause-writes
returns-in-Ok-clause-writes g c =
    writes_then (IsErrOf c.prepare.result refusals.DiskFault) _ (g.D.Disk.state c.args.disk.now) (g.D.Disk.state c.prepare.new.disk)
    (g.D.Disk.state c.append_grown.new.disk) (λ fault. let wrong = subst (λ r. IsErrOf r refusals.DiskFault) c.in_ok-prepare.was fault in cc wrong)
    c.prepare.ensures.writes
    (writes_as (IsErr c.append_grown.result) _ _ _ (λ fault. let wrong = subst (λ r. IsErr r) c.in-Ok.is fault in absurd (cc wrong)) (λ fault. absurd (cc fault))
    c.append_grown.ensures.change.writes)

-- an append that met a fault wanted the disk
pub returns-in-Err-clause-quiet : goal.returns-in-Err-clause-quiet
returns-in-Err-clause-quiet g c = λ quiet.
    let old = c.args.self.now in
    let s : State = old.state.value in
    let place = c.in_ok-place.place in
    let area : Area = area_at place old.areas.areas in
    let draft = c.args.draft.now in
    let sizes = c.args.sizes.now in
    let n = length draft.bytes in
    let need : ℕ = need_of c.args.reserved n sizes in
    let sound = c.requires.intact.sound in
    let need_is : c.need_of.result ≡ need = c.need_of.ensures.value ∙ ap (λ (k : ℕ). need_of c.args.reserved k c.as_slice.result.now) c.len-len.ensures
    ∙ ap (λ (lengths : List ℕ). need_of c.args.reserved n lengths) c.as_slice.ensures.value in
    let state : c.prepare.new.self.state.value ≡ grown s need = c.in_ok-prepare.ensures.state ∙ ap (grown s) need_is in
    let laws = c.quiet_appends_want_no_disk.ensures in
    let prepared : State = c.prepare.new.self.state.value in
    let ready_by : AreaTable → State → Type 0 = λ t v. making_ready_writes (spend_if c.args.reserved (area_at place t.areas) n v) n ≡ false in
    let seal_by : AreaTable → State → Type 0 = λ t v. fills_buffers (hold_sizes (area_at place t.areas) sizes
    (put (spend_if c.args.reserved (area_at place t.areas) n v) (plain_record (area_at place t.areas) draft))) ≡ false in
    let ready : ready_by c.prepare.new.self.areas prepared = subst (λ (t : AreaTable). ready_by t prepared) (sym c.in_ok-prepare.ensures.areas)
    (subst (λ (v : State). ready_by old.areas v) (sym state) (laws.ready s area draft c.args.reserved sizes quiet)) in
    let seal : draft.seal ≡ true → seal_by c.prepare.new.self.areas prepared = λ is. subst (λ (t : AreaTable). seal_by t prepared) (sym c.in_ok-prepare.ensures.areas)
    (subst (λ (v : State). seal_by old.areas v) (sym state) (laws.seal s area draft c.args.reserved sizes quiet is)) in
    let fine = (c.append_grown.ensures.quiet ready seal (laws.flush s draft c.args.reserved sizes quiet)).0 in
    absurd (let wrong = subst (λ r. IsOk r) c.in-Err.is fine in cc wrong)

pub returns-in-Err-clause-step : goal.returns-in-Err-clause-step
returns-in-Err-clause-step g c = λ told.
    let old = c.args.self.now in
    let s : State = old.state.value in
    let place = c.in_ok-place.place in
    let area : Area = area_at place old.areas.areas in
    let draft = c.args.draft.now in
    let sizes = c.args.sizes.now in
    let n = length draft.bytes in
    let need : ℕ = need_of c.args.reserved n sizes in
    let sound = c.requires.intact.sound in
    let need_is : c.need_of.result ≡ need = c.need_of.ensures.value ∙ ap (λ (k : ℕ). need_of c.args.reserved k c.as_slice.result.now) c.len-len.ensures
    ∙ ap (λ (lengths : List ℕ). need_of c.args.reserved n lengths) c.as_slice.ensures.value in
    let state : c.prepare.new.self.state.value ≡ grown s need = c.in_ok-prepare.ensures.state ∙ ap (grown s) need_is in
    let laws = c.quiet_appends_want_no_disk.ensures in
    let prepared : State = c.prepare.new.self.state.value in
    let ready_by : AreaTable → State → Type 0 = λ t v. making_ready_writes (spend_if c.args.reserved (area_at place t.areas) n v) n ≡ false in
    let seal_by : AreaTable → State → Type 0 = λ t v. fills_buffers (hold_sizes (area_at place t.areas) sizes
    (put (spend_if c.args.reserved (area_at place t.areas) n v) (plain_record (area_at place t.areas) draft))) ≡ false in
    let call = calls.Append c.args.area draft c.args.reserved sizes in
    let wanted : append_writes s draft c.args.reserved sizes ≡ true = asked (append_writes s draft c.args.reserved sizes) (λ quiet.
    let ready : ready_by c.prepare.new.self.areas prepared = subst (λ (t : AreaTable). ready_by t prepared) (sym c.in_ok-prepare.ensures.areas)
    (subst (λ (v : State). ready_by old.areas v) (sym state) (laws.ready s area draft c.args.reserved sizes quiet)) in
    let seal : draft.seal ≡ true → seal_by c.prepare.new.self.areas prepared = λ is. subst (λ (t : AreaTable). seal_by t prepared) (sym c.in_ok-prepare.ensures.areas)
    (subst (λ (v : State). seal_by old.areas v) (sym state) (laws.seal s area draft c.args.reserved sizes quiet is)) in
    let fine = (c.append_grown.ensures.quiet ready seal (laws.flush s draft c.args.reserved sizes quiet)).0 in
    let wrong = subst (λ r. IsOk r) c.in-Err.is fine in cc wrong) in
    subst (λ (t : State). Step told s c.args.client call Fault (replies.Refused refusals.DiskFault) t)
    (sym (c.broken-self.ensures ∙ ap with_broken c.kept-before.ensures))
    (c.ways_of_a_step.ensures.faulted told s c.args.client call sound.whole c.in_ok-place.ensures.finds.allowed wanted)

pub returns-in-Err-clause-left : goal.returns-in-Err-clause-left
returns-in-Err-clause-left g c = broken_left (g.D.Disk.state c.append_grown.new.disk) _ (ap (λ (s : State). s.broken) c.broken-self.ensures) c.in-Err.ensures.change.broken

pub returns-in-Err-clause-writes : goal.returns-in-Err-clause-writes
returns-in-Err-clause-writes g c =
    writes_then (IsErrOf c.prepare.result refusals.DiskFault) _ (g.D.Disk.state c.args.disk.now) (g.D.Disk.state c.prepare.new.disk)
    (g.D.Disk.state c.append_grown.new.disk) (λ fault. let wrong = subst (λ r. IsErrOf r refusals.DiskFault) c.in_ok-prepare.was fault in cc wrong)
    c.prepare.ensures.writes
    (writes_as (IsErr c.append_grown.result) _ _ _ (λ _. refl) (λ _. subst (λ r. IsErr r) (sym c.in-Err.is) refl) c.append_grown.ensures.change.writes)

pub returns-in_err-place-clause-moments : goal.returns-in_err-place-clause-moments
returns-in_err-place-clause-moments g c =
    let s : State = c.args.self.now.state.value in
    let call = calls.Append c.args.area c.args.draft.now c.args.reserved c.args.sizes.now in
    crash_still c.logs_are_copies_and_blocks.ensures.stands c.logs_are_copies_and_blocks.ensures.by_file (g.D.Disk.state c.args.disk.now) c.args.self.now
    c.requires.intact (asks c.args.client call) s (c.states_between_survive.ensures.before s c.args.client call c.requires.intact.sound.valid)

pub returns-in_err-prepare-clause-moments : goal.returns-in_err-prepare-clause-moments
returns-in_err-prepare-clause-moments g c =
    let old = c.args.self.now in
    let s : State = old.state.value in
    let place = c.in_ok-place.place in
    let area : Area = area_at place old.areas.areas in
    let draft = c.args.draft.now in
    let sizes = c.args.sizes.now in
    let n = length draft.bytes in
    let need : ℕ = need_of c.args.reserved n sizes in
    let sound = c.requires.intact.sound in
    let need_is : c.need_of.result ≡ need = c.need_of.ensures.value ∙ ap (λ (k : ℕ). need_of c.args.reserved k c.as_slice.result.now) c.len-len.ensures
    ∙ ap (λ (lengths : List ℕ). need_of c.args.reserved n lengths) c.as_slice.ensures.value in
    let request : Request = asks c.args.client (calls.Append c.args.area draft c.args.reserved sizes) in
    let while = while_appended (λ (u : State). Survives request s (cut u)) s area draft c.args.reserved sizes
    (c.states_between_survive.ensures.append s c.args.client c.args.area area draft c.args.reserved sizes sound.valid sound.storable sound.whole
    c.in_ok-place.ensures.finds.allowed c.in_ok-place.ensures.finds.there) in
    let prepared = c.prepare.ensures.moments request s while.before (survives_as request s (grown s c.need_of.result) (grown s need) (ap (grown s) need_is) while.grown_is) in
    prepared

pub returns-in-Ok-clause-moments : goal.returns-in-Ok-clause-moments
returns-in-Ok-clause-moments g c =
    let old = c.args.self.now in
    let s : State = old.state.value in
    let place = c.in_ok-place.place in
    let area : Area = area_at place old.areas.areas in
    let draft = c.args.draft.now in
    let sizes = c.args.sizes.now in
    let n = length draft.bytes in
    let need : ℕ = need_of c.args.reserved n sizes in
    let sound = c.requires.intact.sound in
    let need_is : c.need_of.result ≡ need = c.need_of.ensures.value ∙ ap (λ (k : ℕ). need_of c.args.reserved k c.as_slice.result.now) c.len-len.ensures
    ∙ ap (λ (lengths : List ℕ). need_of c.args.reserved n lengths) c.as_slice.ensures.value in
    let request : Request = asks c.args.client (calls.Append c.args.area draft c.args.reserved sizes) in
    let while = while_appended (λ (u : State). Survives request s (cut u)) s area draft c.args.reserved sizes
    (c.states_between_survive.ensures.append s c.args.client c.args.area area draft c.args.reserved sizes sound.valid sound.storable sound.whole
    c.in_ok-place.ensures.finds.allowed c.in_ok-place.ensures.finds.there) in
    let prepared = c.prepare.ensures.moments request s while.before (survives_as request s (grown s c.need_of.result) (grown s need) (ap (grown s) need_is) while.grown_is) in
    let state : c.prepare.new.self.state.value ≡ grown s need = c.in_ok-prepare.ensures.state ∙ ap (grown s) need_is in
    let all : AreaTable → State → Type 0 = λ t v. let here = area_at place t.areas in
    All (λ (u : State). Survives request s (cut u)) (appended_stages (spend_if c.args.reserved here n v) here draft sizes) in
    let is : all c.prepare.new.self.areas c.prepare.new.self.state.value = subst (λ (t : AreaTable). all t c.prepare.new.self.state.value) (sym c.in_ok-prepare.ensures.areas)
    (subst (λ (v : State). all old.areas v) (sym state) while.behind) in
    crash_then (IsErrOf c.prepare.result refusals.DiskFault) request s (g.D.Disk.state c.args.disk.now) (g.D.Disk.state c.prepare.new.disk) (g.D.Disk.state c.append_grown.new.disk)
    (λ fault. let wrong = subst (λ r. IsErrOf r refusals.DiskFault) c.in_ok-prepare.was fault in cc wrong) c.prepare.ensures.writes prepared
    (c.append_grown.ensures.change.moments request s is)

pub returns-in-Err-clause-moments : goal.returns-in-Err-clause-moments
returns-in-Err-clause-moments g c =
    let old = c.args.self.now in
    let s : State = old.state.value in
    let place = c.in_ok-place.place in
    let area : Area = area_at place old.areas.areas in
    let draft = c.args.draft.now in
    let sizes = c.args.sizes.now in
    let n = length draft.bytes in
    let need : ℕ = need_of c.args.reserved n sizes in
    let sound = c.requires.intact.sound in
    let need_is : c.need_of.result ≡ need = c.need_of.ensures.value ∙ ap (λ (k : ℕ). need_of c.args.reserved k c.as_slice.result.now) c.len-len.ensures
    ∙ ap (λ (lengths : List ℕ). need_of c.args.reserved n lengths) c.as_slice.ensures.value in
    let request : Request = asks c.args.client (calls.Append c.args.area draft c.args.reserved sizes) in
    let while = while_appended (λ (u : State). Survives request s (cut u)) s area draft c.args.reserved sizes
    (c.states_between_survive.ensures.append s c.args.client c.args.area area draft c.args.reserved sizes sound.valid sound.storable sound.whole
    c.in_ok-place.ensures.finds.allowed c.in_ok-place.ensures.finds.there) in
    let prepared = c.prepare.ensures.moments request s while.before (survives_as request s (grown s c.need_of.result) (grown s need) (ap (grown s) need_is) while.grown_is) in
    let state : c.prepare.new.self.state.value ≡ grown s need = c.in_ok-prepare.ensures.state ∙ ap (grown s) need_is in
    let all : AreaTable → State → Type 0 = λ t v. let here = area_at place t.areas in
    All (λ (u : State). Survives request s (cut u)) (appended_stages (spend_if c.args.reserved here n v) here draft sizes) in
    let is : all c.prepare.new.self.areas c.prepare.new.self.state.value = subst (λ (t : AreaTable). all t c.prepare.new.self.state.value) (sym c.in_ok-prepare.ensures.areas)
    (subst (λ (v : State). all old.areas v) (sym state) while.behind) in
    crash_then (IsErrOf c.prepare.result refusals.DiskFault) request s (g.D.Disk.state c.args.disk.now) (g.D.Disk.state c.prepare.new.disk) (g.D.Disk.state c.append_grown.new.disk)
    (λ fault. let wrong = subst (λ r. IsErrOf r refusals.DiskFault) c.in_ok-prepare.was fault in cc wrong) c.prepare.ensures.writes prepared
    (c.append_grown.ensures.change.moments request s is)

pub returns-in_err-place-clause-no_memory : goal.returns-in_err-place-clause-no_memory
returns-in_err-place-clause-no_memory g c = λ wanting.
    let s : State = c.args.self.now.state.value in
    crash_still c.logs_are_copies_and_blocks.ensures.stands c.logs_are_copies_and_blocks.ensures.by_file (g.D.Disk.state c.args.disk.now) c.args.self.now
    c.requires.intact (bad_line 0) s (c.states_between_survive.ensures.bad_line s 0 c.requires.intact.sound.valid)

pub returns-in_err-prepare-clause-no_memory : goal.returns-in_err-prepare-clause-no_memory
returns-in_err-prepare-clause-no_memory g c = λ wanting.
    let s : State = c.args.self.now.state.value in
    let given : Refusal = c.in_err-prepare.field-0.0 in
    let same = error_of c.from_residual-in_err-prepare.result given c.from_residual-in_err-prepare.ensures.1 in
    let kept = rw same at wanting in
    c.prepare.ensures.no_memory (subst (λ r. IsErrOf r refusals.NoMemory) (sym c.in_err-prepare.was) (as_fault given refusals.NoMemory kept))
    (bad_line 0) s (c.states_between_survive.ensures.bad_line s 0 c.requires.intact.sound.valid)

pub returns-in_err-place-clause-files : goal.returns-in_err-place-clause-files
returns-in_err-place-clause-files g c = λ fine.
    let disk = g.D.Disk.state c.args.disk.now in
    counts_none disk disk c.args.self.now c.args.self.now c.requires.intact.sound.unbroken refl

pub returns-in_err-prepare-clause-files : goal.returns-in_err-prepare-clause-files
returns-in_err-prepare-clause-files g c = λ fine.
    let given : Refusal = c.in_err-prepare.field-0.0 in
    let same = error_of c.from_residual-in_err-prepare.result given c.from_residual-in_err-prepare.ensures.1 in
    c.prepare.ensures.files (λ fault.
    let kept = subst (λ r. IsErrOf r refusals.DiskFault) c.in_err-prepare.was fault in fine (rw same (as_fault given refusals.DiskFault kept)))

pub returns-in-Ok-clause-files : goal.returns-in-Ok-clause-files
returns-in-Ok-clause-files g c = λ fine.
    counts_then _ _ _ c.args.self.now c.prepare.new.self c.append_grown.new.self c.in-Ok.ensures.change.left.sound.unbroken
    (c.in_ok-prepare.ensures.files (λ f. cc f)) c.in-Ok.ensures.files

pub returns-in-Err-clause-files : goal.returns-in-Err-clause-files
returns-in-Err-clause-files g c = λ fine. absurd (fine refl)
