use Rattle.clfs_manager.proofs.Words.{cut, Request, asks, bad_line, Survives, CrashLeavesSurvivor, ◌≡◌, ◌≤◌, ℕ, refl, sym, ap, subst, ◌∙◌, List, [], length}
use Rattle.clfs_manager.proofs.Words.{All, IsErr, IsErrOf, Result, AreaTable, area_at, TakesThrough, LogEntry, Refusal, Area, State, Fault, Fine, Step}
use Rattle.clfs_manager.proofs.Words.{with_broken, rebased, restart_record, restarted, flush, need_of, next_lsn, put, spend_if, spent_of, grown, Steps}
use Rattle.clfs_manager.proofs.Words.{unplaced, WritesDisk}
use Rattle.clfs_manager.proofs.Crashes.{crash_still, crash_then, survives_as}
use Rattle.clfs_manager.proofs.Stages.{restarted_stages, while_restarted}
use Rattle.clfs_model.specs.declared.call.Call.TheVariants as calls
use Rattle.clfs_model.specs.declared.refusal.Refusal.TheVariants as refusals
use Rattle.clfs_model.specs.declared.reply.Reply.TheVariants as replies
use Rattle.clfs_manager.proofs.Intact.{writes_as, writes_then}
use Rattle.clfs_manager.proofs.OwnRefusals.{error_of, writes_refused}
use Rattle.clfs_manager.proofs.PreparedCall.{as_fault, leaves_step, restart_enough, restart_step}
use Rattle.clfs_manager.proofs.RestartCall.{left_broken, left_intact}
use Rattle.clfs_manager.proofs.KeptFiles.{counts_none, counts_then}
use Rattle.clfs_manager.proofs.log.Log.write_restart.Goals as goal

pub returns-in_err-place-clause-writes : goal.returns-in_err-place-clause-writes
returns-in_err-place-clause-writes g c =
    let s : State = c.args.self.now.state.value in
    let given : Refusal = c.in_err-place.field-0.0 in
    let own = c.refusals_are_the_calls_own.ensures.own s c.args.client (calls.WriteRestart c.args.area c.as_slice-data.result.now c.args.base c.args.reserved) given
    c.in_err-place.ensures.finds.refused in
    let disk = g.D.Disk.state c.args.disk.now in
    subst (λ (r : Result ℕ Refusal). WritesDisk (IsErrOf r refusals.DiskFault) disk disk)
    (sym (error_of c.from_residual.result given c.from_residual.ensures.1)) (writes_refused given disk own)

pub returns-in_err-prepare-clause-step : goal.returns-in_err-prepare-clause-step
returns-in_err-prepare-clause-step g c = λ told.
    let s : State = c.args.self.now.state.value in
    let t : State = c.prepare.new.self.state.value in
    let call = calls.WriteRestart c.args.area c.args.bytes.now c.args.base c.args.reserved in
    let given : Refusal = c.in_err-prepare.field-0.0 in
    subst (λ (r : Result ℕ Refusal). Steps {A = ℕ} told s c.args.client call (λ lsn. replies.Placed lsn) r t)
    (sym (error_of c.from_residual-in_err-prepare.result given c.from_residual-in_err-prepare.ensures.1))
    (leaves_step c.ways_of_a_step.ensures told s t c.args.client call given c.requires.intact.sound.whole
    (rw (sym c.as_slice-data.ensures) c.in_ok-place.ensures.finds.allowed) refl refl c.in_err-prepare.ensures.refused)

pub returns-in_err-prepare-clause-writes : goal.returns-in_err-prepare-clause-writes
returns-in_err-prepare-clause-writes g c =
    let given : Refusal = c.in_err-prepare.field-0.0 in
    let same = error_of c.from_residual-in_err-prepare.result given c.from_residual-in_err-prepare.ensures.1 in
    writes_as (IsErrOf c.prepare.result refusals.DiskFault) _ _ _
    (λ fault. let kept = subst (λ r. IsErrOf r refusals.DiskFault) c.in_err-prepare.was fault in rw same (as_fault given refusals.DiskFault kept))
    (λ fault. let kept = rw same at fault in subst (λ r. IsErrOf r refusals.DiskFault) (sym c.in_err-prepare.was) (as_fault given refusals.DiskFault kept)) c.prepare.ensures.writes

pub restart_grown-requires-clause-enough : goal.restart_grown-requires-clause-enough
restart_grown-requires-clause-enough g c =
    let old = c.args.self.now in
    let read = c.as_slice-data.result.now in
    subst (λ (t : AreaTable). spent_of c.args.reserved (length read) ≤ (area_at c.in_ok-place.place t.areas).held) (sym c.in_ok-prepare.ensures.areas)
    (restart_enough old.state.value (area_at c.in_ok-place.place old.areas.areas) read c.args.base c.args.reserved c.in_ok-place.ensures.passes)

pub restart_grown-requires-clause-takes : goal.restart_grown-requires-clause-takes
restart_grown-requires-clause-takes g c =
    let old = c.args.self.now in
    let s : State = old.state.value in
    let place = c.in_ok-place.place in
    let area : Area = area_at place old.areas.areas in
    let read = c.as_slice-data.result.now in
    let need : ℕ = need_of c.args.reserved (length read) [] in
    let sound = c.requires.intact.sound in
    let takes : TakesThrough (spend_if c.args.reserved area (length read) (grown s need)) area (restart_record s area read c.args.base) 0 =
    c.calls_that_pass_find_room.ensures.restart s c.args.client c.args.area area read c.args.base c.args.reserved sound.valid sound.storable
    c.in_ok-place.ensures.finds.two c.in_ok-place.ensures.finds.there c.in_ok-place.ensures.passes in
    let entry : unplaced c.restart_fields-fields.result read ≡ restart_record s area read c.args.base =
    c.restart_fields-fields.ensures.record area read (sym c.area-stream.ensures.stream) in
    let state : c.prepare.new.self.state.value ≡ grown s need = c.in_ok-prepare.ensures.state ∙ ap (grown s) c.need_of.ensures.value in
    subst (λ (t : AreaTable). TakesThrough (spend_if c.args.reserved (area_at place t.areas) (length read) c.prepare.new.self.state.value) (area_at place t.areas)
    (unplaced c.restart_fields-fields.result read) 0) (sym c.in_ok-prepare.ensures.areas)
    (subst (λ (e : LogEntry). TakesThrough (spend_if c.args.reserved area (length read) c.prepare.new.self.state.value) area e 0) (sym entry)
    (subst (λ (v : State). TakesThrough (spend_if c.args.reserved area (length read) v) area (restart_record s area read c.args.base) 0) (sym state) takes))

pub returns-in-Ok-clause-step : goal.returns-in-Ok-clause-step
returns-in-Ok-clause-step g c = λ told.
    let old = c.args.self.now in
    let s : State = old.state.value in
    let place = c.in_ok-place.place in
    let area : Area = area_at place old.areas.areas in
    let read : List ℕ = c.as_slice-data.result.now in
    let n : ℕ = length read in
    let need : ℕ = need_of c.args.reserved n [] in
    let fields = c.restart_fields-fields.result in
    let small = c.small_changes_make_the_calls.ensures in
    let v : State = c.prepare.new.self.state.value in
    let e : LogEntry = unplaced fields read in
    let entry : e ≡ restart_record s area read c.args.base =
    c.restart_fields-fields.ensures.record area read (sym c.area-stream.ensures.stream) in
    let state : v ≡ grown s need = c.in_ok-prepare.ensures.state ∙ ap (grown s) c.need_of.ensures.value in
    let spent : spend_if c.args.reserved (area_at place c.prepare.new.self.areas.areas) n v ≡ spend_if c.args.reserved area n (grown s need) =
    ap (λ (t : AreaTable). spend_if c.args.reserved (area_at place t.areas) n v) c.in_ok-prepare.ensures.areas ∙ ap (spend_if c.args.reserved area n) state in
    let lsn : c.in-Ok.lsn ≡ next_lsn s n = c.in-Ok.ensures.lsn ∙ ap (λ (u : State). next_lsn u n) spent ∙ small.lsn s area c.args.reserved n need in
    let stream : fields.stream ≡ area.stream = c.restart_fields-fields.ensures.stream ∙ c.area-stream.ensures.stream in
    let after : c.restart_grown.new.self.state.value ≡ restarted s area read c.args.base c.args.reserved =
    c.in-Ok.ensures.change.state ∙ ap (λ (u : State). rebased fields.stream fields.new_base (flush (put u e))) spent
    ∙ ap (λ (r : LogEntry). rebased fields.stream fields.new_base (flush (put (spend_if c.args.reserved area n (grown s need)) r))) entry
    ∙ ap (λ (k : ℕ). rebased k fields.new_base (flush (put (spend_if c.args.reserved area n (grown s need)) (restart_record s area read c.args.base)))) stream
    ∙ ap (λ (b : ℕ). rebased area.stream b (flush (put (spend_if c.args.reserved area n (grown s need)) (restart_record s area read c.args.base))))
    c.restart_fields-fields.ensures.base
    ∙ small.restart s area read c.args.base c.args.reserved in
    subst (λ (bytes : List ℕ). Step told s c.args.client (calls.WriteRestart c.args.area bytes c.args.base c.args.reserved) Fine (replies.Placed c.in-Ok.lsn)
    c.restart_grown.new.self.state.value) c.as_slice-data.ensures
    (restart_step c.ways_of_a_step.ensures told s c.restart_grown.new.self.state.value c.args.client c.args.area area read c.args.base c.args.reserved c.in-Ok.lsn
    c.requires.intact.sound.whole c.in_ok-place.ensures.finds.allowed c.in_ok-place.ensures.finds.there lsn after)

pub returns-in-Ok-clause-left : goal.returns-in-Ok-clause-left
returns-in-Ok-clause-left g c = left_intact (g.D.Disk.state c.restart_grown.new.disk) c.restart_grown.new.self c.in-Ok.ensures.change.left

pub returns-in-Ok-clause-writes : goal.returns-in-Ok-clause-writes
returns-in-Ok-clause-writes g c =
    writes_then (IsErrOf c.prepare.result refusals.DiskFault) _ (g.D.Disk.state c.args.disk.now) (g.D.Disk.state c.prepare.new.disk)
    (g.D.Disk.state c.restart_grown.new.disk) (λ fault. let wrong = subst (λ r. IsErrOf r refusals.DiskFault) c.in_ok-prepare.was fault in cc wrong)
    c.prepare.ensures.writes
    (writes_as (IsErr c.restart_grown.result) _ _ _ (λ fault. let wrong = subst (λ r. IsErr r) c.in-Ok.is fault in absurd (cc wrong)) (λ fault. absurd (cc fault))
    c.restart_grown.ensures.change.writes)

pub returns-in-Err-clause-step : goal.returns-in-Err-clause-step
returns-in-Err-clause-step g c = λ told.
    let s : State = c.args.self.now.state.value in
    let call = calls.WriteRestart c.args.area c.args.bytes.now c.args.base c.args.reserved in
    let state : c.broken-self.result.value ≡ with_broken s = c.broken-self.ensures ∙ ap (λ (u : State). with_broken u) c.kept-before.ensures in
    subst (λ (u : State). Step told s c.args.client call Fault (replies.Refused refusals.DiskFault) u) (sym state)
    (c.ways_of_a_step.ensures.faulted told s c.args.client call c.requires.intact.sound.whole
    (rw (sym c.as_slice-data.ensures) c.in_ok-place.ensures.finds.allowed) refl)

pub returns-in-Err-clause-left : goal.returns-in-Err-clause-left
returns-in-Err-clause-left g c =
    left_broken (g.D.Disk.state c.restart_grown.new.disk) (record c.restart_grown.new.self { state = c.broken-self.result })
    (ap (λ (u : State). u.broken) c.broken-self.ensures) c.in-Err.ensures.change.broken

pub returns-in-Err-clause-writes : goal.returns-in-Err-clause-writes
returns-in-Err-clause-writes g c =
    writes_then (IsErrOf c.prepare.result refusals.DiskFault) _ (g.D.Disk.state c.args.disk.now) (g.D.Disk.state c.prepare.new.disk)
    (g.D.Disk.state c.restart_grown.new.disk) (λ fault. let wrong = subst (λ r. IsErrOf r refusals.DiskFault) c.in_ok-prepare.was fault in cc wrong)
    c.prepare.ensures.writes
    (writes_as (IsErr c.restart_grown.result) _ _ _ (λ _. refl) (λ _. subst (λ r. IsErr r) (sym c.in-Err.is) refl) c.restart_grown.ensures.change.writes)

pub returns-in_err-place-clause-moments : goal.returns-in_err-place-clause-moments
returns-in_err-place-clause-moments g c =
    let s : State = c.args.self.now.state.value in
    let call = calls.WriteRestart c.args.area c.args.bytes.now c.args.base c.args.reserved in
    crash_still c.logs_are_copies_and_blocks.ensures.stands c.logs_are_copies_and_blocks.ensures.by_file (g.D.Disk.state c.args.disk.now) c.args.self.now
    c.requires.intact (asks c.args.client call) s (c.states_between_survive.ensures.before s c.args.client call c.requires.intact.sound.valid)

pub returns-in_err-prepare-clause-moments : goal.returns-in_err-prepare-clause-moments
returns-in_err-prepare-clause-moments g c =
    let old = c.args.self.now in
    let s : State = old.state.value in
    let place = c.in_ok-place.place in
    let area : Area = area_at place old.areas.areas in
    let read : List ℕ = c.as_slice-data.result.now in
    let n : ℕ = length read in
    let need : ℕ = need_of c.args.reserved n [] in
    let sound = c.requires.intact.sound in
    let request : Request = asks c.args.client (calls.WriteRestart c.args.area read c.args.base c.args.reserved) in
    let while = while_restarted (λ (u : State). Survives request s (cut u)) s area read c.args.base c.args.reserved
    (c.states_between_survive.ensures.restart s c.args.client c.args.area area read c.args.base c.args.reserved sound.valid sound.storable sound.whole
    c.in_ok-place.ensures.finds.allowed c.in_ok-place.ensures.finds.there) in
    let prepared = c.prepare.ensures.moments request s while.before
    (survives_as request s (grown s c.need_of.result) (grown s need) (ap (grown s) c.need_of.ensures.value) while.grown_is) in
    subst (λ (bytes : List ℕ). CrashLeavesSurvivor (asks c.args.client (calls.WriteRestart c.args.area bytes c.args.base c.args.reserved)) s
    (g.D.Disk.state c.args.disk.now) (g.D.Disk.state c.prepare.new.disk)) c.as_slice-data.ensures prepared

pub returns-in-Ok-clause-moments : goal.returns-in-Ok-clause-moments
returns-in-Ok-clause-moments g c =
    let old = c.args.self.now in
    let s : State = old.state.value in
    let place = c.in_ok-place.place in
    let area : Area = area_at place old.areas.areas in
    let read : List ℕ = c.as_slice-data.result.now in
    let n : ℕ = length read in
    let need : ℕ = need_of c.args.reserved n [] in
    let sound = c.requires.intact.sound in
    let request : Request = asks c.args.client (calls.WriteRestart c.args.area read c.args.base c.args.reserved) in
    let while = while_restarted (λ (u : State). Survives request s (cut u)) s area read c.args.base c.args.reserved
    (c.states_between_survive.ensures.restart s c.args.client c.args.area area read c.args.base c.args.reserved sound.valid sound.storable sound.whole
    c.in_ok-place.ensures.finds.allowed c.in_ok-place.ensures.finds.there) in
    let prepared = c.prepare.ensures.moments request s while.before
    (survives_as request s (grown s c.need_of.result) (grown s need) (ap (grown s) c.need_of.ensures.value) while.grown_is) in
    let fields = c.restart_fields-fields.result in
    let entry : unplaced fields read ≡ restart_record s area read c.args.base =
    c.restart_fields-fields.ensures.record area read (sym c.area-stream.ensures.stream) in
    let state : c.prepare.new.self.state.value ≡ grown s need = c.in_ok-prepare.ensures.state ∙ ap (grown s) c.need_of.ensures.value in
    let stream : fields.stream ≡ area.stream = c.restart_fields-fields.ensures.stream ∙ c.area-stream.ensures.stream in
    let all : AreaTable → State → LogEntry → ℕ → ℕ → Type 0 = λ t v e k b.
    All (λ (u : State). Survives request s (cut u)) (restarted_stages (spend_if c.args.reserved (area_at place t.areas) n v) n e k b) in
    let v : State = c.prepare.new.self.state.value in
    let is : all c.prepare.new.self.areas v (unplaced fields read) fields.stream fields.new_base =
    subst (λ (t : AreaTable). all t v (unplaced fields read) fields.stream fields.new_base) (sym c.in_ok-prepare.ensures.areas)
    (subst (λ (u : State). all old.areas u (unplaced fields read) fields.stream fields.new_base) (sym state)
    (subst (λ (e : LogEntry). all old.areas (grown s need) e fields.stream fields.new_base) (sym entry)
    (subst (λ (k : ℕ). all old.areas (grown s need) (restart_record s area read c.args.base) k fields.new_base) (sym stream)
    (subst (λ (b : ℕ). all old.areas (grown s need) (restart_record s area read c.args.base) area.stream b) (sym c.restart_fields-fields.ensures.base) while.behind)))) in
    subst (λ (bytes : List ℕ). CrashLeavesSurvivor (asks c.args.client (calls.WriteRestart c.args.area bytes c.args.base c.args.reserved)) s
    (g.D.Disk.state c.args.disk.now) (g.D.Disk.state c.restart_grown.new.disk)) c.as_slice-data.ensures
    (crash_then (IsErrOf c.prepare.result refusals.DiskFault) request s (g.D.Disk.state c.args.disk.now) (g.D.Disk.state c.prepare.new.disk) (g.D.Disk.state c.restart_grown.new.disk)
    (λ fault. let wrong = subst (λ r. IsErrOf r refusals.DiskFault) c.in_ok-prepare.was fault in cc wrong) c.prepare.ensures.writes prepared
    (c.restart_grown.ensures.change.moments request s is))

pub returns-in-Err-clause-moments : goal.returns-in-Err-clause-moments
returns-in-Err-clause-moments g c =
    let old = c.args.self.now in
    let s : State = old.state.value in
    let place = c.in_ok-place.place in
    let area : Area = area_at place old.areas.areas in
    let read : List ℕ = c.as_slice-data.result.now in
    let n : ℕ = length read in
    let need : ℕ = need_of c.args.reserved n [] in
    let sound = c.requires.intact.sound in
    let request : Request = asks c.args.client (calls.WriteRestart c.args.area read c.args.base c.args.reserved) in
    let while = while_restarted (λ (u : State). Survives request s (cut u)) s area read c.args.base c.args.reserved
    (c.states_between_survive.ensures.restart s c.args.client c.args.area area read c.args.base c.args.reserved sound.valid sound.storable sound.whole
    c.in_ok-place.ensures.finds.allowed c.in_ok-place.ensures.finds.there) in
    let prepared = c.prepare.ensures.moments request s while.before
    (survives_as request s (grown s c.need_of.result) (grown s need) (ap (grown s) c.need_of.ensures.value) while.grown_is) in
    let fields = c.restart_fields-fields.result in
    let entry : unplaced fields read ≡ restart_record s area read c.args.base =
    c.restart_fields-fields.ensures.record area read (sym c.area-stream.ensures.stream) in
    let state : c.prepare.new.self.state.value ≡ grown s need = c.in_ok-prepare.ensures.state ∙ ap (grown s) c.need_of.ensures.value in
    let stream : fields.stream ≡ area.stream = c.restart_fields-fields.ensures.stream ∙ c.area-stream.ensures.stream in
    let all : AreaTable → State → LogEntry → ℕ → ℕ → Type 0 = λ t v e k b.
    All (λ (u : State). Survives request s (cut u)) (restarted_stages (spend_if c.args.reserved (area_at place t.areas) n v) n e k b) in
    let v : State = c.prepare.new.self.state.value in
    let is : all c.prepare.new.self.areas v (unplaced fields read) fields.stream fields.new_base =
    subst (λ (t : AreaTable). all t v (unplaced fields read) fields.stream fields.new_base) (sym c.in_ok-prepare.ensures.areas)
    (subst (λ (u : State). all old.areas u (unplaced fields read) fields.stream fields.new_base) (sym state)
    (subst (λ (e : LogEntry). all old.areas (grown s need) e fields.stream fields.new_base) (sym entry)
    (subst (λ (k : ℕ). all old.areas (grown s need) (restart_record s area read c.args.base) k fields.new_base) (sym stream)
    (subst (λ (b : ℕ). all old.areas (grown s need) (restart_record s area read c.args.base) area.stream b) (sym c.restart_fields-fields.ensures.base) while.behind)))) in
    subst (λ (bytes : List ℕ). CrashLeavesSurvivor (asks c.args.client (calls.WriteRestart c.args.area bytes c.args.base c.args.reserved)) s
    (g.D.Disk.state c.args.disk.now) (g.D.Disk.state c.restart_grown.new.disk)) c.as_slice-data.ensures
    (crash_then (IsErrOf c.prepare.result refusals.DiskFault) request s (g.D.Disk.state c.args.disk.now) (g.D.Disk.state c.prepare.new.disk) (g.D.Disk.state c.restart_grown.new.disk)
    (λ fault. let wrong = subst (λ r. IsErrOf r refusals.DiskFault) c.in_ok-prepare.was fault in cc wrong) c.prepare.ensures.writes prepared
    (c.restart_grown.ensures.change.moments request s is))

pub returns-in_err-place-clause-no_memory : goal.returns-in_err-place-clause-no_memory
returns-in_err-place-clause-no_memory g c = λ wanting.
    let s : State = c.args.self.now.state.value in
    crash_still c.logs_are_copies_and_blocks.ensures.stands c.logs_are_copies_and_blocks.ensures.by_file (g.D.Disk.state c.args.disk.now) c.args.self.now
    c.requires.intact (bad_line 0) s (c.states_between_survive.ensures.bad_line s 0 c.requires.intact.sound.valid)

pub returns-in_err-prepare-clause-no_memory : goal.returns-in_err-prepare-clause-no_memory
returns-in_err-prepare-clause-no_memory g c = λ wanting.
    let s : State = c.args.self.now.state.value in
    let given : Refusal = c.in_err-prepare.field-0.0 in
    let same = error_of c.from_residual-in_err-prepare.result given c.from_residual-in_err-prepare.ensures.1 in
    let kept = rw same at wanting in
    c.prepare.ensures.no_memory (subst (λ r. IsErrOf r refusals.NoMemory) (sym c.in_err-prepare.was) (as_fault given refusals.NoMemory kept))
    (bad_line 0) s (c.states_between_survive.ensures.bad_line s 0 c.requires.intact.sound.valid)

pub returns-in_err-place-clause-files : goal.returns-in_err-place-clause-files
returns-in_err-place-clause-files g c = λ fine.
    let disk = g.D.Disk.state c.args.disk.now in
    counts_none disk disk c.args.self.now c.args.self.now c.requires.intact.sound.unbroken refl

pub returns-in_err-prepare-clause-files : goal.returns-in_err-prepare-clause-files
returns-in_err-prepare-clause-files g c = λ fine.
    let given : Refusal = c.in_err-prepare.field-0.0 in
    let same = error_of c.from_residual-in_err-prepare.result given c.from_residual-in_err-prepare.ensures.1 in
    c.prepare.ensures.files (λ fault.
    let kept = subst (λ r. IsErrOf r refusals.DiskFault) c.in_err-prepare.was fault in fine (rw same (as_fault given refusals.DiskFault kept)))

pub returns-in-Ok-clause-files : goal.returns-in-Ok-clause-files
returns-in-Ok-clause-files g c = λ fine.
    counts_then _ _ _ c.args.self.now c.prepare.new.self c.restart_grown.new.self c.in-Ok.ensures.change.left.sound.unbroken
    (c.in_ok-prepare.ensures.files (λ f. cc f)) c.in-Ok.ensures.files

pub returns-in-Err-clause-files : goal.returns-in-Err-clause-files
returns-in-Err-clause-files g c = λ fine. absurd (fine refl)
