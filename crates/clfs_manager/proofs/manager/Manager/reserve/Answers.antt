use Rattle.clfs_manager.proofs.Words.{Log, ◌≡◌, ℕ, ◌+◌, refl, sym, ap, subst, ◌∙◌, arith, false, true, Err, None, Result, AreaTable, all_held, area_at}
use Rattle.clfs_manager.proofs.Words.{Refusal, Fine, Area, State, hold, hold_sizes, full, refusal, too_long, grown, own_sum, Step, grows, IsValid, WritesAs}
use Rattle.clfs_manager.proofs.WritingCalls.{call_faulted, call_made, call_refused, call_starved, call_stopped, sized_fine, sized_faulted, sized_starved}
use Rattle.clfs_manager.proofs.CopyingCalls.{crash_not_grown, crash_reserved}
use Rattle.clfs_model.specs.declared.call.Call.TheVariants as calls
use Rattle.clfs_model.specs.declared.reply.Reply.TheVariants as replies
use Rattle.clfs_manager.proofs.FlushKeeps.{managed_broken}
use Rattle.clfs_manager.proofs.Intact.{intact_managed, managed_intact, writes_seen}
use Rattle.clfs_manager.proofs.Numbers.{free_is_small}
use Rattle.clfs_manager.proofs.OwnRefusals.{error_of}
use Rattle.clfs_manager.proofs.Reserved.{fault_grows, held_within, intact_after, reserve_judged, reserve_step}
use Rattle.clfs_manager.proofs.KeptFiles.{copy_of_call, counts_then, files_before, files_kept, not_faulted}
use Rattle.clfs_manager.proofs.manager.Manager.reserve.Goals as goal

pub grow-requires-clause-intact : goal.grow-requires-clause-intact
grow-requires-clause-intact g c = intact_managed (g.D.Disk.state c.self.inside.disk) c.self.inside.log c.self.invariant c.if-self.false

pub hold_sizes-requires-clause-valid : goal.hold_sizes-requires-clause-valid
hold_sizes-requires-clause-valid g c =
    let old = c.self.inside.log in
    let s : State = old.state.value in
    let new = c.grow.new.self in
    let sizes = c.args.sizes.now in
    let place = c.in_ok-place.place in
    let area : Area = area_at place old.areas.areas in
    let call = calls.Reserve c.args.area sizes in
    let none : refusal s c.args.client call ≡ None =
    reserve_judged s _ c.args.client c.args.area (area_at c.in_ok-place.place c.self.inside.log.areas.areas) _ _ c.args.sizes.now _
    (c.in_ok-place.ensures.found (λ (a : Area). too_long a.largest sizes (full s (own_sum sizes))))
    c.reserve_refusal.ensures c.space.ensures c.area-row.ensures.largest c.as_slice-lengths.ensures.value ∙ c.in_default.is in
    let step = reserve_step c.calls_follow_laws.ensures.ways false s c.args.client c.args.area area sizes (c.self.invariant.broken ∙ c.if-self.false) none c.in_ok-place.ensures.there in
    let valid = c.calls_follow_laws.ensures.valid false s c.args.client call Fine (replies.Held (area.held + own_sum sizes))
    (hold_sizes area sizes (grown s (own_sum sizes))) c.self.invariant.valid step in
    let need : c.own_sum-need.result ≡ own_sum sizes = c.own_sum-need.ensures.value ∙ ap own_sum c.as_slice-lengths.ensures.value in
    let state : new.state.value ≡ grown s (own_sum sizes) = c.in-Ok.ensures.change.state ∙ ap (λ (n : ℕ). grown s n) need in
    let areas : area_at place new.areas.areas ≡ area = ap (λ (t : AreaTable). area_at place t.areas) c.in-Ok.ensures.change.same.areas in
    subst (λ (a : Area). IsValid (hold_sizes a sizes new.state.value)) (sym areas)
    (subst (λ (t : State). IsValid (hold_sizes area sizes t)) (sym state) valid)

pub overflow_add-result : goal.overflow_add-result
overflow_add-result g c =
    let old = c.self.inside.log in
    let s : State = old.state.value in
    let valid = c.self.invariant.valid in
    let areas = (c.self.invariant.whole c.if-self.false).memory.areas in
    omega (
      arith,
      c.area-row.ensures.held,
      held_within old.areas.areas c.in_ok-place.place c.in_ok-place.ensures.within,
      ap all_held areas,
      valid.space.room,
      c.own_sum-need.ensures.few,
      free_is_small s.shape s.place (hold s) s.containers valid.ranges.shape valid.ranges.few_containers,
    )

pub invariant_of-self : goal.invariant_of-self
invariant_of-self g c =
    let new = g.D.Disk.state c.grow.new.disk in
    managed_intact new c.hold_sizes.new.self
    (intact_after new c.grow.new.self c.hold_sizes.new.self c.in-Ok.ensures.change.intact c.hold_sizes.ensures.areas c.hold_sizes.ensures.sound)

pub invariant_of-self-in-Err-DiskFault : goal.invariant_of-self-in-Err-DiskFault
invariant_of-self-in-Err-DiskFault g c =
    let done = rw c.in-Err-DiskFault.field-0-is at c.in-Err-DiskFault.ensures in
    managed_broken (g.D.Disk.state c.self.inside.disk) (g.D.Disk.state c.grow.new.disk) c.self.inside.log c.grow.new.self
    c.calls_follow_laws.ensures.opened_valid c.calls_follow_laws.ensures.opened_storable c.self.invariant c.if-self.false (done.change.broken refl)

pub invariant_of-self-in-Err-NoMemory : goal.invariant_of-self-in-Err-NoMemory
invariant_of-self-in-Err-NoMemory g c =
    let done = rw c.in-Err-NoMemory.field-0-is at c.in-Err-NoMemory.ensures in
    managed_intact (g.D.Disk.state c.grow.new.disk) c.grow.new.self (done.change.kept refl)

pub area_for_records-requires : goal.area_for_records-requires
area_for_records-requires g c = record { sound = (intact_managed (g.D.Disk.state c.self.inside.disk) c.self.inside.log c.self.invariant c.if-self.false).sound }

pub space-requires : goal.space-requires
space-requires g c = record { sound = (intact_managed (g.D.Disk.state c.self.inside.disk) c.self.inside.log c.self.invariant c.if-self.false).sound }

pub returns-then-self-clause-call : goal.returns-then-self-clause-call
returns-then-self-clause-call g c = call_stopped c.calls_follow_laws.ensures.ways g.D.Disk.state c.self.inside.log c.self.inside.disk c.args.self.now c.self.view_is c.self.invariant c.if-self.true c.args.client (calls.Reserve c.args.area c.args.sizes.now) replies.Held

pub returns-in_err-place-clause-call : goal.returns-in_err-place-clause-call
returns-in_err-place-clause-call g c =
    let sizes = c.args.sizes.now in
    let given : Refusal = c.in_err-place.field-0.0 in
    subst (λ (r : Result ℕ Refusal). WritesAs g.D.Disk.state c.args.client (calls.Reserve c.args.area c.args.sizes.now) replies.Held r c.args.self.now c.args.self.now)
    (sym (error_of c.from_residual.result given c.from_residual.ensures.1))
    (call_refused c.calls_follow_laws.ensures.crashes c.calls_follow_laws.ensures.ways g.D.Disk.state c.self.inside.log c.self.inside.disk c.args.self.now c.self.view_is c.self.invariant c.if-self.false c.args.client (calls.Reserve c.args.area c.args.sizes.now) replies.Held
    given (c.in_err-place.ensures.refused (λ (area : Area). too_long area.largest sizes (full c.self.inside.log.state.value (own_sum sizes)))))

pub returns-in-Some-clause-call : goal.returns-in-Some-clause-call
returns-in-Some-clause-call g c =
    let s : State = c.self.inside.log.state.value in
    let sizes = c.args.sizes.now in
    call_refused c.calls_follow_laws.ensures.crashes c.calls_follow_laws.ensures.ways g.D.Disk.state c.self.inside.log c.self.inside.disk c.args.self.now c.self.view_is c.self.invariant c.if-self.false c.args.client (calls.Reserve c.args.area c.args.sizes.now) replies.Held
    c.in-Some.refusal (reserve_judged s _ c.args.client c.args.area (area_at c.in_ok-place.place c.self.inside.log.areas.areas) _ _ sizes _
    (c.in_ok-place.ensures.found (λ (area : Area). too_long area.largest sizes (full s (own_sum sizes))))
    c.reserve_refusal.ensures c.space.ensures c.area-row.ensures.largest c.as_slice-lengths.ensures.value ∙ c.in-Some.is)

pub returns-in-Ok-clause-call : goal.returns-in-Ok-clause-call
returns-in-Ok-clause-call g c =
    let old = c.self.inside.log in
    let s : State = old.state.value in
    let sizes = c.args.sizes.now in
    let place = c.in_ok-place.place in
    let area : Area = area_at place old.areas.areas in
    let call = calls.Reserve c.args.area sizes in
    let none : refusal s c.args.client call ≡ None =
    reserve_judged s _ c.args.client c.args.area area _ _ sizes _ (c.in_ok-place.ensures.found (λ (a : Area). too_long a.largest sizes (full s (own_sum sizes))))
    c.reserve_refusal.ensures c.space.ensures c.area-row.ensures.largest c.as_slice-lengths.ensures.value ∙ c.in_default.is in
    let need : c.own_sum-need.result ≡ own_sum sizes = c.own_sum-need.ensures.value ∙ ap own_sum c.as_slice-lengths.ensures.value in
    let moments = crash_reserved c.calls_follow_laws.ensures.crashes c.states_between_survive.ensures.reserve g.D.Disk.state c.self.inside.log c.self.inside.disk c.args.self.now c.self.view_is c.self.invariant c.if-self.false
    c.args.client c.args.area area sizes c.own_sum-need.result (g.D.Disk.state c.grow.new.disk) need none c.in_ok-place.ensures.there c.grow.ensures.change.moments in
    let new = c.grow.new.self in
    let held : c.area-row.result.held + c.own_sum-need.result ≡ area.held + own_sum sizes =
    ap (λ (n : ℕ). n + c.own_sum-need.result) c.area-row.ensures.held ∙ ap (λ (n : ℕ). area.held + n) need in
    let leaves : c.hold_sizes.new.self.state.value ≡ hold_sizes area sizes (grown s (own_sum sizes)) =
    c.hold_sizes.ensures.state ∙ ap (λ (t : AreaTable). hold_sizes (area_at place t.areas) sizes new.state.value) c.in-Ok.ensures.change.same.areas
    ∙ ap (λ (t : State). hold_sizes area sizes t) (c.in-Ok.ensures.change.state ∙ ap (λ (n : ℕ). grown s n) need) in
    call_made g.D.Disk.state c.self.inside.log c.hold_sizes.new.self c.self.inside.disk c.grow.new.disk c.args.self.now c.self.view_is c.self.invariant c.if-self.false c.args.client call replies.Held _
    (λ told. subst (λ (n : ℕ). Step told s c.args.client call Fine (replies.Held n) c.hold_sizes.new.self.state.value) (sym held)
    (subst (λ (t : State). Step told s c.args.client call Fine (replies.Held (area.held + own_sum sizes)) t) (sym leaves)
    (reserve_step c.calls_follow_laws.ensures.ways told s c.args.client c.args.area area sizes (c.self.invariant.broken ∙ c.if-self.false) none c.in_ok-place.ensures.there)))
    (sized_fine c.grow.result _ _ (g.D.Disk.state c.self.inside.disk) (g.D.Disk.state c.grow.new.disk) c.in-Ok.is c.grow.ensures.change.writes) moments (λ want. absurd (cc want)) tt
    (copy_of_call g.D.Disk.state old c.hold_sizes.new.self c.self.inside.disk c.grow.new.disk c.args.self.now c.self.view_is c.self.invariant c.if-self.false
    (invariant_of-self g c).whole c.grow.ensures.change.writes.time.nature _ (λ fine.
    let behind = g.D.Disk.state c.grow.new.disk in
    counts_then _ behind behind old new c.hold_sizes.new.self c.hold_sizes.ensures.sound.unbroken (c.in-Ok.ensures.change.files (λ f. cc f))
    (files_before behind behind new.physical new.physical c.hold_sizes.new.self.physical c.hold_sizes.ensures.areas.physical (files_kept behind new.physical))))

pub returns-in-Err-DiskFault-clause-call : goal.returns-in-Err-DiskFault-clause-call
returns-in-Err-DiskFault-clause-call g c =
    let old = c.self.inside.log in
    let s : State = old.state.value in
    let sizes = c.args.sizes.now in
    let place = c.in_ok-place.place in
    let area : Area = area_at place old.areas.areas in
    let call = calls.Reserve c.args.area sizes in
    let none : refusal s c.args.client call ≡ None =
    reserve_judged s _ c.args.client c.args.area area _ _ sizes _ (c.in_ok-place.ensures.found (λ (a : Area). too_long a.largest sizes (full s (own_sum sizes))))
    c.reserve_refusal.ensures c.space.ensures c.area-row.ensures.largest c.as_slice-lengths.ensures.value ∙ c.in_default.is in
    let need : c.own_sum-need.result ≡ own_sum sizes = c.own_sum-need.ensures.value ∙ ap own_sum c.as_slice-lengths.ensures.value in
    let moments = crash_reserved c.calls_follow_laws.ensures.crashes c.states_between_survive.ensures.reserve g.D.Disk.state c.self.inside.log c.self.inside.disk c.args.self.now c.self.view_is c.self.invariant c.if-self.false
    c.args.client c.args.area area sizes c.own_sum-need.result (g.D.Disk.state c.grow.new.disk) need none c.in_ok-place.ensures.there c.grow.ensures.change.moments in
    let done = rw c.in-Err-DiskFault.field-0-is at c.in-Err-DiskFault.ensures in
    let grows_it : grows s c.own_sum-need.result ≡ true = fault_grows (grows s c.own_sum-need.result) c.grow.result c.in-Err-DiskFault.field-0 _ c.grow.ensures.quiet c.in-Err-DiskFault.is in
    call_faulted c.calls_follow_laws.ensures.ways g.D.Disk.state c.self.inside.log c.grow.new.self c.self.inside.disk c.grow.new.disk c.args.self.now c.self.view_is c.self.invariant c.if-self.false c.args.client call replies.Held none
    (ap (λ (n : ℕ). grows s n) (sym need) ∙ grows_it) (done.change.broken refl)
    (writes_seen g.D.Disk.state (s, c.self.inside.disk) c.args.self.now c.self.view_is _ (g.D.Disk.state c.grow.new.disk)
    (sized_faulted c.grow.result (g.D.Disk.state c.self.inside.disk) (g.D.Disk.state c.grow.new.disk) (c.in-Err-DiskFault.is ∙ ap (λ e. Err e) c.in-Err-DiskFault.field-0-is) c.grow.ensures.change.writes)) moments

pub returns-in-Err-NoMemory-clause-call : goal.returns-in-Err-NoMemory-clause-call
returns-in-Err-NoMemory-clause-call g c =
    let old = c.self.inside.log in
    let s : State = old.state.value in
    let sizes = c.args.sizes.now in
    let place = c.in_ok-place.place in
    let area : Area = area_at place old.areas.areas in
    let call = calls.Reserve c.args.area sizes in
    let none : refusal s c.args.client call ≡ None =
    reserve_judged s _ c.args.client c.args.area area _ _ sizes _ (c.in_ok-place.ensures.found (λ (a : Area). too_long a.largest sizes (full s (own_sum sizes))))
    c.reserve_refusal.ensures c.space.ensures c.area-row.ensures.largest c.as_slice-lengths.ensures.value ∙ c.in_default.is in
    let need : c.own_sum-need.result ≡ own_sum sizes = c.own_sum-need.ensures.value ∙ ap own_sum c.as_slice-lengths.ensures.value in
    let moments = crash_reserved c.calls_follow_laws.ensures.crashes c.states_between_survive.ensures.reserve g.D.Disk.state c.self.inside.log c.self.inside.disk c.args.self.now c.self.view_is c.self.invariant c.if-self.false
    c.args.client c.args.area area sizes c.own_sum-need.result (g.D.Disk.state c.grow.new.disk) need none c.in_ok-place.ensures.there c.grow.ensures.change.moments in
    let done = rw c.in-Err-NoMemory.field-0-is at c.in-Err-NoMemory.ensures in
    call_starved c.calls_follow_laws.ensures.ways g.D.Disk.state c.self.inside.log c.grow.new.self c.self.inside.disk c.grow.new.disk c.args.self.now c.self.view_is c.self.invariant c.if-self.false c.args.client call replies.Held refl
    (ap (λ (log : Log). log.state.value) (done.change.no_memory refl))
    (writes_seen g.D.Disk.state (s, c.self.inside.disk) c.args.self.now c.self.view_is _ (g.D.Disk.state c.grow.new.disk)
    (sized_starved c.grow.result (g.D.Disk.state c.self.inside.disk) (g.D.Disk.state c.grow.new.disk) (c.in-Err-NoMemory.is ∙ ap (λ e. Err e) c.in-Err-NoMemory.field-0-is) c.grow.ensures.change.writes)) moments
    (crash_not_grown c.calls_follow_laws.ensures.crashes g.D.Disk.state c.self.inside.log c.self.inside.disk c.args.self.now c.self.view_is c.self.invariant (g.D.Disk.state c.grow.new.disk)
    (done.change.old_size refl))
    (copy_of_call g.D.Disk.state old c.grow.new.self c.self.inside.disk c.grow.new.disk c.args.self.now c.self.view_is c.self.invariant c.if-self.false
    (invariant_of-self-in-Err-NoMemory g c).whole c.grow.ensures.change.writes.time.nature _ (λ fine. done.change.files not_faulted))
