use Rattle.clfs_manager.proofs.Words.{◌≡◌, ◌∙◌, false, refl, RestartAreas, newest_restart, Area, area_at}
use Rattle.clfs_model.specs.declared.call.Call.TheVariants as calls
use Rattle.clfs_manager.proofs.OwnRefusals.{error_of}
use Rattle.clfs_manager.proofs.Reached.{reached_is_needed}
use Rattle.clfs_manager.proofs.ReadCalls.{comes, managed, refuses}
use Rattle.clfs_manager.proofs.ReadSteps.{found_step, restart_answers}
use Rattle.clfs_manager.proofs.manager.Manager.read_restart.Goals as goal

pub start_reading-requires-clause-record : goal.start_reading-requires-clause-record
start_reading-requires-clause-record g c =
    let log = c.self.inside.log in
    reached_is_needed log.state.value log.areas.areas c.args.client c.args.area c.in_ok-place.place c.in_ok-place.head
    (λ (here : Area). newest_restart log.state.value here.stream) c.in_ok-place.ensures.reaches

pub returns : goal.returns
returns g c =
    let there = c.in_ok-place.ensures.reaches in
    let read = c.start_reading.ensures in
    let s = c.self.inside.log.state.value in
    let whole : s.broken ≡ false = c.self.invariant.broken ∙ c.if-self.false in
    comes {v = (s, c.self.inside.disk)} c.reading_laws.ensures c.self.view_is whole (c.stored.ensures.survives _ _) (c.stored.ensures.survives_reading 0) c.start_reading.result there read.gets
    (found_step c.reading_laws.ensures.ways s (calls.ReadRestart c.args.area) whole (c.in_ok-place.ensures.allowed) refl refl refl there RestartAreas c.start_reading.result
    (restart_answers s c.args.client c.args.area (area_at c.in_ok-place.place c.self.inside.log.areas.areas) there.entry there.area there.reached)
    read.gets read.number read.state)

pub invariant_of-self : goal.invariant_of-self
invariant_of-self g c = managed _ _ c.reading_laws.ensures (record { is_client = c.requires.client; arguments = tt }) c.stored.ensures.valid c.stored.ensures.storable
    (returns g c) c.start_reading.ensures.gets.left

pub returns-in_err-place : goal.returns-in_err-place
returns-in_err-place g c = rw (error_of c.from_residual.result c.in_err-place.field-0.0 c.from_residual.ensures.1)
    (refuses c.reading_laws.ensures c.self.view_is (c.self.invariant.broken ∙ c.if-self.false) (c.stored.ensures.survives _ _) (c.stored.ensures.survives_reading 0) c.in_err-place.field-0.0
    (c.in_err-place.ensures.refused))
