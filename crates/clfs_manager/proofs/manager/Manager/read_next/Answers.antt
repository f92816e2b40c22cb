use Rattle.clfs_manager.proofs.Words.{◌≡◌, ◌∙◌, false, refl, option_and_then, next_of_cursor, record_cursor, Area, area_at}
use Rattle.clfs_model.specs.declared.call.Call.TheVariants as calls
use Rattle.clfs_manager.proofs.OwnRefusals.{error_of}
use Rattle.clfs_manager.proofs.Reached.{reached_is_needed}
use Rattle.clfs_manager.proofs.ReadCalls.{comes, managed, refuses}
use Rattle.clfs_manager.proofs.ReadSteps.{next_step, next_answers}
use Rattle.clfs_manager.proofs.manager.Manager.read_next.Goals as goal

pub go_on_reading-requires-clause-record : goal.go_on_reading-requires-clause-record
go_on_reading-requires-clause-record g c =
    let log = c.self.inside.log in
    reached_is_needed log.state.value log.areas.areas c.args.client c.args.area c.in_ok-place.place c.in_ok-place.head
    (λ (here : Area). option_and_then (next_of_cursor log.state.value here) (record_cursor here c.args.cursor)) c.in_ok-place.ensures.reaches

pub returns : goal.returns
returns g c =
    let there = c.in_ok-place.ensures.reaches in
    let read = c.go_on_reading.ensures in
    let s = c.self.inside.log.state.value in
    let whole : s.broken ≡ false = c.self.invariant.broken ∙ c.if-self.false in
    comes {v = (s, c.self.inside.disk)} c.reading_laws.ensures c.self.view_is whole (c.stored.ensures.survives _ _) (c.stored.ensures.survives_reading 0) c.go_on_reading.result there read.gets
    (next_step c.reading_laws.ensures.ways s (calls.ReadNext c.args.area c.args.cursor) whole (c.in_ok-place.ensures.allowed) refl refl refl there c.args.cursor c.go_on_reading.result
    (next_answers s c.args.client c.args.area (area_at c.in_ok-place.place c.self.inside.log.areas.areas) there.entry there.area c.args.cursor there.reached)
    read.gets read.state)

pub invariant_of-self : goal.invariant_of-self
invariant_of-self g c = managed _ _ c.reading_laws.ensures (record { is_client = c.requires.client; arguments = tt }) c.stored.ensures.valid c.stored.ensures.storable
    (returns g c) c.go_on_reading.ensures.gets.left

pub returns-in_err-place : goal.returns-in_err-place
returns-in_err-place g c = rw (error_of c.from_residual.result c.in_err-place.field-0.0 c.from_residual.ensures.1)
    (refuses c.reading_laws.ensures c.self.view_is (c.self.invariant.broken ∙ c.if-self.false) (c.stored.ensures.survives _ _) (c.stored.ensures.survives_reading 0) c.in_err-place.field-0.0
    (c.in_err-place.ensures.refused))
