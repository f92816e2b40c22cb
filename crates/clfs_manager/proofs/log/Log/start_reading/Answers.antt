use Rattle.clfs_manager.proofs.Words.{◌≡◌, ℕ, List, ap, refl, sym, ◌∙◌, LogEntry, Area, State, with_cursor, area_at}
use Rattle.clfs_model.specs.declared.refusal.Refusal.TheVariants as refusals
use Rattle.clfs_manager.proofs.Gotten.{gets_made, gets_no_memory, gets_refused, left_open}
use Rattle.clfs_manager.proofs.OwnRefusals.{error_of}
use Rattle.clfs_manager.proofs.ReadKeeps.{left_areas, changed_alike, areas_stay, state_stays}
use Rattle.clfs_manager.proofs.log.Log.start_reading.Goals as goal

pub returns-in_err-reserve_cursor-clause-gets : goal.returns-in_err-reserve_cursor-clause-gets
returns-in_err-reserve_cursor-clause-gets g c = rw (error_of c.from_residual.result refusals.NoMemory c.from_residual.ensures.1)
    (gets_no_memory g.D.Disk.state c.args.self.now.state.value c.args.head (λ (found : ℕ × LogEntry). found.1) (record c.args.self.now { areas = c.reserve_cursor.new.self })
    c.args.disk.now refl
    (left_areas (g.D.Disk.state c.args.disk.now) c.args.self.now c.reserve_cursor.new.self c.args.self.now.state
    (ap (λ (areas : List Area). record c.args.self.now.state.value { areas = areas }) (sym (c.in_err-reserve_cursor.ensures.areas ∙ c.requires.sound.holds.areas)))
    (left_open (g.D.Disk.state c.args.disk.now) c.args.self.now c.requires.sound c.requires.open)))

pub returns-in_err-entry-clause-gets : goal.returns-in_err-entry-clause-gets
returns-in_err-entry-clause-gets g c = rw (error_of c.from_residual-in_err-entry.result c.in_err-entry.field-0.0 c.from_residual-in_err-entry.ensures.1)
    (gets_refused g.D.Disk.state c.args.self.now.state.value c.args.head (λ (r : LogEntry). r) (λ (found : ℕ × LogEntry). found.1) c.in_err-entry.field-0.0
    c.fetch.new.log c.args.disk.now c.fetch.new.disk c.in_err-entry.ensures.gets)

pub returns-clause-gets : goal.returns-clause-gets
returns-clause-gets g c =
    let areas_are : c.fetch.new.log.areas.areas ≡ c.args.self.now.areas.areas = areas_stay (record c.args.self.now { areas = c.reserve_cursor.new.self }) c.fetch.new.log c.fetch.new.log.buffers c.in_ok-entry.ensures.log ∙ c.in_ok-reserve_cursor.ensures.areas in
    let state_is : c.fetch.new.log.state.value ≡ c.args.self.now.state.value = state_stays (record c.args.self.now { areas = c.reserve_cursor.new.self }) c.fetch.new.log c.fetch.new.log.buffers c.in_ok-entry.ensures.log in
    let here : area_at c.args.place c.args.self.now.areas.areas ≡ area_at c.args.place c.fetch.new.log.areas.areas = ap (area_at c.args.place) (sym areas_are) in
    gets_made g.D.Disk.state c.args.self.now.state.value c.args.head (λ (found : ℕ × LogEntry). found.1) (c.start_cursor-number.result, c.in_ok-entry.entry) c.fetch.new.log _
    c.args.disk.now c.fetch.new.disk c.in_ok-entry.ensures.gets
    (left_areas (g.D.Disk.state c.fetch.new.disk) c.fetch.new.log c.start_cursor-number.new.self c.next-self.result
    (changed_alike c.fetch.new.log.state.value c.next-self.result.value c.fetch.new.log.areas.areas c.start_cursor-number.new.self.areas c.args.place
    c.area-info.result.client c.area-info.result.number
    (with_cursor (record { number = c.start_cursor-number.result; kind = c.args.kind; last = c.args.head.lsn }))
    (areas_are ∙ c.requires.sound.holds.areas ∙ sym (ap (λ (s : State). s.areas) state_is))
    (c.area-info.ensures.client ∙ ap (λ (a : Area). a.client) here)
    (c.area-info.ensures.number ∙ ap (λ (a : Area). a.number) here)
    c.start_cursor-number.ensures.areas c.next-self.ensures)
    c.fetch.ensures.gets.left)
