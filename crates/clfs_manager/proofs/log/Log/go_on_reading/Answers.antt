use Rattle.clfs_manager.proofs.Words.{◌≡◌, ap, sym, ◌∙◌, LogEntry, Area, State, with_cursor_at, area_at}
use Rattle.clfs_manager.proofs.Gotten.{gets_made, gets_refused}
use Rattle.clfs_manager.proofs.OwnRefusals.{error_of}
use Rattle.clfs_manager.proofs.ReadKeeps.{left_areas, changed_alike, areas_stay, state_stays}
use Rattle.clfs_manager.proofs.log.Log.go_on_reading.Goals as goal

pub returns-in_err-entry-clause-gets : goal.returns-in_err-entry-clause-gets
returns-in_err-entry-clause-gets g c = rw (error_of c.from_residual.result c.in_err-entry.field-0.0 c.from_residual.ensures.1)
    (gets_refused g.D.Disk.state c.args.self.now.state.value c.args.head (λ (r : LogEntry). r) (λ (r : LogEntry). r) c.in_err-entry.field-0.0
    c.fetch.new.log c.args.disk.now c.fetch.new.disk c.in_err-entry.ensures.gets)

pub returns-clause-gets : goal.returns-clause-gets
returns-clause-gets g c =
    let areas_are : c.fetch.new.log.areas.areas ≡ c.args.self.now.areas.areas = areas_stay c.args.self.now c.fetch.new.log c.fetch.new.log.buffers c.in_ok-entry.ensures.log in
    let state_is : c.fetch.new.log.state.value ≡ c.args.self.now.state.value = state_stays c.args.self.now c.fetch.new.log c.fetch.new.log.buffers c.in_ok-entry.ensures.log in
    let here : area_at c.args.place c.args.self.now.areas.areas ≡ area_at c.args.place c.fetch.new.log.areas.areas = ap (area_at c.args.place) (sym areas_are) in
    gets_made g.D.Disk.state c.args.self.now.state.value c.args.head (λ (r : LogEntry). r) c.in_ok-entry.entry c.fetch.new.log _
    c.args.disk.now c.fetch.new.disk c.in_ok-entry.ensures.gets
    (left_areas (g.D.Disk.state c.fetch.new.disk) c.fetch.new.log c.move_cursor.new.self c.next-self.result
    (changed_alike c.fetch.new.log.state.value c.next-self.result.value c.fetch.new.log.areas.areas c.move_cursor.new.self.areas c.args.place
    c.area-info.result.client c.area-info.result.number
    (with_cursor_at c.args.cursor c.args.head.lsn)
    (areas_are ∙ c.requires.sound.holds.areas ∙ sym (ap (λ (s : State). s.areas) state_is))
    (c.area-info.ensures.client ∙ ap (λ (a : Area). a.client) here)
    (c.area-info.ensures.number ∙ ap (λ (a : Area). a.number) here)
    c.move_cursor.ensures.areas c.next-self.ensures)
    c.fetch.ensures.gets.left)
