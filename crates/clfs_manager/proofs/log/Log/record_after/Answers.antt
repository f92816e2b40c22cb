use Rattle.clfs_manager.proofs.Words.{ap, sym, ◌∙◌, not, ◌&&◌, Option, option_map, option_and_then, head_of, Area, Cursor, record_cursor, next_of_cursor}
use Rattle.clfs_manager.proofs.Words.{is_over_restarts, area_at}
use Rattle.std.proofs.Common.{◌==◌}
use Rattle.clfs_manager.proofs.Reached.{reaches, after_is_live, found_among, found_known}
use Rattle.clfs_manager.proofs.log.Log.record_after.Goals as goal

pub after-requires-clause-known : goal.after-requires-clause-known
after-requires-clause-known c = found_known c.args.self.now c.in_ok-place.place c.area_stream-stream.result c.over_records-found.result c.requires.sound c.in_ok-place.ensures.within
    c.area_stream-stream.ensures.value
    (found_among (λ (cursor : Cursor). (cursor.number == c.args.cursor) && not (is_over_restarts cursor.kind)) (area_at c.in_ok-place.place c.args.self.now.areas.areas).cursors c.over_records-found.result c.over_records-found.ensures)
    c.records_are_as_their_heads.ensures.entry_at

pub returns-clause-reaches : goal.returns-clause-reaches
returns-clause-reaches c = reaches c.args.self.now.state.value c.args.self.now.areas.areas c.args.client c.args.area c.in_ok-place.place c.in_ok-head.head
    (λ (here : Area). option_and_then (next_of_cursor c.args.self.now.state.value here) (record_cursor here c.args.cursor)) c.in_ok-place.ensures.within
    c.in_ok-place.ensures.there
    (after_is_live c.args.self.now.state.value (area_at c.in_ok-place.place c.args.self.now.areas.areas)
    (record_cursor (area_at c.in_ok-place.place c.args.self.now.areas.areas) c.args.cursor))
    (ap (λ (o : Option Cursor). option_map head_of (option_and_then (next_of_cursor c.args.self.now.state.value (area_at c.in_ok-place.place c.args.self.now.areas.areas)) o))
    (sym c.over_records-found.ensures)
    ∙ c.in_ok-head.ensures.head c.args.self.now.state.value (sym c.requires.sound.holds.streams) (sym c.requires.sound.holds.heads)
    (area_at c.in_ok-place.place c.args.self.now.areas.areas) (sym c.area_stream-stream.ensures.value))
