use Rattle.std.proofs.Common.{◌-◌, ◌<◌, arith, length}
use Rattle.clfs_tables.proofs.TableSteps.{on_ok, room_there}
use Rattle.clfs_tables.proofs.tables.Tables.reserve.Goals as goal

pub returns-clause-room : goal.returns-clause-room
returns-clause-room c =
    let there = rw (← c.self.view_is) at c.requires.there in
    let inside : c.args.stream - 1 < length c.self.inside.rows.items = omega (arith, there.0, there.1, c.self.invariant.rows_long) in
    on_ok c.reserve_row.result (λ room. room_there c.self.inside.rows.items (c.args.stream - 1) c.reserve_row.new.row inside room.0 room.1) c.reserve_row.ensures.room
