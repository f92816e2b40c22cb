use Rattle.std.specs.Prelude.{map}
use Rattle.clfs_cursor.proofs.Words.{get, cursors_moved, area_by}
use Rattle.clfs_cursor.proofs.Opened.{row_there, no_move, there_by_number, change_seen}
use Rattle.clfs_cursor.proofs.Owned.{value_there}
use Rattle.clfs_cursor.proofs.Moved.{moved_areas, moved_owned}
use Rattle.clfs_cursor.proofs.cursors.Cursors.move_to.Goals as goal

pub returns-in_default-clause-areas : goal.returns-in_default-clause-areas
returns-in_default-clause-areas c =
    no_move c.self.inside c.args.self.now c.self.view_is c.args.place c.requires c.index.result.now c.index.ensures c.args.number c.args.lsn c.in_default.ensures.key

pub returns-clause-areas : goal.returns-clause-areas
returns-clause-areas c =
    let there = row_there c.self.inside c.args.self.now c.self.view_is c.args.place c.requires in
    let was = value_there (get c.self.inside.slots c.in-Some.key)
    (there_by_number c.self.inside c.args.self.now c.self.view_is c.args.place c.requires c.index.result.now c.index.ensures c.self.invariant
    c.args.number c.in-Some.key c.in-Some.ensures.key) in
    change_seen c.self.inside c.args.self.now c.self.view_is c.args.place c.requires (map (area_by c.move_standing.new.slots) c.self.inside.rows.items)
    (cursors_moved c.args.number c.args.lsn)
    (moved_areas c.self.inside.slots c.move_standing.new.slots c.args.number c.in-Some.key c.args.lsn was.0 was.1
    (c.move_standing.ensures.moved was.0 was.1) c.move_standing.ensures.others c.self.inside.rows.items c.args.place c.index.result.now
    there c.index.ensures c.self.invariant c.in-Some.ensures.different c.in-Some.ensures.key)

pub invariant_of-self : goal.invariant_of-self
invariant_of-self c =
    let there = row_there c.self.inside c.args.self.now c.self.view_is c.args.place c.requires in
    let was = value_there (get c.self.inside.slots c.in-Some.key)
    (there_by_number c.self.inside c.args.self.now c.self.view_is c.args.place c.requires c.index.result.now c.index.ensures c.self.invariant
    c.args.number c.in-Some.key c.in-Some.ensures.key) in
    moved_owned c.self.inside.slots c.move_standing.new.slots c.args.number c.in-Some.key c.args.lsn was.0 was.1
    (c.move_standing.ensures.moved was.0 was.1) c.move_standing.ensures.others c.self.inside.rows.items c.args.place c.index.result.now
    there c.index.ensures c.self.invariant c.in-Some.ensures.different c.in-Some.ensures.key c.move_standing.ensures.len
