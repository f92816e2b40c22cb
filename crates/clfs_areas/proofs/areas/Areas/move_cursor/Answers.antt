use Rattle.clfs_areas.proofs.Words.{refl, Area, AreParts, Inside}
use Rattle.clfs_lsn.specs.Cursors.{cursors_moved}
use Rattle.clfs_model.specs.Reading.{with_cursor_at}
use Rattle.clfs_areas.proofs.Changed.{after, told_after, area_after, as_many_after, joined_after}
use Rattle.clfs_areas.proofs.ChangedCursors.{cursors_changed}
use Rattle.clfs_areas.proofs.areas.Areas.move_cursor.Goals as goal

-- the area with its cursor at the other record
abbrev change : goal.After-move_to → Area → Area
change c = with_cursor_at c.args.number c.args.lsn

-- the parts that are left
abbrev now : goal.After-move_to → Inside
now c = record { rows = c.self.inside.rows; names = c.self.inside.names; cursors = c.move_to.new.self; reservations = c.self.inside.reservations }

parts : (c : goal.After-move_to) → AreParts (after c.self.inside c.args.self.now c.self.view_is c.self.invariant c.args.place c.requires (change c))
    c.self.inside.rows.items c.move_to.new.self.areas c.self.inside.reservations
parts c = cursors_changed c.self.inside c.args.self.now c.self.view_is c.self.invariant c.args.place c.requires
    (cursors_moved c.args.number c.args.lsn) c.move_to.new.self.areas c.move_to.ensures.areas

pub invariant_of-self : goal.invariant_of-self
invariant_of-self c = joined_after c.self.inside c.args.self.now c.self.view_is c.self.invariant c.args.place c.requires (change c) (now c) (parts c) refl refl

pub returns-clause-areas : goal.returns-clause-areas
returns-clause-areas c = told_after c.self.inside c.args.self.now c.self.view_is c.self.invariant c.args.place c.requires (change c) (now c) (parts c)

pub returns-clause-area : goal.returns-clause-area
returns-clause-area c = area_after c.self.inside c.args.self.now c.self.view_is c.self.invariant c.args.place c.requires (change c) (now c) (parts c)

pub returns-clause-places : goal.returns-clause-places
returns-clause-places c = as_many_after c.self.inside c.args.self.now c.self.view_is c.self.invariant c.args.place c.requires (change c) (now c) (parts c)
