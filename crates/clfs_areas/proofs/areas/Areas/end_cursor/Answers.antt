use Rattle.clfs_areas.proofs.Words.{refl, Area, AreParts, Inside}
use Rattle.clfs_lsn.specs.Cursors.{cursors_without}
use Rattle.clfs_model.specs.Reading.{without_cursor}
use Rattle.clfs_areas.proofs.Changed.{after, told_after, area_after, as_many_after, joined_after}
use Rattle.clfs_areas.proofs.ChangedCursors.{cursors_changed}
use Rattle.clfs_areas.proofs.areas.Areas.end_cursor.Goals as goal

-- the area without the cursor
abbrev change : goal.After-end → Area → Area
change c = without_cursor c.args.number

-- the parts that are left
abbrev now : goal.After-end → Inside
now c = record { rows = c.self.inside.rows; names = c.self.inside.names; cursors = c.end.new.self; reservations = c.self.inside.reservations }

parts : (c : goal.After-end) → AreParts (after c.self.inside c.args.self.now c.self.view_is c.self.invariant c.args.place c.requires (change c))
    c.self.inside.rows.items c.end.new.self.areas c.self.inside.reservations
parts c = cursors_changed c.self.inside c.args.self.now c.self.view_is c.self.invariant c.args.place c.requires
    (cursors_without c.args.number) c.end.new.self.areas c.end.ensures.areas

pub invariant_of-self : goal.invariant_of-self
invariant_of-self c = joined_after c.self.inside c.args.self.now c.self.view_is c.self.invariant c.args.place c.requires (change c) (now c) (parts c) refl refl

pub returns-clause-areas : goal.returns-clause-areas
returns-clause-areas c = told_after c.self.inside c.args.self.now c.self.view_is c.self.invariant c.args.place c.requires (change c) (now c) (parts c)

pub returns-clause-area : goal.returns-clause-area
returns-clause-area c = area_after c.self.inside c.args.self.now c.self.view_is c.self.invariant c.args.place c.requires (change c) (now c) (parts c)

pub returns-clause-places : goal.returns-clause-places
returns-clause-places c = as_many_after c.self.inside c.args.self.now c.self.view_is c.self.invariant c.args.place c.requires (change c) (now c) (parts c)
