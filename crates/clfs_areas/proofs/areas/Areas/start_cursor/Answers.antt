use Rattle.clfs_areas.proofs.Words.{◌++◌, [], ◌∷◌, refl, List, Area, Cursor, AreParts, Inside}
use Rattle.clfs_model.specs.Reading.{with_cursor}
use Rattle.clfs_areas.proofs.Changed.{after, told_after, area_after, as_many_after, joined_after}
use Rattle.clfs_areas.proofs.ChangedCursors.{cursors_changed}
use Rattle.clfs_areas.proofs.areas.Areas.start_cursor.Goals as goal

-- the area with the new cursor
abbrev change : goal.After-start → Area → Area
change c = with_cursor (record { number = c.start.result; kind = c.args.kind; last = c.args.last })

-- the parts that are left
abbrev now : goal.After-start → Inside
now c = record { rows = c.self.inside.rows; names = c.self.inside.names; cursors = c.start.new.self; reservations = c.self.inside.reservations }

parts : (c : goal.After-start) → AreParts (after c.self.inside c.args.self.now c.self.view_is c.self.invariant c.args.place c.requires.there (change c))
    c.self.inside.rows.items c.start.new.self.areas c.self.inside.reservations
parts c = cursors_changed c.self.inside c.args.self.now c.self.view_is c.self.invariant c.args.place c.requires.there
    (λ (cursors : List Cursor). cursors ++ record { number = c.start.result; kind = c.args.kind; last = c.args.last } ∷ []) c.start.new.self.areas
    c.start.ensures.areas

pub invariant_of-self : goal.invariant_of-self
invariant_of-self c = joined_after c.self.inside c.args.self.now c.self.view_is c.self.invariant c.args.place c.requires.there (change c) (now c) (parts c) refl refl

pub returns-clause-areas : goal.returns-clause-areas
returns-clause-areas c = told_after c.self.inside c.args.self.now c.self.view_is c.self.invariant c.args.place c.requires.there (change c) (now c) (parts c)

pub returns-clause-area : goal.returns-clause-area
returns-clause-area c = area_after c.self.inside c.args.self.now c.self.view_is c.self.invariant c.args.place c.requires.there (change c) (now c) (parts c)

pub returns-clause-places : goal.returns-clause-places
returns-clause-places c = as_many_after c.self.inside c.args.self.now c.self.view_is c.self.invariant c.args.place c.requires.there (change c) (now c) (parts c)
