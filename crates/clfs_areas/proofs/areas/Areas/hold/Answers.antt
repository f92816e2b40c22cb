use Rattle.clfs_areas.proofs.Words.{◌≡◌, ℕ, ◌+◌, ◌∙◌, refl, ap, arith, List, Area, Reservation, total_held, all_held, AreParts, Inside}
use Rattle.clfs_model.specs.Put.{with_more_held}
use Rattle.clfs_areas.proofs.Changed.{after, told_after, area_after, as_many_after, joined_after}
use Rattle.clfs_areas.proofs.ChangedHeld.{held_is_changed, place_in_ledger}
use Rattle.clfs_areas.proofs.Held.{total_seen}
use Rattle.clfs_areas.proofs.Parts.{parts_seen}
use Rattle.clfs_areas.proofs.areas.Areas.hold.Goals as goal

pub hold_at-requires-clause-there : goal.hold_at-requires-clause-there
hold_at-requires-clause-there c = place_in_ledger c.self.inside c.args.self.now c.self.view_is c.self.invariant c.args.place c.requires.there

pub hold_at-requires-clause-room : goal.hold_at-requires-clause-room
hold_at-requires-clause-room c =
    let parts = parts_seen c.self.inside c.args.self.now c.self.view_is c.self.invariant in
    let total : total_held c.self.inside.reservations ≡ all_held c.args.self.now.areas =
    ap (λ (rows : List Reservation). total_held rows) parts.reservations_are ∙ total_seen c.args.self.now.areas in
    omega (arith, total, c.requires.few)

-- the area with the sectors that it holds now
abbrev change : goal.After-hold_at → Area → Area
change c = with_more_held c.args.sectors

-- the parts that are left
abbrev now : goal.After-hold_at → Inside
now c = record { rows = c.self.inside.rows; names = c.self.inside.names; cursors = c.self.inside.cursors; reservations = c.hold_at.new.self }

parts : (c : goal.After-hold_at) → AreParts (after c.self.inside c.args.self.now c.self.view_is c.self.invariant c.args.place c.requires.there (change c))
    c.self.inside.rows.items c.self.inside.cursors.areas c.hold_at.new.self
parts c = held_is_changed c.self.inside c.args.self.now c.self.view_is c.self.invariant c.args.place c.requires.there (λ (held : ℕ). held + c.args.sectors) c.hold_at.new.self
    c.hold_at.ensures.rows

pub invariant_of-self : goal.invariant_of-self
invariant_of-self c = joined_after c.self.inside c.args.self.now c.self.view_is c.self.invariant c.args.place c.requires.there (change c) (now c) (parts c) refl refl

pub returns-clause-areas : goal.returns-clause-areas
returns-clause-areas c = told_after c.self.inside c.args.self.now c.self.view_is c.self.invariant c.args.place c.requires.there (change c) (now c) (parts c)

pub returns-clause-area : goal.returns-clause-area
returns-clause-area c = area_after c.self.inside c.args.self.now c.self.view_is c.self.invariant c.args.place c.requires.there (change c) (now c) (parts c)

pub returns-clause-places : goal.returns-clause-places
returns-clause-places c = as_many_after c.self.inside c.args.self.now c.self.view_is c.self.invariant c.args.place c.requires.there (change c) (now c) (parts c)
