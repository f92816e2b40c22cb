use Rattle.clfs_areas.proofs.Words.{ℕ, refl, arith, Area, AreParts, Inside}
use Rattle.std.proofs.Common.{◌-◌}
use Rattle.clfs_model.specs.Put.{with_less_held}
use Rattle.clfs_areas.proofs.Changed.{after, told_after, area_after, as_many_after, joined_after}
use Rattle.clfs_areas.proofs.ChangedHeld.{held_there, held_is_changed, place_in_ledger}
use Rattle.clfs_areas.proofs.areas.Areas.spend.Goals as goal

pub spend_at-requires-clause-there : goal.spend_at-requires-clause-there
spend_at-requires-clause-there c = place_in_ledger c.self.inside c.args.self.now c.self.view_is c.self.invariant c.args.place c.requires.there

pub spend_at-requires-clause-enough : goal.spend_at-requires-clause-enough
spend_at-requires-clause-enough c =
    let held = held_there c.self.inside c.args.self.now c.self.view_is c.self.invariant c.args.place c.requires.there in
    omega (arith, held, c.requires.enough)

-- the area with the sectors that it holds now
abbrev change : goal.After-spend_at → Area → Area
change c = with_less_held c.args.sectors

-- the parts that are left
abbrev now : goal.After-spend_at → Inside
now c = record { rows = c.self.inside.rows; names = c.self.inside.names; cursors = c.self.inside.cursors; reservations = c.spend_at.new.self }

parts : (c : goal.After-spend_at) → AreParts (after c.self.inside c.args.self.now c.self.view_is c.self.invariant c.args.place c.requires.there (change c))
    c.self.inside.rows.items c.self.inside.cursors.areas c.spend_at.new.self
parts c = held_is_changed c.self.inside c.args.self.now c.self.view_is c.self.invariant c.args.place c.requires.there (λ (held : ℕ). held - c.args.sectors) c.spend_at.new.self
    c.spend_at.ensures.rows

pub invariant_of-self : goal.invariant_of-self
invariant_of-self c = joined_after c.self.inside c.args.self.now c.self.view_is c.self.invariant c.args.place c.requires.there (change c) (now c) (parts c) refl refl

pub returns-clause-areas : goal.returns-clause-areas
returns-clause-areas c = told_after c.self.inside c.args.self.now c.self.view_is c.self.invariant c.args.place c.requires.there (change c) (now c) (parts c)

pub returns-clause-area : goal.returns-clause-area
returns-clause-area c = area_after c.self.inside c.args.self.now c.self.view_is c.self.invariant c.args.place c.requires.there (change c) (now c) (parts c)

pub returns-clause-places : goal.returns-clause-places
returns-clause-places c = as_many_after c.self.inside c.args.self.now c.self.view_is c.self.invariant c.args.place c.requires.there (change c) (now c) (parts c)
