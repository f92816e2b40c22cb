use Rattle.clfs_areas.proofs.Words.{arith, Inside}
use Rattle.clfs_areas.proofs.Gone.{none_goes, row_there, cursors_there, told_left, joined_left}
use Rattle.clfs_areas.proofs.areas.Areas.delete.Goals as goal

pub returns-in_default-clause-areas : goal.returns-in_default-clause-areas
returns-in_default-clause-areas c = none_goes c.self.inside c.args.self.now c.self.view_is c.self.invariant c.args.client c.args.number c.place_of.result c.place_of.ensures c.in_default.is

pub remove-requires : goal.remove-requires
remove-requires c =
    let there = row_there c.self.inside c.args.self.now c.self.view_is c.self.invariant c.args.client c.args.number c.place_of.result c.place_of.ensures c.in-Some.place c.in-Some.is in
    omega (arith, there)

pub remove_area-requires : goal.remove_area-requires
remove_area-requires c = cursors_there c.self.inside c.args.self.now c.self.view_is c.self.invariant c.args.client c.args.number c.place_of.result c.place_of.ensures c.in-Some.place c.in-Some.is

-- the parts that are left
abbrev now : goal.After-remove-2 → Inside
now c = record { rows = c.remove.new.self; names = c.shift_remove_index-name.new.self; cursors = c.remove_area.new.self; reservations = c.remove-2.new.self }

pub invariant_of-self : goal.invariant_of-self
invariant_of-self c =
    joined_left c.self.inside c.args.self.now c.self.view_is c.self.invariant c.args.client c.args.number c.place_of.result c.place_of.ensures c.in-Some.place c.in-Some.is (now c)
    c.remove.ensures.items c.shift_remove_index-name.ensures.keys c.remove_area.ensures.areas c.remove-2.ensures.rows

pub returns-clause-areas : goal.returns-clause-areas
returns-clause-areas c =
    told_left c.self.inside c.args.self.now c.self.view_is c.self.invariant c.args.client c.args.number c.place_of.result c.place_of.ensures c.in-Some.place c.in-Some.is (now c)
    c.remove.ensures.items c.shift_remove_index-name.ensures.keys c.remove_area.ensures.areas c.remove-2.ensures.rows
