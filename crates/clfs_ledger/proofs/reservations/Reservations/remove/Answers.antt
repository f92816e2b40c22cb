use Rattle.std.proofs.Common.{refl, sym, arith}
use Rattle.clfs_ledger.proofs.HeldSectors.{held_of-absent, without-absent, held_of-le-total_held}
use Rattle.clfs_ledger.proofs.Places.{stands_at-found, no_row-found, held_of-stands_at}
use Rattle.clfs_ledger.proofs.Changes.{removal_removes}
use Rattle.clfs_ledger.proofs.reservations.Reservations.remove.Goals as goal

pub returns-in_default : goal.returns-in_default
returns-in_default c =
    let absent = no_row-found c.self.inside.rows.items _ c.args.client c.args.area _
    c.deref.ensures.value c.place_of.ensures c.in_default.is in
    rw (← c.self.view_is) record {
      held = sym (held_of-absent c.self.inside.rows.items _ _ absent);
      rows = sym (without-absent c.self.inside.rows.items _ _ absent);
      gone = absent;
      total = omega arith;
      others = λ _ _ _. refl;
    }

pub overflow_sub-self : goal.overflow_sub-self
overflow_sub-self c =
    let at = stands_at-found c.self.inside.rows.items _ c.args.client c.args.area c.in-Some.place _
    c.deref.ensures.value c.place_of.ensures c.in-Some.is in
    let held = held_of-stands_at c.self.inside.rows.items _ _ _ c.index.result.now at c.index.ensures in
    omega (arith, held, held_of-le-total_held c.self.inside.rows.items c.args.client c.args.area)

pub invariant_of-self : goal.invariant_of-self
invariant_of-self c =
    let at = stands_at-found c.self.inside.rows.items _ c.args.client c.args.area c.in-Some.place _
    c.deref.ensures.value c.place_of.ensures c.in-Some.is in
    let new = removal_removes c.self.inside.rows.items c.remove.new.self.items c.args.client c.args.area c.in-Some.place c.self.inside.total
    c.index.result.now at c.index.ensures c.remove.ensures.items c.self.invariant in
    new.kept

pub returns : goal.returns
returns c =
    let at = stands_at-found c.self.inside.rows.items _ c.args.client c.args.area c.in-Some.place _
    c.deref.ensures.value c.place_of.ensures c.in-Some.is in
    let new = removal_removes c.self.inside.rows.items c.remove.new.self.items c.args.client c.args.area c.in-Some.place c.self.inside.total
    c.index.result.now at c.index.ensures c.remove.ensures.items c.self.invariant in
    rw (← c.self.view_is) record { held = new.held_is; rows = new.rows; gone = new.gone; total = new.total; others = new.others }
