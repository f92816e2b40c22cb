use Rattle.std.proofs.Common.{refl, sym, arith}
use Rattle.clfs_ledger.proofs.HeldSectors.{held_of-absent, with_held-absent, held_of-le-total_held}
use Rattle.clfs_ledger.proofs.Places.{stands_at-found, no_row-found, held_of-stands_at}
use Rattle.clfs_ledger.proofs.Changes.{write_lowers}
use Rattle.clfs_ledger.proofs.reservations.Reservations.spend.Goals as goal

pub returns-then-sectors-eq0 : goal.returns-then-sectors-eq0
returns-then-sectors-eq0 c =
    let absent = no_row-found c.self.inside.rows.items _ c.args.client c.args.area _
    c.deref.ensures.value c.place_of.ensures c.in_default.is in
    let none = held_of-absent c.self.inside.rows.items _ _ absent in
    rw (← c.self.view_is) record {
      short = ((λ h. cc), (λ h. absurd (omega (arith, h))));
      told = tt;
      err = tt;
      rows = sym (with_held-absent c.self.inside.rows.items _ _ _ absent);
      held = omega (arith, none);
      total = omega arith;
      others = λ _ _ _. refl;
    }

pub returns-in_default : goal.returns-in_default
returns-in_default c =
    let absent = no_row-found c.self.inside.rows.items _ c.args.client c.args.area _
    c.deref.ensures.value c.place_of.ensures c.in_default.is in
    let none = held_of-absent c.self.inside.rows.items _ _ absent in
    rw (← c.self.view_is) record {
      short = ((λ _. omega (arith, none)), (λ _. refl));
      told = sym none;
      err = refl;
      rows = tt;
      held = tt;
      total = tt;
      others = λ _ _ _. refl;
    }

pub returns-then-held-sectors : goal.returns-then-held-sectors
returns-then-held-sectors c =
    let at = stands_at-found c.self.inside.rows.items _ c.args.client c.args.area c.in-Some.place _
    c.deref.ensures.value c.place_of.ensures c.in-Some.is in
    let held = held_of-stands_at c.self.inside.rows.items _ _ _ c.index.result.now at c.index.ensures in
    rw (← c.self.view_is) record {
      short = ((λ _. omega (arith, held, c.if-held-sectors.true)), (λ _. refl));
      told = held;
      err = refl;
      rows = tt;
      held = tt;
      total = tt;
      others = λ _ _ _. refl;
    }

pub overflow_sub-self : goal.overflow_sub-self
overflow_sub-self c =
    let at = stands_at-found c.self.inside.rows.items _ c.args.client c.args.area c.in-Some.place _
    c.deref.ensures.value c.place_of.ensures c.in-Some.is in
    let held = held_of-stands_at c.self.inside.rows.items _ _ _ c.index.result.now at c.index.ensures in
    omega (arith, held, held_of-le-total_held c.self.inside.rows.items c.args.client c.args.area)

pub invariant_of-self : goal.invariant_of-self
invariant_of-self c =
    let at = stands_at-found c.self.inside.rows.items _ c.args.client c.args.area c.in-Some.place _
    c.deref.ensures.value c.place_of.ensures c.in-Some.is in
    let held = held_of-stands_at c.self.inside.rows.items _ _ _ c.index.result.now at c.index.ensures in
    let new = write_lowers c.self.inside.rows.items c.args.client c.args.area c.in-Some.place c.args.sectors c.self.inside.total
    c.index.result.now.held c.index_mut.result.now at c.index_mut.ensures.value held c.if-held-sectors.false c.self.invariant in
    new.kept

pub returns : goal.returns
returns c =
    let at = stands_at-found c.self.inside.rows.items _ c.args.client c.args.area c.in-Some.place _
    c.deref.ensures.value c.place_of.ensures c.in-Some.is in
    let held = held_of-stands_at c.self.inside.rows.items _ _ _ c.index.result.now at c.index.ensures in
    let new = write_lowers c.self.inside.rows.items c.args.client c.args.area c.in-Some.place c.args.sectors c.self.inside.total
    c.index.result.now.held c.index_mut.result.now at c.index_mut.ensures.value held c.if-held-sectors.false c.self.invariant in
    rw (← c.self.view_is) record {
      short = ((λ h. cc), (λ h. absurd (omega (arith, held, h, c.if-held-sectors.false))));
      told = tt;
      err = tt;
      rows = new.rows;
      held = new.held;
      total = new.total;
      others = new.others;
    }
