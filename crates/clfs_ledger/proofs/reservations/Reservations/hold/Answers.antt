use Rattle.std.proofs.Common.{arith}
use Rattle.clfs_ledger.proofs.HeldSectors.{held_of-le-total_held}
use Rattle.clfs_ledger.proofs.Places.{stands_at-found, row-found, held_of-stands_at}
use Rattle.clfs_ledger.proofs.Changes.{write_raises}
use Rattle.clfs_ledger.proofs.reservations.Reservations.hold.Goals as goal

pub unwrap-place-requires : goal.unwrap-place-requires
unwrap-place-requires c =
    row-found c.self.inside.rows.items _ c.args.client c.args.area _ c.deref.ensures.value c.place_of.ensures
    (rw c.self.view_is c.requires.there)

pub overflow_add-row : goal.overflow_add-row
overflow_add-row c =
    let at = stands_at-found c.self.inside.rows.items _ c.args.client c.args.area c.unwrap-place.result _
    c.deref.ensures.value c.place_of.ensures c.unwrap-place.ensures in
    let held = held_of-stands_at c.self.inside.rows.items _ _ _ c.index_mut-row.result.now at c.index_mut-row.ensures.value in
    let room = rw (← c.self.view_is) at c.requires.room in
    omega (arith, held, room, held_of-le-total_held c.self.inside.rows.items c.args.client c.args.area)

pub invariant_of-self : goal.invariant_of-self
invariant_of-self c =
    let at = stands_at-found c.self.inside.rows.items _ c.args.client c.args.area c.unwrap-place.result _
    c.deref.ensures.value c.place_of.ensures c.unwrap-place.ensures in
    let new = write_raises c.self.inside.rows.items c.args.client c.args.area c.unwrap-place.result c.args.sectors c.self.inside.total
    c.index_mut-row.result.now at c.index_mut-row.ensures.value c.self.invariant in
    new.kept

pub returns : goal.returns
returns c =
    let at = stands_at-found c.self.inside.rows.items _ c.args.client c.args.area c.unwrap-place.result _
    c.deref.ensures.value c.place_of.ensures c.unwrap-place.ensures in
    let new = write_raises c.self.inside.rows.items c.args.client c.args.area c.unwrap-place.result c.args.sectors c.self.inside.total
    c.index_mut-row.result.now at c.index_mut-row.ensures.value c.self.invariant in
    rw (← c.self.view_is) record { rows = new.rows; held = new.held; total = new.total; others = new.others }
