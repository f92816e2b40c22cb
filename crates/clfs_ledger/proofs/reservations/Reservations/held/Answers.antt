use Rattle.std.proofs.Common.{sym}
use Rattle.clfs_ledger.proofs.HeldSectors.{held_of-absent}
use Rattle.clfs_ledger.proofs.Places.{stands_at-found, no_row-found, held_of-stands_at}
use Rattle.clfs_ledger.proofs.reservations.Reservations.held.Goals as goal

pub returns-in-Some : goal.returns-in-Some
returns-in-Some c =
    let at = stands_at-found c.self.inside.rows.items _ c.args.client c.args.area c.in-Some.place _
    c.deref.ensures.value c.place_of.ensures c.in-Some.is in
    rw (← c.self.view_is) (held_of-stands_at c.self.inside.rows.items _ _ _ c.index.result.now at c.index.ensures)

pub returns-in-None : goal.returns-in-None
returns-in-None c =
    let absent = no_row-found c.self.inside.rows.items _ c.args.client c.args.area _ c.deref.ensures.value c.place_of.ensures c.in-None.is in
    rw (← c.self.view_is) (sym (held_of-absent c.self.inside.rows.items _ _ absent))
