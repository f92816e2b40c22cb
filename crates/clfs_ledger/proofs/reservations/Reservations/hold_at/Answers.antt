use Rattle.std.proofs.Common.{◌<◌, ◌+◌, length, arith}
use Rattle.clfs_ledger.proofs.Changes.{write_is, held-le-total, write_raises_at}
use Rattle.clfs_ledger.proofs.reservations.Reservations.hold_at.Goals as goal

pub overflow_add-row : goal.overflow_add-row
overflow_add-row c =
    let there : c.args.place < length c.self.inside.rows.items = rw c.self.view_is c.requires.there in
    let held = held-le-total c.self.inside.rows.items c.args.place c.index_mut-row.result.now there c.index_mut-row.ensures.value c.self.inside.total c.self.invariant in
    let room = rw (← c.self.view_is) at c.requires.room in
    omega (arith, held, room)

pub invariant_of-self : goal.invariant_of-self
invariant_of-self c =
    let there : c.args.place < length c.self.inside.rows.items = rw c.self.view_is c.requires.there in
    let new = write_raises_at c.self.inside.rows.items c.args.place c.index_mut-row.result.now there c.index_mut-row.ensures.value
    c.self.inside.total c.self.invariant c.args.sectors in
    new.kept

pub returns : goal.returns
returns c =
    let there : c.args.place < length c.self.inside.rows.items = rw c.self.view_is c.requires.there in
    let new = write_raises_at c.self.inside.rows.items c.args.place c.index_mut-row.result.now there c.index_mut-row.ensures.value
    c.self.inside.total c.self.invariant c.args.sectors in
    rw (← c.self.view_is) record {
      rows = write_is c.self.inside.rows.items c.args.place c.index_mut-row.result.now there c.index_mut-row.ensures.value (λ held. held + c.args.sectors);
      total = new.total;
    }
