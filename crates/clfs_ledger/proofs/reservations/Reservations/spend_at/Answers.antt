use Rattle.std.proofs.Common.{◌<◌, ◌≤◌, ◌-◌, length, arith}
use Rattle.clfs_ledger.specs.Rows.{row_at}
use Rattle.clfs_ledger.proofs.Changes.{write_is, enough_there, held-le-total, write_lowers_at}
use Rattle.clfs_ledger.proofs.reservations.Reservations.spend_at.Goals as goal

pub overflow_sub-row : goal.overflow_sub-row
overflow_sub-row c =
    let there : c.args.place < length c.self.inside.rows.items = rw c.self.view_is c.requires.there in
    let asked : c.args.sectors ≤ (row_at c.args.place c.self.inside.rows.items).held = rw c.self.view_is c.requires.enough in
    enough_there c.self.inside.rows.items c.args.place c.index_mut-row.result.now there c.index_mut-row.ensures.value c.args.sectors asked

pub overflow_sub-self : goal.overflow_sub-self
overflow_sub-self c =
    let there : c.args.place < length c.self.inside.rows.items = rw c.self.view_is c.requires.there in
    let asked : c.args.sectors ≤ (row_at c.args.place c.self.inside.rows.items).held = rw c.self.view_is c.requires.enough in
    let enough : c.args.sectors ≤ c.index_mut-row.result.now.held =
    enough_there c.self.inside.rows.items c.args.place c.index_mut-row.result.now there c.index_mut-row.ensures.value c.args.sectors asked in
    let held = held-le-total c.self.inside.rows.items c.args.place c.index_mut-row.result.now there c.index_mut-row.ensures.value c.self.inside.total c.self.invariant in
    omega (arith, held, enough, c.self.invariant.total_is)

pub invariant_of-self : goal.invariant_of-self
invariant_of-self c =
    let there : c.args.place < length c.self.inside.rows.items = rw c.self.view_is c.requires.there in
    let asked : c.args.sectors ≤ (row_at c.args.place c.self.inside.rows.items).held = rw c.self.view_is c.requires.enough in
    let enough : c.args.sectors ≤ c.index_mut-row.result.now.held =
    enough_there c.self.inside.rows.items c.args.place c.index_mut-row.result.now there c.index_mut-row.ensures.value c.args.sectors asked in
    let new = write_lowers_at c.self.inside.rows.items c.args.place c.index_mut-row.result.now there c.index_mut-row.ensures.value
    c.self.inside.total c.self.invariant c.args.sectors enough in
    new.kept

pub returns : goal.returns
returns c =
    let there : c.args.place < length c.self.inside.rows.items = rw c.self.view_is c.requires.there in
    let asked : c.args.sectors ≤ (row_at c.args.place c.self.inside.rows.items).held = rw c.self.view_is c.requires.enough in
    let enough : c.args.sectors ≤ c.index_mut-row.result.now.held =
    enough_there c.self.inside.rows.items c.args.place c.index_mut-row.result.now there c.index_mut-row.ensures.value c.args.sectors asked in
    let new = write_lowers_at c.self.inside.rows.items c.args.place c.index_mut-row.result.now there c.index_mut-row.ensures.value
    c.self.inside.total c.self.invariant c.args.sectors enough in
    rw (← c.self.view_is) record {
      rows = write_is c.self.inside.rows.items c.args.place c.index_mut-row.result.now there c.index_mut-row.ensures.value (λ held. held - c.args.sectors);
      total = new.total;
    }
