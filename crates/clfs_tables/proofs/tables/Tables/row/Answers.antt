use Rattle.clfs_tables.specs.Tables.{IsRow, base_in}
use Rattle.clfs_tables.proofs.StreamRows.{live_in_row, restarts_in_row}
use Rattle.clfs_tables.proofs.tables.Tables.row.Goals as goal

abbrev pub of_stream : (c : goal.After-index) → IsRow (base_in c.self.inside.streams.streams c.args.stream) c.self.inside.low c.args.stream c.self.inside.heads.value c.index.result.now
of_stream c =
    let there = rw (← c.self.view_is) at c.requires.there in
    rw c.index.ensures (c.self.invariant.rows c.args.stream c.index.result.now there.0 there.1)

pub returns-clause-kept : goal.returns-clause-kept
returns-clause-kept c = rw (← c.self.view_is) ((of_stream c).index)

pub returns-clause-live : goal.returns-clause-live
returns-clause-live c = rw (← c.self.view_is) (live_in_row c.self.inside.low _ c.args.stream _ c.index.result.now c.self.invariant.heads (of_stream c))

pub returns-clause-restarts : goal.returns-clause-restarts
returns-clause-restarts c = rw (← c.self.view_is) (restarts_in_row c.self.inside.low _ c.args.stream _ c.index.result.now c.self.invariant.heads (of_stream c))
