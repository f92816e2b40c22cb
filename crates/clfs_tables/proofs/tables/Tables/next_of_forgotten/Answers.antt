use Rattle.std.proofs.Common.{sym}
use Rattle.clfs_tables.proofs.Kept.{links_lead_nowhere}
use Rattle.clfs_tables.proofs.StreamRows.{dead_in, links_in}
use Rattle.clfs_tables.proofs.tables.Tables.next_of_forgotten.Goals as goal

pub returns-in-Previous : goal.returns-in-Previous
returns-in-Previous c =
    let v = c.self.invariant in
    let i = c.self.inside in
    let known = rw (← c.self.view_is) at c.requires.known in
    let below = rw (← c.self.view_is) at c.requires.forgotten in
    rw (← c.self.view_is, c.in-Previous.is)
    (sym ((links_lead_nowhere i.low _ c.args.stream c.args.last i.heads.value known.0 (dead_in i.low i.streams.streams c.args.stream i.heads.value v.heads)
    (links_in i.low i.streams.streams i.heads.value v.heads) known.1 below).0))

pub returns-in-UndoNext : goal.returns-in-UndoNext
returns-in-UndoNext c =
    let v = c.self.invariant in
    let i = c.self.inside in
    let known = rw (← c.self.view_is) at c.requires.known in
    let below = rw (← c.self.view_is) at c.requires.forgotten in
    rw (← c.self.view_is, c.in-UndoNext.is)
    (sym ((links_lead_nowhere i.low _ c.args.stream c.args.last i.heads.value known.0 (dead_in i.low i.streams.streams c.args.stream i.heads.value v.heads)
    (links_in i.low i.streams.streams i.heads.value v.heads) known.1 below).1))
