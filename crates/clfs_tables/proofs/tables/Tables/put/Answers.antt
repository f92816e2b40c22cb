use Rattle.std.proofs.Common.{◌∙◌, ◌-◌, ◌≤◌, arith, refl}
use Rattle.std.proofs.lemmas.List.{length-set}
use Rattle.std.proofs.lemmas.List.Elements.{All-push}
use Rattle.clfs_tables.specs.Tables.{IsHead, IsRow, base_in}
use Rattle.clfs_tables.proofs.TableSteps.{kept_below, restarts_below, row_with, rows_with}
use Rattle.clfs_tables.proofs.tables.Tables.put.Goals as goal

abbrev pub row_there : (c : goal.After-index_mut)
    → IsRow (base_in c.self.inside.streams.streams c.args.head.stream) c.self.inside.low c.args.head.stream c.self.inside.heads.value c.index_mut.result.now
row_there c =
    let there = rw (← c.self.view_is) at c.requires.there in
    rw c.index_mut.ensures.value (c.self.invariant.rows c.args.head.stream c.index_mut.result.now there.0 there.1)

pub put_row-requires-clause-above : goal.put_row-requires-clause-above
put_row-requires-clause-above c =
    kept_below c.self.inside.low c.args.head.stream c.args.head.lsn c.self.inside.heads.value c.index_mut.result.now.index.heads (row_there c).index (rw (← c.self.view_is) at c.requires.above)

pub put_row-requires-clause-above_restarts : goal.put_row-requires-clause-above_restarts
put_row-requires-clause-above_restarts c =
    restarts_below c.self.inside.low c.args.head.stream c.args.head.lsn c.self.inside.heads.value c.index_mut.result.now.restarts.heads (row_there c).restarts (rw (← c.self.view_is) at c.requires.above)

pub invariant_of-self : goal.invariant_of-self
invariant_of-self c =
    let v = c.self.invariant in
    let i = c.self.inside in
    let there = rw (← c.self.view_is) at c.requires.there in
    let row : IsRow (base_in i.streams.streams c.args.head.stream) i.low c.args.head.stream i.heads.value c.index_mut.result.now
    = rw c.index_mut.ensures.value (v.rows c.args.head.stream c.index_mut.result.now there.0 there.1) in
    let above = rw (← c.self.view_is) at c.requires.above in
    let live = rw (← c.self.view_is) at c.requires.live in
    let low : i.low ≤ c.args.head.lsn = rw (← c.self.view_is) at c.requires.low in
    let own = row_with (base_in i.streams.streams c.args.head.stream) i.low i.heads.value c.args.head c.index_mut.result.now c.put_row.new.row low row
    c.put_row.ensures.index_base c.put_row.ensures.restarts_base c.put_row.ensures.index c.put_row.ensures.restarts in
    record {
      few = v.few;
      rows_long = length-set i.rows.items (c.args.head.stream - 1) c.put_row.new.row ∙ v.rows_long;
      firsts_long = c.push.ensures.count ∙ v.firsts_long;
      heads = rw c.with_head-self-inside.ensures (All-push (IsHead i.low i.streams.streams) i.heads.value c.args.head v.heads
          (record { previous = c.requires.links.0; undo_next = c.requires.links.1; dead = λ below. absurd (omega (arith, below, low)) }));
      firsts = rw c.with_head-self-inside.ensures (c.push.ensures.told (base_in i.streams.streams) i.heads.value c.args.head v.firsts refl refl above live);
      rows = rw c.with_head-self-inside.ensures (rows_with i.streams.streams i.low i.heads.value c.args.head i.rows.items c.put_row.new.row v.rows_long there v.rows own);
    }
