use Rattle.std.proofs.Common.{◌∙◌, ◌-◌}
use Rattle.std.proofs.lemmas.List.{length-set}
use Rattle.clfs_lsn.specs.Streams.{set_base}
use Rattle.clfs_tables.specs.Tables.{IsRow, base_in}
use Rattle.clfs_tables.proofs.TableSteps.{as_many, bases_rise, first_by_kept, heads_by, moved_base, other_base, room_same, row_moved, rows_moved}
use Rattle.clfs_tables.proofs.tables.Tables.set_base.Goals as goal

pub invariant_of-self : goal.invariant_of-self
invariant_of-self c =
    let v = c.self.invariant in
    let i = c.self.inside in
    let there = rw (← c.self.view_is) at c.requires.there in
    let row : IsRow (base_in i.streams.streams c.args.stream) i.low c.args.stream i.heads.value c.index_mut.result.now
    = rw c.index_mut.ensures.value (v.rows c.args.stream c.index_mut.result.now there.0 there.1) in
    let up = rw (← c.self.view_is) at c.requires.up in
    let many = as_many i.streams.streams c.args.stream c.args.lsn there.0 in
    let at = moved_base i.streams.streams c.args.stream c.args.lsn there.0 there.1 in
    let moved = row_moved (base_in i.streams.streams c.args.stream) i.low c.args.lsn c.args.stream i.heads.value c.index_mut.result.now c.move_row-first.new.row row
    c.move_row-first.ensures.index_base c.move_row-first.ensures.restarts_base c.move_row-first.ensures.index c.move_row-first.ensures.restarts in
    record {
      few = rw (c.set_base.ensures.streams, many) v.few;
      rows_long = rw (c.set_base.ensures.streams, many) (length-set i.rows.items (c.args.stream - 1) c.move_row-first.new.row ∙ v.rows_long);
      firsts_long = rw (c.set_base.ensures.streams, many) (c.set_first.ensures.count ∙ v.firsts_long);
      heads = rw c.set_base.ensures.streams (heads_by i.low i.streams.streams _ i.heads.value (bases_rise i.streams.streams c.args.stream c.args.lsn there.0 there.1 up) v.heads);
      firsts = rw c.set_base.ensures.streams (c.set_first.ensures.told (base_in i.streams.streams) _ i.heads.value v.firsts
          (λ other apart. other_base i.streams.streams c.args.stream c.args.lsn other there.0 apart)
          (first_by_kept i.low c.args.lsn c.args.stream i.streams.streams i.heads.value c.index_mut.result.now.index.heads c.move_row-first.result up v.heads
          row.index c.move_row-first.ensures.first (base_in (set_base c.args.stream c.args.lsn i.streams.streams)) at));
      rows = rw c.set_base.ensures.streams (rows_moved i.streams.streams c.args.stream c.args.lsn i.low i.heads.value i.rows.items c.move_row-first.new.row v.rows_long there v.rows moved);
    }

pub returns-clause-room : goal.returns-clause-room
returns-clause-room c =
    rw (← c.self.view_is) (room_same c.self.inside.rows.items (c.args.stream - 1) c.index_mut.result.now c.move_row-first.new.row c.index_mut.ensures.value
    c.move_row-first.ensures.room.0 c.move_row-first.ensures.room.1)
