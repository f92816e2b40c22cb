use Rattle.std.proofs.Common.{◌≡◌, ◌∙◌, ◌-◌, ◌<◌, ap, arith, inl, inr, List, length, get_or, sym}
use Rattle.std.specs.Prelude.{slice_index}
use Rattle.std.specs.Vec.{with_items}
use Rattle.std.proofs.lemmas.Bool.{cases_eq}
use Rattle.std.proofs.lemmas.List.{get_or-set_other, get_or-set_same, get_or_default, length-set, with_items_is}
use Rattle.clfs_tables.specs.declared.tables.StreamRow.{StreamRow}
use Rattle.clfs_tables.specs.Tables.{Tabled, base_in, room_in}
use Rattle.clfs_tables.proofs.TableSteps.{Forgets, row_less, rooms_kept}
use Rattle.clfs_tables.proofs.tables.Tables.forget_below.Goals as goal

pub loop-row-preserved : goal.loop-row-preserved
loop-row-preserved c =
    let items = c.loop-row.row-items in
    let place = c.loop-row.row-index in
    let initial = c.deref_mut-row-items.result.now in
    let before = c.loop-row.invariant in
    let one : Forgets c.args.lsn c.row-item.result c.forget_row.new.row = (let e = c.forget_row.ensures in record {
      index_base = rw c.row-item.is e.index_base;
      restarts_base = rw c.row-item.is e.restarts_base;
      index = rw c.row-item.is e.index;
      restarts = rw c.row-item.is e.restarts;
      room = rw c.row-item.is e.room;
    }) in (
      length-set items place c.forget_row.new.row ∙ before.0,
      (
        λ k d inside. elim (cases_eq k place) [
          | inl same ↦
              let there : get_or initial place d ≡ c.row-item.result = sym (before.1.1 place d (omega arith))
              ∙ get_or_default items place d c.row-item.result (omega (arith, c.loop-row-test.true, before.0)) ∙ sym c.row-item.is in
              rw (same, there) (rw (get_or-set_same items place c.forget_row.new.row d (omega (arith, c.loop-row-test.true, before.0))) one)
          | inr other ↦ rw (get_or-set_other items place k c.forget_row.new.row d other) (before.1.0 k d (omega (arith, inside, other)))
        ],
        λ k d rest. get_or-set_other items place k c.forget_row.new.row d (λ same. omega (arith, same, rest)) ∙ before.1.1 k d (omega (arith, rest)),
      ),
    )

pub invariant_of-self : goal.invariant_of-self
invariant_of-self c =
    let v = c.self.invariant in
    let i = c.self.inside in
    let initial = c.deref_mut-row-items.result.now in
    let same : initial ≡ i.rows.items = c.deref_mut-row-items.ensures.value in
    let forgot = c.loop-row.invariant in
    let dead = rw (← c.self.view_is) at c.requires.dead in
    let up = rw (← c.self.view_is) at c.requires.up in
    let items : (with_items i.rows c.loop-row.row-items).items ≡ c.loop-row.row-items
    = with_items_is i.rows c.loop-row.row-items (omega (arith, forgot.0, c.deref_mut-row-items.ensures.len)) in
    record {
      few = v.few;
      rows_long = rw items (forgot.0 ∙ ap length same ∙ v.rows_long);
      firsts_long = v.firsts_long;
      heads = λ k d inside. (let is = v.heads k d inside in record { previous = is.previous; undo_next = is.undo_next; dead = dead k d inside });
      firsts = v.firsts;
      rows = λ stream d some within.
          let there : stream - 1 < length initial = (let long = ap length same in omega (arith, some, within, v.rows_long, long)) in
          let less = forgot.1.0 (stream - 1) d (omega (arith, there, forgot.0, c.loop-row-test.false)) in
          rw items (row_less (base_in i.streams.streams stream) i.low c.args.lsn stream i.heads.value _ _ up (v.rows stream d some within) (rw same at less));
    }

pub returns-clause-room : goal.returns-clause-room
returns-clause-room c = λ place.
    let i = c.self.inside in
    let initial = c.deref_mut-row-items.result.now in
    let same : initial ≡ i.rows.items = c.deref_mut-row-items.ensures.value in
    let forgot = c.loop-row.invariant in
    let items : (with_items i.rows c.loop-row.row-items).items ≡ c.loop-row.row-items
    = with_items_is i.rows c.loop-row.row-items (omega (arith, forgot.0, c.deref_mut-row-items.ensures.len)) in
    let rows = rooms_kept initial c.loop-row.row-items forgot.0
    (λ k d inside. (forgot.1.0 k d (omega (arith, inside, c.loop-row-test.false))).room) place in
    let before = ap (λ (t : Tabled). slice_index t.room place) c.self.view_is in
    let read = ap (λ (rs : List StreamRow). slice_index (room_in rs) place) same in
    rw items (omega (arith, rows, before, read))
