use Rattle.clfs_cursor.proofs.Words.{◌≡◌, ◌<◌, ◌++◌, [], ◌∷◌, ◌∙◌, sym, ap, subst, length, slice_set, unused_cursor, AreaCursors, Table, area_at}
use Rattle.clfs_cursor.proofs.Words.{with_cursors, Keys, area_by, AreOwned}
use Rattle.std.specs.Prelude.{map}
use Rattle.clfs_cursor.proofs.Opened.{row_there, area_seen}
use Rattle.clfs_cursor.proofs.Seen.{unused_seen}
use Rattle.clfs_cursor.proofs.Started.{started_areas, started_owned}
use Rattle.clfs_cursor.proofs.cursors.Cursors.start.Goals as goal

-- the area has a row
there : (c : goal.After-self-1) → c.args.place < length c.self.inside.rows.items
there c = row_there c.self.inside c.args.self.now c.self.view_is c.args.place c.requires.there

pub returns-clause-number : goal.returns-clause-number
returns-clause-number c =
    let seen = area_seen c.self.inside c.args.self.now c.self.view_is c.args.place c.requires.there c.index.result.now c.index.ensures in
    c.unused_number-number.ensures.number
    ∙ sym (ap (λ (area : AreaCursors). unused_cursor area.cursors) seen ∙ unused_seen c.self.inside.slots c.index.result.now.numbered)

pub returns-clause-areas : goal.returns-clause-areas
returns-clause-areas c =
    let now = c.insert_reserved-key.new.self in
    let started = started_areas c.self.inside.slots now c.self.inside.rows.items c.args.place c.unused_number-number.result c.insert_reserved-key.result
    (record { kind = c.args.kind; last = c.args.last }) c.index_mut-row.result.now (there c) c.index_mut-row.ensures.value c.self.invariant
    c.insert_reserved-key.ensures.was_vacant c.insert_reserved-key.ensures.updates in
    let seen = subst (λ (table : Table). map (area_by now) (slice_set c.self.inside.rows.items c.args.place
    (record c.index_mut-row.result.now { numbered = c.index_mut-row.result.now.numbered ++ record { number = c.unused_number-number.result; key = c.insert_reserved-key.result } ∷ [] }))
    ≡ with_cursors c.args.place ((area_at c.args.place table.areas).cursors ++ record { number = c.unused_number-number.result; kind = c.args.kind; last = c.args.last } ∷ []) table.areas)
    c.self.view_is started in
    ap (λ (row : Keys). map (area_by now) (slice_set c.self.inside.rows.items c.args.place row)) c.push.ensures ∙ seen

pub invariant_of-self : goal.invariant_of-self
invariant_of-self c =
    let owned = started_owned c.self.inside.slots c.insert_reserved-key.new.self c.self.inside.rows.items c.args.place c.unused_number-number.result c.insert_reserved-key.result
    (record { kind = c.args.kind; last = c.args.last }) c.index_mut-row.result.now (there c) c.index_mut-row.ensures.value c.self.invariant
    c.insert_reserved-key.ensures.was_vacant c.insert_reserved-key.ensures.updates c.insert_reserved-key.ensures.len in
    subst (λ (row : Keys). AreOwned c.insert_reserved-key.new.self (slice_set c.self.inside.rows.items c.args.place row)) (sym c.push.ensures) owned
