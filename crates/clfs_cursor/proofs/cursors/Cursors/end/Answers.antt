use Rattle.clfs_cursor.proofs.Words.{◌≡◌, ◌∙◌, ap, sym, subst, not, ◌==◌, filter, slice_set, cursors_without, Keys, area_by, AreOwned, Numbered}
use Rattle.std.specs.Prelude.{map}
use Rattle.clfs_cursor.proofs.Opened.{row_there, same_row, there_by_number, none_ends, change_seen}
use Rattle.clfs_cursor.proofs.Ended.{ended_areas, ended_owned}
use Rattle.clfs_cursor.proofs.cursors.Cursors.end.Goals as goal

-- the row with the keys of other numbers
abbrev without : goal.After-remove-ended → Keys → Keys
without c row = record row { numbered = filter (λ (numbered : Numbered). not (numbered.number == c.args.number)) row.numbered }

-- the row that is left
left : (c : goal.After-remove-ended) → c.remove.new.self ≡ without c c.index.result.now
left c = c.remove.ensures ∙ ap (without c)
    (same_row c.self.inside c.args.self.now c.self.view_is c.args.place c.requires c.index_mut-row.result.now c.index.result.now c.index_mut-row.ensures.value c.index.ensures)

pub returns-in_default-clause-areas : goal.returns-in_default-clause-areas
returns-in_default-clause-areas c =
    none_ends c.self.inside c.args.self.now c.self.view_is c.args.place c.requires c.index.result.now c.index.ensures c.args.number c.in_default.ensures.key

pub remove-ended-requires : goal.remove-ended-requires
remove-ended-requires c =
    there_by_number c.self.inside c.args.self.now c.self.view_is c.args.place c.requires c.index.result.now c.index.ensures c.self.invariant
    c.args.number c.in-Some.key c.in-Some.ensures.key

pub returns-clause-areas : goal.returns-clause-areas
returns-clause-areas c =
    let there = row_there c.self.inside c.args.self.now c.self.view_is c.args.place c.requires in
    let ended = ended_areas c.self.inside.slots c.remove-ended.new.self c.self.inside.rows.items c.args.place c.args.number c.in-Some.key c.index.result.now
    there c.index.ensures c.self.invariant c.in-Some.ensures.different c.in-Some.ensures.key c.remove-ended.ensures.updates in
    change_seen c.self.inside c.args.self.now c.self.view_is c.args.place c.requires
    (map (area_by c.remove-ended.new.self) (slice_set c.self.inside.rows.items c.args.place c.remove.new.self))
    (cursors_without c.args.number)
    (ap (λ (row : Keys). map (area_by c.remove-ended.new.self) (slice_set c.self.inside.rows.items c.args.place row)) (left c) ∙ ended)

pub invariant_of-self : goal.invariant_of-self
invariant_of-self c =
    let there = row_there c.self.inside c.args.self.now c.self.view_is c.args.place c.requires in
    subst (λ (row : Keys). AreOwned c.remove-ended.new.self (slice_set c.self.inside.rows.items c.args.place row)) (sym (left c))
    (ended_owned c.self.inside.slots c.remove-ended.new.self c.self.inside.rows.items c.args.place c.args.number c.in-Some.key c.index.result.now
    there c.index.ensures c.self.invariant c.in-Some.ensures.different c.in-Some.ensures.key c.remove-ended.ensures.updates c.remove-ended.ensures.len)
