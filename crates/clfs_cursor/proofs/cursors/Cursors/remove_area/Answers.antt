use Rattle.clfs_cursor.proofs.Words.{◌≡◌, ℕ, ◌+◌, ◌≤◌, ◌∙◌, ap, sym, subst, refl, List, length, map, None, is_some, cond, count_by, remove, get, slab_len}
use Rattle.clfs_cursor.proofs.Words.{Table, Keys, area_by, has_key, uses_in, AreOwned, Numbered}
use Rattle.clfs_cursor.proofs.Opened.{row_there}
use Rattle.clfs_cursor.proofs.Removed.{removed_areas, removed_owned, row_is_owned}
use Rattle.clfs_cursor.proofs.cursors.Cursors.remove_area.Goals as goal

pub free-requires : goal.free-requires
free-requires c = λ key.
    let there = row_there c.self.inside c.args.self.now c.self.view_is c.args.place c.requires in
    subst (λ (keys : List Numbered). count_by (has_key key) keys ≤ cond (is_some (get c.self.inside.slots key)) 1 0) (sym c.as_slice.ensures)
    (row_is_owned c.self.inside.slots c.self.inside.slots c.self.inside.rows.items c.args.place c.remove-row.result there c.remove-row.ensures.value c.self.invariant
    (λ key none. refl) key)

pub returns-clause-areas : goal.returns-clause-areas
returns-clause-areas c =
    let there = row_there c.self.inside c.args.self.now c.self.view_is c.args.place c.requires in
    let others : (key : ℕ) → uses_in key c.remove-row.result ≡ 0 → get c.free.new.slots key ≡ get c.self.inside.slots key =
    λ key none. c.free.ensures.others key (ap (λ (keys : List Numbered). count_by (has_key key) keys) c.as_slice.ensures ∙ none) in
    ap (λ (rows : List Keys). map (area_by c.free.new.slots) rows) c.remove-row.ensures.items
    ∙ removed_areas c.self.inside.slots c.free.new.slots c.self.inside.rows.items c.args.place c.remove-row.result there c.remove-row.ensures.value c.self.invariant others
    ∙ ap (λ (table : Table). remove table.areas c.args.place) c.self.view_is

pub invariant_of-self : goal.invariant_of-self
invariant_of-self c =
    let there = row_there c.self.inside c.args.self.now c.self.view_is c.args.place c.requires in
    let others : (key : ℕ) → uses_in key c.remove-row.result ≡ 0 → get c.free.new.slots key ≡ get c.self.inside.slots key =
    λ key none. c.free.ensures.others key (ap (λ (keys : List Numbered). count_by (has_key key) keys) c.as_slice.ensures ∙ none) in
    let gone : (key : ℕ) → 1 ≤ uses_in key c.remove-row.result → get c.free.new.slots key ≡ None =
    λ key some. c.free.ensures.gone key (subst (λ (keys : List Numbered). 1 ≤ count_by (has_key key) keys) (sym c.as_slice.ensures) some) in
    let less : slab_len c.free.new.slots + length c.remove-row.result.numbered ≡ slab_len c.self.inside.slots =
    subst (λ (keys : List Numbered). slab_len c.free.new.slots + length keys ≡ slab_len c.self.inside.slots) c.as_slice.ensures c.free.ensures.len in
    subst (λ (rows : List Keys). AreOwned c.free.new.slots rows) (sym c.remove-row.ensures.items)
    (removed_owned c.self.inside.slots c.free.new.slots c.self.inside.rows.items c.args.place c.remove-row.result there c.remove-row.ensures.value c.self.invariant others gone less)
