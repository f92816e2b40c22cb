-- A cursor that was started: a new key of the slab, after the keys of its area.
use Rattle.clfs_cursor.proofs.Words.{◌≡◌, ◌≢◌, ℕ, ◌+◌, ◌<◌, ◌≤◌, Bool, true, false, cond, refl, sym, ap, ap₂, ◌∙◌, subst, arith, List, [], ◌∷◌, ◌++◌, length}
use Rattle.clfs_cursor.proofs.Words.{map, get_or, Option, Some, None, is_some, slice_set, nat_tests, sum_by_push, sum_by-set, get_or-le-sum_by, Slab, get}
use Rattle.clfs_cursor.proofs.Words.{slab_len, Updates, Cursor, AreaCursors, no_cursors, area_at, with_cursors, Keys, cursor_by, area_by, has_key, uses_in}
use Rattle.clfs_cursor.proofs.Words.{uses, AreOwned, Numbered, Standing}
use Rattle.std.proofs.Common.{length-append}
use Rattle.std.proofs.lemmas.List.{map-append, get_or-map}
use Rattle.clfs_cursor.proofs.Frames.{same_cursors, one_area}

-- the area at a place, as contracts see it
pub area_there : (slots : Slab Standing) (areas : List Keys) (place : ℕ) (row : Keys) → place < length areas → row ≡ get_or areas place row
    → area_at place (map (area_by slots) areas) ≡ area_by slots row
area_there slots areas place row there is = get_or-map (area_by slots) areas place row no_cursors there ∙ ap (area_by slots) (sym is)

-- a key that the slab hasn't stands nowhere
pub unused_key : (slots : Slab Standing) (areas : List Keys) (key : ℕ) → ((k : ℕ) → uses k areas ≡ cond (is_some (get slots k)) 1 0)
    → get slots key ≡ None → uses key areas ≡ 0
unused_key slots areas key once none = once key ∙ ap (λ (o : Option Standing). cond (is_some o) 1 0) none

module _ (old new : Slab Standing) (areas : List Keys) (place number key : ℕ) (standing : Standing) (row : Keys) (there : place < length areas)
    (is : row ≡ get_or areas place row) (owned : AreOwned old areas) (vacant : get old key ≡ None) (updates : Updates old new key (Some standing)) where
  -- the new key
  abbrev added : Numbered
  added = record { number = number; key = key }

  -- the area with the new key
  abbrev pub after : Keys
  after = record row { numbered = row.numbered ++ added ∷ [] }

  unused : uses key areas ≡ 0
  unused = unused_key old areas key owned.once vacant

  in_row : (k : ℕ) → uses_in k row ≤ uses k areas
  in_row k = subst (λ (r : Keys). uses_in k r ≤ uses k areas) (sym is) (get_or-le-sum_by (uses_in k) areas place row there)

  another : (k : ℕ) → 1 ≤ uses k areas → get new k ≡ get old k
  another k some = updates.others k (λ same. let none = subst (λ n. uses n areas ≡ 0) (sym same) unused in absurd (omega (arith, some, none)))

  last : cursor_by new added ≡ record { number = number; kind = standing.kind; last = standing.last }
  last = rw updates.changed refl

  area_after : area_by new after ≡ record (area_by old row) { cursors = (area_by old row).cursors ++ record { number = number; kind = standing.kind; last = standing.last } ∷ [] }
  area_after =
      let kept = same_cursors old new row.numbered (λ k some. another k (omega (arith, some, in_row k))) in
      ap (λ (cursors : List Cursor). record { cursors = cursors; reads = row.reads })
      (map-append (cursor_by new) row.numbered (added ∷ [])
      ∙ ap₂ (λ (before : List Cursor) (one : Cursor). before ++ one ∷ []) kept last)

  -- what contracts see is the same with the new cursor
  pub started_areas : map (area_by new) (slice_set areas place after)
      ≡ with_cursors place ((area_at place (map (area_by old) areas)).cursors ++ record { number = number; kind = standing.kind; last = standing.last } ∷ []) (map (area_by old) areas)
  started_areas = one_area old new areas place row after there (λ k more. another k (omega (arith, more)))
      ∙ ap (λ (area : AreaCursors). slice_set (map (area_by old) areas) place area)
      (area_after ∙ ap (λ (area : AreaCursors). record area { cursors = area.cursors ++ record { number = number; kind = standing.kind; last = standing.last } ∷ [] })
      (sym (area_there old areas place row there is)))

  once_after : (k : ℕ) → uses k (slice_set areas place after) ≡ cond (is_some (get new k)) 1 0
  once_after k = go (has_key k added) refl
      (sum_by-set (uses_in k) areas place after row there)
      (ap (uses_in k) (sym is))
      (sum_by_push (λ (x : Numbered). cond (has_key k x) 1 0) row.numbered added)
    where
      go : (b : Bool) → has_key k added ≡ b → uses k (slice_set areas place after) + uses_in k (get_or areas place row) ≡ uses k areas + uses_in k after
          → uses_in k (get_or areas place row) ≡ uses_in k row → uses_in k after ≡ uses_in k row + cond (has_key k added) 1 0
          → uses k (slice_set areas place after) ≡ cond (is_some (get new k)) 1 0
      go true here sums same more =
          let at_key : key ≡ k = grind (arith, nat_tests, here) in
          let one = more ∙ ap (λ (b : Bool). uses_in k row + cond b 1 0) here in
          let none = subst (λ n. uses n areas ≡ 0) at_key unused in
          let there_now : get new k ≡ Some standing = subst (λ n. get new n ≡ Some standing) at_key updates.changed in
          let all : uses k (slice_set areas place after) ≡ 1 = omega (arith, sums, same, one, none) in
          all ∙ sym (ap (λ (o : Option Standing). cond (is_some o) 1 0) there_now)
      go false here sums same more =
          let other : k ≢ key = λ e. grind (arith, nat_tests, here, e) in
          let none = more ∙ ap (λ (b : Bool). uses_in k row + cond b 1 0) here in
          let all : uses k (slice_set areas place after) ≡ uses k areas = omega (arith, sums, same, none) in
          all ∙ owned.once k ∙ sym (ap (λ (o : Option Standing). cond (is_some o) 1 0) (updates.others k other))

  -- and the parts belong together as before
  pub started_owned : slab_len new ≡ slab_len old + 1 → AreOwned new (slice_set areas place after)
  started_owned more =
      let sums = sum_by-set (λ (area : Keys). length area.numbered) areas place after row there in
      let same = ap (λ (area : Keys). length area.numbered) (sym is) in
      let longer = length-append row.numbered (added ∷ []) in
      record { once = once_after; as_many = omega (arith, more, sums, same, longer, owned.as_many) }
