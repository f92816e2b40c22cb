-- A cursor that ended: a key of the slab and of its area less.
use Rattle.clfs_cursor.proofs.Words.{◌≡◌, ◌≢◌, ℕ, ◌+◌, ◌<◌, ◌≤◌, Bool, true, false, cond, refl, sym, ap, ◌∙◌, subst, arith, List, [], ◌∷◌, length, map}
use Rattle.clfs_cursor.proofs.Words.{get_or, Option, Some, None, is_some, ◌==◌, find, filter, sum_by, slice_set, nat_tests, sum_by-cons, sum_by-set, Slab}
use Rattle.clfs_cursor.proofs.Words.{get, slab_len, Updates, Cursor, AreaCursors, area_at, with_cursors, Keys, AreDifferent, has_number, area_by, has_key}
use Rattle.clfs_cursor.proofs.Words.{uses_in, uses, AreOwned, Numbered, Standing}
use Rattle.std.proofs.Common.{not}
use Rattle.clfs_cursor.proofs.Found.{sum_without}
use Rattle.clfs_cursor.proofs.Frames.{same_cursors, one_area, has_own_key}
use Rattle.clfs_cursor.proofs.Owned.{found_counts, in_row, key_is_used_once}
use Rattle.clfs_cursor.proofs.Seen.{others_seen}
use Rattle.clfs_cursor.proofs.Started.{area_there}

-- a length is a sum of ones
ones : {X : Type 0} (xs : List X) → sum_by (λ (x : X). 1) xs ≡ length xs
ones [] = refl
ones {X} (x ∷ xs) = let first = sum_by-cons (λ (y : X). 1) x xs in omega (arith, first, ones xs)

module _ (old new : Slab Standing) (areas : List Keys) (place number key : ℕ) (row : Keys) (there : place < length areas) (is : row ≡ get_or areas place row)
    (owned : AreOwned old areas) (different : AreDifferent row.numbered)
    (found : find (has_number number) row.numbered ≡ Some (record { number = number; key = key })) (updates : Updates old new key None) where
  -- the key that goes
  abbrev gone : Numbered
  gone = record { number = number; key = key }

  -- the area without it
  abbrev pub after : Keys
  after = record row { numbered = filter (λ (numbered : Numbered). not (numbered.number == number)) row.numbered }

  -- a key's uses in the area before and after
  left : (k : ℕ) → uses_in k after + cond (has_key k gone) 1 0 ≡ uses_in k row
  left k = sum_without (has_number number) (λ (x : Numbered). cond (has_key k x) 1 0) row.numbered gone (different number) found

  used : uses key areas ≡ 1
  used = key_is_used_once old areas owned place row there is key (found_counts (has_number number) row.numbered gone found)

  own : ◌≡◌ {A = ℕ} (cond (has_key key gone) 1 0) 1
  own = ap (λ (b : Bool). cond b 1 0) (has_own_key gone)

  -- the area's other keys are other ones
  kept : (k : ℕ) → 1 ≤ uses_in k after → get new k ≡ get old k
  kept k some = updates.others k (λ same.
      let here = subst (λ n. 1 ≤ uses_in n after) same some in
      absurd (omega (arith, here, left key, own, used, in_row old areas owned place row there is key)))

  area_after : area_by new after ≡ record (area_by old row) { cursors = filter (λ (cursor : Cursor). not (cursor.number == number)) (area_by old row).cursors }
  area_after = ap (λ (cursors : List Cursor). record { cursors = cursors; reads = row.reads })
      (same_cursors old new after.numbered kept ∙ sym (others_seen old row.numbered number))

  -- what contracts see is the same without the cursor
  pub ended_areas : map (area_by new) (slice_set areas place after)
      ≡ with_cursors place (filter (λ (cursor : Cursor). not (cursor.number == number)) (area_at place (map (area_by old) areas)).cursors) (map (area_by old) areas)
  ended_areas =
      one_area old new areas place row after there (λ k more. updates.others k (λ same.
      let here = subst (λ n. uses_in n (get_or areas place row) < uses n areas) same more in
      absurd (omega (arith, here, used, left key, own, ap (uses_in key) is))))
      ∙ ap (λ (area : AreaCursors). slice_set (map (area_by old) areas) place area)
      (area_after ∙ ap (λ (area : AreaCursors). record area { cursors = filter (λ (cursor : Cursor). not (cursor.number == number)) area.cursors })
      (sym (area_there old areas place row there is)))

  once_after : (k : ℕ) → uses k (slice_set areas place after) ≡ cond (is_some (get new k)) 1 0
  once_after k = go (has_key k gone) refl (sum_by-set (uses_in k) areas place after row there) (ap (uses_in k) is) (left k)
    where
      go : (b : Bool) → has_key k gone ≡ b → uses k (slice_set areas place after) + uses_in k (get_or areas place row) ≡ uses k areas + uses_in k after
          → uses_in k row ≡ uses_in k (get_or areas place row) → uses_in k after + cond (has_key k gone) 1 0 ≡ uses_in k row
          → uses k (slice_set areas place after) ≡ cond (is_some (get new k)) 1 0
      go true here sums same less =
          let at_key : key ≡ k = grind (arith, nat_tests, here) in
          let one = sym (ap (λ (b : Bool). uses_in k after + cond b 1 0) here) ∙ less in
          let once = subst (λ n. uses n areas ≡ 1) at_key used in
          let none : get new k ≡ None = subst (λ n. get new n ≡ None) at_key updates.changed in
          let all : uses k (slice_set areas place after) ≡ 0 = omega (arith, sums, same, one, once) in
          all ∙ sym (ap (λ (o : Option Standing). cond (is_some o) 1 0) none)
      go false here sums same less =
          let other : k ≢ key = λ e. grind (arith, nat_tests, here, e) in
          let none = sym (ap (λ (b : Bool). uses_in k after + cond b 1 0) here) ∙ less in
          let all : uses k (slice_set areas place after) ≡ uses k areas = omega (arith, sums, same, none) in
          all ∙ owned.once k ∙ sym (ap (λ (o : Option Standing). cond (is_some o) 1 0) (updates.others k other))

  -- and the parts belong together
  pub ended_owned : slab_len new + 1 ≡ slab_len old → AreOwned new (slice_set areas place after)
  ended_owned less =
      let sums = sum_by-set (λ (area : Keys). length area.numbered) areas place after row there in
      let same = ap (λ (area : Keys). length area.numbered) is in
      let shorter = sum_without (has_number number) (λ (x : Numbered). 1) row.numbered gone (different number) found in
      record { once = once_after; as_many = omega (arith, less, sums, same, shorter, ones row.numbered, ones after.numbered, owned.as_many) }
