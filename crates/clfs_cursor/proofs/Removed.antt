-- An area that went with its cursors.
use Rattle.clfs_cursor.proofs.Words.{◌≡◌, ℕ, ◌+◌, ◌<◌, ◌≤◌, Bool, true, false, cond, refl, sym, ap, ◌∙◌, arith, zero, suc, List, [], ◌∷◌, length, map, get_or}
use Rattle.clfs_cursor.proofs.Words.{Option, None, is_some, count_by, remove, Slab, get, slab_len, Keys, area_by, has_key, uses_in, uses, AreOwned, Standing}
use Rattle.std.proofs.Common.{◌⊎◌, inl, inr}
use Rattle.std.proofs.lemmas.Bool.{cases_lt}
use Rattle.std.proofs.lemmas.List.Sums.{sum_by-remove}
use Rattle.clfs_cursor.proofs.Frames.{same_areas}
use Rattle.clfs_cursor.proofs.Owned.{in_row, key_is_used_once}

-- what is 1 or 0 is at most 1
once_at_most : (b : Bool) (count : ℕ) → count ≡ cond b 1 0 → count ≤ 1
once_at_most true count same = omega (arith, same)
once_at_most false count same = omega (arith, same)

-- what f makes of a list without an element
map_removed : {X Y : Type 0} (f : X → Y) (xs : List X) (i : ℕ) → map f (remove xs i) ≡ remove (map f xs) i
map_removed f [] i = nothing i
  where
    nothing : (i : ℕ) → map f (remove [] i) ≡ remove (map f []) i
    nothing zero = refl
    nothing (suc i) = refl
map_removed f (x ∷ xs) zero = refl
map_removed {Y = Y} f (x ∷ xs) (suc i) = ap (λ (ys : List Y). f x ∷ ys) (map_removed f xs i)

module _ (old new : Slab Standing) (areas : List Keys) (place : ℕ) (row : Keys) (there : place < length areas) (is : row ≡ get_or areas place row)
    (owned : AreOwned old areas) (others : (key : ℕ) → uses_in key row ≡ 0 → get new key ≡ get old key) where
  -- a key's uses without the area
  uses_left : (key : ℕ) → uses key (remove areas place) + uses_in key row ≡ uses key areas
  uses_left key =
      let sums = sum_by-remove (uses_in key) areas place row there in
      let same = ap (uses_in key) is in
      omega (arith, sums, same)

  -- each key of the area is in the slab, once
  pub row_is_owned : (key : ℕ) → count_by (has_key key) row.numbered ≤ cond (is_some (get old key)) 1 0
  row_is_owned key = omega (arith, owned.once key, in_row old areas owned place row there is key)

  -- the other areas are as they were
  pub removed_areas : map (area_by new) (remove areas place) ≡ remove (map (area_by old) areas) place
  removed_areas =
      same_areas old new (remove areas place)
      (λ key some. others key (omega (arith, some, uses_left key, once_at_most (is_some (get old key)) (uses key areas) (owned.once key))))
      ∙ map_removed (area_by old) areas place

  -- and the parts belong together
  pub removed_owned : ((key : ℕ) → 1 ≤ uses_in key row → get new key ≡ None) → slab_len new + length row.numbered ≡ slab_len old → AreOwned new (remove areas place)
  removed_owned gone less =
      let sums = sum_by-remove (λ (area : Keys). length area.numbered) areas place row there in
      let same = ap (λ (area : Keys). length area.numbered) is in
      record { once = λ key. at key (cases_lt 0 (uses_in key row)); as_many = omega (arith, less, sums, same, owned.as_many) }
    where
      at : (key : ℕ) → (0 < uses_in key row) ⊎ (uses_in key row ≤ 0) → uses key (remove areas place) ≡ cond (is_some (get new key)) 1 0
      at key (inl some) =
          let none : uses key (remove areas place) ≡ 0 = omega (arith, uses_left key, some, key_is_used_once old areas owned place row there is key some) in
          none ∙ sym (ap (λ (o : Option Standing). cond (is_some o) 1 0) (gone key some))
      at key (inr none) =
          let zero_uses : uses_in key row ≡ 0 = omega (arith, none) in
          let all : uses key (remove areas place) ≡ uses key areas = omega (arith, uses_left key, zero_uses) in
          all ∙ owned.once key ∙ sym (ap (λ (o : Option Standing). cond (is_some o) 1 0) (others key zero_uses))
