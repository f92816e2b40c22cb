-- The cursor of a number, where no number stands twice.
use Rattle.clfs_cursor.proofs.Words.{◌≡◌, ℕ, ◌+◌, ◌≤◌, Bool, true, false, cond, refl, sym, ap, ◌∙◌, arith, List, [], ◌∷◌, map, Some, None, ◌==◌, find, filter}
use Rattle.clfs_cursor.proofs.Words.{count_by, sum_by, sum_by-filter_both, Slab, Cursor, HaveDifferentNumbers, AreDifferent, has_number, cursor_by, Numbered}
use Rattle.clfs_cursor.proofs.Words.{Standing}
use Rattle.std.proofs.Common.{not}
use Rattle.std.specs.Prelude.{◌&&◌}
use Rattle.clfs_cursor.proofs.Counts.{counted_more, counted_same}

-- numbers of cursors are those of their keys
pub counts_seen : (slots : Slab Standing) (keys : List Numbered) (number : ℕ)
    → count_by (λ (cursor : Cursor). cursor.number == number) (map (cursor_by slots) keys) ≡ count_by (has_number number) keys
counts_seen slots [] number = refl
counts_seen slots (first ∷ keys) number = go (has_number number first) refl (counts_seen slots keys number)
  where
    go : (b : Bool) → has_number number first ≡ b
        → count_by (λ (cursor : Cursor). cursor.number == number) (map (cursor_by slots) keys) ≡ count_by (has_number number) keys
        → count_by (λ (cursor : Cursor). cursor.number == number) (map (cursor_by slots) (first ∷ keys)) ≡ count_by (has_number number) (first ∷ keys)
    go true is rest =
        counted_more (λ (cursor : Cursor). cursor.number == number) (cursor_by slots first) (map (cursor_by slots) keys) is
        ∙ ap (λ n. 1 + n) rest ∙ sym (counted_more (has_number number) first keys is)
    go false is rest =
        counted_same (λ (cursor : Cursor). cursor.number == number) (cursor_by slots first) (map (cursor_by slots) keys) is
        ∙ rest ∙ sym (counted_same (has_number number) first keys is)

pub different_seen : (slots : Slab Standing) (keys : List Numbered) → AreDifferent keys → HaveDifferentNumbers (map (cursor_by slots) keys)
different_seen slots keys different = λ number. omega (arith, counts_seen slots keys number, different number)

module _ {X : Type 0} (p : X → Bool) where
  -- where none is counted, none is found
  pub none_found : (xs : List X) → count_by p xs ≡ 0 → find p xs ≡ None
  none_found [] none = refl
  none_found (x ∷ xs) none = go (p x) refl (none_found xs)
    where
      go : (b : Bool) → p x ≡ b → (count_by p xs ≡ 0 → find p xs ≡ None) → find p (x ∷ xs) ≡ None
      go true is rest = absurd (omega (arith, none, counted_more p x xs is))
      go false is rest = rw is (rest (omega (arith, none, counted_same p x xs is)))

  -- what was found passes the test
  pub found_passes : (xs : List X) (y : X) → find p xs ≡ Some y → p y ≡ true
  found_passes [] y found = absurd (cc)
  found_passes (x ∷ xs) y found = go (p x) refl (found_passes xs y)
    where
      go : (b : Bool) → p x ≡ b → (find p xs ≡ Some y → p y ≡ true) → p y ≡ true
      go true is rest =
          let here : Some x ≡ Some y = rw is at found in
          let same : x ≡ y = cc in
          ap p (sym same) ∙ is
      go false is rest = rest (rw is at found)

  -- none that passes both where none passes the first
  pub none_found_with : (q : X → Bool) (xs : List X) → find p xs ≡ None → find (λ x. p x && q x) xs ≡ None
  none_found_with q [] none = refl
  none_found_with q (x ∷ xs) none = go (p x) refl (none_found_with q xs)
    where
      go : (b : Bool) → p x ≡ b → (find p xs ≡ None → find (λ x. p x && q x) xs ≡ None) → find (λ x. p x && q x) (x ∷ xs) ≡ None
      go true is rest =
          let here : Some x ≡ None = rw is at none in absurd (cc)
      go false is rest = rw is (rest (rw is at none))

  -- a second test leaves what passes it too, where at most one passes the first
  pub found_with : (q : X → Bool) (xs : List X) (y : X) → count_by p xs ≤ 1 → find p xs ≡ Some y → find (λ x. p x && q x) xs ≡ cond (q y) (Some y) None
  found_with q [] y once found = absurd (cc)
  found_with q (x ∷ xs) y once found = go (p x) refl (found_with q xs y)
    where
      go : (b : Bool) → p x ≡ b → (count_by p xs ≤ 1 → find p xs ≡ Some y → find (λ x. p x && q x) xs ≡ cond (q y) (Some y) None)
          → find (λ x. p x && q x) (x ∷ xs) ≡ cond (q y) (Some y) None
      go true is rest =
          let here : Some x ≡ Some y = rw is at found in
          let same : x ≡ y = cc in
          let none : find (λ x. p x && q x) xs ≡ None = none_found_with q xs (none_found xs (omega (arith, once, counted_more p x xs is))) in
          rw (is, none, same) refl
      go false is rest = rw is (rest (omega (arith, once, counted_same p x xs is)) (rw is at found))

  -- nothing goes where none is found
  pub none_goes : (xs : List X) → find p xs ≡ None → filter (λ x. not (p x)) xs ≡ xs
  none_goes [] none = refl
  none_goes (x ∷ xs) none = go (p x) refl (none_goes xs)
    where
      go : (b : Bool) → p x ≡ b → (find p xs ≡ None → filter (λ x. not (p x)) xs ≡ xs) → filter (λ x. not (p x)) (x ∷ xs) ≡ x ∷ xs
      go true is rest =
          let here : Some x ≡ None = rw is at none in absurd (cc)
      go false is rest = rw is (ap (λ (ys : List X). x ∷ ys) (rest (rw is at none)))

  -- where none is counted, a filter keeps none
  none_kept : (xs : List X) → count_by p xs ≡ 0 → filter p xs ≡ []
  none_kept [] none = refl
  none_kept (x ∷ xs) none = go (p x) refl (none_kept xs)
    where
      go : (b : Bool) → p x ≡ b → (count_by p xs ≡ 0 → filter p xs ≡ []) → filter p (x ∷ xs) ≡ []
      go true is rest = absurd (omega (arith, none, counted_more p x xs is))
      go false is rest = rw is (rest (omega (arith, none, counted_same p x xs is)))

  -- what passes is what was found, where at most one passes
  pub one_kept : (xs : List X) (y : X) → count_by p xs ≤ 1 → find p xs ≡ Some y → filter p xs ≡ y ∷ []
  one_kept [] y once found = absurd (cc)
  one_kept (x ∷ xs) y once found = go (p x) refl (one_kept xs y) (none_kept xs)
    where
      go : (b : Bool) → p x ≡ b → (count_by p xs ≤ 1 → find p xs ≡ Some y → filter p xs ≡ y ∷ []) → (count_by p xs ≡ 0 → filter p xs ≡ [])
          → filter p (x ∷ xs) ≡ y ∷ []
      go true is rest empty =
          let here : Some x ≡ Some y = rw is at found in
          let same : x ≡ y = cc in
          let none : filter p xs ≡ [] = empty (omega (arith, once, counted_more p x xs is)) in
          rw (is, none, same) refl
      go false is rest empty = rw is (rest (omega (arith, once, counted_same p x xs is)) (rw is at found))

  -- a sum over what passes and what doesn't
  pub sum_without : (f : X → ℕ) (xs : List X) (y : X) → count_by p xs ≤ 1 → find p xs ≡ Some y
      → sum_by f (filter (λ x. not (p x)) xs) + f y ≡ sum_by f xs
  sum_without f xs y once found =
      let parts = sum_by-filter_both p (λ x. not (p x)) (λ _. refl) f xs in
      let one = ap (λ (ys : List X). sum_by f ys) (one_kept xs y once found) in
      omega (arith, parts, one)
