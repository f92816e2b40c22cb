-- A key that stands in an area is in the slab, and stands nowhere else.
use Rattle.clfs_cursor.proofs.Words.{◌≡◌, ℕ, ◌≤◌, ◌<◌, Bool, true, false, cond, refl, sym, ap, ◌∙◌, subst, arith, List, [], ◌∷◌, length, get_or, Option, Some}
use Rattle.clfs_cursor.proofs.Words.{None, is_some, find, count_by, nat_tests, get_or-le-sum_by, Slab, get, Keys, has_number, has_key, uses_in, uses}
use Rattle.clfs_cursor.proofs.Words.{AreOwned, Numbered, Standing}
use Rattle.clfs_cursor.proofs.Counts.{counted_more, counted_le}
use Rattle.clfs_cursor.proofs.Frames.{has_own_key}

-- what was found counts by its key
pub found_counts : (p : Numbered → Bool) (keys : List Numbered) (found : Numbered) → find p keys ≡ Some found → 1 ≤ count_by (has_key found.key) keys
found_counts p [] found is = absurd (cc)
found_counts p (first ∷ keys) found is = go (p first) refl (found_counts p keys found)
  where
    go : (b : Bool) → p first ≡ b → (find p keys ≡ Some found → 1 ≤ count_by (has_key found.key) keys) → 1 ≤ count_by (has_key found.key) (first ∷ keys)
    go true here rest =
        let at : Some first ≡ Some found = rw here at is in
        let same : first ≡ found = cc in
        let own : has_key found.key first ≡ true = subst (λ (x : Numbered). has_key x.key first ≡ true) same (has_own_key first) in
        omega (arith, counted_more (has_key found.key) first keys own)
    go false here rest = omega (arith, rest (rw here at is), counted_le (has_key found.key) first keys)

-- the number that was found is the one that was asked for
pub found_is : (keys : List Numbered) (number : ℕ) (found : Numbered) → find (has_number number) keys ≡ Some found
    → has_number number found ≡ true → find (has_number number) keys ≡ Some (record { number = number; key = found.key })
found_is keys number found is passes =
    let same : found.number ≡ number = grind (arith, nat_tests, passes) in
    is ∙ ap (λ n. Some (record { number = n; key = found.key })) same

-- what is at most 1 by a test and at least 1 is 1, and the test holds
by_test : (b : Bool) (count : ℕ) → count ≡ cond b 1 0 → 1 ≤ count → b ≡ true
by_test true count same some = refl
by_test false count same some = absurd (omega (arith, same, some))

-- what is there has a value
pub value_there : (o : Option Standing) → is_some o ≡ true → (standing : Standing) × (o ≡ Some standing)
value_there None is = absurd (cc)
value_there (Some standing) is = (standing, refl)

module _ (slots : Slab Standing) (areas : List Keys) (owned : AreOwned slots areas) (place : ℕ) (row : Keys) (there : place < length areas)
    (is : row ≡ get_or areas place row) where
  -- a key counts in all areas at least as often as in one
  pub in_row : (key : ℕ) → uses_in key row ≤ uses key areas
  in_row key = subst (λ (r : Keys). uses_in key r ≤ uses key areas) (sym is) (get_or-le-sum_by (uses_in key) areas place row there)

  -- a key of the area is in the slab
  pub key_is_there : (key : ℕ) → 1 ≤ uses_in key row → is_some (get slots key) ≡ true
  key_is_there key some = by_test (is_some (get slots key)) (uses key areas) (owned.once key) (omega (arith, some, in_row key))

  -- and stands there once, and in no other area
  pub key_is_used_once : (key : ℕ) → 1 ≤ uses_in key row → uses key areas ≡ 1
  key_is_used_once key some = owned.once key ∙ ap (λ (b : Bool). cond b 1 0) (key_is_there key some)
