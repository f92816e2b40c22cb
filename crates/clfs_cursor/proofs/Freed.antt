-- Cursors that are taken out of the slab, key by key.
use Rattle.clfs_cursor.proofs.Words.{◌≡◌, ◌≢◌, ℕ, ◌+◌, ◌<◌, ◌≤◌, Bool, true, false, cond, refl, ap, ◌∙◌, subst, arith, List, length, take, get_or, None}
use Rattle.clfs_cursor.proofs.Words.{is_some, count_by, nat_tests, get_or-le-sum_by, Slab, get, Updates, has_key, Numbered, Standing}
use Rattle.std.proofs.lemmas.List.Sums.{sum_by_more, sum_by_more_le}
use Rattle.clfs_cursor.proofs.Frames.{has_own_key}

-- what counts once at most and stands somewhere is there
pub there_by_count : (slots : Slab Standing) (key count : ℕ) → 1 ≤ count → count ≤ cond (is_some (get slots key)) 1 0 → is_some (get slots key) ≡ true
there_by_count slots key count some once = go (is_some (get slots key)) refl
  where
    go : (b : Bool) → is_some (get slots key) ≡ b → is_some (get slots key) ≡ true
    go true is = is
    go false is =
        let none = subst (λ (b : Bool). count ≤ cond b 1 0) is once in
        absurd (omega (arith, some, none))

module _ (keys : List Numbered) (i : ℕ) (d : Numbered) (there : i < length keys) where
  own : ◌≡◌ {A = ℕ} (cond (has_key (get_or keys i d).key (get_or keys i d)) 1 0) 1
  own = ap (λ (b : Bool). cond b 1 0) (has_own_key (get_or keys i d))

  -- the key at a place is among the keys
  pub counted_there : 1 ≤ count_by (has_key (get_or keys i d).key) keys
  counted_there = omega (arith, own, get_or-le-sum_by (λ (x : Numbered). cond (has_key (get_or keys i d).key x) 1 0) keys i d there)

  -- and not among those before it, where it stands once
  pub first_time : count_by (has_key (get_or keys i d).key) keys ≤ 1 → count_by (has_key (get_or keys i d).key) (take i keys) ≡ 0
  first_time once = omega (arith, once, own, sum_by_more_le (λ (x : Numbered). cond (has_key (get_or keys i d).key x) 1 0) keys i d there)

  -- one more key is gone over
  taken_more : (key : ℕ) → count_by (has_key key) (take (i + 1) keys) ≡ count_by (has_key key) (take i keys) + cond (has_key key (get_or keys i d)) 1 0
  taken_more key = sum_by_more (λ (x : Numbered). cond (has_key key x) 1 0) keys i d there

  -- the keys so far are gone, with the one at the place
  pub gone_more : (old new : Slab Standing) → Updates old new (get_or keys i d).key None
      → ((key : ℕ) → 1 ≤ count_by (has_key key) (take i keys) → get old key ≡ None)
      → (key : ℕ) → 1 ≤ count_by (has_key key) (take (i + 1) keys) → get new key ≡ None
  gone_more old new updates gone key some = go (has_key key (get_or keys i d)) refl (taken_more key)
    where
      go : (b : Bool) → has_key key (get_or keys i d) ≡ b
          → count_by (has_key key) (take (i + 1) keys) ≡ count_by (has_key key) (take i keys) + cond (has_key key (get_or keys i d)) 1 0
          → get new key ≡ None
      go true is more =
          let same : (get_or keys i d).key ≡ key = grind (arith, nat_tests, is) in
          subst (λ k. get new k ≡ None) same updates.changed
      go false is more =
          let other : key ≢ (get_or keys i d).key = λ e. grind (arith, nat_tests, is, e) in
          let before = more ∙ ap (λ (b : Bool). count_by (has_key key) (take i keys) + cond b 1 0) is in
          updates.others key other ∙ gone key (omega (arith, some, before))

  -- the others are as they were
  pub others_more : (first old new : Slab Standing) → Updates old new (get_or keys i d).key None
      → ((key : ℕ) → count_by (has_key key) (take i keys) ≡ 0 → get old key ≡ get first key)
      → (key : ℕ) → count_by (has_key key) (take (i + 1) keys) ≡ 0 → get new key ≡ get first key
  others_more first old new updates same key none = go (has_key key (get_or keys i d)) refl (taken_more key)
    where
      go : (b : Bool) → has_key key (get_or keys i d) ≡ b
          → count_by (has_key key) (take (i + 1) keys) ≡ count_by (has_key key) (take i keys) + cond (has_key key (get_or keys i d)) 1 0
          → get new key ≡ get first key
      go true is more =
          let one = more ∙ ap (λ (b : Bool). count_by (has_key key) (take i keys) + cond b 1 0) is in
          absurd (omega (arith, none, one))
      go false is more =
          let other : key ≢ (get_or keys i d).key = λ e. grind (arith, nat_tests, is, e) in
          let before = more ∙ ap (λ (b : Bool). count_by (has_key key) (take i keys) + cond b 1 0) is in
          updates.others key other ∙ same key (omega (arith, none, before))
