-- Lists that are made by the places of their elements.
use Rattle.clfs_base.proofs.Words.{◌≡◌, ℕ, ◌<◌, Bool, true, false, map, refl, sym, ◌∙◌, arith, range_with_len, list_any}
use Rattle.clfs_base.proofs.Places.{each_fails}

module _ {X : Type 0} (p : X → Bool) (g : ℕ → X) (n k : ℕ) (lt : k < n) (is : p (g k) ≡ true) where
  -- where one passes a test, one of all does
  pub one_passes : list_any p (map g (range_with_len 0 n)) ≡ true
  one_passes = by (list_any p (map g (range_with_len 0 n))) refl
    where
      by : (b : Bool) → list_any p (map g (range_with_len 0 n)) ≡ b → list_any p (map g (range_with_len 0 n)) ≡ true
      by true e = e
      by false e = let x : false ≡ true = sym (each_fails p g 0 n e k (omega arith) (omega (arith, lt))) ∙ is in absurd (cc x)
