-- A status that is one of some is no other one.
use Rattle.std.proofs.Common.{◌≡◌, ◌⊎◌, ℕ, Bool, true, false, eqb, ◌||◌, List, [], ◌∷◌, inl, inr, sym, ap, ◌∙◌}

abbrev pub one_of : List ℕ → ℕ → Bool
one_of [] n = false
one_of (k ∷ ks) n = eqb n k || one_of ks n

pub not_in : (ks : List ℕ) (status k : ℕ) → one_of ks status ≡ true → status ≡ k → one_of ks k ≡ false → ⊥
not_in ks status k is e out = let never : true ≡ false = sym is ∙ ap (one_of ks) e ∙ out in cc never

-- a status that is a cause's own, or tells a sink fault or out of memory, is the cause's if it is none of these two
pub own_status : (status own k : ℕ) → (status ≡ own) ⊎ ((status ≡ 3) ⊎ (status ≡ 5)) → status ≡ k → one_of (3 ∷ 5 ∷ []) k ≡ false → own ≡ k
own_status status own k (inl e) is out = sym e ∙ is
own_status status own k (inr (inl e)) is out = let never : true ≡ false = ap (one_of (3 ∷ 5 ∷ [])) (sym e ∙ is) ∙ out in absurd (cc never)
own_status status own k (inr (inr e)) is out = let never : true ≡ false = ap (one_of (3 ∷ 5 ∷ [])) (sym e ∙ is) ∙ out in absurd (cc never)
