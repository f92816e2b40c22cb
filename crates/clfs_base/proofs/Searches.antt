-- The first that is found, counting on.
use Rattle.clfs_base.proofs.Words.{◌≡◌, ℕ, zero, suc, ◌+◌, ◌-◌, ◌<◌, ◌≤◌, Option, Some, None, refl, sym, ◌∙◌, ap, ⊎_elim, arith, cases_eq, option_or}
use Rattle.clfs_base.proofs.Words.{first_some}

-- a check that passes, and one that doesn't
pub goes_on : (one rest x : Option ℕ) → one ≡ None → rest ≡ x → option_or one rest ≡ x
goes_on one rest x none is = ap (λ (o : Option ℕ). option_or o rest) none ∙ is

pub stops_at : (one rest : Option ℕ) (at : ℕ) → one ≡ Some at → option_or one rest ≡ Some at
stops_at one rest at is = ap (λ (o : Option ℕ). option_or o rest) is

pub both_none : (one rest : Option ℕ) → option_or one rest ≡ None → (one ≡ None) × (rest ≡ None)
both_none None rest e = (refl, e)
both_none (Some at) rest e = absurd (cc e)

module _ (fault : ℕ → Option ℕ) (i end : ℕ) where
  one_more : i < end → first_some fault i (end - i) ≡ option_or (fault i) (first_some fault (i + 1) (end - (i + 1)))
  unfolding first_some
  one_more lt = let e : end - i ≡ suc (end - (i + 1)) = omega (arith, lt) in ap (λ (n : ℕ). first_some fault i n) e

  -- nothing is found here, and the search goes on
  pub passes_on : i < end → fault i ≡ None → first_some fault (i + 1) (end - (i + 1)) ≡ first_some fault i (end - i)
  passes_on lt none = sym (one_more lt ∙ goes_on _ _ _ none refl)

  pub found_here : (at : ℕ) → i < end → fault i ≡ Some at → first_some fault i (end - i) ≡ Some at
  found_here at lt is = one_more lt ∙ stops_at _ _ at is

  pub ends_here : end ≤ i → first_some fault i (end - i) ≡ None
  unfolding first_some
  ends_here le = let e : end - i ≡ 0 = omega (arith, le) in ap (λ (n : ℕ). first_some fault i n) e

-- nothing is found where each has nothing, and the other way round
pub none_found : (fault : ℕ → Option ℕ) (from n : ℕ) → ((j : ℕ) → from ≤ j → j < from + n → fault j ≡ None) → first_some fault from n ≡ None
unfolding first_some
none_found fault from zero each = refl
none_found fault from (suc n) each =
    goes_on _ _ _ (each from (omega arith) (omega arith))
    (none_found fault (from + 1) n (λ j le lt. each j (omega (arith, le)) (omega (arith, lt))))

pub each_none : (fault : ℕ → Option ℕ) (from n : ℕ) → first_some fault from n ≡ None → (j : ℕ) → from ≤ j → j < from + n → fault j ≡ None
unfolding first_some
each_none fault from zero e j le lt = absurd (omega (arith, le, lt))
each_none fault from (suc n) e j le lt =
    let parts = both_none (fault from) (first_some fault (from + 1) n) e in
    ⊎_elim
    (λ (is : j ≡ from). ap fault is ∙ parts.0)
    (λ apart. each_none fault (from + 1) n parts.1 j (omega (arith, le, apart)) (omega (arith, lt)))
    (cases_eq j from)
