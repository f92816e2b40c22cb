-- The first and the last of sorted heads that pass a test.
use Rattle.std.proofs.Common.{◌≡◌, ℕ, ◌<◌, ◌≤◌, ◌⊎◌, Bool, true, false, refl, ap, inl, inr, arith, List, [], ◌∷◌, length, zero, suc, Option, Some, get_or, slice_get}
use Rattle.std.specs.Prelude.{filter, AllPairs}
use Rattle.std.specs.List.{last_or}
use Rattle.std.proofs.lemmas.Bool.{cases_Bool}
use Rattle.clfs_lsn.specs.declared.entry.Head.{Head}

abbrev pub AreSorted : List Head → Type 0
AreSorted heads = AllPairs (λ (a b : Head). a.lsn < b.lsn) heads

sorted_tail : (head : Head) (heads : List Head) → AreSorted (head ∷ heads) → AreSorted heads
sorted_tail head heads sorted = λ i j d before inside. sorted (suc i) (suc j) d (omega arith) (omega arith)

-- a head that passes, by its place
pub record Passing (p : Head → Bool) (heads : List Head) (head : Head) : Type 0 where
  pub place : ℕ
  pub default : Head
  pub inside : place < length heads
  pub is : get_or heads place default ≡ head
  pub passes : p head ≡ true

later : (p : Head → Bool) (first head : Head) (heads : List Head) → Passing p heads head → Passing p (first ∷ heads) head
later p first head heads passing = record {
  place = suc passing.place;
  default = passing.default;
  inside = omega (arith, passing.inside);
  is = passing.is;
  passes = passing.passes;
}

-- the first head that passes, and that it isn't above another one that does
pub record FirstOf (p : Head → Bool) (heads : List Head) (n : ℕ) : Type 0 where
  pub head : Head
  pub is : slice_get (filter p heads) 0 ≡ Some head
  pub passing : Passing p heads head
  pub up_to : head.lsn ≤ n

pub first_of : (p : Head → Bool) (heads : List Head) (k : ℕ) (d : Head) → AreSorted heads → k < length heads → p (get_or heads k d) ≡ true
    → FirstOf p heads (get_or heads k d).lsn
first_of p [] k d sorted inside passes = absurd (omega (arith, inside))
first_of p (head ∷ heads) zero d sorted inside passes = record {
  head = head;
  is = rw passes refl;
  passing = record { place = 0; default = d; inside = omega arith; is = refl; passes = passes };
  up_to = omega arith;
}
first_of p (head ∷ heads) (suc k) d sorted inside passes = elim (cases_Bool (p head)) [
  | inl own ↦ record {
    head = head;
    is = rw own refl;
    passing = record { place = 0; default = d; inside = omega arith; is = refl; passes = own };
    up_to = let over = sorted 0 (suc k) d (omega arith) inside in omega (arith, over);
  }
  | inr fails ↦
      let rest = first_of p heads k d (sorted_tail head heads sorted) (omega (arith, inside)) passes in
      record { head = rest.head; is = rw fails rest.is; passing = later p head rest.head heads rest.passing; up_to = rest.up_to }
]

pub none_passes : (p : Head → Bool) (heads : List Head) → ((k : ℕ) (d : Head) → k < length heads → p (get_or heads k d) ≡ false) → filter p heads ≡ []
none_passes p [] fail = refl
none_passes p (head ∷ heads) fail = rw (fail 0 head (omega arith)) (none_passes p heads (λ k d inside. fail (suc k) d (omega arith)))

-- the last head that passes, and that it isn't below any other one that does
pub record LastOf (p : Head → Bool) (found : Option Head) (heads : List Head) : Type 0 where
  pub head : Head
  pub is : last_or found (filter p heads) ≡ Some head
  pub passing : Passing p heads head
  pub from : (k : ℕ) (d : Head) → k < length heads → p (get_or heads k d) ≡ true → (get_or heads k d).lsn ≤ head.lsn

true_not_false : {A : Type 0} (b : Bool) → b ≡ true → b ≡ false → A
true_not_false b is isnt = absurd (cc)

-- none passes, or one of those that do is the last
pub last_of : (p : Head → Bool) (found : Option Head) (heads : List Head) → AreSorted heads
    → ((k : ℕ) (d : Head) → k < length heads → p (get_or heads k d) ≡ false) ⊎ LastOf p found heads
last_of p found [] sorted = inl (λ k d inside. absurd (omega (arith, inside)))
last_of p found (head ∷ heads) sorted = elim (cases_Bool (p head)) [
  | inl own ↦ elim (last_of p (Some head) heads (sorted_tail head heads sorted)) [
    | inl none ↦ inr (record {
      head = head;
      is = rw own (rw (none_passes p heads none) refl);
      passing = record { place = 0; default = head; inside = omega arith; is = refl; passes = own };
      from = only p head heads none;
    })
    | inr last ↦ inr (record {
      head = last.head;
      is = rw own last.is;
      passing = later p head last.head heads last.passing;
      from = last_behind p (Some head) head heads sorted last;
    })
  ]
  | inr fails ↦ elim (last_of p found heads (sorted_tail head heads sorted)) [
    | inl none ↦ inl (all_fail p head heads fails none)
    | inr last ↦ inr (record {
      head = last.head;
      is = rw fails last.is;
      passing = later p head last.head heads last.passing;
      from = last_behind p found head heads sorted last;
    })
  ]
]
  where
    only : (p : Head → Bool) (head : Head) (heads : List Head) → ((k : ℕ) (d : Head) → k < length heads → p (get_or heads k d) ≡ false)
        → (k : ℕ) (d : Head) → k < length (head ∷ heads) → p (get_or (head ∷ heads) k d) ≡ true → (get_or (head ∷ heads) k d).lsn ≤ head.lsn
    only p head heads none zero d inside passes = omega arith
    only p head heads none (suc k) d inside passes = true_not_false _ passes (none k d (omega (arith, inside)))

    last_behind : (p : Head → Bool) (found : Option Head) (head : Head) (heads : List Head) → AreSorted (head ∷ heads) → (last : LastOf p found heads)
        → (k : ℕ) (d : Head) → k < length (head ∷ heads) → p (get_or (head ∷ heads) k d) ≡ true → (get_or (head ∷ heads) k d).lsn ≤ last.head.lsn
    last_behind p found head heads sorted last zero d inside passes =
        let over = sorted 0 (suc last.passing.place) last.passing.default (omega arith) (omega (arith, last.passing.inside)) in
        let same = ap (λ (h : Head). h.lsn) last.passing.is in
        omega (arith, over, same)
    last_behind p found head heads sorted last (suc k) d inside passes = last.from k d (omega (arith, inside)) passes

    all_fail : (p : Head → Bool) (head : Head) (heads : List Head) → p head ≡ false → ((k : ℕ) (d : Head) → k < length heads → p (get_or heads k d) ≡ false)
        → (k : ℕ) (d : Head) → k < length (head ∷ heads) → p (get_or (head ∷ heads) k d) ≡ false
    all_fail p head heads fails none zero d inside = fails
    all_fail p head heads fails none (suc k) d inside = none k d (omega (arith, inside))
