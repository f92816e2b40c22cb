-- One of several open transactions: found, changed, or gone.
use Rattle.clfs_cells_laws.proofs.Words.{◌≡◌, ℕ, ◌+◌, Bool, true, false, refl, sym, subst, ap, ◌∙◌, inl, inr, arith, List, [], ◌∷◌, ◌++◌, Some, find}
use Rattle.clfs_cells_laws.proofs.Words.{AllByRecursion, cases_Bool, change_first, Transaction, without_first, AllApart, AreApart, records_left, sectors_held}

-- the first that passes, and what stands before and after it
pub record Placed {X : Type 0} (p : X → Bool) (xs : List X) (x : X) : Type 0 where
  pub before : List X
  pub after : List X
  pub is : xs ≡ before ++ x ∷ after
  pub none : AllByRecursion (λ (y : X). p y ≡ false) before
  pub here : p x ≡ true

pub placed : {X : Type 0} (p : X → Bool) (xs : List X) (x : X) → find p xs ≡ Some x → Placed p xs x
placed p [] x e = absurd (cc e)
placed {X = X} p (a ∷ xs) x e = elim (cases_Bool (p a)) [
  | inl passes ↦
      let found : Some a ≡ Some x = rw passes at e in
      let same : a ≡ x = cc found in
      record { before = []; after = xs; is = ap (λ (y : X). y ∷ xs) same; none = tt; here = subst (λ (y : X). p y ≡ true) same passes }
  | inr fails ↦
      let later : find p xs ≡ Some x = rw fails at e in
      let rest = placed p xs x later in
      record { before = a ∷ rest.before; after = rest.after; is = ap (λ (l : List X). a ∷ l) rest.is; none = (fails, rest.none); here = rest.here }
]

pub find_at : {X : Type 0} (p : X → Bool) (before after : List X) (x : X) → AllByRecursion (λ (y : X). p y ≡ false) before → p x ≡ true
    → find p (before ++ x ∷ after) ≡ Some x
find_at p [] after x none here = rw here refl
find_at p (y ∷ before) after x none here = rw none.0 (find_at p before after x none.1 here)

pub change_at : {X : Type 0} (p : X → Bool) (f : X → X) (before after : List X) (x : X) → AllByRecursion (λ (y : X). p y ≡ false) before → p x ≡ true
    → change_first p f (before ++ x ∷ after) ≡ before ++ f x ∷ after
change_at p f [] after x none here = rw here refl
change_at {X = X} p f (y ∷ before) after x none here = rw none.0 (ap (λ (l : List X). y ∷ l) (change_at p f before after x none.1 here))

pub without_at : {X : Type 0} (p : X → Bool) (before after : List X) (x : X) → AllByRecursion (λ (y : X). p y ≡ false) before → p x ≡ true
    → without_first p (before ++ x ∷ after) ≡ before ++ after
without_at p [] after x none here = rw here refl
without_at {X = X} p (y ∷ before) after x none here = rw none.0 (ap (λ (l : List X). y ∷ l) (without_at p before after x none.1 here))

pub all_parts : {X : Type 0} (P : X → Type 0) (before after : List X) (x : X) → AllByRecursion P (before ++ x ∷ after)
    → AllByRecursion P (before ++ after) × P x
all_parts P [] after x all = (all.1, all.0)
all_parts P (y ∷ before) after x all = let rest = all_parts P before after x all.1 in ((all.0, rest.0), rest.1)

pub all_join : {X : Type 0} (P : X → Type 0) (before after : List X) (x : X) → AllByRecursion P (before ++ after) → P x
    → AllByRecursion P (before ++ x ∷ after)
all_join P [] after x all is = (is, all)
all_join P (y ∷ before) after x all is = (all.0, all_join P before after x all.1 is)

turned : (t u : Transaction) → AreApart t u → AreApart u t
turned t u is = record { numbers = λ e. is.numbers (sym e); cells = λ cell a b. is.cells cell b a }

pub apart_parts : (before after : List Transaction) (t : Transaction) → AllApart (before ++ t ∷ after)
    → AllApart (before ++ after) × AllByRecursion (AreApart t) (before ++ after)
apart_parts [] after t all = (all.1, all.0)
apart_parts (u ∷ before) after t all =
    let of_u = all_parts (AreApart u) before after t all.0 in
    let rest = apart_parts before after t all.1 in
    ((of_u.0, rest.0), (turned u t of_u.1, rest.1))

pub apart_join : (before after : List Transaction) (t : Transaction) → AllApart (before ++ after) → AllByRecursion (AreApart t) (before ++ after)
    → AllApart (before ++ t ∷ after)
apart_join [] after t all of_t = (of_t, all)
apart_join (u ∷ before) after t all of_t = (all_join (AreApart u) before after t all.0 (turned t u of_t.0), apart_join before after t all.1 of_t.1)

pub sectors_parts : (before after : List Transaction) (t : Transaction) → sectors_held (before ++ t ∷ after) ≡ records_left t + sectors_held (before ++ after)
sectors_parts [] after t = refl
sectors_parts (u ∷ before) after t =
    let rest = sectors_parts before after t in
    ap (λ (n : ℕ). records_left u + n) rest ∙ swapped (records_left u) (records_left t) (sectors_held (before ++ after))
  where
    swapped : (a b c : ℕ) → a + (b + c) ≡ b + (a + c)
    swapped a b c = omega arith
