-- What a search finds is among what is searched, and what is among it is found.
use Rattle.clfs_manager.proofs.Words.{◌≡◌, ℕ, zero, suc, ◌<◌, ◌≤◌, Bool, true, false, refl, sym, ap, ◌∙◌, subst, inl, inr, ⊎_elim, List, [], ◌∷◌, length, map}
use Rattle.clfs_manager.proofs.Words.{get_or, arith, Option, Some, None, find, filter, All, Contains, slice_get, IsStrictlyIncreasing, cases_Bool, cases_lt}
use Rattle.clfs_manager.proofs.Words.{eq-eqb, get_or-map, length-map, All-nil, All-cons, All-weaker, All-contains, AllPairs-from_increasing, LogEntry}
use Rattle.std.proofs.Common.{cond, eqb}
use borrow.Author.Tests.{eqb-true}
use Rattle.std.proofs.lemmas.List.{get_or_default}

module _ {X : Type 0} where
  pub here : (x : X) (xs : List X) → Contains (x ∷ xs) x
  here x xs = (zero, omega arith, refl)

  pub there : (x y : X) (xs : List X) → Contains xs y → Contains (x ∷ xs) y
  there x y xs is = (suc is.0, omega (arith, is.1), is.2)

  -- what is among elements and passes is among those that pass
  passing : (p : X → Bool) (xs : List X) → All (λ y. p y ≡ true → Contains (filter p xs) y) xs
  passing p [] = All-nil _
  passing p (x ∷ xs) = All-cons (λ y. p y ≡ true → Contains (filter p (x ∷ xs)) y) x xs (λ t. rw t (here x (filter p xs)))
      (All-weaker (λ y. p y ≡ true → Contains (filter p xs) y) (λ y. p y ≡ true → Contains (filter p (x ∷ xs)) y) more xs (passing p xs))
    where
      more : (y : X) → (p y ≡ true → Contains (filter p xs) y) → p y ≡ true → Contains (filter p (x ∷ xs)) y
      more y among t = elim (cases_Bool (p x)) [
        | inl kept ↦ rw kept (there x y (filter p xs) (among t))
        | inr left ↦ rw left (among t)
      ]

  pub contains_passing : (p : X → Bool) (xs : List X) (x : X) → p x ≡ true → Contains xs x → Contains (filter p xs) x
  contains_passing p xs x t is = All-contains (λ y. p y ≡ true → Contains (filter p xs) y) xs x (passing p xs) is t

  -- what is among those that pass is among all, and passes
  pub contains_all : (p : X → Bool) (xs : List X) (x : X) → Contains (filter p xs) x → Contains xs x × (p x ≡ true)
  contains_all p [] x is = absurd (omega (arith, is.1))
  contains_all p (y ∷ xs) x is = (elim (p y) as (λ b. p y ≡ b → Contains (cond b (y ∷ filter p xs) (filter p xs)) x → Contains (y ∷ xs) x × (p x ≡ true)) [
    | true ↦ λ t has. first t (contains_all p xs x) has
    | false ↦ λ t has. further (contains_all p xs x has)
  ]) refl is
    where
      further : Contains xs x × (p x ≡ true) → Contains (y ∷ xs) x × (p x ≡ true)
      further rest = (there y x xs rest.0, rest.1)

      first : p y ≡ true → (Contains (filter p xs) x → Contains xs x × (p x ≡ true)) → Contains (y ∷ filter p xs) x → Contains (y ∷ xs) x × (p x ≡ true)
      first t rest (zero, lt, e) = (subst (Contains (y ∷ xs)) e (here y xs), ap p (sym e) ∙ t)
      first t rest (suc k, lt, e) = further (rest (k, omega (arith, lt), e))

  -- what is found is there, and passes
  pub found : (p : X → Bool) (xs : List X) (x : X) → find p xs ≡ Some x → Contains xs x × (p x ≡ true)
  found p [] x is = absurd (cc is)
  found p (y ∷ xs) x is = (elim (p y) as (λ b. p y ≡ b → cond b (Some y) (find p xs) ≡ Some x → Contains (y ∷ xs) x × (p x ≡ true)) [
    | true ↦ λ t e. let same : y ≡ x = cc e in (subst (Contains (y ∷ xs)) same (here y xs), ap p (sym same) ∙ t)
    | false ↦ λ t e. let rest = found p xs x e in (there y x xs rest.0, rest.1)
  ]) refl is

  -- where none is found none passes
  pub none_passes : (p : X → Bool) (xs : List X) (x : X) → find p xs ≡ None → Contains xs x → p x ≡ true → ⊥
  none_passes p [] x none is t = absurd (omega (arith, is.1))
  none_passes p (y ∷ xs) x none (zero, lt, e) t = let passes : p y ≡ true = ap p e ∙ t in let some : Some y ≡ None = rw passes at none in cc some
  none_passes p (y ∷ xs) x none (suc k, lt, e) t = (elim (p y) as (λ b. cond b (Some y) (find p xs) ≡ None → ⊥) [
    | true ↦ λ some. cc some
    | false ↦ λ rest. none_passes p xs x rest (k, omega (arith, lt), e) t
  ]) none

  -- the only one that passes is found
  pub only_found : (p : X → Bool) (xs : List X) (x : X) → Contains xs x → p x ≡ true → ((y : X) → Contains xs y → p y ≡ true → y ≡ x) → find p xs ≡ Some x
  only_found p xs x is t only = by_found (find p xs) refl
    where
      by_found : (o : Option X) → find p xs ≡ o → find p xs ≡ Some x
      by_found None e = absurd (none_passes p xs x e is t)
      by_found (Some y) e = let at = found p xs y e in let same : y ≡ x = only y at.0 at.1 in e ∙ ap (λ z. Some z) same

  -- an element at a position is there
  pub contains_at : (xs : List X) (i : ℕ) (x : X) → slice_get xs i ≡ Some x → Contains xs x
  contains_at [] i x is = absurd (cc is)
  contains_at (y ∷ xs) zero x is = let same : y ≡ x = cc is in subst (Contains (y ∷ xs)) same (here y xs)
  contains_at (y ∷ xs) (suc i) x is = there y x xs (contains_at xs i x is)

-- of records whose LSNs rise no two have the same
pub one_lsn : (records : List LogEntry) → IsStrictlyIncreasing (map (λ (entry : LogEntry). entry.lsn) records) → (a b : LogEntry)
    → Contains records a → Contains records b → a.lsn ≡ b.lsn → a ≡ b
one_lsn records rising a b of_a of_b same = ⊎_elim
    (λ (before : of_a.0 < of_b.0). absurd (apart of_a.0 of_b.0 before of_b.1 a b (at_a a) (at_b b) same))
    (λ (after : of_b.0 ≤ of_a.0). ⊎_elim
    (λ (behind : of_b.0 < of_a.0). absurd (apart of_b.0 of_a.0 behind of_a.1 b a (at_b b) (at_a a) (sym same)))
    (λ (until : of_a.0 ≤ of_b.0).
    let one : of_a.0 ≡ of_b.0 = omega (arith, after, until) in
    sym (at_a a) ∙ ap (λ (k : ℕ). get_or records k a) one ∙ at_b a)
    (cases_lt of_b.0 of_a.0))
    (cases_lt of_a.0 of_b.0)
  where
    at_a : (d : LogEntry) → get_or records of_a.0 d ≡ a
    at_a d = get_or_default records of_a.0 d a of_a.1 ∙ of_a.2

    at_b : (d : LogEntry) → get_or records of_b.0 d ≡ b
    at_b d = get_or_default records of_b.0 d b of_b.1 ∙ of_b.2

    lsn_at : (k : ℕ) (d : LogEntry) → k < length records → get_or (map (λ (entry : LogEntry). entry.lsn) records) k 0 ≡ (get_or records k d).lsn
    lsn_at k d few = get_or-map (λ (entry : LogEntry). entry.lsn) records k d 0 few

    apart : (i j : ℕ) → i < j → j < length records → (x y : LogEntry) → get_or records i x ≡ x → get_or records j y ≡ y → x.lsn ≡ y.lsn → ⊥
    apart i j before within x y of_x of_y one =
        let long : length (map (λ (entry : LogEntry). entry.lsn) records) ≡ length records = length-map records (λ (entry : LogEntry). entry.lsn) in
        let low = AllPairs-from_increasing (map (λ (entry : LogEntry). entry.lsn) records) rising i j 0 before (subst (λ (n : ℕ). j < n) (sym long) within) in
        let first : (get_or records i x).lsn ≡ x.lsn = ap (λ (e : LogEntry). e.lsn) of_x in
        let second : (get_or records j y).lsn ≡ y.lsn = ap (λ (e : LogEntry). e.lsn) of_y in
        omega (arith, low, lsn_at i x (omega (arith, before, within)), lsn_at j y within, first, second, one)

-- the record of an LSN is found by it
pub found_by_lsn : (records : List LogEntry) → IsStrictlyIncreasing (map (λ (entry : LogEntry). entry.lsn) records) → (p : LogEntry → Bool) (entry : LogEntry)
    → Contains records entry → p entry ≡ true → find (λ (other : LogEntry). eqb other.lsn entry.lsn) (filter p records) ≡ Some entry
found_by_lsn records rising p entry is t =
    only_found (λ (other : LogEntry). eqb other.lsn entry.lsn) (filter p records) entry (contains_passing p records entry t is) (eq-eqb entry.lsn entry.lsn refl)
    (λ other has same. one_lsn records rising other entry (contains_all p records other has).0 is (eqb-true other.lsn entry.lsn same))
