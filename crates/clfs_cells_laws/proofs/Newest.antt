-- The newest restart area and the last record of a list are among it.
use Rattle.clfs_cells_laws.proofs.Words.{◌≡◌, ℕ, ◌<◌, Bool, true, false, refl, sym, subst, ap, ◌∙◌, inl, inr, arith, List, [], ◌∷◌, Option, Some, None, ◌==◌}
use Rattle.clfs_cells_laws.proofs.Words.{find, filter, reverse, slice_get, AllByRecursion, last_or, cases_Bool, eq-eqb, eqb-true, All-from_recursion}
use Rattle.clfs_cells_laws.proofs.Words.{recursion_from_All, is_restart, null_lsn, LogEntry, lsn_or_null}
use Rattle.std.proofs.lemmas.List.Sorted.{All-permutation, IsPermutation-reverse}
use Rattle.clfs_cells_laws.proofs.Above.{kept}
use Rattle.clfs_cells_laws.proofs.Ground.{newest_in}

turned : (P : LogEntry → Type 0) (entries : List LogEntry) → AllByRecursion P entries → AllByRecursion P (reverse entries)
turned P entries all = recursion_from_All P (reverse entries)
    (All-permutation P entries (reverse entries) (IsPermutation-reverse entries) (All-from_recursion P entries all))

first_has : (P : LogEntry → Type 0) (xs : List LogEntry) (x : LogEntry) → slice_get xs 0 ≡ Some x → AllByRecursion P xs → P x
first_has P [] x is all = absurd (cc is)
first_has P (a ∷ xs) x is all = let same : a ≡ x = cc is in subst P same all.0

-- what is so of all is so of the newest restart area
pub newest_has : (P : LogEntry → Type 0) (xs : List LogEntry) (x : LogEntry) → newest_in xs ≡ Some x → AllByRecursion P xs → P x
newest_has P xs x is all =
    first_has P (reverse (filter (λ (e : LogEntry). is_restart e.kind) xs)) x is (turned P _ (kept P (λ (e : LogEntry). is_restart e.kind) xs all))

-- and of the last one
pub last_has : (P : LogEntry → Type 0) (xs : List LogEntry) (o : Option LogEntry) (x : LogEntry) → last_or o xs ≡ Some x → ((y : LogEntry) → o ≡ Some y → P y)
    → AllByRecursion P xs → P x
last_has P [] o x is of all = of x is
last_has P (a ∷ xs) o x is of all = last_has P xs (Some a) x is (λ y same. let one : a ≡ y = cc same in subst P one all.0) all.1

-- a record of the list with the same LSN
abbrev pub IsThere : List LogEntry → LogEntry → Type 0
IsThere xs x = (y : LogEntry) × (find (λ (e : LogEntry). e.lsn == x.lsn) xs ≡ Some y)

one_more : (a : LogEntry) (xs others : List LogEntry) → AllByRecursion (IsThere xs) others → AllByRecursion (IsThere (a ∷ xs)) others
one_more a xs [] all = tt
one_more a xs (other ∷ others) all = (later, one_more a xs others all.1)
  where
    later : IsThere (a ∷ xs) other
    later = elim (cases_Bool (a.lsn == other.lsn)) [
      | inl here ↦ (a, rw here refl)
      | inr fails ↦ (all.0.0, rw fails all.0.1)
    ]

pub each_there : (xs : List LogEntry) → AllByRecursion (IsThere xs) xs
each_there [] = tt
each_there (a ∷ xs) = ((a, rw (eq-eqb a.lsn a.lsn refl) refl), one_more a xs xs (each_there xs))

found_passes : (p : LogEntry → Bool) (xs : List LogEntry) (x : LogEntry) → find p xs ≡ Some x → p x ≡ true
found_passes p [] x e = absurd (cc e)
found_passes p (a ∷ xs) x e = elim (cases_Bool (p a)) [
  | inl passes ↦ let here : Some a ≡ Some x = rw passes at e in let same : a ≡ x = cc here in ap p (sym same) ∙ passes
  | inr fails ↦ let later : find p xs ≡ Some x = rw fails at e in found_passes p xs x later
]

-- the record that is found at an LSN has it
pub lsn_found : (xs : List LogEntry) (lsn : ℕ) (x : LogEntry) → find (λ (e : LogEntry). e.lsn == lsn) xs ≡ Some x → x.lsn ≡ lsn
lsn_found xs lsn x is = eqb-true x.lsn lsn (found_passes (λ (e : LogEntry). e.lsn == lsn) xs x is)

-- where all LSNs are above null, only an empty list has no last one
pub none_last : (xs : List LogEntry) → AllByRecursion (λ (e : LogEntry). 0 < e.lsn) xs → (lsn_or_null (last_or None xs) == null_lsn) ≡ true → xs ≡ []
none_last [] all is = refl
none_last (a ∷ xs) all is = absurd (no (last_or (Some a) xs) refl is)
  where
    some : (o : Option LogEntry) (ys : List LogEntry) → last_or o ys ≡ None → o ≡ None
    some o [] e = e
    some o (y ∷ ys) e = let none : Some y ≡ None = some (Some y) ys e in absurd (cc none)

    no : (o : Option LogEntry) → last_or (Some a) xs ≡ o → (lsn_or_null o == null_lsn) ≡ true → ⊥
    no None e null = let none : Some a ≡ None = some (Some a) xs e in cc none
    no (Some x) e null =
        let high : 0 < x.lsn = last_has (λ (y : LogEntry). 0 < y.lsn) xs (Some a) x e (λ y same. let one : a ≡ y = cc same in subst (λ (z : LogEntry). 0 < z.lsn) one all.0) all.1 in
        let low : x.lsn ≡ 0 = eqb-true x.lsn 0 null in
        omega (arith, high, low)

-- what isn't null is some record
pub some_of : (o : Option LogEntry) → (lsn_or_null o == null_lsn) ≡ false → (x : LogEntry) × (o ≡ Some x)
some_of None is = absurd (cc is)
some_of (Some x) is = (x, refl)

pub none_of : (xs : List LogEntry) → AllByRecursion (λ (e : LogEntry). 0 < e.lsn) xs → (lsn_or_null (newest_in xs) == null_lsn) ≡ true → newest_in xs ≡ None
none_of xs all is = only (newest_in xs) refl is
  where
    only : (o : Option LogEntry) → newest_in xs ≡ o → (lsn_or_null o == null_lsn) ≡ true → newest_in xs ≡ None
    only None e null = e
    only (Some x) e null =
        let high : 0 < x.lsn = newest_has (λ (y : LogEntry). 0 < y.lsn) xs x e all in
        let low : x.lsn ≡ 0 = eqb-true x.lsn 0 null in
        absurd (omega (arith, high, low))
