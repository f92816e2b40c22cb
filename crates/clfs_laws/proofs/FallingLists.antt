-- The restart areas of a stream fall, newest first; below one of them are those after it.
use Rattle.clfs_laws.proofs.Words.{◌≡◌, ℕ, suc, ◌+◌, ◌<◌, Bool, refl, sym, ap, ◌∙◌, subst, inl, inr, arith, List, [], ◌∷◌, ◌++◌, Some, None, find, filter}
use Rattle.clfs_laws.proofs.Words.{map, reverse, nat_lt, slice_index, AllByRecursion, IsStrictlyIncreasing, cases_Bool, lt-ltb, le-ltb, ltb-true, ltb-false}
use Rattle.clfs_laws.proofs.Words.{reverse_onto, All-from_recursion, recursion_from_All, LogEntry}
use Rattle.std.proofs.lemmas.List.Sorted.{All-permutation, IsPermutation-reverse}

-- each record lies below all after it, or above them
abbrev pub Rises : List LogEntry → Type 0
Rises [] = Unit {0}
Rises (entry ∷ entries) = AllByRecursion (λ (other : LogEntry). entry.lsn < other.lsn) entries × Rises entries

abbrev pub Falls : List LogEntry → Type 0
Falls [] = Unit {0}
Falls (entry ∷ entries) = AllByRecursion (λ (other : LogEntry). other.lsn < entry.lsn) entries × Falls entries

-- the LSNs of records
abbrev pub lsns_of : List LogEntry → List ℕ
lsns_of entries = map (λ (entry : LogEntry). entry.lsn) entries

-- numbers that rise, without the first
pub rising_rest : (first : ℕ) (lsns : List ℕ) → IsStrictlyIncreasing (first ∷ lsns) → IsStrictlyIncreasing lsns
rising_rest first lsns rising k within =
    let F : ℕ → Type 0 = λ n. slice_index (first ∷ lsns) (suc k) < slice_index (first ∷ lsns) n in
    let next : suc k + 1 ≡ suc (k + 1) = omega arith in
    subst F next (rising (suc k) (omega (arith, within)))

all_above : (bound : ℕ) (entries : List LogEntry) → IsStrictlyIncreasing (bound ∷ lsns_of entries)
    → AllByRecursion (λ (other : LogEntry). bound < other.lsn) entries
all_above bound [] rising = tt
all_above bound (entry ∷ entries) rising =
    let first : bound < entry.lsn = rising 0 (omega arith) in
    let rest = all_above entry.lsn entries (rising_rest bound (lsns_of (entry ∷ entries)) rising) in
    (first, weaker entries rest)
  where
    weaker : (others : List LogEntry) → AllByRecursion (λ (other : LogEntry). entry.lsn < other.lsn) others
        → AllByRecursion (λ (other : LogEntry). bound < other.lsn) others
    weaker [] all = tt
    weaker (other ∷ others) all = (let first : bound < entry.lsn = rising 0 (omega arith) in omega (arith, first, all.0), weaker others all.1)

-- LSNs that rise
pub rises : (entries : List LogEntry) → IsStrictlyIncreasing (lsns_of entries) → Rises entries
rises [] rising = tt
rises (entry ∷ entries) rising =
    (all_above entry.lsn entries rising, rises entries (rising_rest entry.lsn (lsns_of entries) rising))

-- what is so of all is so of those that pass, and of all the other way round
kept : (P : LogEntry → Type 0) (p : LogEntry → Bool) (entries : List LogEntry) → AllByRecursion P entries → AllByRecursion P (filter p entries)
kept P p [] all = tt
kept P p (entry ∷ entries) all = elim (cases_Bool (p entry)) [
  | inl passes ↦ rw passes (all.0, kept P p entries all.1)
  | inr fails ↦ rw fails (kept P p entries all.1)
]

turned : (P : LogEntry → Type 0) (entries : List LogEntry) → AllByRecursion P entries → AllByRecursion P (reverse entries)
turned P entries all = recursion_from_All P (reverse entries)
    (All-permutation P entries (reverse entries) (IsPermutation-reverse entries) (All-from_recursion P entries all))

pub filter_rises : (p : LogEntry → Bool) (entries : List LogEntry) → Rises entries → Rises (filter p entries)
filter_rises p [] rising = tt
filter_rises p (entry ∷ entries) rising = elim (cases_Bool (p entry)) [
  | inl passes ↦ rw passes (kept (λ (other : LogEntry). entry.lsn < other.lsn) p entries rising.0, filter_rises p entries rising.1)
  | inr fails ↦ rw fails (filter_rises p entries rising.1)
]

-- a record below all others falls after them
last_below : (P : LogEntry → Type 0) (entries : List LogEntry) (entry : LogEntry) → AllByRecursion P entries → P entry
    → AllByRecursion P (entries ++ entry ∷ [])
last_below P [] entry all is = (is, tt)
last_below P (first ∷ entries) entry all is = (all.0, last_below P entries entry all.1 is)

falls_on : (entries : List LogEntry) (entry : LogEntry) → Falls entries → AllByRecursion (λ (other : LogEntry). entry.lsn < other.lsn) entries
    → Falls (entries ++ entry ∷ [])
falls_on [] entry falling above = (tt, tt)
falls_on (first ∷ entries) entry falling above =
    (last_below (λ (other : LogEntry). other.lsn < first.lsn) entries entry falling.0 above.0, falls_on entries entry falling.1 above.1)

pub reverse_falls : (entries : List LogEntry) → Rises entries → Falls (reverse entries)
reverse_falls [] rising = tt
reverse_falls (entry ∷ entries) rising =
    subst Falls (sym (reverse_onto entries entry []))
    (falls_on (reverse entries) entry (reverse_falls entries rising.1) (turned (λ (other : LogEntry). entry.lsn < other.lsn) entries rising.0))

-- the records below an LSN
abbrev pub below_lsn : ℕ → List LogEntry → List LogEntry
below_lsn lsn entries = filter (λ (entry : LogEntry). nat_lt entry.lsn lsn) entries

pub all_below : (lsn : ℕ) (entries : List LogEntry) → AllByRecursion (λ (entry : LogEntry). entry.lsn < lsn) entries → below_lsn lsn entries ≡ entries
all_below lsn [] all = refl
all_below lsn (entry ∷ entries) all = rw (lt-ltb entry.lsn lsn all.0) (ap (λ (rest : List LogEntry). entry ∷ rest) (all_below lsn entries all.1))

-- of falling records those below the first are the rest
pub below_first : (entry : LogEntry) (entries : List LogEntry) → Falls (entry ∷ entries) → below_lsn entry.lsn (entry ∷ entries) ≡ entries
below_first entry entries falling = rw (le-ltb entry.lsn entry.lsn (omega arith)) (all_below entry.lsn entries falling.0)

-- those below the first of those below an LSN are the rest of these
pub below_next : (lsn : ℕ) (entries : List LogEntry) (entry : LogEntry) (rest : List LogEntry) → Falls entries → below_lsn lsn entries ≡ entry ∷ rest
    → below_lsn entry.lsn entries ≡ rest
below_next lsn [] entry rest falling is = absurd (cc)
below_next lsn (first ∷ entries) entry rest falling is = elim (cases_Bool (nat_lt first.lsn lsn)) [
  | inl below ↦
      let at : first ∷ below_lsn lsn entries ≡ entry ∷ rest = rw below at is in
      let same : first ≡ entry = cc in
      let F : LogEntry → Type 0 = λ e. below_lsn e.lsn (first ∷ entries) ≡ below_lsn lsn entries in
      let all : below_lsn lsn entries ≡ entries = all_below lsn entries (lower lsn first entries (ltb-true first.lsn lsn below) falling.0) in
      let here : below_lsn first.lsn (first ∷ entries) ≡ below_lsn lsn entries = below_first first entries falling ∙ sym all in
      subst F same here ∙ (cc)
  | inr above ↦
      let at : below_lsn lsn entries ≡ entry ∷ rest = rw above at is in
      let under : entry.lsn < lsn = first_below lsn entries entry rest at in
      rw (le-ltb first.lsn entry.lsn (let high = ltb-false first.lsn lsn above in omega (arith, under, high))) (below_next lsn entries entry rest falling.1 at)
]
  where
    lower : (lsn : ℕ) (first : LogEntry) (others : List LogEntry) → first.lsn < lsn → AllByRecursion (λ (other : LogEntry). other.lsn < first.lsn) others
        → AllByRecursion (λ (other : LogEntry). other.lsn < lsn) others
    lower lsn first [] below all = tt
    lower lsn first (other ∷ others) below all = (omega (arith, below, all.0), lower lsn first others below all.1)

    first_below : (lsn : ℕ) (others : List LogEntry) (entry : LogEntry) (rest : List LogEntry) → below_lsn lsn others ≡ entry ∷ rest → entry.lsn < lsn
    first_below lsn [] entry rest is = absurd (cc)
    first_below lsn (other ∷ others) entry rest is = elim (cases_Bool (nat_lt other.lsn lsn)) [
      | inl below ↦
          let at : other ∷ below_lsn lsn others ≡ entry ∷ rest = rw below at is in
          let same : other ≡ entry = cc in
          let low = ltb-true other.lsn lsn below in
          omega (arith, low, ap (λ (e : LogEntry). e.lsn) same)
      | inr above ↦ first_below lsn others entry rest (rw above at is)
    ]

-- the first that passes is the first of those that pass
pub found_first : (p : LogEntry → Bool) (entries : List LogEntry) (entry : LogEntry) (rest : List LogEntry) → filter p entries ≡ entry ∷ rest
    → find p entries ≡ Some entry
found_first p [] entry rest is = absurd (cc)
found_first p (first ∷ entries) entry rest is = elim (cases_Bool (p first)) [
  | inl here ↦ let at : first ∷ filter p entries ≡ entry ∷ rest = rw here at is in rw here (cc)
  | inr there ↦ rw there (found_first p entries entry rest (rw there at is))
]

pub none_passes : (p : LogEntry → Bool) (entries : List LogEntry) → filter p entries ≡ [] → find p entries ≡ None
none_passes p [] is = refl
none_passes p (first ∷ entries) is = elim (cases_Bool (p first)) [
  | inl here ↦ absurd (let at : first ∷ filter p entries ≡ [] = rw here at is in cc)
  | inr there ↦ rw there (none_passes p entries (rw there at is))
]
