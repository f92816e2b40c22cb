-- The records of a stream above an LSN, as reading forward comes to them.
use Rattle.clfs_cells_laws.proofs.Words.{◌≡◌, ℕ, suc, ◌+◌, ◌<◌, Bool, refl, sym, ap, ◌∙◌, subst, inl, inr, arith, List, [], ◌∷◌, find, filter, map, nat_lt}
use Rattle.clfs_cells_laws.proofs.Words.{slice_index, AllByRecursion, cases_Bool, lt-ltb, le-ltb, ltb-true, LogEntry}
use Rattle.std.specs.Prelude.{Some, None}
use Rattle.std.specs.List.Sorted.{IsStrictlyIncreasing}

-- each record lies below all after it
abbrev pub Rises : List LogEntry → Type 0
Rises [] = Unit {0}
Rises (entry ∷ entries) = AllByRecursion (λ (other : LogEntry). entry.lsn < other.lsn) entries × Rises entries

abbrev lsns_of : List LogEntry → List ℕ
lsns_of entries = map (λ (entry : LogEntry). entry.lsn) entries

rising_rest : (first : ℕ) (lsns : List ℕ) → IsStrictlyIncreasing (first ∷ lsns) → IsStrictlyIncreasing lsns
rising_rest first lsns rising k within =
    let F : ℕ → Type 0 = λ n. slice_index (first ∷ lsns) (suc k) < slice_index (first ∷ lsns) n in
    let next : suc k + 1 ≡ suc (k + 1) = omega arith in
    subst F next (rising (suc k) (omega (arith, within)))

all_above : (bound : ℕ) (entries : List LogEntry) → IsStrictlyIncreasing (bound ∷ lsns_of entries)
    → AllByRecursion (λ (other : LogEntry). bound < other.lsn) entries
all_above bound [] rising = tt
all_above bound (entry ∷ entries) rising =
    let first : bound < entry.lsn = rising 0 (omega arith) in
    let rest = all_above entry.lsn entries (rising_rest bound (lsns_of (entry ∷ entries)) rising) in
    (first, weaker entries rest)
  where
    weaker : (others : List LogEntry) → AllByRecursion (λ (other : LogEntry). entry.lsn < other.lsn) others
        → AllByRecursion (λ (other : LogEntry). bound < other.lsn) others
    weaker [] all = tt
    weaker (other ∷ others) all = (let first : bound < entry.lsn = rising 0 (omega arith) in omega (arith, first, all.0), weaker others all.1)

-- LSNs that rise
pub rises : (entries : List LogEntry) → IsStrictlyIncreasing (lsns_of entries) → Rises entries
rises [] rising = tt
rises (entry ∷ entries) rising =
    (all_above entry.lsn entries rising, rises entries (rising_rest entry.lsn (lsns_of entries) rising))

-- what is so of all is so of those that pass
pub kept : (P : LogEntry → Type 0) (p : LogEntry → Bool) (entries : List LogEntry) → AllByRecursion P entries → AllByRecursion P (filter p entries)
kept P p [] all = tt
kept P p (entry ∷ entries) all = elim (cases_Bool (p entry)) [
  | inl passes ↦ rw passes (all.0, kept P p entries all.1)
  | inr fails ↦ rw fails (kept P p entries all.1)
]

pub filter_rises : (p : LogEntry → Bool) (entries : List LogEntry) → Rises entries → Rises (filter p entries)
filter_rises p [] rising = tt
filter_rises p (entry ∷ entries) rising = elim (cases_Bool (p entry)) [
  | inl passes ↦ rw passes (kept (λ (other : LogEntry). entry.lsn < other.lsn) p entries rising.0, filter_rises p entries rising.1)
  | inr fails ↦ rw fails (filter_rises p entries rising.1)
]

-- the records above an LSN
abbrev pub above : ℕ → List LogEntry → List LogEntry
above lsn entries = filter (λ (entry : LogEntry). nat_lt lsn entry.lsn) entries

pub none_above : (lsn : ℕ) (entries : List LogEntry) → find (λ (entry : LogEntry). nat_lt lsn entry.lsn) entries ≡ None → above lsn entries ≡ []
none_above lsn [] is = refl
none_above lsn (first ∷ entries) is = elim (cases_Bool (nat_lt lsn first.lsn)) [
  | inl here ↦ absurd (let at : Some first ≡ None = rw here at is in cc at)
  | inr there ↦ rw there (none_above lsn entries (rw there at is))
]

all_pass : (lsn : ℕ) (entries : List LogEntry) → AllByRecursion (λ (other : LogEntry). lsn < other.lsn) entries → above lsn entries ≡ entries
all_pass lsn [] all = refl
all_pass lsn (entry ∷ entries) all = rw (lt-ltb lsn entry.lsn all.0) (ap (λ (rest : List LogEntry). entry ∷ rest) (all_pass lsn entries all.1))

higher : (low high : ℕ) (entries : List LogEntry) → low < high → AllByRecursion (λ (other : LogEntry). high < other.lsn) entries
    → AllByRecursion (λ (other : LogEntry). low < other.lsn) entries
higher low high [] less all = tt
higher low high (other ∷ others) less all = (omega (arith, less, all.0), higher low high others less all.1)

find_has : (P : LogEntry → Type 0) (p : LogEntry → Bool) (entries : List LogEntry) (x : LogEntry) → find p entries ≡ Some x → AllByRecursion P entries → P x
find_has P p [] x e all = absurd (cc e)
find_has P p (a ∷ entries) x e all = elim (cases_Bool (p a)) [
  | inl passes ↦ let here : Some a ≡ Some x = rw passes at e in let same : a ≡ x = cc here in subst P same all.0
  | inr fails ↦ let later : find p entries ≡ Some x = rw fails at e in find_has P p entries x later all.1
]

-- those above the first of those above an LSN are the rest of these
pub next_above : (lsn : ℕ) (entries : List LogEntry) (entry : LogEntry) → Rises entries → find (λ (e : LogEntry). nat_lt lsn e.lsn) entries ≡ Some entry
    → above lsn entries ≡ entry ∷ above entry.lsn entries
next_above lsn [] entry rising is = absurd (cc is)
next_above lsn (first ∷ entries) entry rising is = elim (cases_Bool (nat_lt lsn first.lsn)) [
  | inl here ↦
      let at : Some first ≡ Some entry = rw here at is in
      let same : first ≡ entry = cc at in
      let all : above lsn entries ≡ entries = all_pass lsn entries (higher lsn first.lsn entries (ltb-true lsn first.lsn here) rising.0) in
      let rest : above first.lsn (first ∷ entries) ≡ entries = rw (le-ltb first.lsn first.lsn (omega arith)) (all_pass first.lsn entries rising.0) in
      rw here (ap (λ (l : List LogEntry). first ∷ l) (all ∙ sym rest) ∙ ap (λ (e : LogEntry). e ∷ above e.lsn (first ∷ entries)) same)
  | inr there ↦
      let at : find (λ (e : LogEntry). nat_lt lsn e.lsn) entries ≡ Some entry = rw there at is in
      let low : first.lsn < entry.lsn = find_has (λ (e : LogEntry). first.lsn < e.lsn) (λ (e : LogEntry). nat_lt lsn e.lsn) entries entry at rising.0 in
      rw (there, le-ltb entry.lsn first.lsn (omega (arith, low))) (next_above lsn entries entry rising.1 at)
]
