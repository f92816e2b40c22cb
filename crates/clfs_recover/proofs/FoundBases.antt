-- The bases with records: at least those of the rows and the new ones of the records, and no further than both go.
use Rattle.clfs_recover.proofs.Words.{◌≡◌, ◌⊎◌, inl, inr, ℕ, suc, ◌+◌, ◌-◌, ◌<◌, ◌≤◌, true, max, List, [], ◌∷◌, get_or, map, refl, sym, subst, arith, Any}
use Rattle.clfs_recover.proofs.Words.{AllByRecursion, fold, filter, cases_Bool, cases_lt, eq-eqb, eqb-true, All-from_recursion, BaseFits, LogEntry, Restart}
use Rattle.clfs_recover.proofs.Words.{Row, row_in, base_with}
use Rattle.std.specs.List.{All}
use Rattle.clfs_lsn.specs.declared.entry.Kind.{Kind}
use Rattle.clfs_lsn.specs.declared.entry.Kind.TheVariants.{Plain}
use Rattle.clfs_recover.proofs.KeptRecords.{weaker, numbers_of_kept, of_numbers}
use Rattle.clfs_recover.proofs.Raising.{is_of}

-- a new base is at most its record's LSN
pub base_low : (kind : Kind) (lsn base : ℕ) → BaseFits kind lsn base → base ≤ lsn
base_low Plain lsn base is = omega (arith, is)
base_low Restart lsn base is = is

-- the greatest of some numbers is at least each
pub greatest_first : (n : ℕ) (ns : List ℕ) → n ≤ fold max n ns
greatest_first n [] = omega arith
greatest_first n (m ∷ ms) = omega (arith, greatest_first (max n m) ms)

pub greatest_above : (n : ℕ) (ns : List ℕ) → AllByRecursion (λ m. m ≤ fold max n ns) ns
greatest_above n [] = tt
greatest_above n (m ∷ ms) = (omega (arith, greatest_first (max n m) ms), greatest_above (max n m) ms)

-- and at most what each is
pub greatest_below : (bound n : ℕ) (ns : List ℕ) → n ≤ bound → AllByRecursion (λ m. m ≤ bound) ns → fold max n ns ≤ bound
greatest_below bound n [] le all = le
greatest_below bound n (m ∷ ms) le all = greatest_below bound (max n m) ms (omega (arith, le, all.0)) all.1

-- the base that a record moves its stream's to
abbrev pub new_base_of : LogEntry → ℕ
new_base_of entry = entry.new_base

-- those of the records of a stream
abbrev pub new_bases : ℕ → List LogEntry → List ℕ
new_bases i entries = map (λ (entry : LogEntry). entry.new_base) (filter (is_of i) entries)

module _ (rows : List Row) (entries : List LogEntry) where
  -- a base with records is at least the row's
  pub base_from_row : (i : ℕ) → (row_in rows i).base ≤ base_with rows entries i
  base_from_row i = greatest_first (row_in rows i).base (new_bases i entries)

  -- it is at least the new base of each record of its stream
  pub base_from_records : All (λ (entry : LogEntry). 1 ≤ entry.stream → entry.new_base ≤ base_with rows entries (entry.stream - 1)) entries
  base_from_records k d lt some =
      let i : ℕ = (get_or entries k d).stream - 1 in
      let all = of_numbers (λ n. n ≤ base_with rows entries i) new_base_of (is_of i) entries (greatest_above (row_in rows i).base (new_bases i entries)) in
      All-from_recursion (λ (entry : LogEntry). is_of i entry ≡ true → entry.new_base ≤ base_with rows entries i) entries all k d lt
      (eq-eqb (get_or entries k d).stream (i + 1) (omega (arith, some)))

  -- and no further than the row's and the new ones go
  pub base_to : (bound i : ℕ) → (row_in rows i).base ≤ bound → AllByRecursion (λ (entry : LogEntry). entry.new_base ≤ bound) entries
      → base_with rows entries i ≤ bound
  base_to bound i le all = greatest_below bound (row_in rows i).base (new_bases i entries) le (numbers_of_kept (λ n. n ≤ bound) new_base_of (is_of i) entries
      (weaker (λ (entry : LogEntry). entry.new_base ≤ bound) (λ (entry : LogEntry). is_of i entry ≡ true → entry.new_base ≤ bound) entries (λ entry low here. low) all))

-- ---- whence a base is

-- the greatest of a base and the new bases of a stream's records is the base, or that of a record above it
abbrev pub IsGreatest : ℕ → ℕ → ℕ → LogEntry → Type 0
IsGreatest i base most entry = (entry.stream ≡ i + 1) × (base < entry.new_base) × (entry.new_base ≡ most)

further : (P : LogEntry → Type 0) (first : LogEntry) (entries : List LogEntry) → Any P entries → Any P (first ∷ entries)
further P first entries some = (suc some.0, some.1, omega (arith, some.2), some.3, some.4)

some_weaker : (P Q : LogEntry → Type 0) (entries : List LogEntry) → ((entry : LogEntry) → P entry → Q entry) → Any P entries → Any Q entries
some_weaker P Q entries weak some = (some.0, some.1, some.2, some.3, weak some.1 some.4)

abbrev pub IsFromSome : ℕ → ℕ → ℕ → List LogEntry → Type 0
IsFromSome i base most entries = (most ≡ base) ⊎ Any (IsGreatest i base most) entries

pub from_some : (i base : ℕ) (entries : List LogEntry) → IsFromSome i base (fold max base (new_bases i entries)) entries
from_some i base [] = inl refl
from_some i base (entry ∷ entries) = elim (cases_Bool (is_of i entry)) [
  | inl here ↦ rw here (elim (cases_lt base entry.new_base) [
    | inl higher ↦ raised here higher (fold max (max base entry.new_base) (new_bases i entries)) (subst (λ (n : ℕ). IsFromSome i entry.new_base
        (fold max n (new_bases i entries)) entries) (let most : entry.new_base ≡ max base entry.new_base = omega (arith, higher) in most)
        (from_some i entry.new_base entries))
    | inr lower ↦ kept (fold max (max base entry.new_base) (new_bases i entries)) (subst (λ (n : ℕ). IsFromSome i base
        (fold max n (new_bases i entries)) entries) (let most : base ≡ max base entry.new_base = omega (arith, lower) in most)
        (from_some i base entries))
  ])
  | inr other ↦ rw other (kept (fold max base (new_bases i entries)) (from_some i base entries))
]
  where
    kept : (most : ℕ) → IsFromSome i base most entries → IsFromSome i base most (entry ∷ entries)
    kept most (inl same) = inl same
    kept most (inr some) = inr (further (IsGreatest i base most) entry entries some)

    raised : is_of i entry ≡ true → base < entry.new_base → (most : ℕ) → IsFromSome i entry.new_base most entries → IsFromSome i base most (entry ∷ entries)
    raised here higher most (inl same) = inr (0, entry, omega arith, refl, (eqb-true entry.stream (i + 1) here, higher, sym same))
    raised here higher most (inr some) = inr (further (IsGreatest i base most) entry entries
        (some_weaker (IsGreatest i entry.new_base most) (IsGreatest i base most) entries (λ other is. (is.0, (let more = is.1 in omega (arith, higher, more)), is.2)) some))

-- a record with a base of its own is a restart area
is_restart : (kind : Kind) (lsn base low : ℕ) → BaseFits kind lsn base → low < base → kind ≡ Restart
is_restart Plain lsn base low fits more = absurd (omega (arith, fits, more))
is_restart Restart lsn base low fits more = refl

-- a base with records is the row's, or that of one of the stream's restart areas
pub base_of_some : (rows : List Row) (entries : List LogEntry) (i : ℕ)
    → All (λ (entry : LogEntry). BaseFits entry.kind entry.lsn entry.new_base) entries → (base_with rows entries i ≡ (row_in rows i).base)
    ⊎ Any (λ (entry : LogEntry). (entry.stream ≡ i + 1) × (entry.kind ≡ Restart) × (entry.new_base ≡ base_with rows entries i)) entries
base_of_some rows entries i fits = by_case (from_some i (row_in rows i).base entries)
  where
    by_case : IsFromSome i (row_in rows i).base (base_with rows entries i) entries → (base_with rows entries i ≡ (row_in rows i).base)
        ⊎ Any (λ (entry : LogEntry). (entry.stream ≡ i + 1) × (entry.kind ≡ Restart) × (entry.new_base ≡ base_with rows entries i)) entries
    by_case (inl same) = inl same
    by_case (inr some) =
        let entry : LogEntry = some.1 in
        let own : BaseFits entry.kind entry.lsn entry.new_base =
        subst (λ (e : LogEntry). BaseFits e.kind e.lsn e.new_base) some.3 (fits some.0 entry some.2) in
        inr (some.0, entry, some.2, some.3, (some.4.0, is_restart entry.kind entry.lsn entry.new_base (row_in rows i).base own some.4.1, some.4.2))
