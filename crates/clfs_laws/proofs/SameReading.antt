-- Reading goes on to the same record in states that are the same, wherever a cursor is.
use Rattle.clfs_laws.proofs.Words.{◌≡◌, ℕ, ◌≤◌, ◌<◌, Bool, true, refl, sym, ap, ◌∙◌, inl, inr, ◌⊎◌, arith, List, [], ◌∷◌, Option, Some, None, filter, find}
use Rattle.clfs_laws.proofs.Words.{nat_le, nat_lt, ◌&&◌, ◌==◌, AllByRecursion, option_and_then, cases_Bool, le-leb, leb-true, leb-false, eqb-true}
use Rattle.clfs_laws.proofs.Words.{recursion_from_All, All-weaker, null_lsn, container_of, LogEntry, State, Mode, Previous, UndoNext, Forward, hold, is_live}
use Rattle.clfs_laws.proofs.Words.{live_at, IsSame, entry_at, next, IsValid, IsRecord}
use Rattle.clfs_laws.proofs.HoldOrder.{hold_below_live}
use Rattle.clfs_laws.proofs.LsnOrder.{both_true}
use Rattle.clfs_laws.proofs.SameRecords.{is_from, records_from, from_same, live_of_same}

-- states that are the same have the same live record at an LSN
pub live_at_same : (s u : State) (stream lsn : ℕ) → IsSame s u → live_at u stream lsn ≡ live_at s stream lsn
live_at_same s u stream lsn same = ap (find (λ (entry : LogEntry). entry.lsn == lsn)) (live_of_same s u stream same)

-- a record whose container isn't below another one is among those from there on
found_from : (at lsn : ℕ) (records : List LogEntry) → container_of at ≤ container_of lsn
    → find (λ (entry : LogEntry). entry.lsn == lsn) (records_from at records) ≡ find (λ (entry : LogEntry). entry.lsn == lsn) records
found_from at lsn [] up = refl
found_from at lsn (entry ∷ entries) up = elim (cases_Bool (is_from at entry)) [
  | inl high ↦ elim (cases_Bool (entry.lsn == lsn)) [
    | inl here ↦ rw (high, here) refl
    | inr other ↦ rw (high, other, found_from at lsn entries up) refl
  ]
  | inr low ↦ elim (cases_Bool (entry.lsn == lsn)) [
    | inl here ↦
        let is : entry.lsn ≡ lsn = eqb-true entry.lsn lsn here in
        let high : is_from at entry ≡ true = rw is (le-leb (container_of at) (container_of lsn) up) in
        absurd (cc)
    | inr other ↦ rw (low, other, found_from at lsn entries up) refl
  ]
]

-- so states that are the same have the same record there
entry_at_same : (s u : State) (lsn : ℕ) → IsSame s u → container_of (hold s) ≤ container_of lsn → entry_at u lsn ≡ entry_at s lsn
entry_at_same s u lsn same up =
    sym (found_from (hold s) lsn u.records up) ∙ ap (find (λ (entry : LogEntry). entry.lsn == lsn)) (sym (from_same s u same).records)
    ∙ found_from (hold s) lsn s.records up

-- none of the records that pass a test lies below the container of what is at most all of them
none_below : (at lsn : ℕ) (p : LogEntry → Bool) (records : List LogEntry) → container_of lsn < container_of at
    → AllByRecursion (λ (entry : LogEntry). p entry ≡ true → at ≤ entry.lsn) records
    → find (λ (entry : LogEntry). entry.lsn == lsn) (filter p records) ≡ None
none_below at lsn p [] low above = refl
none_below at lsn p (entry ∷ entries) low above = elim (cases_Bool (p entry)) [
  | inl passes ↦ elim (cases_Bool (entry.lsn == lsn)) [
    | inl here ↦ absurd (omega (arith, above.0 passes, eqb-true entry.lsn lsn here, low))
    | inr other ↦ rw (passes, other) (none_below at lsn p entries low above.1)
  ]
  | inr fails ↦ rw fails (none_below at lsn p entries low above.1)
]

-- what lies at or above the hold, of one stream
of_stream : (s : State) (stream : ℕ) (records : List LogEntry)
    → AllByRecursion (λ (entry : LogEntry). is_live s entry ≡ true → hold s ≤ entry.lsn) records
    → AllByRecursion (λ (entry : LogEntry). ((entry.stream == stream) && is_live s entry) ≡ true → hold s ≤ entry.lsn) records
of_stream s stream [] above = tt
of_stream s stream (entry ∷ entries) above = ((λ is. above.0 (both_true _ _ is).1), of_stream s stream entries above.1)

-- nothing is live below the hold's container
not_live : (s : State) (stream lsn : ℕ) → container_of lsn < container_of (hold s) → live_at s stream lsn ≡ None
not_live s stream lsn low =
    none_below (hold s) lsn (λ (entry : LogEntry). (entry.stream == stream) && is_live s entry) s.records low
    (of_stream s stream s.records (hold_below_live s))

-- a link that each record has below itself, or null
abbrev HasLink : (LogEntry → ℕ) → LogEntry → Type 0
HasLink link entry = (link entry ≡ null_lsn) ⊎ (link entry < entry.lsn)

-- so the link of a record below the hold's container names nothing that is live
dead_link : (s : State) (link : LogEntry → ℕ) (stream last : ℕ) (records : List LogEntry) → container_of last < container_of (hold s)
    → AllByRecursion (HasLink link) records
    → option_and_then (λ (entry : LogEntry). live_at s stream (link entry)) (find (λ (entry : LogEntry). entry.lsn == last) records) ≡ None
dead_link s link stream last [] low all = refl
dead_link s link stream last (entry ∷ entries) low all = elim (cases_Bool (entry.lsn == last)) [
  | inl here ↦
      let is : entry.lsn ≡ last = eqb-true entry.lsn last here in
      rw here (elim all.0 [
        | inl null ↦ not_live s stream (link entry) (omega (arith, null, low))
        | inr below ↦ not_live s stream (link entry) (omega (arith, below, is, low))
      ])
  | inr other ↦ rw other (dead_link s link stream last entries low all.1)
]

-- the live record that a link of a record names
abbrev linked : State → (LogEntry → ℕ) → ℕ → Option LogEntry → Option LogEntry
linked s link stream found = option_and_then (λ (entry : LogEntry). live_at s stream (link entry)) found

-- a link of the same record names the same in both
linked_found : (s u : State) (link : LogEntry → ℕ) (stream : ℕ) (found : Option LogEntry) → IsSame s u
    → linked u link stream found ≡ linked s link stream found
linked_found s u link stream None same = refl
linked_found s u link stream (Some entry) same = live_at_same s u stream (link entry) same

-- and so does one of the record at an LSN, whether or not both still have that record
linked_same : (s u : State) (link : LogEntry → ℕ) (stream last : ℕ) → AllByRecursion (HasLink link) s.records
    → AllByRecursion (HasLink link) u.records → IsSame s u
    → linked u link stream (entry_at u last) ≡ linked s link stream (entry_at s last)
linked_same s u link stream last all all_other same = elim (cases_Bool (nat_le (container_of (hold s)) (container_of last))) [
  | inl up ↦ ap (linked u link stream) (entry_at_same s u last same (leb-true _ _ up)) ∙ linked_found s u link stream (entry_at s last) same
  | inr low ↦
      let below : container_of last < container_of (hold s) = leb-false _ _ low in
      dead_link u link stream last u.records (omega (arith, below, same.hold)) all_other ∙ sym (dead_link s link stream last s.records below all)
]

-- the links of a valid state's records
previous_links : (s : State) → IsValid s → AllByRecursion (HasLink (λ entry. entry.previous)) s.records
previous_links s valid = recursion_from_All (HasLink (λ entry. entry.previous)) s.records
    (All-weaker (IsRecord s) (HasLink (λ entry. entry.previous)) (λ entry is. is.previous) s.records valid.records.records)

undo_links : (s : State) → IsValid s → AllByRecursion (HasLink (λ entry. entry.undo_next)) s.records
undo_links s valid = recursion_from_All (HasLink (λ entry. entry.undo_next)) s.records
    (All-weaker (IsRecord s) (HasLink (λ entry. entry.undo_next)) (λ entry is. is.undo_next) s.records valid.records.records)

-- reading goes on to the same record
pub next_same : (s u : State) (stream : ℕ) (mode : Mode) (last : ℕ) → IsValid s → IsValid u → IsSame s u
    → next u stream mode last ≡ next s stream mode last
next_same s u stream Previous last valid valid_u same =
    linked_same s u (λ entry. entry.previous) stream last (previous_links s valid) (previous_links u valid_u) same
next_same s u stream UndoNext last valid valid_u same =
    linked_same s u (λ entry. entry.undo_next) stream last (undo_links s valid) (undo_links u valid_u) same
next_same s u stream Forward last valid valid_u same = ap (find (λ (entry : LogEntry). nat_lt last entry.lsn)) (live_of_same s u stream same)
