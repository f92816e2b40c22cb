-- The table of what is left of a log, where what is gone counted for nothing.
use Rattle.clfs_cells_laws.proofs.Words.{◌≡◌, ℕ, ◌<◌, ◌≤◌, Bool, true, false, refl, sym, subst, ap, ◌∙◌, inl, inr, List, [], ◌∷◌, Option, Some, None, ◌&&◌}
use Rattle.clfs_cells_laws.proofs.Words.{◌||◌, ◌==◌, filter, nat_lt, reverse, slice_get, AllByRecursion, list_any, option_and_then, option_map_or, cases_Bool}
use Rattle.clfs_cells_laws.proofs.Words.{eq-eqb, lt-ltb, ltb-false, is_restart, LogEntry, State, is_live, live, lsn_or_null, stream_number, TxnRecord}
use Rattle.clfs_cells_laws.proofs.Words.{Checkpoint, blank_cells, checkpoint_of, txn_record_of, changed, committed, entries_after, first_cells, is_commit}
use Rattle.clfs_cells_laws.proofs.Words.{is_committed, records_after, table, table_in, table_name, CountsForNothing, IsSafeFrom}
use Rattle.clfs_cells_laws.proofs.Above.{above}
use Rattle.clfs_cells_laws.proofs.FirstRestart.{table_by}
use Rattle.clfs_cells_laws.proofs.Ground.{newest_in, spelled}

-- ---- entries that pass two tests

abbrev pub under : ℕ → LogEntry → Bool
under bound entry = nat_lt entry.lsn bound

-- in either order
swapped : (p q : LogEntry → Bool) (xs : List LogEntry) → filter p (filter q xs) ≡ filter q (filter p xs)
swapped p q [] = refl
swapped p q (x ∷ xs) = elim (cases_Bool (p x)) [
  | inl a ↦ elim (cases_Bool (q x)) [
    | inl b ↦ rw (a, b) (rw a (ap (λ (l : List LogEntry). x ∷ l) (swapped p q xs)))
    | inr b ↦ rw (a, b) (swapped p q xs)
  ]
  | inr a ↦ elim (cases_Bool (q x)) [
    | inl b ↦ rw (a, b) (rw a (swapped p q xs))
    | inr b ↦ rw (a, b) (swapped p q xs)
  ]
]

-- of equal tests
alike : (p q : LogEntry → Bool) (xs : List LogEntry) → ((x : LogEntry) → p x ≡ q x) → filter p xs ≡ filter q xs
alike p q [] same = refl
alike p q (x ∷ xs) same = elim (cases_Bool (q x)) [
  | inl passes ↦ rw (same x ∙ passes, passes) (ap (λ (l : List LogEntry). x ∷ l) (alike p q xs same))
  | inr fails ↦ rw (same x ∙ fails, fails) (alike p q xs same)
]

-- those of one test where all that pass it pass the other one
both : (p q : LogEntry → Bool) (xs : List LogEntry) → AllByRecursion (λ (e : LogEntry). p e ≡ true → q e ≡ true) xs → filter p (filter q xs) ≡ filter p xs
both p q [] all = refl
both p q (x ∷ xs) all = elim (cases_Bool (p x)) [
  | inl passes ↦ rw (all.0 passes) (rw passes (ap (λ (l : List LogEntry). x ∷ l) (both p q xs all.1)))
  | inr fails ↦ elim (cases_Bool (q x)) [
    | inl stays ↦ rw stays (rw fails (both p q xs all.1))
    | inr goes ↦ rw (goes, fails) (both p q xs all.1)
  ]
]

filtered : (P : LogEntry → Type 0) (p : LogEntry → Bool) (xs : List LogEntry) → AllByRecursion P xs → AllByRecursion P (filter p xs)
filtered P p [] all = tt
filtered P p (x ∷ xs) all = elim (cases_Bool (p x)) [
  | inl passes ↦ rw passes (all.0, filtered P p xs all.1)
  | inr fails ↦ rw fails (filtered P p xs all.1)
]

-- ---- commits

-- an action that is a commit is one of its transaction
commits_count : (records : List TxnRecord) → AllByRecursion (λ (r : TxnRecord). is_commit r.action ≡ true → is_committed records r.txn ≡ true) records
commits_count [] = tt
commits_count (r ∷ records) = (
  (λ is. let own : (r.txn == r.txn) ≡ true = eq-eqb r.txn r.txn refl in rw (own, is) refl),
  later records (commits_count records),
)
  where
    more : (n : ℕ) → is_committed records n ≡ true → is_committed (r ∷ records) n ≡ true
    more n is = elim (cases_Bool ((r.txn == n) && is_commit r.action)) [ inl here ↦ rw here refl | inr further ↦ rw further is ]

    later : (xs : List TxnRecord) → AllByRecursion (λ (x : TxnRecord). is_commit x.action ≡ true → is_committed records x.txn ≡ true) xs
        → AllByRecursion (λ (x : TxnRecord). is_commit x.action ≡ true → is_committed (r ∷ records) x.txn ≡ true) xs
    later [] all = tt
    later (x ∷ xs) all = ((λ is. more x.txn (all.0 is)), later xs all.1)

-- an entry that is gone counts for nothing by a test of its record
abbrev Uncounted : (LogEntry → Bool) → (TxnRecord → Bool) → LogEntry → Type 0
Uncounted q p entry = q entry ≡ false → (r : TxnRecord) → txn_record_of entry.bytes ≡ Some r → p r ≡ false

spelled_pass : (q : LogEntry → Bool) (p : TxnRecord → Bool) (xs : List LogEntry) → AllByRecursion (Uncounted q p) xs
    → filter p (spelled (filter q xs)) ≡ filter p (spelled xs)
spelled_pass q p [] all = refl
spelled_pass q p (x ∷ xs) all = of_row (spelled_pass q p xs all.1) (txn_record_of x.bytes) refl
  where
    of_row : filter p (spelled (filter q xs)) ≡ filter p (spelled xs) → (o : Option TxnRecord) → txn_record_of x.bytes ≡ o
        → filter p (spelled (filter q (x ∷ xs))) ≡ filter p (spelled (x ∷ xs))
    of_row rest None is = elim (cases_Bool (q x)) [
      | inl stays ↦ rw stays (rw is rest)
      | inr goes ↦ rw (goes, is) rest
    ]
    of_row rest (Some r) is = elim (cases_Bool (q x)) [
      | inl stays ↦ rw stays (rw is (elim (cases_Bool (p r)) [
        | inl passes ↦ rw passes (ap (λ (l : List TxnRecord). r ∷ l) rest)
        | inr fails ↦ rw fails rest
      ]))
      | inr goes ↦
          let not : p r ≡ false = all.0 goes r is in
          rw (goes, is) (rw not rest)
    ]

any_pass : (q : LogEntry → Bool) (p : TxnRecord → Bool) (xs : List LogEntry) → AllByRecursion (Uncounted q p) xs
    → list_any p (spelled (filter q xs)) ≡ list_any p (spelled xs)
any_pass q p [] all = refl
any_pass q p (x ∷ xs) all = of_row (any_pass q p xs all.1) (txn_record_of x.bytes) refl
  where
    of_row : list_any p (spelled (filter q xs)) ≡ list_any p (spelled xs) → (o : Option TxnRecord) → txn_record_of x.bytes ≡ o
        → list_any p (spelled (filter q (x ∷ xs))) ≡ list_any p (spelled (x ∷ xs))
    of_row rest None is = elim (cases_Bool (q x)) [
      | inl stays ↦ rw stays (rw is rest)
      | inr goes ↦ rw (goes, is) rest
    ]
    of_row rest (Some r) is = elim (cases_Bool (q x)) [
      | inl stays ↦ rw stays (rw is (ap (λ (b : Bool). p r || b) rest))
      | inr goes ↦
          let not : p r ≡ false = all.0 goes r is in
          rw (goes, is) (rw not rest)
    ]

-- ---- rows and their commits

module _ (q : LogEntry → Bool) (xs : List LogEntry) (records : List TxnRecord) (is : records ≡ spelled xs)
    (gone : AllByRecursion (λ (e : LogEntry). q e ≡ false → CountsForNothing records e) xs) where
  -- an entry that is gone has no commit
  no_commit : (r : TxnRecord) → is_committed records r.txn ≡ false → is_commit r.action ≡ true
      → (is_commit r.action ≡ true → is_committed records r.txn ≡ true) → false ≡ true
  no_commit r none commit own = sym none ∙ own commit

  one_free : (n : ℕ) (e : LogEntry) → (q e ≡ false → CountsForNothing records e)
      → ((r : TxnRecord) → txn_record_of e.bytes ≡ Some r → is_commit r.action ≡ true → is_committed records r.txn ≡ true)
      → Uncounted q (λ (r : TxnRecord). (r.txn == n) && is_commit r.action) e
  one_free n e counts own goes r row = elim (cases_Bool (is_commit r.action)) [
    | inl commit ↦ let no : false ≡ true = no_commit r (counts goes r row) commit (own r row) in absurd (cc no)
    | inr other ↦ elim (cases_Bool (r.txn == n)) [ inl its ↦ rw (its, other) refl | inr not ↦ rw not refl ]
  ]

  -- the records of a list of entries, one by one
  each_row : (P : TxnRecord → Type 0) (ys : List LogEntry) → AllByRecursion P (spelled ys)
      → AllByRecursion (λ (e : LogEntry). (r : TxnRecord) → txn_record_of e.bytes ≡ Some r → P r) ys
  each_row P [] all = tt
  each_row P (y ∷ ys) all = of_row (each_row P ys) (txn_record_of y.bytes) refl
    where
      of_row : (AllByRecursion P (spelled ys) → AllByRecursion (λ (e : LogEntry). (r : TxnRecord) → txn_record_of e.bytes ≡ Some r → P r) ys) → (o : Option TxnRecord)
          → txn_record_of y.bytes ≡ o → AllByRecursion (λ (e : LogEntry). (r : TxnRecord) → txn_record_of e.bytes ≡ Some r → P r) (y ∷ ys)
      of_row rest None none =
          let these : AllByRecursion P (spelled ys) = rw none at all in
          ((λ r row. let no : None ≡ Some r = sym none ∙ row in absurd (cc no)), rest these)
      of_row rest (Some x) some =
          let these : AllByRecursion P (x ∷ spelled ys) = rw some at all in
          ((λ r row. let same : Some x ≡ Some r = sym some ∙ row in let one : x ≡ r = cc same in subst P one these.0), rest these.1)

  all_free : (n : ℕ) (ys : List LogEntry) → AllByRecursion (λ (e : LogEntry). q e ≡ false → CountsForNothing records e) ys
      → AllByRecursion (λ (e : LogEntry). (r : TxnRecord) → txn_record_of e.bytes ≡ Some r → is_commit r.action ≡ true → is_committed records r.txn ≡ true) ys
      → AllByRecursion (Uncounted q (λ (r : TxnRecord). (r.txn == n) && is_commit r.action)) ys
  all_free n [] counts own = tt
  all_free n (y ∷ ys) counts own = (one_free n y counts.0 own.0, all_free n ys counts.1 own.1)

  same_commits : (n : ℕ) → is_committed (spelled (filter q xs)) n ≡ is_committed records n
  same_commits n =
      let own = each_row (λ (r : TxnRecord). is_commit r.action ≡ true → is_committed records r.txn ≡ true) xs
      (subst (AllByRecursion (λ (r : TxnRecord). is_commit r.action ≡ true → is_committed records r.txn ≡ true)) is (commits_count records)) in
      any_pass q (λ (r : TxnRecord). (r.txn == n) && is_commit r.action) xs (all_free n xs gone own)
      ∙ ap (λ (l : List TxnRecord). is_committed l n) (sym is)

  same_rows : (p r : TxnRecord → Bool) (ys : List TxnRecord) → ((x : TxnRecord) → p x ≡ r x) → filter p ys ≡ filter r ys
  same_rows p r [] same = refl
  same_rows p r (y ∷ ys) same = elim (cases_Bool (r y)) [
    | inl passes ↦ rw (same y ∙ passes, passes) (ap (λ (l : List TxnRecord). y ∷ l) (same_rows p r ys same))
    | inr fails ↦ rw (same y ∙ fails, fails) (same_rows p r ys same)
  ]

  pub same_committed : committed (spelled (filter q xs)) ≡ committed records
  same_committed =
      same_rows (λ (r : TxnRecord). is_committed (spelled (filter q xs)) r.txn) (λ (r : TxnRecord). is_committed records r.txn) (spelled (filter q xs))
      (λ x. same_commits x.txn)
      ∙ spelled_pass q (λ (r : TxnRecord). is_committed records r.txn) xs gone
      ∙ ap (filter (λ (r : TxnRecord). is_committed records r.txn)) (sym is)

-- ---- the table

-- Of a log the records at or above a bound are gone, none of them a restart area, and none that counted. The streams are as they were.
pub record IsLeftOf (bound : ℕ) (s x : State) (stream : ℕ) : Type 0 where
  pub named : stream_number s table_name ≡ Some stream
  pub streams : x.streams ≡ s.streams
  pub records : x.records ≡ filter (under bound) s.records
  pub restarts : AllByRecursion (λ (e : LogEntry). is_restart e.kind ≡ true → e.lsn < bound) s.records
  pub safe : IsSafeFrom bound s stream

all_under : (bound : ℕ) (xs : List LogEntry) → AllByRecursion (λ (e : LogEntry). is_restart e.kind ≡ true → e.lsn < bound) xs
    → AllByRecursion (λ (e : LogEntry). is_restart e.kind ≡ true → under bound e ≡ true) xs
all_under bound [] all = tt
all_under bound (x ∷ xs) all = ((λ is. lt-ltb x.lsn bound (all.0 is)), all_under bound xs all.1)

all_gone : (bound : ℕ) (records : List TxnRecord) (xs : List LogEntry) → AllByRecursion (λ (e : LogEntry). bound ≤ e.lsn → CountsForNothing records e) xs
    → AllByRecursion (λ (e : LogEntry). under bound e ≡ false → CountsForNothing records e) xs
all_gone bound records [] all = tt
all_gone bound records (x ∷ xs) all = ((λ is. all.0 (ltb-false x.lsn bound is)), all_gone bound records xs all.1)

-- so its table is as it was
pub left_table : (bound : ℕ) (s x : State) (stream : ℕ) → IsLeftOf bound s x stream → table x ≡ table s
left_table bound s x stream left =
    let w : State = record s { records = filter (under bound) s.records } in
    let q : LogEntry → Bool = under bound in
    let p : LogEntry → Bool = λ e. (e.stream == stream) && is_live s e in
    let lives : live w stream ≡ filter q (live s stream) = swapped p q s.records in
    let high = filtered (λ (e : LogEntry). is_restart e.kind ≡ true → under bound e ≡ true) p s.records (all_under bound s.records left.restarts) in
    let newest : newest_in (live w stream) ≡ newest_in (live s stream)
    = ap newest_in lives ∙ ap (λ (l : List LogEntry). slice_get (reverse l) 0) (both (λ (e : LogEntry). is_restart e.kind) q (live s stream) high) in
    let n : ℕ = lsn_or_null (newest_in (live s stream)) in
    let entries : entries_after w stream ≡ filter q (entries_after s stream)
    = ap (λ (o : Option LogEntry). above (lsn_or_null o) (live w stream)) newest ∙ ap (above n) lives
    ∙ swapped (λ (e : LogEntry). nat_lt n e.lsn) q (live s stream) in
    let rows : committed (records_after w stream) ≡ committed (records_after s stream)
    = ap (λ (l : List LogEntry). committed (spelled l)) entries
    ∙ same_committed q (entries_after s stream) (records_after s stream) refl (all_gone bound (records_after s stream) (entries_after s stream) left.safe) in
    table_by x w left.records left.streams
    ∙ ap (λ (o : Option ℕ). option_map_or (table_in w) o blank_cells) left.named
    ∙ ap (λ (l : List TxnRecord). changed (first_cells w stream) l) rows
    ∙ ap (λ (o : Option LogEntry). changed (cells_of o) (committed (records_after s stream))) newest
    ∙ sym (ap (λ (o : Option ℕ). option_map_or (table_in s) o blank_cells) left.named)
  where
    cells_of : Option LogEntry → List ℕ
    cells_of o = option_map_or (λ (c : Checkpoint). c.cells) (option_and_then (λ (e : LogEntry). checkpoint_of e.bytes) o) blank_cells
