-- Records whose LSNs rise are those below an LSN and after them those from it on.
use Rattle.clfs_manager.proofs.Words.{◌≡◌, ℕ, suc, ◌+◌, ◌<◌, ◌≤◌, true, false, refl, ap, subst, inl, inr, List, [], ◌∷◌, ◌++◌, map, arith, All, filter}
use Rattle.clfs_manager.proofs.Words.{nat_le, nat_lt, IsStrictlyIncreasing, cases_lt, lt-ltb, le-ltb, lt-leb, le-leb, length-map, get_or-map, All-nil}
use Rattle.clfs_manager.proofs.Words.{All-cons, All-head, All-tail, All-weaker, AllPairs-from_increasing, LogEntry}
use Rattle.std.proofs.Common.{slice_index}
use Rattle.clfs_manager.proofs.Opened.{all_from}

-- the LSNs of records
abbrev pub lsns_of : List LogEntry → List ℕ
lsns_of entries = map (λ (entry : LogEntry). entry.lsn) entries

pub all_left : {A : Type 0} (P : A → Type 0) (xs ys : List A) → All P (xs ++ ys) → All P xs
all_left P [] ys all = All-nil P
all_left P (x ∷ xs) ys all = All-cons P x xs (All-head P x (xs ++ ys) all) (all_left P xs ys (All-tail P x (xs ++ ys) all))

pub all_right : {A : Type 0} (P : A → Type 0) (xs ys : List A) → All P (xs ++ ys) → All P ys
all_right P [] ys all = all
all_right P (x ∷ xs) ys all = all_right P xs ys (All-tail P x (xs ++ ys) all)

-- the others lie above the first
above_first : (entry : LogEntry) (entries : List LogEntry) → IsStrictlyIncreasing (lsns_of (entry ∷ entries)) → All (λ (other : LogEntry). entry.lsn < other.lsn) entries
above_first entry entries rising = λ k d few.
    let low = AllPairs-from_increasing (lsns_of (entry ∷ entries)) rising 0 (suc k) 0 (omega arith) (omega (arith, few, length-map entries (λ (e : LogEntry). e.lsn))) in
    omega (arith, low, get_or-map (λ (e : LogEntry). e.lsn) entries k d 0 few)

rest_rises : (entry : LogEntry) (entries : List LogEntry) → IsStrictlyIncreasing (lsns_of (entry ∷ entries)) → IsStrictlyIncreasing (lsns_of entries)
rest_rises entry entries rising = λ k few.
    let F : ℕ → Type 0 = λ n. slice_index (lsns_of (entry ∷ entries)) (suc k) < slice_index (lsns_of (entry ∷ entries)) n in
    let next : suc k + 1 ≡ suc (k + 1) = omega arith in
    subst F next (rising (suc k) (omega (arith, few)))

none_below : (low : ℕ) (entries : List LogEntry) → All (λ (entry : LogEntry). low ≤ entry.lsn) entries → filter (λ (entry : LogEntry). nat_lt entry.lsn low) entries ≡ []
none_below low [] from = refl
none_below low (entry ∷ entries) from =
    let not_below : nat_lt entry.lsn low ≡ false = le-ltb entry.lsn low (All-head (λ (e : LogEntry). low ≤ e.lsn) entry entries from) in
    rw not_below (none_below low entries (All-tail (λ (e : LogEntry). low ≤ e.lsn) entry entries from))

pub all_below : (high : ℕ) (entries : List LogEntry) → All (λ (entry : LogEntry). entry.lsn < high) entries → filter (λ (entry : LogEntry). nat_lt entry.lsn high) entries ≡ entries
all_below high [] below = refl
all_below high (entry ∷ entries) below =
    let is_below : nat_lt entry.lsn high ≡ true = lt-ltb entry.lsn high (All-head (λ (e : LogEntry). e.lsn < high) entry entries below) in
    rw is_below (ap (λ (es : List LogEntry). entry ∷ es) (all_below high entries (All-tail (λ (e : LogEntry). e.lsn < high) entry entries below)))

pub split : (lsn : ℕ) (entries : List LogEntry) → IsStrictlyIncreasing (lsns_of entries)
    → filter (λ (entry : LogEntry). nat_lt entry.lsn lsn) entries ++ filter (λ (entry : LogEntry). nat_le lsn entry.lsn) entries ≡ entries
split lsn [] rising = refl
split lsn (entry ∷ entries) rising = elim (cases_lt entry.lsn lsn) [
  | inl below ↦
      let is : nat_lt entry.lsn lsn ≡ true = lt-ltb entry.lsn lsn below in
      let isnt : nat_le lsn entry.lsn ≡ false = lt-leb lsn entry.lsn below in
      rw (is, isnt) (ap (λ (es : List LogEntry). entry ∷ es) (split lsn entries (rest_rises entry entries rising)))
  | inr from ↦
      let others : All (λ (other : LogEntry). lsn ≤ other.lsn) entries = All-weaker (λ (other : LogEntry). entry.lsn < other.lsn) (λ (other : LogEntry). lsn ≤ other.lsn)
      (λ other above. omega (arith, above, from)) entries (above_first entry entries rising) in
      let isnt : nat_lt entry.lsn lsn ≡ false = le-ltb entry.lsn lsn from in
      let is : nat_le lsn entry.lsn ≡ true = le-leb lsn entry.lsn from in
      rw (isnt, is, none_below lsn entries others, all_from lsn entries others) refl
]

-- the records that a test keeps from some LSN on
pub kept_from : (lsn : ℕ) (entries : List LogEntry) → All (λ (entry : LogEntry). lsn ≤ entry.lsn) (filter (λ (entry : LogEntry). nat_le lsn entry.lsn) entries)
kept_from lsn [] = All-nil (λ (entry : LogEntry). lsn ≤ entry.lsn)
kept_from lsn (entry ∷ entries) = elim (cases_lt entry.lsn lsn) [
  | inl below ↦ let isnt : nat_le lsn entry.lsn ≡ false = lt-leb lsn entry.lsn below in rw isnt (kept_from lsn entries)
  | inr from ↦ let is : nat_le lsn entry.lsn ≡ true = le-leb lsn entry.lsn from in
      rw is (All-cons (λ (e : LogEntry). lsn ≤ e.lsn) entry (filter (λ (e : LogEntry). nat_le lsn e.lsn) entries) from (kept_from lsn entries))
]
