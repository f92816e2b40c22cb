-- The hold is the least of what the log needs, so it isn't earlier where only later LSNs are needed.
use Rattle.clfs_laws.proofs.Words.{◌≡◌, ℕ, ◌≤◌, Bool, true, false, inl, inr, arith, List, [], ◌∷◌, ◌++◌, Option, Some, None, filter, map, IfSome}
use Rattle.clfs_laws.proofs.Words.{AllByRecursion, option_to_list, cases_Bool, All-weaker, recursion_from_All, frontier, active_containers, free_sectors}
use Rattle.clfs_laws.proofs.Words.{Place, Shape, LogEntry, State, hold, live_lsns, is_live, least_or, IsRecord}
use Rattle.std.specs.Prelude.{fold, min}
use Rattle.clfs_laws.proofs.ValidPlaces.{IsSound, flushed_below}

fold_at_least : (x n : ℕ) (ns : List ℕ) → x ≤ n → AllByRecursion (λ m. x ≤ m) ns → x ≤ fold min n ns
fold_at_least x n [] below all = below
fold_at_least x n (m ∷ ms) below all = fold_at_least x (min n m) ms (omega (arith, below, all.0)) all.1

-- what is at most each is at most the least
pub least_at_least : (x other : ℕ) (ns : List ℕ) → x ≤ other → AllByRecursion (λ m. x ≤ m) ns → x ≤ least_or other ns
least_at_least x other [] below all = below
least_at_least x other (n ∷ ns) below all = fold_at_least x n ns all.0 all.1

fold_below_first : (n : ℕ) (ns : List ℕ) → fold min n ns ≤ n
fold_below_first n [] = omega arith
fold_below_first n (m ∷ ms) = omega (arith, fold_below_first (min n m) ms)

fold_below_all : (n : ℕ) (ns : List ℕ) → AllByRecursion (λ m. fold min n ns ≤ m) ns
fold_below_all n [] = tt
fold_below_all n (m ∷ ms) = (omega (arith, fold_below_first (min n m) ms), fold_below_all (min n m) ms)

-- the least is at most each
pub least_below_all : (other : ℕ) (ns : List ℕ) → AllByRecursion (λ m. least_or other ns ≤ m) ns
least_below_all other [] = tt
least_below_all other (n ∷ ns) = (fold_below_first n ns, fold_below_all n ns)

-- and at most the other one, where all are
pub least_below_other : (other : ℕ) (ns : List ℕ) → AllByRecursion (λ m. m ≤ other) ns → least_or other ns ≤ other
least_below_other other [] all = omega arith
least_below_other other (n ∷ ns) all = omega (arith, fold_below_first n ns, all.0)

-- what holds of two lists
pub all_append : (P : ℕ → Type 0) (ns ms : List ℕ) → AllByRecursion P ns → AllByRecursion P ms → AllByRecursion P (ns ++ ms)
all_append P [] ms first second = second
all_append P (n ∷ ns) ms first second = (first.0, all_append P ns ms first.1 second)

pub all_front : (P : ℕ → Type 0) (ns ms : List ℕ) → AllByRecursion P (ns ++ ms) → AllByRecursion P ns
all_front P [] ms all = tt
all_front P (n ∷ ns) ms all = (all.0, all_front P ns ms all.1)

pub all_rest : (P : ℕ → Type 0) (ns ms : List ℕ) → AllByRecursion P (ns ++ ms) → AllByRecursion P ms
all_rest P [] ms all = all
all_rest P (n ∷ ns) ms all = all_rest P ns ms all.1

-- of the LSNs of those that pass
pub all_of_passed : (q : LogEntry → Bool) (P : ℕ → Type 0) (entries : List LogEntry) → AllByRecursion (λ (entry : LogEntry). q entry ≡ true → P entry.lsn) entries
    → AllByRecursion P (map (λ (entry : LogEntry). entry.lsn) (filter q entries))
all_of_passed q P [] all = tt
all_of_passed q P (entry ∷ entries) all = elim (cases_Bool (q entry)) [
  | inl passes ↦ rw passes (all.0 passes, all_of_passed q P entries all.1)
  | inr fails ↦ rw fails (all_of_passed q P entries all.1)
]

absurd_test : {A : Type 0} (b : Bool) → b ≡ false → b ≡ true → A
absurd_test b fails passes = absurd (cc)

pub passed_of_all : (q : LogEntry → Bool) (P : ℕ → Type 0) (entries : List LogEntry) → AllByRecursion P (map (λ (entry : LogEntry). entry.lsn) (filter q entries))
    → AllByRecursion (λ (entry : LogEntry). q entry ≡ true → P entry.lsn) entries
passed_of_all q P [] all = tt
passed_of_all q P (entry ∷ entries) all = elim (cases_Bool (q entry)) [
  | inl passes ↦
      let them = rw passes at all in
      (λ _. them.0, passed_of_all q P entries them.1)
  | inr fails ↦ (λ passes. absurd_test (q entry) fails passes, passed_of_all q P entries (rw fails at all))
]

-- the hold is at most the tail and each live LSN
pub hold_below_archive : (s : State) → AllByRecursion (λ lsn. hold s ≤ lsn) (option_to_list s.archive)
hold_below_archive s = all_front (λ lsn. hold s ≤ lsn) (option_to_list s.archive) (live_lsns s)
    (least_below_all (frontier s.place) (option_to_list s.archive ++ live_lsns s))

pub hold_below_live : (s : State) → AllByRecursion (λ (entry : LogEntry). is_live s entry ≡ true → hold s ≤ entry.lsn) s.records
hold_below_live s = passed_of_all (is_live s) (λ lsn. hold s ≤ lsn) s.records (all_rest (λ lsn. hold s ≤ lsn) (option_to_list s.archive) (live_lsns s)
    (least_below_all (frontier s.place) (option_to_list s.archive ++ live_lsns s)))

-- and at most the frontier
pub hold_below_frontier : (s : State) → IsSound s → hold s ≤ frontier s.place
hold_below_frontier s sound =
    least_below_other (frontier s.place) (option_to_list s.archive ++ live_lsns s)
    (all_append (λ lsn. lsn ≤ frontier s.place) (option_to_list s.archive) (live_lsns s) (tail_below s.archive (omega (arith, flushed_below s sound.waiting)) sound.stable.tail)
    (all_of_passed (is_live s) (λ lsn. lsn ≤ frontier s.place) s.records
    (recursion_from_All (λ (entry : LogEntry). is_live s entry ≡ true → entry.lsn ≤ frontier s.place) s.records
    (All-weaker (IsRecord s) (λ (entry : LogEntry). is_live s entry ≡ true → entry.lsn ≤ frontier s.place) (λ entry is _. omega (arith, is.below)) s.records sound.records.records))))
  where
    tail_below : {m n : ℕ} (archive : Option ℕ) → m ≤ n → IfSome archive (λ tail. tail ≤ m) → AllByRecursion (λ lsn. lsn ≤ n) (option_to_list archive)
    tail_below None more is = tt
    tail_below (Some tail) more is = (omega (arith, is, more), tt)

-- a log that needs none that is earlier has no earlier hold
pub hold_later : (x : ℕ) (t : State) → x ≤ frontier t.place → AllByRecursion (λ lsn. x ≤ lsn) (option_to_list t.archive)
    → AllByRecursion (λ (entry : LogEntry). is_live t entry ≡ true → x ≤ entry.lsn) t.records → x ≤ hold t
hold_later x t below tail live = least_at_least x (frontier t.place) (option_to_list t.archive ++ live_lsns t) below
    (all_append (λ lsn. x ≤ lsn) (option_to_list t.archive) (live_lsns t) tail (all_of_passed (is_live t) (λ lsn. x ≤ lsn) t.records live))

-- with a hold that isn't earlier there are no more containers in use, and no fewer free sectors
pub active_later : (place : Place) (earlier later : ℕ) → earlier ≤ later → active_containers place later ≤ active_containers place earlier
active_later place earlier later more = omega (arith, more)

pub free_later : (shape : Shape) (place : Place) (containers earlier later : ℕ) → earlier ≤ later
    → free_sectors shape place earlier containers ≤ free_sectors shape place later containers
free_later shape place containers earlier later more = grind (arith, more)
