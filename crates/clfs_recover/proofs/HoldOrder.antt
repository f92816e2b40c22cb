-- The hold of a log is the least of what it needs.
use Rattle.clfs_recover.proofs.Words.{◌≡◌, ℕ, ◌<◌, ◌≤◌, true, List, [], ◌∷◌, ◌++◌, arith, AllByRecursion, fold, option_to_list, frontier, LogEntry, State}
use Rattle.clfs_recover.proofs.Words.{is_live, live_lsns, hold, least_or}
use Rattle.std.proofs.Common.{min}
use Rattle.clfs_recover.proofs.KeptRecords.{weaker, numbers_of_kept, of_numbers}

least_first : (n : ℕ) (ns : List ℕ) → fold min n ns ≤ n
least_first n [] = omega arith
least_first n (m ∷ ms) = omega (arith, least_first (min n m) ms)

least_each : (n : ℕ) (ns : List ℕ) → AllByRecursion (λ m. fold min n ns ≤ m) ns
least_each n [] = tt
least_each n (m ∷ ms) = (omega (arith, least_first (min n m) ms), least_each (min n m) ms)

-- the least is at most each
least_below : (other : ℕ) (ns : List ℕ) → AllByRecursion (λ m. least_or other ns ≤ m) ns
least_below other [] = tt
least_below other (n ∷ ns) = (least_first n ns, least_each n ns)

-- and below what all are
least_under : (bound other : ℕ) (ns : List ℕ) → other < bound → AllByRecursion (λ m. m < bound) ns → least_or other ns < bound
least_under bound other [] lt all = lt
least_under bound other (n ∷ ns) lt all = let least = least_first n ns in let first = all.0 in omega (arith, least, first)

-- and at least what each is
fold_above : (bound n : ℕ) (ns : List ℕ) → bound ≤ n → AllByRecursion (λ m. bound ≤ m) ns → bound ≤ fold min n ns
fold_above bound n [] le all = le
fold_above bound n (m ∷ ms) le all = fold_above bound (min n m) ms (omega (arith, le, all.0)) all.1

least_above : (bound other : ℕ) (ns : List ℕ) → bound ≤ other → AllByRecursion (λ m. bound ≤ m) ns → bound ≤ least_or other ns
least_above bound other [] le all = le
least_above bound other (n ∷ ns) le all = fold_above bound n ns all.0 all.1

-- what is so of the numbers of two lists
numbers_both : (P : ℕ → Type 0) (front rest : List ℕ) → AllByRecursion P front → AllByRecursion P rest → AllByRecursion P (front ++ rest)
numbers_both P [] rest all more = more
numbers_both P (n ∷ ns) rest all more = (all.0, numbers_both P ns rest all.1 more)

numbers_front : (P : ℕ → Type 0) (front rest : List ℕ) → AllByRecursion P (front ++ rest) → AllByRecursion P front
numbers_front P [] rest all = tt
numbers_front P (n ∷ ns) rest all = (all.0, numbers_front P ns rest all.1)

numbers_rest : (P : ℕ → Type 0) (front rest : List ℕ) → AllByRecursion P (front ++ rest) → AllByRecursion P rest
numbers_rest P [] rest all = all
numbers_rest P (n ∷ ns) rest all = numbers_rest P ns rest all.1

abbrev lsn_of : LogEntry → ℕ
lsn_of entry = entry.lsn

-- what is so of the LSNs of all records is so of those of the live ones
live_lsns_are : (P : ℕ → Type 0) (s : State) → AllByRecursion (λ (entry : LogEntry). P entry.lsn) s.records → AllByRecursion P (live_lsns s)
live_lsns_are P s all = numbers_of_kept P lsn_of (is_live s) s.records
    (weaker (λ (entry : LogEntry). P entry.lsn) (λ (entry : LogEntry). is_live s entry ≡ true → P entry.lsn) s.records (λ entry is live. is) all)

-- the hold is at most the LSN of each live record
pub hold_live : (s : State) → AllByRecursion (λ (entry : LogEntry). is_live s entry ≡ true → hold s ≤ entry.lsn) s.records
hold_live s = of_numbers (λ lsn. hold s ≤ lsn) lsn_of (is_live s) s.records (numbers_rest (λ lsn. hold s ≤ lsn) (option_to_list s.archive) (live_lsns s)
    (least_below (frontier s.place) (option_to_list s.archive ++ live_lsns s)))

-- and at most the tail
pub hold_tail : (s : State) → AllByRecursion (λ lsn. hold s ≤ lsn) (option_to_list s.archive)
hold_tail s = numbers_front (λ lsn. hold s ≤ lsn) (option_to_list s.archive) (live_lsns s)
    (least_below (frontier s.place) (option_to_list s.archive ++ live_lsns s))

-- it is below what the frontier, the tail and all records are
pub hold_under : (bound : ℕ) (s : State) → frontier s.place < bound → AllByRecursion (λ lsn. lsn < bound) (option_to_list s.archive)
    → AllByRecursion (λ (entry : LogEntry). entry.lsn < bound) s.records → hold s < bound
hold_under bound s lt tail all = least_under bound (frontier s.place) (option_to_list s.archive ++ live_lsns s) lt
    (numbers_both (λ lsn. lsn < bound) (option_to_list s.archive) (live_lsns s) tail (live_lsns_are (λ lsn. lsn < bound) s all))

-- and at least what they are
pub hold_above : (bound : ℕ) (s : State) → bound ≤ frontier s.place → AllByRecursion (λ lsn. bound ≤ lsn) (option_to_list s.archive)
    → AllByRecursion (λ (entry : LogEntry). bound ≤ entry.lsn) s.records → bound ≤ hold s
hold_above bound s le tail all = least_above bound (frontier s.place) (option_to_list s.archive ++ live_lsns s) le
    (numbers_both (λ lsn. bound ≤ lsn) (option_to_list s.archive) (live_lsns s) tail (live_lsns_are (λ lsn. bound ≤ lsn) s all))
