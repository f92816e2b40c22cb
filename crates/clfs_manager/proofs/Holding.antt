-- The hold lies at or above what all LSNs lie at or above.
use Rattle.clfs_manager.proofs.Words.{ℕ, ◌≤◌, List, [], ◌∷◌, ◌++◌, arith, All, filter, min, fold, Option, Some, None, IfSome, option_to_list, All-nil}
use Rattle.clfs_manager.proofs.Words.{All-cons, All-head, All-tail, All-map, All-filter, All-append, frontier, LogEntry, State, live_lsns, hold, is_live}
use Rattle.clfs_manager.proofs.Words.{least_or}

min_from : (low a b : ℕ) → low ≤ a → low ≤ b → low ≤ min a b
min_from low a b of_a of_b = omega (arith, of_a, of_b)

fold_from : (low n : ℕ) (ns : List ℕ) → low ≤ n → All (λ m. low ≤ m) ns → low ≤ fold min n ns
fold_from low n [] of_n of_ns = of_n
fold_from low n (m ∷ ns) of_n of_ns =
    fold_from low (min n m) ns (min_from low n m of_n (All-head (λ k. low ≤ k) m ns of_ns)) (All-tail (λ k. low ≤ k) m ns of_ns)

pub least_from : (low other : ℕ) (ns : List ℕ) → low ≤ other → All (λ m. low ≤ m) ns → low ≤ least_or other ns
least_from low other [] of_other of_ns = of_other
least_from low other (n ∷ ns) of_other of_ns = fold_from low n ns (All-head (λ k. low ≤ k) n ns of_ns) (All-tail (λ k. low ≤ k) n ns of_ns)

tail_from : (low : ℕ) (tail : Option ℕ) → IfSome tail (λ lsn. low ≤ lsn) → All (λ m. low ≤ m) (option_to_list tail)
tail_from low None is = All-nil (λ m. low ≤ m)
tail_from low (Some tail) is = All-cons (λ m. low ≤ m) tail [] is (All-nil (λ m. low ≤ m))

pub hold_from : (s : State) (low : ℕ) → low ≤ frontier s.place → IfSome s.archive (λ tail. low ≤ tail) → All (λ (entry : LogEntry). low ≤ entry.lsn) s.records
    → low ≤ hold s
hold_from s low of_place of_tail of_records =
    least_from low (frontier s.place) (option_to_list s.archive ++ live_lsns s) of_place
    (All-append (λ m. low ≤ m) (option_to_list s.archive) (live_lsns s) (tail_from low s.archive of_tail)
    (All-map (λ m. low ≤ m) (λ (entry : LogEntry). entry.lsn) (filter (is_live s) s.records) (All-filter (is_live s) (λ (entry : LogEntry). low ≤ entry.lsn) s.records of_records)))
