-- The hold isn't earlier where the base of a stream has moved up.
use Rattle.clfs_manager.proofs.Words.{◌≡◌, ℕ, zero, suc, ◌-◌, ◌≤◌, Bool, true, false, refl, subst, inl, inr, arith, List, [], ◌∷◌, ◌++◌, Contains, Option}
use Rattle.clfs_manager.proofs.Words.{Some, None, IfSome, ◌==◌, filter, fold, min, nat_le, slice_get, option_map_or, option_to_list, cases_Bool, eqb-true}
use Rattle.clfs_manager.proofs.Words.{leb-true, le-leb, All-contains_itself, All-weaker, IsLaid, null_lsn, frontier, LogEntry, State, Stream, flushed, hold}
use Rattle.clfs_manager.proofs.Words.{is_live, live_lsns, least_or, set_base, IsRecord, base_in, rebased_streams}
use Rattle.std.specs.Prelude.{map}
use Rattle.std.specs.List.{AllByRecursion}
use Rattle.std.proofs.lemmas.Bool.{eqb-false}
use Rattle.std.proofs.lemmas.List.Elements.{recursion_from_All}
use Rattle.clfs_manager.proofs.Among.{here}
use Rattle.clfs_manager.proofs.ClosedPlace.{starts_at}
use Rattle.clfs_manager.proofs.Reached.{hold_below_live, least_below}

-- ---- bases

-- the base at a place of a list
abbrev pub base_at : List Stream → ℕ → ℕ
base_at streams k = option_map_or (λ (stream : Stream). stream.base) (slice_get streams k) null_lsn

-- where a number isn't the first
not_first : (number : ℕ) → (number == 1) ≡ false → 1 ≤ number → (number - 1 ≡ suc (number - 1 - 1)) × (1 ≤ number - 1)
not_first number other some = let differs = eqb-false number 1 other in (omega (arith, differs, some), omega (arith, differs, some))

higher_at : (number base : ℕ) (streams : List Stream) (k : ℕ) → 1 ≤ number → base_at streams (number - 1) ≤ base
    → base_at streams k ≤ base_at (set_base number base streams) k
higher_at number base [] k some up = omega arith
higher_at number base (stream ∷ streams) zero some up = elim (cases_Bool (number == 1)) [
  | inl first ↦
      let is : number ≡ 1 = eqb-true number 1 first in
      let F : ℕ → Type 0 = λ n. base_at (stream ∷ streams) (n - 1) ≤ base in
      rw first (subst F is up)
  | inr later ↦ rw later (omega arith)
]
higher_at number base (stream ∷ streams) (suc k) some up = elim (cases_Bool (number == 1)) [
  | inl first ↦ rw first (omega arith)
  | inr later ↦
      let below = not_first number later some in
      let F : ℕ → Type 0 = λ n. base_at (stream ∷ streams) n ≤ base in
      rw later (higher_at (number - 1) base streams k below.1 (subst F below.0 up))
]

-- the same by numbers of streams
in_place : (streams : List Stream) (number : ℕ) → 1 ≤ number → base_in streams number ≡ base_at streams (number - 1)
in_place streams number some = elim (cases_Bool (number == 0)) [
  | inl none ↦ absurd (omega (arith, eqb-true number 0 none, some))
  | inr there ↦ rw there refl
]

higher_in : (stream base : ℕ) (streams : List Stream) (number : ℕ) → 1 ≤ stream → base_in streams stream ≤ base
    → base_in streams number ≤ base_in (set_base stream base streams) number
higher_in stream base streams number some up = elim (cases_Bool (number == 0)) [
  | inl none ↦ rw none (omega arith)
  | inr there ↦ rw there (higher_at stream base streams (number - 1) some (omega (arith, in_place streams stream some, up)))
]

pub higher_bases : (stream base : ℕ) (streams : List Stream) (number : ℕ) → 1 ≤ stream → ((base == null_lsn) ≡ false → base_in streams stream ≤ base)
    → base_in streams number ≤ base_in (rebased_streams stream base streams) number
higher_bases stream base streams number some up = elim (cases_Bool (base == null_lsn)) [
  | inl none ↦ rw none (omega arith)
  | inr there ↦ rw there (higher_in stream base streams number some (up there))
]

-- ---- the least of what is needed

fold_at_least : (x n : ℕ) (ns : List ℕ) → x ≤ n → AllByRecursion (λ m. x ≤ m) ns → x ≤ fold min n ns
fold_at_least x n [] below all = below
fold_at_least x n (m ∷ ms) below all = fold_at_least x (min n m) ms (omega (arith, below, all.0)) all.1

least_at_least : (x other : ℕ) (ns : List ℕ) → x ≤ other → AllByRecursion (λ m. x ≤ m) ns → x ≤ least_or other ns
least_at_least x other [] below all = below
least_at_least x other (n ∷ ns) below all = fold_at_least x n ns all.0 all.1

fold_below_first : (n : ℕ) (ns : List ℕ) → fold min n ns ≤ n
fold_below_first n [] = omega arith
fold_below_first n (m ∷ ms) = omega (arith, fold_below_first (min n m) ms)

least_below_other : (other : ℕ) (ns : List ℕ) → AllByRecursion (λ m. m ≤ other) ns → least_or other ns ≤ other
least_below_other other [] all = omega arith
least_below_other other (n ∷ ns) all = omega (arith, fold_below_first n ns, all.0)

all_both : (P : ℕ → Type 0) (ns ms : List ℕ) → AllByRecursion P ns → AllByRecursion P ms → AllByRecursion P (ns ++ ms)
all_both P [] ms first second = second
all_both P (n ∷ ns) ms first second = (first.0, all_both P ns ms first.1 second)

all_of_passed : (q : LogEntry → Bool) (P : ℕ → Type 0) (entries : List LogEntry) → AllByRecursion (λ (entry : LogEntry). q entry ≡ true → P entry.lsn) entries
    → AllByRecursion P (map (λ (entry : LogEntry). entry.lsn) (filter q entries))
all_of_passed q P [] all = tt
all_of_passed q P (entry ∷ entries) all = elim (cases_Bool (q entry)) [
  | inl passes ↦ rw passes (all.0 passes, all_of_passed q P entries all.1)
  | inr fails ↦ rw fails (all_of_passed q P entries all.1)
]

-- ---- the hold

-- the hold lies at or below the tail
below_tail : (other : ℕ) (archive : Option ℕ) (lsns : List ℕ) → AllByRecursion (λ n. least_or other (option_to_list archive ++ lsns) ≤ n) (option_to_list archive)
below_tail other None lsns = tt
below_tail other (Some tail) lsns = (least_below other tail (tail ∷ lsns) (here tail lsns), tt)

tail_within : (archive : Option ℕ) (most other : ℕ) → most ≤ other → IfSome archive (λ tail. tail ≤ most) → AllByRecursion (λ n. n ≤ other) (option_to_list archive)
tail_within None most other le is = tt
tail_within (Some tail) most other le is = (omega (arith, is, le), tt)

-- and at or below the frontier
hold_within_front : (s : State) → IsLaid s → hold s ≤ frontier s.place
hold_within_front s laid =
    let start = starts_at s laid.ranges laid.waiting in
    let low : flushed s ≤ frontier s.place = omega (arith, start.below) in
    least_below_other (frontier s.place) (option_to_list s.archive ++ live_lsns s)
    (all_both (λ n. n ≤ frontier s.place) (option_to_list s.archive) (live_lsns s) (tail_within s.archive (flushed s) (frontier s.place) low laid.tail)
    (all_of_passed (is_live s) (λ n. n ≤ frontier s.place) s.records
    (recursion_from_All (λ (entry : LogEntry). is_live s entry ≡ true → entry.lsn ≤ frontier s.place) s.records
    (All-weaker (IsRecord s) (λ (entry : LogEntry). is_live s entry ≡ true → entry.lsn ≤ frontier s.place) (λ entry is _. omega (arith, is.below)) s.records laid.records.records))))

-- With other streams, whose bases aren't lower, it isn't earlier.
pub hold_later : (s : State) (streams : List Stream) → IsLaid s → ((number : ℕ) → base_in s.streams number ≤ base_in streams number)
    → hold s ≤ hold (record s { streams = streams })
hold_later s streams laid higher =
    let t : State = record s { streams = streams } in
    least_at_least (hold s) (frontier s.place) (option_to_list s.archive ++ live_lsns t) (hold_within_front s laid)
    (all_both (λ n. hold s ≤ n) (option_to_list s.archive) (live_lsns t) (below_tail (frontier s.place) s.archive (live_lsns s))
    (all_of_passed (is_live t) (λ n. hold s ≤ n) s.records
    (recursion_from_All (λ (entry : LogEntry). is_live t entry ≡ true → hold s ≤ entry.lsn) s.records
    (All-weaker (Contains s.records) (λ (entry : LogEntry). is_live t entry ≡ true → hold s ≤ entry.lsn) still s.records (All-contains_itself s.records)))))
  where
    still : (entry : LogEntry) → Contains s.records entry → nat_le (base_in streams entry.stream) entry.lsn ≡ true → hold s ≤ entry.lsn
    still entry among alive =
        hold_below_live s entry among
        (le-leb (base_in s.streams entry.stream) entry.lsn (omega (arith, leb-true (base_in streams entry.stream) entry.lsn alive, higher entry.stream)))
