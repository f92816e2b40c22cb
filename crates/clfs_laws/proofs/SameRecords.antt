-- What states have in common that are the same but for records in containers below the hold's: the hold, and all live records.
use Rattle.clfs_laws.proofs.Words.{◌≡◌, ℕ, ◌≤◌, Bool, true, refl, sym, ap, ◌∙◌, inl, inr, arith, List, [], ◌∷◌, ◌++◌, filter, map, nat_le, ◌&&◌, ◌==◌}
use Rattle.clfs_laws.proofs.Words.{AllByRecursion, option_to_list, cases_Bool, le-leb, leb-true, container_of, frontier, LogEntry, State, hold, is_live, live}
use Rattle.clfs_laws.proofs.Words.{live_lsns, least_or, IsSame}
use Rattle.clfs_laws.proofs.HoldOrder.{hold_below_live}
use Rattle.clfs_laws.proofs.LsnOrder.{both_true}

-- a state with other records
abbrev pub with_records : List LogEntry → State → State
with_records records s = record s { records = records }

-- a record lies in the container of an LSN, or above
abbrev pub is_from : ℕ → LogEntry → Bool
is_from at entry = nat_le (container_of at) (container_of entry.lsn)

-- the records in the container of an LSN and in those above
abbrev pub records_from : ℕ → List LogEntry → List LogEntry
records_from at records = filter (is_from at) records

-- a test that no record below a container passes
abbrev pub PassesFrom : ℕ → (LogEntry → Bool) → List LogEntry → Type 0
PassesFrom at p records = AllByRecursion (λ (entry : LogEntry). p entry ≡ true → container_of at ≤ container_of entry.lsn) records

-- passes the same records of those above it
pub filter_from : (at : ℕ) (p : LogEntry → Bool) (records : List LogEntry) → PassesFrom at p records
    → filter p (records_from at records) ≡ filter p records
filter_from at p [] above = refl
filter_from at p (entry ∷ entries) above = elim (cases_Bool (is_from at entry)) [
  | inl up ↦ elim (cases_Bool (p entry)) [
    | inl passes ↦ rw (up, passes, filter_from at p entries above.1) refl
    | inr fails ↦ rw (up, fails, filter_from at p entries above.1) refl
  ]
  | inr low ↦ elim (cases_Bool (p entry)) [
    | inl passes ↦
        let up : is_from at entry ≡ true = le-leb (container_of at) (container_of entry.lsn) (above.0 passes) in
        absurd (cc)
    | inr fails ↦ rw (low, fails, filter_from at p entries above.1) refl
  ]
]

-- so where the records from a container on are the same, so are those that pass
pub passed_same : (at : ℕ) (p : LogEntry → Bool) (records others : List LogEntry) → records_from at records ≡ records_from at others
    → PassesFrom at p records → PassesFrom at p others → filter p records ≡ filter p others
passed_same at p records others same above above_others =
    sym (filter_from at p records above) ∙ ap (filter p) same ∙ filter_from at p others above_others

-- a test that tells a record's container
pub passes_each : (at : ℕ) (p : LogEntry → Bool) (records : List LogEntry)
    → ((entry : LogEntry) → p entry ≡ true → container_of at ≤ container_of entry.lsn)
    → PassesFrom at p records
passes_each at p [] above = tt
passes_each at p (entry ∷ entries) above = (above entry, passes_each at p entries above)

-- the test of a list in two parts
pub filter_append : {A : Type 0} (p : A → Bool) (xs ys : List A) → filter p (xs ++ ys) ≡ filter p xs ++ filter p ys
filter_append p [] ys = refl
filter_append p (x ∷ xs) ys = elim (cases_Bool (p x)) [
  | inl passes ↦ rw (passes, filter_append p xs ys) refl
  | inr fails ↦ rw (fails, filter_append p xs ys) refl
]

-- two tests in either order
pub filter_swap : {A : Type 0} (p q : A → Bool) (xs : List A) → filter p (filter q xs) ≡ filter q (filter p xs)
filter_swap p q [] = refl
filter_swap p q (x ∷ xs) = elim (cases_Bool (p x)) [
  | inl passes ↦ elim (cases_Bool (q x)) [
    | inl both ↦ rw (passes, both, passes) (ap (λ ys. x ∷ ys) (filter_swap p q xs))
    | inr one ↦ rw (passes, one) (filter_swap p q xs)
  ]
  | inr fails ↦ elim (cases_Bool (q x)) [
    | inl one ↦ rw (fails, one, fails) (filter_swap p q xs)
    | inr none ↦ rw (fails, none) (filter_swap p q xs)
  ]
]

-- live records lie in the hold's container or above
live_from : (s : State) (at : ℕ) (records : List LogEntry) → container_of at ≤ container_of (hold s)
    → AllByRecursion (λ (entry : LogEntry). is_live s entry ≡ true → hold s ≤ entry.lsn) records → PassesFrom at (is_live s) records
live_from s at [] up all = tt
live_from s at (entry ∷ entries) up all = ((λ is. let above = all.0 is in omega (arith, up, above)), live_from s at entries up all.1)

-- and so do those of a stream
abbrev is_live_of : State → ℕ → LogEntry → Bool
is_live_of s stream entry = (entry.stream == stream) && is_live s entry

live_of_from : (s : State) (stream at : ℕ) (records : List LogEntry) → PassesFrom at (is_live s) records → PassesFrom at (is_live_of s stream) records
live_of_from s stream at [] all = tt
live_of_from s stream at (entry ∷ entries) all = ((λ is. all.0 (both_true _ _ is).1), live_of_from s stream at entries all.1)

-- two states that differ in records alone, and in none from a container on that is at most the hold's in both
pub record IsSameFrom (at : ℕ) (s u : State) : Type 0 where
  pub others : u ≡ with_records u.records s
  pub records : records_from at s.records ≡ records_from at u.records
  pub up : container_of at ≤ container_of (hold s)
  pub up_other : container_of at ≤ container_of (hold u)

-- they have the same live records
live_same : (at : ℕ) (s u : State) → IsSameFrom at s u → filter (is_live s) s.records ≡ filter (is_live u) u.records
live_same at s u is =
    let tests : is_live s ≡ is_live u = ap (λ (x : State). is_live (with_records s.records x)) (sym is.others) in
    let above = live_from s at s.records is.up (hold_below_live s) in
    sym (filter_from at (is_live s) s.records above) ∙ ap (filter (is_live s)) is.records
    ∙ ap (λ (p : LogEntry → Bool). filter p (records_from at u.records)) tests
    ∙ filter_from at (is_live u) u.records (live_from u at u.records is.up_other (hold_below_live u))

-- so they have the same hold
pub hold_from : (at : ℕ) (s u : State) → IsSameFrom at s u → hold u ≡ hold s
hold_from at s u is =
    let lsns : live_lsns s ≡ live_lsns u = ap (map (λ (entry : LogEntry). entry.lsn)) (live_same at s u is) in
    ap (λ (x : State). least_or (frontier x.place) (option_to_list x.archive ++ live_lsns u)) is.others
    ∙ ap (λ (l : List ℕ). least_or (frontier s.place) (option_to_list s.archive ++ l)) (sym lsns)

-- records from a container on, from a higher one on
from_higher : (at higher : ℕ) (records : List LogEntry) → container_of at ≤ container_of higher
    → filter (is_from higher) (records_from at records) ≡ records_from higher records
from_higher at higher records up =
    filter_from at (is_from higher) records (passes_each at (is_from higher) records (λ entry is. let above = leb-true _ _ is in omega (arith, up, above)))

-- and are the same by the hold's container too
pub same_from : (at : ℕ) (s u : State) → IsSameFrom at s u → IsSame s u
same_from at s u is =
    let holds = hold_from at s u is in
    record {
      hold = ap container_of (sym holds);
      records = sym (from_higher at (hold s) s.records is.up) ∙ ap (filter (is_from (hold s))) is.records
          ∙ ap (λ (h : ℕ). filter (is_from h) (records_from at u.records)) (sym holds) ∙ from_higher at (hold u) u.records is.up_other;
      others = is.others;
    }

-- the records from the container of an LSN on are those from the container on
from_container : (a b : ℕ) (records : List LogEntry) → container_of a ≡ container_of b → records_from a records ≡ records_from b records
from_container a b records same = ap (λ (c : ℕ). filter (λ (entry : LogEntry). nat_le c (container_of entry.lsn)) records) same

-- states that are the same are so from the hold's container on
pub from_same : (s u : State) → IsSame s u → IsSameFrom (hold s) s u
from_same s u same = record {
  others = same.others;
  records = same.records ∙ from_container (hold u) (hold s) u.records (sym same.hold);
  up = omega arith;
  up_other = omega (arith, same.hold);
}

-- they have the same hold
pub hold_same : (s u : State) → IsSame s u → hold u ≡ hold s
hold_same s u same = hold_from (hold s) s u (from_same s u same)

-- and the same live records in each stream
pub live_of_same : (s u : State) (stream : ℕ) → IsSame s u → live u stream ≡ live s stream
live_of_same s u stream same =
    let is = from_same s u same in
    let at = hold s in
    let tests : is_live_of u stream ≡ is_live_of s stream = ap (λ (x : State). is_live_of (with_records s.records x) stream) is.others in
    let above = live_of_from s stream at s.records (live_from s at s.records is.up (hold_below_live s)) in
    let above_other = live_of_from u stream at u.records (live_from u at u.records is.up_other (hold_below_live u)) in
    sym (filter_from at (is_live_of u stream) u.records above_other) ∙ ap (filter (is_live_of u stream)) (sym is.records)
    ∙ ap (λ (p : LogEntry → Bool). filter p (records_from at s.records)) tests ∙ filter_from at (is_live_of s stream) s.records above

-- states that are the same stay so where the same records join them, all else changes alike and no lower container is held
pub same_onward : (s u t v : State) (more : List LogEntry) → IsSame s u → t.records ≡ s.records ++ more → v ≡ with_records (u.records ++ more) t
    → container_of (hold s) ≤ container_of (hold t) → container_of (hold u) ≤ container_of (hold v) → IsSame t v
same_onward s u t v more same joined others up up_other =
    let is = from_same s u same in
    let at = hold s in
    let records : v.records ≡ u.records ++ more = ap (λ (x : State). x.records) others in
    same_from at t v (record {
      others = others ∙ ap (λ (l : List LogEntry). with_records l t) (sym records);
      records = ap (records_from at) joined ∙ filter_append (is_from at) s.records more
          ∙ ap (λ (front : List LogEntry). front ++ records_from at more) is.records
          ∙ sym (filter_append (is_from at) u.records more) ∙ ap (records_from at) (sym records);
      up = up;
      up_other = omega (arith, same.hold, up_other);
    })
