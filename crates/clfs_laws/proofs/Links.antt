-- Links lie below the next record, and bases and live records below the frontier.
use Rattle.clfs_laws.proofs.Words.{◌≡◌, ℕ, zero, suc, ◌-◌, ◌<◌, ◌≤◌, Bool, true, false, refl, subst, inl, inr, ◌⊎◌, arith, List, [], ◌∷◌, Option, Some, None}
use Rattle.clfs_laws.proofs.Words.{is_some, find, filter, slice_get, nat_lt, ◌&&◌, ◌||◌, ◌==◌, AllByRecursion, option_map_or, cases_Bool, eqb-true, ltb-true}
use Rattle.clfs_laws.proofs.Words.{All-weaker, recursion_from_All, null_lsn, IsWithin, frontier, joins, begins_here, IsShape, Place, Shape, LogEntry, State}
use Rattle.clfs_laws.proofs.Words.{Stream, base_of, is_live, live_at, flushed, next_lsn, is_link, IsRecord}
use Rattle.clfs_laws.proofs.LsnOrder.{small_offset, few_records, frontier_sealed}
use Rattle.clfs_laws.proofs.ValidPlaces.{IsSound, flushed_below}
use Rattle.clfs_laws.proofs.ValidPuts.{after_by}

-- what is at a place of a list has what all have
pub get_has : {A : Type 0} (P : A → Type 0) (xs : List A) (k : ℕ) (x : A) → slice_get xs k ≡ Some x → AllByRecursion P xs → P x
get_has P [] k x is all = absurd (cc)
get_has P (y ∷ xs) zero x is all = let same : y ≡ x = cc in subst P same all.0
get_has P (y ∷ xs) (suc k) x is all = get_has P xs k x is all.1

base_by : (streams : List Stream) (k bound : ℕ) (found : Option Stream) → slice_get streams k ≡ found → AllByRecursion (λ (stream : Stream). stream.base ≤ bound) streams
    → option_map_or (λ (stream : Stream). stream.base) found null_lsn ≤ bound
base_by streams k bound None is all = omega arith
base_by streams k bound (Some stream) is all = get_has (λ (st : Stream). st.base ≤ bound) streams k stream is all

-- a base is at most what all bases are at most
pub base_below : (s : State) (number bound : ℕ) → AllByRecursion (λ (stream : Stream). stream.base ≤ bound) s.streams → base_of s number ≤ bound
base_below s number bound all = elim (cases_Bool (number == 0)) [
  | inl none ↦ rw none (omega arith)
  | inr some ↦ rw some (base_by s.streams (number - 1) bound (slice_get s.streams (number - 1)) refl all)
]

-- a base is on the disk
pub base_stable : (s : State) (number : ℕ) → IsSound s → base_of s number ≤ flushed s
base_stable s number sound = base_below s number (flushed s) (recursion_from_All (λ (stream : Stream). stream.base ≤ flushed s) s.streams sound.stable.bases)

-- what is found among records has what all have
pub found_at : (q : LogEntry → Bool) (P : ℕ → Type 0) (lsn : ℕ) (entries : List LogEntry) → AllByRecursion (λ (entry : LogEntry). q entry ≡ true → P entry.lsn) entries
    → is_some (find (λ (entry : LogEntry). entry.lsn == lsn) (filter q entries)) ≡ true → P lsn
found_at q P lsn [] all some = absurd (cc)
found_at q P lsn (entry ∷ entries) all some = elim (cases_Bool (q entry)) [
  | inl passes ↦
      let among = rw passes at some in
      elim (cases_Bool (entry.lsn == lsn)) [
        | inl here ↦ subst P (eqb-true entry.lsn lsn here) (all.0 passes)
        | inr there ↦ found_at q P lsn entries all.1 (rw there at among)
      ]
  | inr fails ↦ found_at q P lsn entries all.1 (rw fails at some)
]

-- all records lie below the frontier
pub all_below : (s : State) → IsSound s → AllByRecursion (λ (entry : LogEntry). entry.lsn < frontier s.place) s.records
all_below s sound = recursion_from_All (λ (entry : LogEntry). entry.lsn < frontier s.place) s.records
    (All-weaker (IsRecord s) (λ (entry : LogEntry). entry.lsn < frontier s.place) (λ entry is. is.below) s.records sound.records.records)

weaker_all : {A : Type 0} (P Q : A → Type 0) (xs : List A) → ((x : A) → P x → Q x) → AllByRecursion P xs → AllByRecursion Q xs
weaker_all P Q [] more all = tt
weaker_all P Q (x ∷ xs) more all = (more x all.0, weaker_all P Q xs more all.1)

-- a live record of a stream lies below the frontier
pub live_below : (s : State) (stream lsn : ℕ) → IsSound s → is_some (live_at s stream lsn) ≡ true → lsn < frontier s.place
live_below s stream lsn sound some =
    found_at (λ (entry : LogEntry). (entry.stream == stream) && is_live s entry) (λ n. n < frontier s.place) lsn s.records
    (weaker_all (λ (entry : LogEntry). entry.lsn < frontier s.place)
    (λ (entry : LogEntry). ((entry.stream == stream) && is_live s entry) ≡ true → entry.lsn < frontier s.place) s.records (λ entry below _. below) (all_below s sound)) some

either_true : (a b c : Bool) → (a || b || c) ≡ true → a ≡ false → b ≡ false → c ≡ true
either_true a b c some no_a no_b = cc

-- a link that a log allows lies below the frontier
pub link_below : (s : State) (stream link : ℕ) → IsSound s → is_link s stream link ≡ true → (link ≡ null_lsn) ⊎ (link < frontier s.place)
link_below s stream link sound allowed = elim (cases_Bool (link == null_lsn)) [
  | inl none ↦ inl (eqb-true link null_lsn none)
  | inr some ↦ elim (cases_Bool (nat_lt link (base_of s stream))) [
    | inl under ↦
        let based = base_stable s stream sound in
        let below = flushed_below s sound.waiting in
        let less = ltb-true link (base_of s stream) under in
        inr (omega (arith, less, based, below))
    | inr above ↦ inr (live_below s stream link sound (either_true _ _ _ allowed some above))
  ]
]

next_by : (shape : Shape) (place : Place) (n : ℕ) (joining beginning : Bool) → IsShape shape → IsWithin shape place → frontier place ≤ (after_by joining beginning place n).0
next_by shape place n true beginning is within = omega arith
next_by shape place n false true is within = omega (arith, frontier_sealed shape place within)
next_by shape place n false false is within = omega (arith, small_offset shape place is within, few_records shape place within)

-- the next record isn't below the frontier
pub next_within : (s : State) (n : ℕ) → IsShape s.shape → IsWithin s.shape s.place → frontier s.place ≤ next_lsn s n
next_within s n shape within = next_by s.shape s.place n (joins s.shape s.place n) (begins_here s.shape s.place n) shape within

-- the same of a sound state
pub next_above : (s : State) (n : ℕ) → IsSound s → frontier s.place ≤ next_lsn s n
next_above s n sound = next_within s n sound.ranges.shape sound.ranges.place
