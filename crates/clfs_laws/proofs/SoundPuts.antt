-- A record that joins a log with room for it leaves a sound state.
use Rattle.clfs_laws.proofs.Words.{◌≡◌, ℕ, zero, suc, ◌+◌, ◌<◌, ◌≤◌, Bool, true, refl, sym, ap, ◌∙◌, subst, inl, inr, ◌⊎◌, arith, List, [], ◌∷◌, ◌++◌, filter}
use Rattle.clfs_laws.proofs.Words.{map, find, IsSome, AllByRecursion, range_with_len, IsStrictlyIncreasing, cases_Bool, All-weaker, All-push}
use Rattle.clfs_laws.proofs.Words.{recursion_from_All, null_lsn, IsWithin, frontier, active_containers, free_sectors, Place, LogEntry, State, stream_at, hold}
use Rattle.clfs_laws.proofs.Words.{is_live, free, reserved, flushed, IsRecord, HasWaiting}
use Rattle.clfs_model.specs.Valid.{open_sequences}
use Rattle.clfs_laws.proofs.ValidPlaces.{moved, IsSound, sound_moved, stable_still, increasing_push}
use Rattle.clfs_laws.proofs.HoldOrder.{hold_later, hold_below_archive, hold_below_live, hold_below_frontier, active_later, free_later}

-- the log with one more record, and the place after it
abbrev pub with_record : State → LogEntry → Place → State
with_record m entry place = moved m (m.records ++ entry ∷ []) place m.waiting

-- a record and a place after it that fit a log
pub record IsNext (m : State) (entry : LogEntry) (place : Place) : Type 0 where
  pub within : IsWithin m.shape place
  pub behind : frontier m.place ≤ entry.lsn
  pub below : entry.lsn < frontier place
  pub stream : IsSome (stream_at m entry.stream)
  pub previous : (entry.previous ≡ null_lsn) ⊎ (entry.previous < entry.lsn)
  pub undo_next : (entry.undo_next ≡ null_lsn) ⊎ (entry.undo_next < entry.lsn)
  pub block : open_sequences (with_record m entry place) ≡ range_with_len 0 place.records
  pub waiting : HasWaiting (with_record m entry place)
  pub more : flushed m ≤ flushed (with_record m entry place)
  pub used : active_containers place (hold m) ≤ m.containers
  pub room : reserved m ≤ free_sectors m.shape place (hold m) m.containers

pub push_all : {A : Type 0} (P : A → Type 0) (xs : List A) (x : A) → AllByRecursion P xs → P x → AllByRecursion P (xs ++ x ∷ [])
push_all P [] x all last = (last, tt)
push_all P (y ∷ xs) x all last = (all.0, push_all P xs x all.1 last)

pub all_of_map : {A B : Type 0} (f : A → B) (P : B → Type 0) (xs : List A) → AllByRecursion (λ x. P (f x)) xs → AllByRecursion P (map f xs)
all_of_map f P [] all = tt
all_of_map f P (x ∷ xs) all = (all.0, all_of_map f P xs all.1)

pub map_push : {A B : Type 0} (f : A → B) (xs : List A) (x : A) → map f (xs ++ x ∷ []) ≡ map f xs ++ f x ∷ []
map_push f [] x = refl
map_push f (y ∷ xs) x = ap (λ ys. f y ∷ ys) (map_push f xs x)

pub filter_push : {A : Type 0} (p : A → Bool) (xs : List A) (x : A) → p x ≡ true → filter p (xs ++ x ∷ []) ≡ filter p xs ++ x ∷ []
filter_push p [] x passes = rw passes refl
filter_push p (y ∷ xs) x passes = elim (cases_Bool (p y)) [
  | inl here ↦ rw here (ap (λ ys. y ∷ ys) (filter_push p xs x passes))
  | inr there ↦ rw there (filter_push p xs x passes)
]

pub find_more : {A : Type 0} (p : A → Bool) (xs ys : List A) → IsSome (find p xs) → IsSome (find p (xs ++ ys))
find_more p [] ys some = absurd (cc)
find_more p (x ∷ xs) ys some = elim (cases_Bool (p x)) [
  | inl here ↦ rw here refl
  | inr there ↦ rw there (find_more p xs ys (rw there at some))
]

pub range_push : (a n : ℕ) → range_with_len a n ++ (a + n) ∷ [] ≡ range_with_len a (suc n)
range_push a zero = let e : a + 0 ≡ a = omega arith in ap (λ m. m ∷ []) e
range_push a (suc n) =
    let e : a + suc n ≡ a + 1 + n = omega arith in
    ap (λ ms. a ∷ ms) (ap (λ m. range_with_len (a + 1) n ++ m ∷ []) e ∙ range_push (a + 1) n)

-- the hold isn't earlier with one more record
hold_more : (m : State) (entry : LogEntry) (place : Place) → IsSound m → IsNext m entry place → hold m ≤ hold (with_record m entry place)
hold_more m entry place sound next =
    let below = hold_below_frontier m sound in
    hold_later (hold m) (with_record m entry place) (omega (arith, below, next.behind, next.below)) (hold_below_archive m)
    (push_all (λ (e : LogEntry). is_live (with_record m entry place) e ≡ true → hold m ≤ e.lsn) m.records entry (hold_below_live m) (λ _. omega (arith, below, next.behind)))

-- and the log has at least the free sectors that the place has by the old hold
pub free_with_record : (m : State) (entry : LogEntry) (place : Place) → IsSound m → IsNext m entry place
    → free_sectors m.shape place (hold m) m.containers ≤ free (with_record m entry place)
free_with_record m entry place sound next =
    free_later m.shape place m.containers (hold m) (hold (with_record m entry place)) (hold_more m entry place sound next)

-- a log with one more record that fits is sound
pub sound_with_record : (m : State) (entry : LogEntry) (place : Place) → IsSound m → IsNext m entry place → IsSound (with_record m entry place)
sound_with_record m entry place sound next =
    let t : State = with_record m entry place in
    let later = hold_more m entry place sound next in
    let used = active_later place (hold m) (hold t) later in
    let room = free_later m.shape place m.containers (hold m) (hold t) later in
    let lsn_of : LogEntry → ℕ = λ e. e.lsn in
    sound_moved m (m.records ++ entry ∷ []) place m.waiting sound (record {
      place = next.within;
      records = record {
        rising = let F : List ℕ → Type 0 = IsStrictlyIncreasing in subst F (sym (map_push lsn_of m.records entry))
            (increasing_push (map lsn_of m.records) entry.lsn sound.records.rising
            (all_of_map lsn_of (λ lsn. lsn < entry.lsn) m.records
            (recursion_from_All (λ (e : LogEntry). e.lsn < entry.lsn) m.records
            (All-weaker (IsRecord m) (λ (e : LogEntry). e.lsn < entry.lsn) (λ e is. omega (arith, is.below, next.behind)) m.records sound.records.records))));
        records = All-push (IsRecord t) m.records entry
            (All-weaker (IsRecord m) (IsRecord t)
            (λ e is. record { stream = is.stream; named = is.named; below = omega (arith, is.below, next.behind, next.below); previous = is.previous; undo_next = is.undo_next })
            m.records sound.records.records)
            (record { stream = next.stream; named = omega (arith, sound.ranges.place.container, next.behind); below = next.below; previous = next.previous; undo_next = next.undo_next });
        open_block = next.block;
      };
      stable = stable_still m t refl refl next.more sound.stable;
      waiting = next.waiting;
      active = omega (arith, used, next.used);
      room = omega (arith, room, next.room);
    })
