-- Calls that take a log through stages all of which are told, one after the other.
use Rattle.clfs_manager.proofs.Words.{◌≡◌, refl, subst, List, [], ◌∷◌, ◌++◌, All, Result, Ok, Err, IsErr, All-cons, All-head, All-tail, DiskState, State}
use Rattle.clfs_manager.proofs.Words.{StandByBlocks, HaveByFile, ChangesLog, GoesThrough, IsIntact, Log}
use Rattle.clfs_manager.proofs.Changing.{Survive, behind_of, front_of}
use Rattle.clfs_manager.proofs.Crashes.{crash_still, crash_then}
use Rattle.clfs_manager.proofs.Intact.{writes_as, writes_nothing, writes_then}

-- what is true of all of a list but one, with that one left out
pub all_without : (P : State → Type 0) (xs : List State) (y : State) (ys : List State) → All P (xs ++ y ∷ ys) → All P (xs ++ ys)
all_without P [] y ys all = All-tail P y ys all
all_without P (x ∷ xs) y ys all = All-cons P x (xs ++ ys) (All-head P x (xs ++ y ∷ ys) all) (all_without P xs y ys (All-tail P x (xs ++ y ∷ ys) all))

-- nothing is to be done
pub through_nothing : {A E : Type 0} (value : A) → StandByBlocks → HaveByFile → (disk : DiskState) (log : Log) → IsIntact disk log
    → GoesThrough {A = A} {E = E} IsIntact (Ok value) (log.state.value ∷ []) log.state.value disk disk log
through_nothing {A} {E} value stands by_file disk log intact = record {
  state = refl;
  left = intact;
  broken = tt;
  writes = writes_nothing (IsErr {T = A} {E = E} (Ok value)) disk (λ f. cc f);
  moments = λ asked s all. crash_still stands by_file disk log intact asked s (All-head (Survive asked s) log.state.value [] all);
}

-- a call whose last state is told among its stages
pub through_changes : {A E : Type 0} {IsLeft : DiskState → Log → Type 0} (result : Result A E) (stages : List State) (last : State) (a b : DiskState) (log : Log)
    → ChangesLog IsLeft result stages last a b log → GoesThrough IsLeft result (stages ++ last ∷ []) last a b log
through_changes result stages last a b log is = record {
  state = is.state;
  left = is.left;
  broken = is.broken;
  writes = is.writes;
  moments = λ asked s all.
      let P : State → Type 0 = Survive asked s in
      is.moments asked s (front_of P stages (last ∷ []) all) (All-head P last [] (behind_of P stages (last ∷ []) all));
}

-- the same stages by other names
pub through_named : {A E : Type 0} {IsLeft : DiskState → Log → Type 0} (result : Result A E) (stages named : List State) (last end : State) (a b : DiskState) (log : Log)
    → stages ≡ named → last ≡ end → GoesThrough IsLeft result stages last a b log → GoesThrough IsLeft result named end a b log
through_named {A} {E} {IsLeft} result stages named last end a b log same ends is =
    subst (λ (t : State). GoesThrough IsLeft result named t a b log) ends (subst (λ (l : List State). GoesThrough IsLeft result l last a b log) same is)

-- a log that is left in another way
pub through_left : {A E : Type 0} {IsBetween IsLeft : DiskState → Log → Type 0} (result : Result A E) (stages : List State) (last : State) (a b : DiskState) (log : Log)
    → (log.state.value ≡ last → IsBetween b log → IsLeft b log) → GoesThrough IsBetween result stages last a b log → GoesThrough IsLeft result stages last a b log
through_left (Ok value) stages last a b log to is = record {
  state = is.state;
  left = to is.state is.left;
  broken = tt;
  writes = is.writes;
  moments = is.moments;
}
through_left (Err error) stages last a b log to is = record { state = tt; left = tt; broken = is.broken; writes = is.writes; moments = is.moments }

-- a call that was done, and then memory changed alone
pub through_memory : {A B E : Type 0} {IsBetween IsLeft : DiskState → Log → Type 0} (value : A) (other : B) (stages : List State) (middle last : State) (a b : DiskState)
    (between after : Log) → GoesThrough {A = A} {E = E} IsBetween (Ok value) stages middle a b between → after.state.value ≡ last → IsLeft b after
    → GoesThrough {A = B} {E = E} IsLeft (Ok other) stages last a b after
through_memory {A} {B} {E} value other stages middle last a b between after is state left = record {
  state = state;
  left = left;
  broken = tt;
  writes = writes_as (IsErr {T = A} {E = E} (Ok value)) (IsErr {T = B} {E = E} (Ok other)) a b (λ f. absurd (cc f)) (λ f. absurd (cc f)) is.writes;
  moments = is.moments;
}

-- a call that was done, as another tells it
pub through_answered : {A B E : Type 0} {IsLeft : DiskState → Log → Type 0} (first : Result A E) (value : A) (other : B) (stages : List State) (last : State)
    (a b : DiskState) (log : Log) → first ≡ Ok value → GoesThrough IsLeft first stages last a b log → GoesThrough {A = B} {E = E} IsLeft (Ok other) stages last a b log
through_answered {A} {B} {E} {IsLeft} first value other stages last a b log was is =
    let one : GoesThrough {A = A} {E = E} IsLeft (Ok value) stages last a b log = subst (λ (r : Result A E). GoesThrough IsLeft r stages last a b log) was is in
    through_memory value other stages last last a b log log one one.state one.left

-- a call that failed, as another tells it
pub through_refused : {A B E : Type 0} {IsBetween IsLeft : DiskState → Log → Type 0} (first : Result A E) (result : Result B E) (stages : List State)
    (middle last : State) (a b : DiskState) (log : Log) → IsErr first → IsErr result → GoesThrough IsBetween first stages middle a b log
    → GoesThrough IsLeft result stages last a b log
through_refused (Ok value) result stages middle last a b log failed fails is = absurd (cc failed)
through_refused {A} {B} {E} (Err error) (Ok value) stages middle last a b log failed fails is = absurd (cc fails)
through_refused {A} {B} {E} (Err error) (Err other) stages middle last a b log failed fails is = record {
  state = tt;
  left = tt;
  broken = is.broken;
  writes = writes_as (IsErr {T = A} (Err error)) (IsErr {T = B} (Err other)) a b (λ _. refl) (λ _. refl) is.writes;
  moments = is.moments;
}

-- the same, before others that have more stages
pub through_failed : {A B E : Type 0} {IsBetween IsLeft : DiskState → Log → Type 0} (first : Result A E) (result : Result B E) (stages more : List State)
    (middle last : State) (a b : DiskState) (log : Log) → IsErr first → IsErr result → GoesThrough IsBetween first stages middle a b log
    → GoesThrough IsLeft result (stages ++ more) last a b log
through_failed {A} {B} {E} {IsBetween} {IsLeft} first result stages more middle last a b log failed fails is =
    let one : GoesThrough IsLeft result stages last a b log = through_refused first result stages middle last a b log failed fails is in
    record {
      state = one.state;
      left = one.left;
      broken = one.broken;
      writes = one.writes;
      moments = λ asked s all. one.moments asked s (front_of (Survive asked s) stages more all);
    }

-- a call after one that was done
pub through_then : {A B E : Type 0} {IsBetween IsLeft : DiskState → Log → Type 0} (value : A) (second : Result B E) (stages more : List State) (middle last : State)
    (a b d : DiskState) (between after : Log) → GoesThrough {A = A} {E = E} IsBetween (Ok value) stages middle a b between
    → GoesThrough IsLeft second more last b d after → GoesThrough IsLeft second (stages ++ more) last a d after
through_then {A} {B} {E} value second stages more middle last a b d between after one two = record {
  state = two.state;
  left = two.left;
  broken = two.broken;
  writes = writes_then (IsErr {T = A} {E = E} (Ok value)) (IsErr second) a b d (λ f. cc f) one.writes two.writes;
  moments = λ asked s all.
      let P : State → Type 0 = Survive asked s in
      crash_then (IsErr {T = A} {E = E} (Ok value)) asked s a b d (λ f. cc f) one.writes
      (one.moments asked s (front_of P stages more all)) (two.moments asked s (behind_of P stages more all));
}
