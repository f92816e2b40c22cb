-- Calls that change a log, one after the other.
use Rattle.clfs_manager.proofs.Words.{◌≡◌, true, refl, ap, subst, ◌∙◌, List, [], ◌∷◌, ◌++◌, All, Result, Ok, Err, OnOk, IsErr, All-nil, All-cons, All-head}
use Rattle.clfs_manager.proofs.Words.{All-tail, DiskState, State, cut, Request, Survives, Told, KeepsAllButTables, ChangesLog, CrashLeavesSurvivor}
use Rattle.clfs_manager.proofs.Words.{HasForgotten, IsSound, IsIntact, IsYetToForget, WritesDisk, Log, StandByBlocks, HaveByFile}
use Rattle.clfs_manager.proofs.Crashes.{crash_still, crash_then}
use Rattle.clfs_manager.proofs.Intact.{intact_forgot, writes_as, writes_nothing, writes_then}

-- ---- states one after the other

abbrev pub Survive : Request → State → State → Type 0
Survive asked s stage = Survives asked s (cut stage)

pub one_survives : (asked : Request) (s first : State) → Survives asked s (cut first) → All (Survive asked s) (first ∷ [])
one_survives asked s first is = All-cons (Survive asked s) first [] is (All-nil (Survive asked s))

pub two_survive : (asked : Request) (s first second : State) → Survives asked s (cut first) → Survives asked s (cut second)
    → All (Survive asked s) (first ∷ second ∷ [])
two_survive asked s first second is also = All-cons (Survive asked s) first (second ∷ []) is (one_survives asked s second also)

pub front_of : (P : State → Type 0) (xs ys : List State) → All P (xs ++ ys) → All P xs
front_of P [] ys all = All-nil P
front_of P (x ∷ xs) ys all = All-cons P x xs (All-head P x (xs ++ ys) all) (front_of P xs ys (All-tail P x (xs ++ ys) all))

pub behind_of : (P : State → Type 0) (xs ys : List State) → All P (xs ++ ys) → All P ys
behind_of P [] ys all = all
behind_of P (x ∷ xs) ys all = behind_of P xs ys (All-tail P x (xs ++ ys) all)

-- ---- calls one after the other

-- nothing is said of an answer that isn't given
never : {A E : Type 0} (P : Type 0) (result : Result A E) → IsErr result → OnOk result P
never P (Ok value) failed = absurd (cc failed)
never P (Err error) failed = tt

-- nothing is to be done
pub changes_nothing : {A E : Type 0} (value : A) → StandByBlocks → HaveByFile → (disk : DiskState) (log : Log) (more : List State) (last : State) → IsIntact disk log
    → log.state.value ≡ last → ChangesLog {A = A} {E = E} IsIntact (Ok value) (log.state.value ∷ more) last disk disk log
changes_nothing {A} {E} value stands by_file disk log more last intact same = record {
  state = same;
  left = intact;
  broken = tt;
  writes = writes_nothing (IsErr {T = A} {E = E} (Ok value)) disk (λ f. cc f);
  moments = λ asked s all at_last. crash_still stands by_file disk log intact asked s (All-head (Survive asked s) log.state.value more all);
}

-- a call after one that was done
pub changes_then : {A B E : Type 0} {IsBetween IsLeft : DiskState → Log → Type 0} (value : A) (second : Result B E) (stages more : List State) (middle last : State)
    (a b d : DiskState) (between after : Log) → ChangesLog {A = A} {E = E} IsBetween (Ok value) stages middle a b between
    → ChangesLog IsLeft second (middle ∷ more) last b d after → ChangesLog IsLeft second (stages ++ middle ∷ more) last a d after
changes_then {A} {B} {E} value second stages more middle last a b d between after one two = record {
  state = two.state;
  left = two.left;
  broken = two.broken;
  writes = writes_then (IsErr {T = A} {E = E} (Ok value)) (IsErr second) a b d (λ f. cc f) one.writes two.writes;
  moments = λ asked s all at_last.
      let P : State → Type 0 = Survive asked s in
      let rest = behind_of P stages (middle ∷ more) all in
      crash_then (IsErr {T = A} {E = E} (Ok value)) asked s a b d (λ f. cc f) one.writes
      (one.moments asked s (front_of P stages (middle ∷ more) all) (All-head P middle more rest))
      (two.moments asked s rest at_last);
}

-- one that failed
pub changes_broken : {A E : Type 0} {IsLeft : DiskState → Log → Type 0} (result : Result A E) (stages : List State) (last : State) (a b : DiskState) (log : Log)
    → IsErr result → log.broken ≡ true → WritesDisk (IsErr result) a b
    → ((asked : Request) (s : State) → All (Survive asked s) stages → Survive asked s last → CrashLeavesSurvivor asked s a b)
    → ChangesLog IsLeft result stages last a b log
changes_broken (Ok value) stages last a b log fails broken writes moments = absurd (cc fails)
changes_broken (Err error) stages last a b log fails broken writes moments =
    record { state = tt; left = tt; broken = broken; writes = writes; moments = moments }

-- one that failed, as another tells it
pub changes_refused : {A B E : Type 0} {IsBetween IsLeft : DiskState → Log → Type 0} (first : Result A E) (result : Result B E) (stages : List State) (last : State)
    (a b : DiskState) (between after : Log) → IsErr first → IsErr result → after.broken ≡ true → ChangesLog IsBetween first stages last a b between
    → ChangesLog IsLeft result stages last a b after
changes_refused {A} {B} {E} first (Ok value) stages last a b between after failed fails broken one = absurd (cc fails)
changes_refused {A} {B} {E} first (Err other) stages last a b between after failed fails broken one = record {
  state = tt;
  left = tt;
  broken = broken;
  writes = writes_as (IsErr first) _ a b (λ _. refl) (λ _. failed) one.writes;
  moments = one.moments;
}

-- one that failed, before others
pub changes_failed : {A B E : Type 0} {IsBetween IsLeft : DiskState → Log → Type 0} (first : Result A E) (result : Result B E) (stages more : List State)
    (middle last : State) (a b : DiskState) (between after : Log) → IsErr first → IsErr result → after.broken ≡ true
    → ChangesLog IsBetween first stages middle a b between → ChangesLog IsLeft result (stages ++ middle ∷ more) last a b after
changes_failed {A} {B} {E} {IsBetween} {IsLeft} first result stages more middle last a b between after failed fails broken one =
    let is : ChangesLog IsLeft result stages middle a b after = changes_refused first result stages middle a b between after failed fails broken one in
    record {
      state = never (after.state.value ≡ last) result fails;
      left = never (IsLeft b after) result fails;
      broken = is.broken;
      writes = is.writes;
      moments = λ asked s all at_last.
          let P : State → Type 0 = Survive asked s in
          is.moments asked s (front_of P stages (middle ∷ more) all) (All-head P middle more (behind_of P stages (middle ∷ more) all));
    }

-- once memory forgets what is needed no more
pub changes_forgot : {A B E : Type 0} (first : Result A E) (value : A) (other : B) (stages : List State) (last : State) (a b : DiskState) (before after : Log)
    → first ≡ Ok value → ChangesLog IsYetToForget first stages last a b before → IsSound after → KeepsAllButTables before after
    → HasForgotten after.state.value after → ChangesLog {A = B} {E = E} IsIntact (Ok other) stages last a b after
changes_forgot {A} {B} {E} first value other stages last a b before after was is sound keeps forgotten =
    let one : ChangesLog {A = A} {E = E} IsYetToForget (Ok value) stages last a b before =
    subst (λ (r : Result A E). ChangesLog IsYetToForget r stages last a b before) was is in
    record {
      state = ap (λ (told : Told State). told.value) keeps.state ∙ one.state;
      left = intact_forgot b before after one.left sound keeps forgotten;
      broken = tt;
      writes = writes_as (IsErr {T = A} {E = E} (Ok value)) (IsErr {T = B} {E = E} (Ok other)) a b (λ f. absurd (cc f)) (λ f. absurd (cc f)) one.writes;
      moments = one.moments;
    }
