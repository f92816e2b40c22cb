-- How calls leave the disk, seen from a store.
use Rattle.clfs_txn.proofs.Words.{◌≡◌, ℕ, Bool, true, false, Result, Ok, Err, Option, Some, None, ◌⊎◌, inl, inr, refl, ap, ◌∙◌, subst, arith, IsErrOf}
use Rattle.clfs_txn.proofs.Words.{MatchBool, MatchOption, option_map_or, DiskState, Later, Refusal, TxnRefusal, Store, Call, Fine, Fault, Reply, Area, State}
use Rattle.clfs_txn.proofs.Words.{outcome, refusal, area_of, Step, calls_disk, Steps, WritesDisk, IsNotFound}
use Rattle.clfs_model.specs.declared.refusal.Refusal.TheVariants as log_refusals
use Rattle.clfs_cells.specs.declared.told.TxnRefusal.TheVariants as refusals
use Rattle.clfs_model.specs.declared.call.Call.TheVariants as calls
use Rattle.clfs_model.specs.declared.reply.Reply.TheVariants as replies
use Rattle.clfs_model.specs.Answers.{released}
use Rattle.clfs_laws.specs.Refused.{is_of_call}
use Rattle.clfs_txn.specs.Calls.{is_fault}

later_still : (disk : DiskState) → Later disk disk
later_still disk = record {
  later = omega arith;
  past = λ moment image le at. at;
  kept = λ moment image le at. at;
  images = λ moment image after until at. absurd (omega (arith, after, until));
  faults = omega arith;
  nature = refl;
}

-- nothing was asked of the disk
pub nothing : (fault : Type 0) (disk : DiskState) → (fault → ⊥) → WritesDisk fault disk disk
nothing fault disk none = record {
  time = later_still disk;
  cause = λ f. absurd (none f);
  whole = λ _ tells whole. whole;
  steady = λ calm tells whole. (none, refl);
}

-- the same, the fault told in another way
pub writes_as : (fault other : Type 0) (old new : DiskState) → (fault → other) → (other → fault) → WritesDisk fault old new → WritesDisk other old new
writes_as fault other old new to back is = record {
  time = is.time;
  cause = λ f. is.cause (back f);
  whole = λ none. is.whole (λ f. none (to f));
  steady = λ calm tells whole. let fine = is.steady calm tells whole in (λ f. fine.0 (back f), fine.1);
}

-- a call that asked nothing of the disk, refused for no fault
pub at_once : {A : Type 0} (disk : DiskState) (refusal : TxnRefusal) → is_fault refusal ≡ false
    → WritesDisk (IsErrOf {T = A} (Err refusal) (refusals.Log log_refusals.DiskFault)) disk disk
at_once {A} disk refusal fine = nothing _ disk (λ f.
    let same : refusal ≡ refusals.Log log_refusals.DiskFault = cc f in let fails : is_fault refusal ≡ true = ap is_fault same in absurd (cc (fails, fine)))

-- a call that is refused as the log refused
pub of_log : {A B : Type 0} (old new : DiskState) (refusal : Refusal) → WritesDisk (IsErrOf {T = A} (Err refusal) log_refusals.DiskFault) old new
    → WritesDisk (IsErrOf {T = B} (Err (refusals.Log refusal)) (refusals.Log log_refusals.DiskFault)) old new
of_log {A} {B} old new refusal is = writes_as _ _ old new
    (λ f. let same : refusal ≡ log_refusals.DiskFault = cc f in ap (λ (r : Refusal). Err (refusals.Log r)) same)
    (λ f. let same : refusal ≡ log_refusals.DiskFault = cc f in ap (λ (r : Refusal). Err r) same) is

-- a call of the log that is refused as one in it was
pub of_same : {A B : Type 0} (old new : DiskState) (refusal : Refusal) → WritesDisk (IsErrOf {T = A} (Err refusal) log_refusals.DiskFault) old new
    → WritesDisk (IsErrOf {T = B} (Err refusal) log_refusals.DiskFault) old new
of_same {A} {B} old new refusal is = writes_as _ _ old new
    (λ f. let same : refusal ≡ log_refusals.DiskFault = cc f in ap (λ (r : Refusal). Err r) same)
    (λ f. let same : refusal ≡ log_refusals.DiskFault = cc f in ap (λ (r : Refusal). Err r) same) is

-- a call that met no fault, after one of the log that was answered
pub of_ok : {A : Type 0} (other : Type 0) (old new : DiskState) (value : A) → (other → ⊥) → WritesDisk (IsErrOf (Ok value) log_refusals.DiskFault) old new
    → WritesDisk other old new
of_ok {A} other old new value fine is = writes_as _ other old new (λ f. absurd (cc f)) (λ f. absurd (fine f)) is

-- why no open transaction was at hand is no fault
pub not_found : (s : Store) (number : ℕ) (refusal : TxnRefusal) → IsNotFound s number refusal → is_fault refusal ≡ false
not_found s number refusal is = elim is [ inl broken ↦ ap is_fault broken.1 | inr none ↦ ap is_fault none.2 ]

pub where_not : (b : Bool) (A B : Type 0) → b ≡ false → MatchBool b A B → B
where_not true A B e x = absurd (cc e)
where_not false A B e x = x

pub where_so : (b : Bool) (A B : Type 0) → b ≡ true → MatchBool b A B → A
where_so true A B e x = x
where_so false A B e x = absurd (cc e)

-- a call of the log that doesn't call the disk is answered no fault of it
pub no_fault : {A : Type 0} (told : Bool) (s : State) (client : ℕ) (call : Call) (answer : A → Reply) (result : Result A Refusal) (t : State) → s.broken ≡ false
    → calls_disk s call ≡ false → Steps told s client call answer result t → IsErrOf result log_refusals.DiskFault → ⊥
unfolding Step
no_fault {A} told s client call answer result t whole quiet steps is =
    let step : Step told s client call Fault (replies.Refused log_refusals.DiskFault) t = subst (λ (r : Result A Refusal). Steps told s client call answer r t) is steps in
    elim (where_not s.broken _ _ whole step) [
      | inl lacks ↦ let other = lacks.1.0 in absurd (cc other)
      | inr goes ↦ let called = goes.1.0 in absurd (cc (called, quiet))
    ]

pub either : {X : Type 0} (o : Option X) (N : Type 0) (S : X → Type 0) → MatchOption o N S → ((o ≡ None) × N) ⊎ ((x : X) × ((o ≡ Some x) × S x))
either None N S h = inl (refl, h)
either (Some x) N S h = inr (x, (refl, h))

no_want_answered : (o : Option Area) (s : State) (sectors : ℕ)
    → replies.Refused log_refusals.NoMemory ≡ (option_map_or (λ (area : Area). released s area sectors) o (outcome (replies.Refused log_refusals.NoSuchArea) s)).reply → ⊥
no_want_answered None s sectors e = absurd (cc e)
no_want_answered (Some area) s sectors e = absurd (cc e)

-- giving up sectors takes no memory
pub no_want : ((s : State) (client : ℕ) (call : Call) (given : Refusal) → refusal s client call ≡ Some given → is_of_call given ≡ true)
    → (s : State) (client area sectors : ℕ) (result : Result ℕ Refusal) (t : State) → s.broken ≡ false
    → Steps true s client (calls.Release area sectors) replies.Held result t → IsErrOf result log_refusals.NoMemory → ⊥
unfolding Step
no_want own s client area sectors result t whole steps is =
    let step : Step true s client (calls.Release area sectors) Fine (replies.Refused log_refusals.NoMemory) t
    = subst (λ (r : Result ℕ Refusal). Steps true s client (calls.Release area sectors) replies.Held r t) is steps in
    elim (where_not s.broken _ _ whole step) [
      | inl lacks ↦ absurd (cc (lacks.0))
      | inr goes ↦ elim (either (refusal s client (calls.Release area sectors)) _ _ goes) [
        | inl comes ↦ no_want_answered (area_of s client area) s sectors comes.1.0
        | inr refused ↦
            let same : replies.Refused log_refusals.NoMemory ≡ replies.Refused refused.0 = refused.1.1.0 in
            let other : log_refusals.NoMemory ≡ refused.0 = cc same in
            let listed : is_of_call refused.0 ≡ true = own s client (calls.Release area sectors) refused.0 refused.1.0 in
            let none : is_of_call log_refusals.NoMemory ≡ true = ap is_of_call other ∙ listed in absurd (cc none)
      ]
    ]
