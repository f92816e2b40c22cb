-- What a step of a store says of it between two calls, by what the call answered.
use Rattle.clfs_txn.proofs.Words.{◌≡◌, Bool, Result, Ok, Err, subst, IsErrOf, OnOk, Refusal, TxnCall, TxnRefusal, TxnReply, TxnStep, Store, IsKeptStore}
use Rattle.clfs_txn.proofs.Words.{TxnSteps}
use Rattle.clfs_cells.specs.declared.told.TxnRefusal.TheVariants as refusals
use Rattle.clfs_cells.specs.declared.told.TxnReply.TheVariants as replies

-- what is known of the store that makes a call, and how the call went
pub record Went {A : Type 0} (tabled told : Bool) (s : Store) (call : TxnCall) (answer : A → TxnReply) (result : Result A TxnRefusal) (t : Store) : Type 0 where
  pub kept : IsKeptStore tabled s.log s.memory
  pub step : TxnSteps told s call answer result t

-- the same by what a contract sees of the store
pub went : {A D : Type 0} (tabled told : Bool) (inside seen : Store × D) (call : TxnCall) (answer : A → TxnReply) (result : Result A TxnRefusal) (t : Store) → inside ≡ seen
    → IsKeptStore tabled inside.0.log inside.0.memory → TxnSteps told inside.0 call answer result t → Went tabled told seen.0 call answer result t
went {A} {D} tabled told inside seen call answer result t view kept step = record {
  kept = subst (λ (v : Store × D). IsKeptStore tabled v.0.log v.0.memory) view kept;
  step = subst (λ (v : Store × D). TxnSteps told v.0 call answer result t) view step;
}

pub if_done : {A P : Type 0} (told : Bool) (s t : Store) (call : TxnCall) (answer : A → TxnReply) (result : Result A TxnRefusal)
    → ((value : A) → TxnStep told s call (answer value) t → P) → TxnSteps told s call answer result t → OnOk result P
if_done told s t call answer (Ok value) then step = then value step
if_done told s t call answer (Err refusal) then step = tt

pub if_refused : {A : Type 0} (P : Refusal → Type 0) (told : Bool) (s t : Store) (call : TxnCall) (answer : A → TxnReply) (result : Result A TxnRefusal)
    → ((given : Refusal) → TxnStep told s call (replies.Refused (refusals.Log given)) t → P given) → TxnSteps told s call answer result t
    → (given : Refusal) → IsErrOf result (refusals.Log given) → P given
if_refused {A = A} P told s t call answer result then step given is =
    then given (subst (λ (r : Result A TxnRefusal). TxnSteps told s call answer r t) is step)
