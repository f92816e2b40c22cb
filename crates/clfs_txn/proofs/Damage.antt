-- A refusal of the log that a call of a store hands on.
use Rattle.clfs_txn.proofs.Words.{◌≡◌, ap, Err, IsErrOf, Refusal}
use Rattle.clfs_cells.specs.declared.told.TxnRefusal.TheVariants.{Log}

-- by one call of the log as by another
pub handed_on : {A B : Type 0} (refusal other : Refusal) → IsErrOf {T = A} (Err refusal) other → IsErrOf {T = B} (Err refusal) other
handed_on {A} {B} refusal other is = let same : refusal ≡ other = cc is in ap (λ (r : Refusal). Err r) same

-- as the store's own
pub of_the_log : {A B : Type 0} (refusal other : Refusal) → IsErrOf {T = A} (Err (Log refusal)) (Log other) → IsErrOf {T = B} (Err refusal) other
of_the_log {A} {B} refusal other is =
    let one : Log refusal ≡ Log other = cc is in let same : refusal ≡ other = cc one in ap (λ (r : Refusal). Err r) same
