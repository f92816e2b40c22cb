-- What a call of a store answers, as a step of its definition.
use Rattle.std.specs.Prelude.{◌≡◌, ◌⊎◌, ℕ, Bool, true, false, Some, None, Result, Ok, Err}
use Rattle.clfs_model.specs.declared.call.Draft.{Draft}
use Rattle.clfs_cells.specs.declared.checkpoint.Checkpoint.{Checkpoint}
use Rattle.clfs_cells.specs.declared.row.Action.{Action}
use Rattle.clfs_cells.specs.Layout.{txn_bytes, txn_record}
use Rattle.clfs_cells.specs.Stored.{Memory, Transaction, transaction}
use Rattle.clfs_model.specs.declared.refusal.Refusal.{Refusal}
use Rattle.clfs_model.specs.declared.refusal.Refusal.TheVariants as log_refusals
use Rattle.clfs_cells.specs.declared.asked.TxnCall.{TxnCall}
use Rattle.clfs_cells.specs.declared.told.TxnRefusal.{TxnRefusal}
use Rattle.clfs_cells.specs.declared.told.TxnRefusal.TheVariants as refusals
use Rattle.clfs_cells.specs.declared.told.TxnReply.{TxnReply}
use Rattle.clfs_cells.specs.declared.told.TxnReply.TheVariants as replies
use Rattle.clfs_cells.specs.Calls.{Answered, TxnStep, stops, with_read_ended}
use Rattle.clfs_cells.specs.Plans.{Plan, CarriesOut}
use Rattle.clfs_model.specs.declared.state.State.{State}
use Rattle.clfs_cells.specs.Stored.{Store}
use Rattle.clfs_txn.specs.UnderWay.{LeavesCalls, UnderWay}

-- an answer as the store's reply
abbrev pub replied : {A : Type 0} → (A → TxnReply) → Result A TxnRefusal → TxnReply
replied answer (Ok value) = answer value
replied answer (Err refusal) = replies.Refused refusal

-- A call was answered so, which is a step from one store to another.
abbrev pub TxnSteps : {A : Type 0} → Bool → Store → TxnCall → (A → TxnReply) → Result A TxnRefusal → Store → Type 0
TxnSteps told s call answer result t = TxnStep told s call (replied answer result) t

-- the refusals after which a log answers nothing else
abbrev pub is_break : Refusal → Bool
is_break log_refusals.DiskFault = true
is_break (log_refusals.Damaged container offset at) = true
is_break _ = false

-- whether a store is refused by such a refusal of its log
abbrev pub is_fault : TxnRefusal → Bool
is_fault (refusals.Log refusal) = is_break refusal
is_fault _ = false

-- whether an answer is such a refusal
abbrev pub breaks : {A : Type 0} → Result A Refusal → Bool
breaks (Ok value) = false
breaks (Err refusal) = is_break refusal

-- a transaction's record, as it is appended
abbrev pub draft_of : Transaction → Action → ℕ → Bool → Draft
draft_of t action undo_next flush = record {
  bytes = txn_bytes (txn_record t.number action);
  previous = t.last;
  undo_next = undo_next;
  seal = false;
  flush = flush;
}

-- an open transaction of this number is this one, and the log isn't broken
pub record IsFound (s : Store) (number : ℕ) (t : Transaction) : Type 0 where
  pub whole : s.log.broken ≡ false
  pub there : transaction s.memory number ≡ Some t
  pub numbered : t.number ≡ number

-- why no open transaction of this number is at hand
abbrev pub IsNotFound : Store → ℕ → TxnRefusal → Type 0
IsNotFound s number refusal =
    ((s.log.broken ≡ true) × (refusal ≡ refusals.Log log_refusals.Broken))
    ⊎ ((s.log.broken ≡ false) × (transaction s.memory number ≡ None) × (refusal ≡ refusals.NoSuchTxn))

-- A plan was carried out, with this answer.
abbrev pub Carries : {A : Type 0} → Bool → Store → Plan Answered → (A → TxnReply) → Result A TxnRefusal → Store → Type 0
Carries told s plan answer result t = CarriesOut told s.memory.client s.log plan (record { reply = replied answer result; memory = t.memory }) t.log

-- what a checkpoint has
abbrev pub checkpoint_of : Memory → Checkpoint
checkpoint_of memory = record { cells = memory.cells; last = memory.last }

-- Part of a plan was carried out, up to this rest: whoever carries the rest out has carried out the plan, and what a crash leaves in the plan's calls it leaves
-- in those of the rest.
pub record LeadsTo (A : Type 0) (told : Bool) (client : ℕ) (log : State) (plan : Plan A) (mid : State) (rest : Plan A) : Type 0 where
  pub carried : (result : A) (t : State) → CarriesOut told client mid rest result t → CarriesOut told client log plan result t
  pub goes : (under : UnderWay) → LeavesCalls under told client log plan → LeavesCalls under told client mid rest

-- so with the plan of a store's call
abbrev pub Leads : Bool → ℕ → State → Plan Answered → State → Plan Answered → Type 0
Leads = LeadsTo Answered

-- how a plan goes on after sets that were taken back, or after the refusal that stopped it
abbrev pub or_stopped : {A : Type 0} → (Memory → Plan Answered) → Result A Refusal → Memory → Plan Answered
or_stopped rest (Ok value) memory = rest memory
or_stopped rest (Err refusal) memory = stops memory refusal

-- the same of one set, where the cursor ends if it was refused
abbrev pub or_ended : {A : Type 0} → ℕ → (Memory → Plan Answered) → Result A Refusal → Memory → Plan Answered
or_ended cursor rest (Ok value) memory = rest memory
or_ended cursor rest (Err refusal) memory = with_read_ended memory cursor (stops memory refusal)

-- what a store's calls of its log leave as it is: whose area it is
pub record HasSameArea (old new : Memory) : Type 0 where
  pub client : new.client ≡ old.client
  pub area : new.area ≡ old.area

-- the log refused a call of the store
abbrev pub is_of_log : TxnRefusal → Bool
is_of_log (refusals.Log refusal) = true
is_of_log _ = false
