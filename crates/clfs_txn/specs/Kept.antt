-- What is always true of a store.
use Rattle.std.specs.Prelude.{◌≡◌, ◌⊎◌, Bool, IsSome, find}
use Rattle.std.specs.List.{AllByRecursion}
use Rattle.clfs_lsn.specs.Lsn.{null_lsn}
use Rattle.clfs_model.specs.declared.state.State.{State}
use Rattle.clfs_model.specs.Conditions.{IsClient}
use Rattle.clfs_cells.specs.declared.begun.Made.{Made}
use Rattle.clfs_cells.specs.Stored.{Memory, Store, Transaction, is_at}
use Rattle.clfs_txn.specs.Reading.{HasLink}

-- a log and what is kept beside it
abbrev pub store_of : State → Memory → Store
store_of log memory = record { log = log; memory = memory }

-- A set that a transaction made is a record of the log, and its undo-next link is what memory has as that: null, or another set of the transaction.
pub record IsLogged (log : State) (t : Transaction) (made : Made) : Type 0 where
  pub linked : HasLink log made.lsn made.undo_next
  pub next : (made.undo_next ≡ null_lsn) ⊎ IsSome (find (is_at made.undo_next) t.made)

-- so are all sets of a transaction
abbrev pub AreLogged : State → Transaction → Type 0
AreLogged log t = AllByRecursion (IsLogged log t) t.made

-- It knows whether its log is broken, its client is one that a log can have, and the log has the sets of all open transactions: where undoing goes
-- along their links, it comes to such sets alone.
pub record IsKept (log : State) (memory : Memory) (broken : Bool) : Type 0 where
  pub knows : broken ≡ log.broken
  pub client : IsClient memory.client
  pub logged : AllByRecursion (AreLogged log) memory.transactions
