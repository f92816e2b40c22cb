-- What a store knows of its log while it takes sets back: where a cursor is, and to which record another one leads.
use Rattle.std.specs.Prelude.{◌≡◌, ℕ, Some, find}
use Rattle.clfs_lsn.specs.declared.cursor.CursorKind.TheVariants.{Records}
use Rattle.clfs_lsn.specs.declared.cursor.Mode.{Mode}
use Rattle.clfs_lsn.specs.declared.entry.LogEntry.{LogEntry}
use Rattle.clfs_model.specs.declared.state.Area.{Area}
use Rattle.clfs_model.specs.declared.state.State.{State}
use Rattle.clfs_model.specs.Reading.{entry_at, record_cursor}
use Rattle.clfs_model.specs.State.{area_of}
use Rattle.clfs_cells.specs.declared.begun.Made.{Made}
use Rattle.clfs_cells.specs.Stored.{Memory, Transaction, is_at, transaction}

-- A client's cursor, by the numbers of its area and its own, is at the record of this LSN and goes on in this mode.
pub record IsAt (log : State) (client number cursor : ℕ) (mode : Mode) (lsn : ℕ) : Type 0 where
  pub area : Area
  pub there : area_of log client number ≡ Some area
  pub on : record_cursor area cursor ≡ Some (record { number = cursor; kind = Records mode; last = lsn })

-- the record of this LSN has this undo-next link
pub record HasLink (log : State) (lsn link : ℕ) : Type 0 where
  pub entry : LogEntry
  pub there : entry_at log lsn ≡ Some entry
  pub linked : entry.undo_next ≡ link

-- the open transaction of this number has made the set of this LSN
pub record IsSet (memory : Memory) (number lsn : ℕ) : Type 0 where
  pub txn : Transaction
  pub set : Made
  pub open_one : transaction memory number ≡ Some txn
  pub there : find (is_at lsn) txn.made ≡ Some set

-- these are that transaction and that set
pub record IsSetOf (memory : Memory) (number lsn : ℕ) (t : Transaction) (made : Made) : Type 0 where
  pub open_one : transaction memory number ≡ Some t
  pub numbered : t.number ≡ number
  pub there : find (is_at lsn) t.made ≡ Some made
  pub at : made.lsn ≡ lsn
