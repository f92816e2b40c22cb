-- What loading comes to, and how its parts go on.
use Rattle.std.specs.Prelude.{◌≡◌, ◌≢◌, ◌⊎◌, ℕ, Bool, true, false, List, [], ◌∷◌, ◌++◌, Some, None, IsSome, Result, Ok, Err}
use Rattle.std.specs.Option.{option_map_or}
use Rattle.clfs_lsn.specs.declared.cursor.Cursor.{Cursor}
use Rattle.clfs_lsn.specs.declared.cursor.CursorKind.TheVariants.{Records}
use Rattle.clfs_lsn.specs.declared.cursor.Mode.TheVariants.{Forward}
use Rattle.clfs_lsn.specs.declared.entry.LogEntry.{LogEntry}
use Rattle.clfs_model.specs.declared.call.Call.TheVariants as log_calls
use Rattle.clfs_model.specs.declared.refusal.Refusal.{Refusal}
use Rattle.clfs_model.specs.declared.refusal.Refusal.TheVariants as log_refusals
use Rattle.clfs_model.specs.declared.state.Area.{Area}
use Rattle.clfs_model.specs.declared.state.State.{State}
use Rattle.clfs_model.specs.Reading.{record_cursor}
use Rattle.clfs_model.specs.State.{area_of}
use Rattle.clfs_laws.specs.Cursors.{StillGives, still_to_come}
use Rattle.clfs_cells.specs.declared.row.TxnRecord.{TxnRecord}
use Rattle.clfs_cells.specs.declared.told.TxnLoadRefusal.{TxnLoadRefusal}
use Rattle.clfs_cells.specs.declared.told.TxnLoadRefusal.TheVariants.{Log, NotATable}
use Rattle.clfs_cells.specs.Layout.{blank_cells, txn_record_of}
use Rattle.clfs_cells.specs.Loading.{Loaded, gives_up, read_records}
use Rattle.clfs_cells.specs.Plans.{Plan, calls, ends}
use Rattle.clfs_cells.specs.Stored.{Memory}

-- ---- what loading comes to

-- what a load that answered so came to
abbrev pub loaded_of : {S R : Type 0} → (S → Memory) → (R → TxnLoadRefusal) → Result S R → Loaded
loaded_of memory cause (Ok store) = Ok (memory store)
loaded_of memory cause (Err refused) = Err (cause refused)

-- what a load answered leaves, of the store or of what is given back with a refusal
abbrev pub left_by : {S R T : Type 0} → (S → T) → (R → T) → Result S R → T
left_by of_store of_refused (Ok store) = of_store store
left_by of_store of_refused (Err refused) = of_refused refused

-- ---- how the parts of loading go on

-- a store's memory before its table was read
abbrev pub unread : ℕ → ℕ → ℕ → Memory
unread client area stream = record { client = client; area = area; stream = stream; cells = blank_cells; transactions = []; last = 0 }

-- the log answered that it is broken
abbrev pub says_broken : {A : Type 0} → Result A Refusal → Bool
says_broken (Err log_refusals.Broken) = true
says_broken _ = false

-- how loading goes on by the area that was made: with it, or with the refusal
abbrev pub or_refused : (ℕ → ℕ → Plan Loaded) → Result Memory Refusal → Plan Loaded
or_refused rest (Ok memory) = rest memory.area memory.stream
or_refused rest (Err refusal) = ends (Err (Log refusal))

-- how loading goes on after a part of it: it is done, or given up
abbrev pub or_given_up : Memory → Result Unit TxnLoadRefusal → Plan Loaded
or_given_up memory (Ok done) = ends (Ok memory)
or_given_up memory (Err cause) = gives_up memory.area cause

-- a record that was read is one of the table, and joins those before it
pub record Taken (entry : LogEntry) (old new : List TxnRecord) : Type 0 where
  pub row : TxnRecord
  pub spelled : txn_record_of entry.bytes ≡ Some row
  pub joined : new ≡ old ++ row ∷ []

-- it is none, or memory ran out
abbrev pub IsNotTaken : LogEntry → TxnLoadRefusal → Type 0
IsNotTaken entry cause =
    ((txn_record_of entry.bytes ≡ None) × (cause ≡ NotATable entry.lsn))
    ⊎ (IsSome (txn_record_of entry.bytes) × (cause ≡ Log log_refusals.NoMemory))

-- What came of a reply to reading on: a record joined those before it or couldn't, or there is none more.
abbrev pub IsJoined : Result LogEntry Refusal → List TxnRecord → List TxnRecord → Result Bool TxnLoadRefusal → Type 0
IsJoined (Ok entry) old new (Ok true) = Taken entry old new
IsJoined (Ok entry) old new (Ok false) = ⊥
IsJoined (Ok entry) old new (Err cause) = IsNotTaken entry cause
IsJoined (Err refusal) old new (Ok true) = ⊥
IsJoined (Err refusal) old new (Ok false) = (refusal ≡ log_refusals.EndOfLog) × (new ≡ old)
IsJoined (Err refusal) old new (Err cause) = (refusal ≢ log_refusals.EndOfLog) × (cause ≡ Log refusal)

-- how reading a table goes on: after a record, at the end of the stream, or where it is given up
abbrev pub or_ended_read : ℕ → ℕ → ℕ → List TxnRecord → (List TxnRecord → Memory) → Result Bool TxnLoadRefusal → Plan Loaded
or_ended_read more area cursor records whole (Ok true) = read_records more area cursor records whole
or_ended_read more area cursor records whole (Ok false) = calls (log_calls.EndRead area cursor) (λ _. ends (Ok (whole records)))
or_ended_read more area cursor records whole (Err cause) = gives_up area cause

-- the same after all records
abbrev pub or_all_read : ℕ → ℕ → List TxnRecord → (List TxnRecord → Memory) → Result Unit TxnLoadRefusal → Plan Loaded
or_all_read area cursor records whole (Ok done) = calls (log_calls.EndRead area cursor) (λ _. ends (Ok (whole records)))
or_all_read area cursor records whole (Err cause) = gives_up area cause

-- the records to which a cursor of an area still comes, which goes forward
abbrev pub to_come_in : State → ℕ → Area → List LogEntry
to_come_in log cursor area = option_map_or (λ (at : Cursor). still_to_come log area.stream (Records Forward) at.last) (record_cursor area cursor) []

-- the same by the client, and the numbers of its area and of the cursor
abbrev pub to_come : State → ℕ → ℕ → ℕ → List LogEntry
to_come log client number cursor = option_map_or (to_come_in log cursor) (area_of log client number) []

-- The cursor is there and goes forward.
abbrev pub GoesForward : State → ℕ → ℕ → ℕ → Type 0
GoesForward log client number cursor = StillGives log client number cursor (Records Forward) (to_come log client number cursor)
