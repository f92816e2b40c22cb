-- What a log's table is. It is read from the stream's live records alone: the cells of the newest restart area, changed by what was
-- committed after it. A set of a transaction that has no commit record among them counts for nothing, wherever that ended.
use Rattle.std.specs.Prelude.{ℕ, Bool, true, false, ◌&&◌, ◌==◌, nat_lt, List, [], ◌∷◌, filter, codes, slice_set}
use Rattle.std.specs.List.{filter_map, list_any}
use Rattle.std.specs.Option.{option_map_or, option_and_then}
use Rattle.clfs_lsn.specs.declared.entry.LogEntry.{LogEntry}
use Rattle.clfs_model.specs.declared.state.State.{State}
use Rattle.clfs_model.specs.Live.{live, lsn_or_null}
use Rattle.clfs_model.specs.Reading.{newest_restart}
use Rattle.clfs_model.specs.Refusals.{stream_number}
use Rattle.clfs_cells.specs.declared.row.Action.{Action}
use Rattle.clfs_cells.specs.declared.row.Action.TheVariants.{Set, Compensation, Commit, RolledBack}
use Rattle.clfs_cells.specs.declared.row.TxnRecord.{TxnRecord}
use Rattle.clfs_cells.specs.declared.checkpoint.Checkpoint.{Checkpoint}
use Rattle.clfs_cells.specs.Layout.{blank_cells, txn_record_of, checkpoint_of}

-- the name of the stream that keeps a table
abbrev pub table_name : List ℕ
table_name = codes "txn"

-- Both a set and its compensation give their cell the value after.
abbrev pub after_action : List ℕ → Action → List ℕ
after_action cells (Set change) = slice_set cells change.cell change.new
after_action cells (Compensation change) = slice_set cells change.cell change.new
after_action cells Commit = cells
after_action cells RolledBack = cells

-- the cells after these records, in their order
abbrev pub changed : List ℕ → List TxnRecord → List ℕ
changed cells [] = cells
changed cells (r ∷ records) = changed (after_action cells r.action) records

-- an action is the end of a transaction that counts
abbrev pub is_commit : Action → Bool
is_commit Commit = true
is_commit _ = false

-- these records have the commit of a transaction
abbrev pub is_committed : List TxnRecord → ℕ → Bool
is_committed records txn = list_any (λ (r : TxnRecord). (r.txn == txn) && is_commit r.action) records

-- the records of committed transactions
abbrev pub committed : List TxnRecord → List TxnRecord
committed records = filter (λ (r : TxnRecord). is_committed records r.txn) records

-- the live records of the stream above its newest restart area, or all live records where there is none
abbrev pub entries_after : State → ℕ → List LogEntry
entries_after s stream = filter (λ (entry : LogEntry). nat_lt (lsn_or_null (newest_restart s stream)) entry.lsn) (live s stream)

-- the table's records: those that these spell
abbrev pub records_after : State → ℕ → List TxnRecord
records_after s stream = filter_map (λ (entry : LogEntry). txn_record_of entry.bytes) (entries_after s stream)

-- the cells of the newest restart area, or zeros where there is none
abbrev pub first_cells : State → ℕ → List ℕ
first_cells s stream = option_map_or (λ (c : Checkpoint). c.cells)
    (option_and_then (λ (entry : LogEntry). checkpoint_of entry.bytes) (newest_restart s stream)) blank_cells

-- the table that a stream keeps
abbrev pub table_in : State → ℕ → List ℕ
table_in s stream = changed (first_cells s stream) (committed (records_after s stream))

-- the log's table, which is of zeros where the log has no such stream
abbrev pub table : State → List ℕ
table s = option_map_or (table_in s) (stream_number s table_name) blank_cells

-- the table, changed by what these transactions did besides, in its order
abbrev pub table_with : State → ℕ → List ℕ → List ℕ
table_with s stream transactions =
    changed (table_in s stream) (filter (λ (r : TxnRecord). list_any (λ txn. txn == r.txn) transactions) (records_after s stream))
