-- What loading comes to, said of the log alone: the table and the last number of a transaction, and the reasons for which it is refused.
use Rattle.std.specs.Prelude.{ℕ, ◌+◌, false, ◌==◌, if◌then◌else◌, length, find, Option, Some, is_none}
use Rattle.std.specs.Option.{option_map, option_map_or, option_and_then}
use Rattle.clfs_lsn.specs.Lsn.{null_lsn}
use Rattle.clfs_lsn.specs.declared.entry.LogEntry.{LogEntry}
use Rattle.clfs_model.specs.declared.call.Call.{Call}
use Rattle.clfs_model.specs.declared.call.Call.TheVariants as log_calls
use Rattle.clfs_model.specs.declared.refusal.Refusal.{Refusal}
use Rattle.clfs_model.specs.declared.refusal.Refusal.TheVariants as log_refusals
use Rattle.clfs_model.specs.declared.state.Area.{Area}
use Rattle.clfs_model.specs.declared.state.State.{State}
use Rattle.clfs_model.specs.Answers.{opened, created, new_area}
use Rattle.clfs_model.specs.Live.{last_live}
use Rattle.clfs_model.specs.Reading.{newest_restart}
use Rattle.clfs_model.specs.Refusals.{open_refusal, refusal, stream_number}
use Rattle.clfs_cells.specs.declared.checkpoint.Checkpoint.{Checkpoint}
use Rattle.clfs_cells.specs.declared.told.TxnLoadRefusal.{TxnLoadRefusal}
use Rattle.clfs_cells.specs.declared.told.TxnLoadRefusal.TheVariants.{Log, NotATable}
use Rattle.clfs_cells.specs.Layout.{blank_checkpoint, checkpoint_bytes, checkpoint_of, txn_record_of}
use Rattle.clfs_cells.specs.Loading.{area_largest, area_reads, last_number}
use Rattle.clfs_cells.specs.Table.{table_name, entries_after, records_after}

-- the number of the table's stream: its own, or that of a stream that is opened now
abbrev pub table_stream : State → ℕ
table_stream log = option_map_or (λ number. number) (stream_number log table_name) (length log.streams + 1)

-- the log once the table's stream is open
abbrev pub with_stream : State → State
with_stream log = (opened log table_name).state

-- the area that a client gets for its table
abbrev pub table_area : State → ℕ → Area
table_area log client = new_area (with_stream log) client (table_stream log) area_largest area_reads

-- the log once it has the area
abbrev pub with_table_area : State → ℕ → State
with_table_area log client = (created (with_stream log) (table_area log client)).state

-- a table's first restart area: zeros, and no new base
abbrev pub first_restart : ℕ → Call
first_restart area = log_calls.WriteRestart area (checkpoint_bytes blank_checkpoint) null_lsn false

-- the first record above the newest restart area that is of another layout
abbrev pub stranger : State → ℕ → Option ℕ
stranger s stream = option_map (λ (entry : LogEntry). entry.lsn)
    (find (λ (entry : LogEntry). is_none (txn_record_of entry.bytes)) (entries_after s stream))

-- The record by which the live records of a stream are no table: the last one where there is no restart area, the newest restart area, or the first
-- above it that is of another layout.
abbrev pub no_table_at : State → ℕ → Option ℕ
no_table_at s stream = option_map_or
    (λ (restart : LogEntry). if is_none (checkpoint_of restart.bytes) then Some restart.lsn else stranger s stream)
    (newest_restart s stream) (Some (last_live s stream))

-- Why a table isn't loaded, where nothing happens and memory suffices: the log is broken, the stream can't be made, there is no room for its first
-- restart area, or what it has is no table.
abbrev pub load_refusal : State → ℕ → Option TxnLoadRefusal
load_refusal log client =
    if log.broken then Some (Log log_refusals.Broken)
    else option_map_or (λ (given : Refusal). Some (Log given)) (open_refusal log table_name)
    (if last_live log (table_stream log) == null_lsn
    then option_map Log (refusal (with_table_area log client) client (first_restart (table_area log client).number))
    else option_map NotATable (no_table_at log (table_stream log)))

-- the last number in the newest restart area of a stream, or 0
abbrev pub first_last : State → ℕ → ℕ
first_last s stream = option_map_or (λ (c : Checkpoint). c.last)
    (option_and_then (λ (entry : LogEntry). checkpoint_of entry.bytes) (newest_restart s stream)) 0

-- the last number of a transaction in a log's table: the greatest of that in the newest restart area and those above it
abbrev pub last_of : State → ℕ
last_of log = last_number (first_last log (table_stream log)) (records_after log (table_stream log))
