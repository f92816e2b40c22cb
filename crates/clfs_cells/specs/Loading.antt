-- Loading: how a store comes to be over a log. The stream is opened and gets an area. A stream without live records gets a restart area of zeros;
-- else the newest restart area is read, and all that stands above it.
use Rattle.std.specs.Prelude.{ℕ, zero, suc, max, Bool, false, ◌==◌, if◌then◌else◌, List, [], ◌∷◌, ◌++◌, length, Result, Ok, Err}
use Rattle.std.specs.Option.{option_map_or}
use Rattle.clfs_lsn.specs.Lsn.{null_lsn}
use Rattle.clfs_lsn.specs.declared.cursor.Mode.TheVariants.{Forward}
use Rattle.clfs_lsn.specs.declared.entry.LogEntry.{LogEntry}
use Rattle.clfs_model.specs.declared.call.Call.TheVariants as log_calls
use Rattle.clfs_model.specs.declared.info.LogInfo.{LogInfo}
use Rattle.clfs_model.specs.declared.refusal.Refusal.{Refusal}
use Rattle.clfs_model.specs.declared.refusal.Refusal.TheVariants as log_refusals
use Rattle.clfs_model.specs.declared.reply.Reply.{Reply}
use Rattle.clfs_model.specs.declared.reply.Reply.TheVariants as replies
use Rattle.clfs_model.specs.declared.state.State.{State}
use Rattle.clfs_cells.specs.declared.checkpoint.Checkpoint.{Checkpoint}
use Rattle.clfs_cells.specs.declared.row.TxnRecord.{TxnRecord}
use Rattle.clfs_cells.specs.declared.told.TxnLoadRefusal.{TxnLoadRefusal}
use Rattle.clfs_cells.specs.declared.told.TxnLoadRefusal.TheVariants as refusals
use Rattle.clfs_cells.specs.Layout.{blank_checkpoint, checkpoint_bytes, checkpoint_of, txn_record_of}
use Rattle.clfs_cells.specs.Table.{table_name, changed, committed}
use Rattle.clfs_cells.specs.Plans.{Plan, ends, calls, never, CarriesOut, on_placed, on_found, on_info, on_stream, on_area}
use Rattle.clfs_cells.specs.Stored.{Memory}

-- what loading comes to
abbrev pub Loaded : Type 0
Loaded = Result Memory TxnLoadRefusal

-- the most bytes of data of the area's records: those of a restart area
abbrev pub area_largest : ℕ
area_largest = 260

-- the most cursors that the area has at a time
abbrev pub area_reads : ℕ
area_reads = 2

-- the last number of a transaction: the greatest of those in the newest restart area and in the records above it, whatever they say
abbrev pub last_number : ℕ → List TxnRecord → ℕ
last_number last [] = last
last_number last (r ∷ records) = last_number (max last r.txn) records

-- a restart area brought up to date by the records above it
abbrev pub replayed : Checkpoint → List TxnRecord → Checkpoint
replayed c records = record { cells = changed c.cells (committed records); last = last_number c.last records }

-- what a store keeps that has just been loaded, of a restart area and the records above it
abbrev pub memory_of : ℕ → ℕ → ℕ → Checkpoint → List TxnRecord → Memory
memory_of client area stream c records = record {
  client = client;
  area = area;
  stream = stream;
  cells = (replayed c records).cells;
  transactions = [];
  last = (replayed c records).last;
}

-- Loading is refused. It leaves the client no area, unless the log is broken.
abbrev pub gives_up : ℕ → TxnLoadRefusal → Plan Loaded
gives_up area refusal = calls (log_calls.DeleteArea area) (λ _. ends (Err refusal))

-- the log refused a call
abbrev pub stopped : ℕ → Refusal → Plan Loaded
stopped area refusal = gives_up area (refusals.Log refusal)

-- how reading goes on: with a further record, or with what all of them make
abbrev pub on_more : ℕ → (LogEntry → Plan Loaded) → Plan Loaded → Reply → Plan Loaded
on_more area go done (replies.Next entry) = go entry
on_more area go done (replies.Refused log_refusals.EndOfLog) = done
on_more area go done (replies.Refused refusal) = stopped area refusal
on_more area go done _ = never

-- The records that come next, so many at most, are read after these. One of another layout ends the loading.
abbrev pub read_records : ℕ → ℕ → ℕ → List TxnRecord → (List TxnRecord → Memory) → Plan Loaded
read_records zero area cursor records whole = never
read_records (suc more) area cursor records whole = calls (log_calls.ReadNext area cursor) (on_more area
    (λ (entry : LogEntry). option_map_or (λ (r : TxnRecord). read_records more area cursor (records ++ r ∷ []) whole) (txn_record_of entry.bytes)
    (gives_up area (refusals.NotATable entry.lsn)))
    (calls (log_calls.EndRead area cursor) (λ _. ends (Ok (whole records)))))

-- a stream that has no live record
abbrev pub load_new : ℕ → ℕ → ℕ → Plan Loaded
load_new client area stream = calls (log_calls.WriteRestart area (checkpoint_bytes blank_checkpoint) null_lsn false)
    (on_placed (stopped area) (λ _. ends (Ok (memory_of client area stream blank_checkpoint []))))

-- the records above a restart area
abbrev pub load_above : ℕ → ℕ → ℕ → ℕ → Checkpoint → ℕ → Plan Loaded
load_above most client area stream c lsn = calls (log_calls.Read area lsn Forward)
    (on_found (stopped area) (λ cursor _. read_records most area cursor [] (memory_of client area stream c)))

-- a stream that has a restart area
abbrev pub load_table : ℕ → ℕ → ℕ → ℕ → Plan Loaded
load_table most client area stream = calls (log_calls.ReadRestart area) (on_found (stopped area) (λ cursor (entry : LogEntry).
    calls (log_calls.EndRead area cursor) (λ _.
    option_map_or (λ c. load_above most client area stream c entry.lsn) (checkpoint_of entry.bytes) (gives_up area (refusals.NotATable entry.lsn)))))

-- what a stream's records begin with
abbrev pub load_stream : ℕ → ℕ → ℕ → ℕ → LogInfo → Plan Loaded
load_stream most client area stream info =
    if info.last == null_lsn then load_new client area stream
    else if info.restart == null_lsn then gives_up area (refusals.NotATable info.last)
    else load_table most client area stream

-- The table's stream is opened, and the client gets an area on it. What comes then goes on by the numbers of both.
abbrev pub in_table_area : (ℕ → ℕ → Plan Loaded) → Plan Loaded
in_table_area rest = calls (log_calls.OpenStream table_name) (on_stream (λ refusal. ends (Err (refusals.Log refusal))) (λ stream.
    calls (log_calls.CreateArea stream area_largest area_reads) (on_area (λ refusal. ends (Err (refusals.Log refusal))) (λ area. rest area stream))))

-- what is done once there is the area: the stream is asked for, and its table is read
abbrev pub load_area : ℕ → ℕ → ℕ → ℕ → Plan Loaded
load_area most client area stream = calls (log_calls.Info stream) (on_info (stopped area) (load_stream most client area stream))

-- loading for a client, of a log with so many records at most
abbrev pub load_plan : ℕ → ℕ → Plan Loaded
load_plan most client = in_table_area (load_area most client)

-- Loading: what it may come to, and the log that it leaves.
unfoldable pub LoadStep : Bool → State → ℕ → Loaded → State → Type 0
LoadStep told log client loaded t = CarriesOut told client log (load_plan (length log.records) client) loaded t
