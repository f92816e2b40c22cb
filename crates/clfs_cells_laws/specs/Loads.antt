-- What loading comes to, as facts of the store and of the log that it leaves.
use Rattle.std.specs.Prelude.{◌≤◌, ◌≡◌, ◌≢◌, ◌⊎◌, ℕ, Bool, true, false, [], length, Some, None, IsSome, MatchBool}
use Rattle.std.specs.List.{AllByRecursion}
use Rattle.clfs_model.specs.declared.refusal.Refusal.TheVariants as log_refusals
use Rattle.clfs_model.specs.declared.state.State.{State}
use Rattle.clfs_model.specs.Live.{live, live_at}
use Rattle.clfs_model.specs.Refusals.{stream_number}
use Rattle.clfs_model.specs.State.{area_of, areas_of}
use Rattle.clfs_cells.specs.declared.told.TxnLoadRefusal.{TxnLoadRefusal}
use Rattle.clfs_cells.specs.declared.told.TxnLoadRefusal.TheVariants.{Log, NotATable}
use Rattle.clfs_cells.specs.Layout.{cell_count}
use Rattle.clfs_cells.specs.Loaded.{last_of, load_refusal, table_area, table_stream}
use Rattle.clfs_cells.specs.Stored.{Memory}
use Rattle.clfs_cells.specs.declared.row.TxnRecord.{TxnRecord}
use Rattle.clfs_cells.specs.Table.{records_after, table, table_name}

-- A store that was loaded from a log, and the log that it has, of whose stream a record is live. Over a disk that tells what it holds its cells are the table, and the next transaction gets
-- the number above the last one.
pub record IsLoaded (told : Bool) (log : State) (client : ℕ) (memory : Memory) (t : State) : Type 0 where
  pub by : memory.client ≡ client
  pub stream : stream_number t table_name ≡ Some memory.stream
  pub some : live t memory.stream ≢ []
  pub area : area_of t client memory.area ≡ Some (record (table_area log client) { number = memory.area; stream = memory.stream })
  pub none : memory.transactions ≡ []
  pub whole : t.broken ≡ false
  pub long : length memory.cells ≡ cell_count
  pub below : told ≡ true → AllByRecursion (λ (r : TxnRecord). r.txn ≤ memory.last) (records_after t memory.stream)
  pub cells : told ≡ true → memory.cells ≡ table log
  pub last : told ≡ true → memory.last ≡ last_of log
  pub fine : told ≡ true → load_refusal log client ≡ None
  pub table : table t ≡ table log

-- Why loading may be refused: memory ran out, or the log tells a fault of the disk or damage; else for what is refused first. What a record says is
-- known only of a disk that tells what it holds.
abbrev pub IsLoadCause : Bool → State → ℕ → TxnLoadRefusal → Type 0
IsLoadCause told log client (Log log_refusals.NoMemory) = log.broken ≡ false
IsLoadCause told log client (Log log_refusals.DiskFault) = log.broken ≡ false
IsLoadCause told log client (Log (log_refusals.Damaged container offset at)) = log.broken ≡ false
IsLoadCause told log client (Log given) = load_refusal log client ≡ Some (Log given)
IsLoadCause told log client (NotATable lsn) =
    MatchBool told (load_refusal log client ≡ Some (NotATable lsn)) (IsSome (live_at log (table_stream log) lsn))

-- Loading was refused, and this is the log that it left: with the same table, and without an area of the client unless it is broken.
pub record IsNotLoaded (told : Bool) (log : State) (client : ℕ) (cause : TxnLoadRefusal) (t : State) : Type 0 where
  pub caused : IsLoadCause told log client cause
  pub left : (t.broken ≡ true) ⊎ (areas_of t client ≡ [])
  pub table : table t ≡ table log
