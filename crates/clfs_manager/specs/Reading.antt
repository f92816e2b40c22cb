-- The calls that read a record: what each leaves of the log and the disk, and what it answers.
use Rattle.std.specs.Option.{option_and_then}
use Rattle.std.specs.Prelude.{◌≡◌, ℕ, ◌≤◌, Bool, true, Option, Some, Result, Err, IsSome, IfOk, IfErr, IsErrOf, length}
use Rattle.clfs_lsn.specs.Head.{head_of}
use Rattle.clfs_lsn.specs.Size.{most_data}
use Rattle.clfs_lsn.specs.declared.entry.Head.{Head}
use Rattle.clfs_lsn.specs.declared.entry.LogEntry.{LogEntry}
use Rattle.clfs_disk.specs.Files.{Unchanged}
use Rattle.clfs_disk.specs.State.{DiskState, TellsContents, IsSteady, Passes, Rises, raised}
use Rattle.clfs_model.specs.declared.call.Call.{Call}
use Rattle.clfs_model.specs.declared.call.Call.TheVariants as calls
use Rattle.clfs_model.specs.declared.refusal.Refusal.{Refusal}
use Rattle.clfs_model.specs.declared.refusal.Refusal.TheVariants as refusals
use Rattle.clfs_model.specs.declared.reply.Happened.{Happened}
use Rattle.clfs_model.specs.declared.reply.Reply.{Reply}
use Rattle.clfs_model.specs.declared.state.Area.{Area}
use Rattle.clfs_model.specs.declared.state.State.{State}
use Rattle.clfs_model.specs.Conditions.{MeetsCondition}
use Rattle.clfs_model.specs.Flush.{flushed}
use Rattle.clfs_model.specs.Live.{live_at}
use Rattle.clfs_model.specs.Reading.{newest_restart, next_of_cursor, record_cursor, restart_cursor}
use Rattle.clfs_model.specs.Refusals.{refusal}
use Rattle.clfs_model.specs.Run.{asks, bad_line}
use Rattle.clfs_model.specs.Step.{Step}
use Rattle.clfs_model.specs.Storable.{IsStorable}
use Rattle.clfs_model.specs.Valid.{IsValid}
use Rattle.clfs_model.specs.Ways.{GoesTheseWays}
use Rattle.clfs_laws.specs.Refused.{is_of_call}
use Rattle.clfs_buffers.specs.Buffered.{kept_at}
use Rattle.clfs_buffers.specs.Reading.{TellsByte, block_place}
use Rattle.clfs_buffers.specs.declared.refusal.ReadRefusal.{ReadRefusal}
use Rattle.clfs_buffers.specs.declared.refusal.ReadRefusal.TheVariants as reads
use Rattle.clfs_manager.specs.Calls.{Steps}
use Rattle.clfs_manager.specs.Crashes.{CrashSurvives}
use Rattle.clfs_manager.specs.Fetching.{IsNeeded, IsReadAs, LeavesState, IsLeft, OnlyReads, TellsOf, TellsWhere}
use Rattle.clfs_manager.specs.OnDisk.{AreKept}
use Rattle.clfs_manager.specs.declared.log.Log.{Log}

-- The record at an LSN is read out of its block, or it isn't. Of the log the blocks that are kept change alone, and the disk isn't called where the block
-- is one of these.
pub record ReadsBlock {D : Type 0} (state : D → DiskState) (at : ℕ) (result : Result LogEntry ReadRefusal) (before after : Log) (old new : D) : Type 0 where
  pub told : IfErr result (λ refusal. TellsByte before.state.value.shape (length before.state.value.streams) at refusal)
  pub lsn : IfOk result (λ read. read.lsn ≡ at)
  pub small : IfOk result (λ read. length read.bytes ≤ most_data)
  pub log : after ≡ record before { buffers = after.buffers }
  pub kept : TellsContents (state old) → AreKept before.state.value after.buffers
  pub same : Unchanged (state old).files (state new).files
  pub time : Passes Unchanged (state old) (state new)
  pub cause : IsErrOf result reads.DiskFault → Rises (state old).faults (state new).faults
  pub steady : IsSteady (state old) → (IsErrOf result reads.DiskFault → ⊥) × ((state new).faults ≡ (state old).faults)
  pub quiet : IsSome (kept_at (block_place at) before.buffers) → new ≡ old
  pub calls_at_most : raised 0 (state new).calls ≤ raised 2 (state old).calls

-- A call gets the record with a head from a log of this state, or doesn't. The answer has the record in it, exact where the disk tells what it holds
-- and where the record isn't on the disk yet.
pub record GetsRecord {A D : Type 0} (disk_state : D → DiskState) (entry_in : A → LogEntry) (s : State) (head : Head) (result : Result A Refusal) (log : Log) (old new : D)
    : Type 0 where
  pub read : IfOk result (λ found. (entry : LogEntry) → IsNeeded s entry → head_of entry ≡ head
      → IsReadAs (disk_state old).nature.tells_contents (flushed s) entry (entry_in found))
  pub small : IfOk result (λ found. length (entry_in found).bytes ≤ most_data)
  pub state : IfErr result (λ refusal. LeavesState refusal s log.state.value)
  pub place : IfErr result (λ refusal. TellsOf s head.lsn refusal)
  pub left : IsLeft (disk_state new) log
  pub reads : OnlyReads result (disk_state old) (disk_state new)
  pub refused : IfErr result (λ refusal. is_of_call refusal ≡ true → new ≡ old)
  pub waits : IfOk result (λ found. flushed s ≤ (entry_in found).lsn → new ≡ old)
  pub calls_at_most : raised 0 (disk_state new).calls ≤ raised 2 (disk_state old).calls

-- What a call of a client's area that comes to a record answers, where a manager stands for the state and the disk of a pair.
pub record AnswersRead {A D : Type 0} (state : D → DiskState) (client number : ℕ) (call : Call) (reply : A → Reply) (entry_in : A → LogEntry)
    (record_in : State → Area → Option LogEntry) (result : Result A Refusal) (old new : State × D) : Type 0 where
  -- The answer is the log machine's. Over a disk that doesn't tell what its files hold the fields of a record on the disk are open, its LSN
  -- apart; a record that waits is exact.
  pub step : Steps (state old.1).nature.tells_contents old.0 client call reply result new.0
  -- The disk is read at most, and no file changes.
  pub same : Unchanged (state old.1).files (state new.1).files
  pub time : Passes Unchanged (state old.1) (state new.1)
  -- Damage is told only over a disk that doesn't tell what its files hold, and of the block of the record to which the call comes; a fault
  -- only where the disk failed in the call, and never over a steady disk.
  pub damage : TellsContents (state old.1) → (container offset at : ℕ) → result ≡ Err (refusals.Damaged container offset at) → ⊥
  pub place : IfErr result (λ refusal. TellsWhere old.0 client number (record_in old.0) refusal)
  pub cause : IsErrOf result refusals.DiskFault → Rises (state old.1).faults (state new.1).faults
  pub steady : IsSteady (state old.1) → (IsErrOf result refusals.DiskFault → ⊥) × ((state new.1).faults ≡ (state old.1).faults)
  -- Data are no longer than a largest record's.
  pub small : IfOk result (λ found. length (entry_in found).bytes ≤ most_data)
  -- A crash at any moment of the call leaves files that open to a survivor of it, which is the flushed part of the log and nothing else. A broken log
  -- makes no call on the disk.
  pub moments : CrashSurvives (asks client call) old.0 (state old.1) (state new.1)
  pub flushed_part : CrashSurvives (bad_line 0) old.0 (state old.1) (state new.1)
  pub stopped : old.0.broken ≡ true → new.1 ≡ old.1
  -- Nor does a call that is refused for what was asked, or one that gives a record that waits. Any other makes two calls of the disk at most.
  pub refused : IfErr result (λ refusal. is_of_call refusal ≡ true → new.1 ≡ old.1)
  pub waits : IfOk result (λ found. flushed old.0 ≤ (entry_in found).lsn → new.1 ≡ old.1)
  pub calls_at_most : raised 0 (state new.1).calls ≤ raised 2 (state old.1).calls

-- Damage is told of the block of the record to which a call comes that reads. No other call tells damage.
abbrev pub TellsBlock : State → ℕ → Call → Refusal → Type 0
TellsBlock s client (calls.Read area lsn mode) given = TellsWhere s client area (λ here. live_at s here.stream lsn) given
TellsBlock s client (calls.ReadNext area cursor) given =
    TellsWhere s client area (λ here. option_and_then (next_of_cursor s here) (record_cursor here cursor)) given
TellsBlock s client (calls.ReadRestart area) given = TellsWhere s client area (λ here. newest_restart s here.stream) given
TellsBlock s client (calls.PreviousRestart area cursor) given =
    TellsWhere s client area (λ here. option_and_then (next_of_cursor s here) (restart_cursor here cursor)) given
TellsBlock s client call given = Unit {0}

-- laws of lower crates that each call which reads cites together
pub record ReadLaws : Type 0 where
  pub ways : GoesTheseWays
  pub own : (s : State) (client : ℕ) (call : Call) (given : Refusal) → refusal s client call ≡ Some given → is_of_call given ≡ true
  pub valid : (told : Bool) (s : State) (client : ℕ) (call : Call) (happened : Happened) (reply : Reply) (t : State) → IsValid s
      → Step told s client call happened reply t → IsValid t
  pub storable : (told : Bool) (s : State) (client : ℕ) (call : Call) (happened : Happened) (reply : Reply) (t : State) → IsValid s → IsStorable s
      → MeetsCondition client call → Step told s client call happened reply t → IsStorable t
