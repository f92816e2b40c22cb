-- What a crash leaves of a log while a table that it has is loaded, or while a call of the table's store is under way.
--
-- Each of the two makes calls of the log, one after the other. So what is left is what the log's own crash clause says of the one that was made last: no record of
-- another stream is lost with it.
use Rattle.std.specs.Prelude.{◌≡◌, ◌⊎◌, ℕ, Bool, true, false, length}
use Rattle.clfs_disk.specs.Files.{Files}
use Rattle.clfs_disk.specs.State.{DiskState, IsHonest, Leaves}
use Rattle.clfs_model.specs.declared.call.Call.{Call}
use Rattle.clfs_model.specs.declared.reply.Happened.{Happened}
use Rattle.clfs_model.specs.declared.reply.Reply.{Reply}
use Rattle.clfs_model.specs.declared.state.State.{State}
use Rattle.clfs_model.specs.Flush.{IsSame}
use Rattle.clfs_model.specs.Run.{asks, bad_line}
use Rattle.clfs_model.specs.Step.{Step}
use Rattle.clfs_model.specs.Survivors.{Survives}
use Rattle.clfs_recover.specs.Files.{StandsFor}
use Rattle.clfs_cells.specs.declared.asked.TxnCall.{TxnCall}
use Rattle.clfs_cells.specs.declared.told.TxnReply.{TxnReply}
use Rattle.clfs_cells.specs.Calls.{TxnStep, txn_plan}
use Rattle.clfs_cells.specs.Loading.{load_plan}
use Rattle.clfs_cells.specs.Plans.{Plan, ends, calls, never}
use Rattle.clfs_cells.specs.Stored.{Store}
use Rattle.clfs_cells_laws.specs.Crashes.{Along}

-- What is under way: nothing that is asked of a log, a call of a store, or the loading of a log's table for a client.
pub data UnderWay : Type 0 where
  nothing : State → UnderWay
  asking : Store → TxnCall → UnderWay
  loading_of : State → ℕ → UnderWay

-- A log that survives a crash in a call to which a plan comes, whatever the log answered before.
abbrev pub IsLeftIn : {A : Type 0} → ℕ → State → Plan A → State → Type 0
IsLeftIn client log (ends value) x = ⊥
IsLeftIn client log (calls call rest) x = ((log.broken ≡ false) × Survives (asks client call) log x)
    ⊎ ((happened : Happened) × (reply : Reply) × (mid : State) × (Step true log client call happened reply mid × IsLeftIn client mid (rest reply) x))
IsLeftIn client log never x = ⊥

-- A log that a crash leaves meanwhile: one that survives where nothing is asked yet, or in one of the log's calls.
abbrev pub IsLeftMeanwhile : UnderWay → State → Type 0
IsLeftMeanwhile (nothing log) x = Survives (bad_line 0) log x
IsLeftMeanwhile (asking s call) x = Survives (bad_line 0) s.log x ⊎ IsLeftIn s.memory.client s.log (txn_plan s.log s.memory call) x
IsLeftMeanwhile (loading_of log client) x = Survives (bad_line 0) log x ⊎ IsLeftIn client log (load_plan (length log.records) client) x

-- Or once a call is answered: one that survives where nothing more is asked.
abbrev pub IsLeftBy : UnderWay → State → Type 0
IsLeftBy (nothing log) x = IsLeftMeanwhile (nothing log) x
IsLeftBy (asking s call) x = IsLeftMeanwhile (asking s call) x
    ⊎ ((reply : TxnReply) × (t : Store) × (TxnStep true s call reply t × Survives (bad_line 0) t.log x))
IsLeftBy (loading_of log client) x = IsLeftMeanwhile (loading_of log client) x

-- ---- along the calls

-- A crash in a call of the log leaves one of these logs.
abbrev pub LeavesCall : UnderWay → ℕ → Call → State → Type 0
LeavesCall under client call log = (x : State) → Survives (asks client call) log x → IsLeftMeanwhile under x

-- So does a crash in each call of a plan, whatever the log answers.
abbrev pub LeavesCalls : {A : Type 0} → UnderWay → Bool → ℕ → State → Plan A → Type 0
LeavesCalls under told client log plan = Along (LeavesCall under client) (λ _ _. Unit {0}) told client log plan

-- Files stand for such a log.
pub record HoldsLeft (under : UnderWay) (files : Files) : Type 0 where
  pub survivor : State
  pub left : IsLeftMeanwhile under survivor
  pub opened : State
  pub stands : StandsFor files opened
  pub same : IsSame survivor opened

-- A crash at any moment leaves such files, over a disk that keeps what it synced.
abbrev pub CrashLeaves : UnderWay → DiskState → DiskState → Type 0
CrashLeaves under old new = IsHonest old → Leaves (HoldsLeft under) old new

-- If a crash before a plan leaves such files, and a crash in each call of the log that the plan makes does, then so does a crash while it was carried out so
-- far.
abbrev pub Meanwhile : {A : Type 0} → UnderWay → Bool → ℕ → State → Plan A → DiskState → DiskState → Type 0
Meanwhile under told client log plan old new = LeavesCalls under told client log plan → CrashLeaves under old old → CrashLeaves under old new
