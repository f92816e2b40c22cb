-- What a crash leaves of a table while a call of its store is under way.
use Rattle.std.specs.Prelude.{◌≡◌, ◌⊎◌, ℕ, true, false, List, Result}
use Rattle.clfs_disk.specs.Files.{Files}
use Rattle.clfs_disk.specs.State.{DiskState, IsHonest, Leaves, TellsContents}
use Rattle.clfs_model.specs.declared.state.State.{State}
use Rattle.clfs_model.specs.Flush.{IsSame}
use Rattle.clfs_recover.specs.Files.{StandsFor}
use Rattle.clfs_cells.specs.declared.asked.TxnCall.{TxnCall}
use Rattle.clfs_cells.specs.declared.told.TxnRefusal.{TxnRefusal}
use Rattle.clfs_cells.specs.declared.told.TxnReply.{TxnReply}
use Rattle.clfs_cells.specs.Stored.{Store}
use Rattle.clfs_cells.specs.Table.{table}
use Rattle.clfs_cells_laws.specs.Crashes.{EndsSafe, IsSafe, table_once}
use Rattle.clfs_txn.specs.Calls.{replied}
use Rattle.clfs_txn.specs.UnderWay.{IsLeftBy, UnderWay, asking}

-- Files stand for a log that has one of two tables, and that is the same as one that survives in a call of the log's own.
pub record HoldsTable (before after : List ℕ) (under : UnderWay) (files : Files) : Type 0 where
  pub log : State
  pub stands : StandsFor files log
  pub either : (table log ≡ before) ⊎ (table log ≡ after)
  pub survivor : State
  pub left : IsLeftBy under survivor
  pub same : IsSame survivor log

-- A crash at any moment leaves such files, over a disk that keeps what it synced.
abbrev pub CrashLeavesTable : List ℕ → List ℕ → UnderWay → DiskState → DiskState → Type 0
CrashLeavesTable before after under old new = IsHonest old → Leaves (HoldsTable before after under) old new

-- ---- a call of a store whose log isn't broken

-- A crash leaves the table from before it, or, in a commit, that with its transaction; and of the log what survives in one of the log's calls that it makes.
abbrev pub LeavesTableOf : Store → TxnCall → DiskState → DiskState → Type 0
LeavesTableOf s call old new =
    s.log.broken ≡ false → IsSafe s.log s.memory.stream → CrashLeavesTable (table s.log) (table_once s call) (asking s call) old new

-- Once it is answered the table is as it was, or, after a commit, as it is with its transaction; and what isn't on the disk counts for nothing.
abbrev pub KeepsTable : {A : Type 0} → DiskState → Store → TxnCall → (A → TxnReply) → Result A TxnRefusal → Store → Type 0
KeepsTable disk s call answer result t = TellsContents disk → s.log.broken ≡ false → IsSafe s.log s.memory.stream
    → (t.log.broken ≡ true) ⊎ EndsSafe (table s.log) (table_once s call) t.memory.stream (replied answer result) t.log
