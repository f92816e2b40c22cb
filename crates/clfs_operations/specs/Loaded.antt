-- A log that was loaded, what the disk has of it later, and what is so of the calls that it took.
use Rattle.std.specs.Prelude.{◌≡◌, ℕ, true, false, List}
use Rattle.clfs_disk.specs.Files.{Unchanged}
use Rattle.clfs_disk.specs.State.{DiskState, TellsContents, IsHonest, IsSettled, Passes, Rises}
use Rattle.clfs_model.specs.declared.journal.Entry.{Entry}
use Rattle.clfs_model.specs.declared.state.State.{State}
use Rattle.clfs_model.specs.Flush.{cut}
use Rattle.clfs_model.specs.Run.{bad_line}
use Rattle.clfs_model.specs.Storable.{IsStorable}
use Rattle.clfs_model.specs.Valid.{IsValid}
use Rattle.clfs_recover.specs.Files.{StandsFor}
use Rattle.clfs_manager.specs.Crashes.{CrashSurvives}
use Rattle.clfs_manager.specs.Reopening.{HoldsFlushed}
use Rattle.clfs_operations.specs.Raced.{HasTaken}

-- what loading says of the state and the disk
pub record IsLoaded (buffers : ℕ) (old mid : DiskState) (s : State) : Type 0 where
  pub stands : TellsContents old → StandsFor old.files s
  pub buffers_are : s.buffers ≡ buffers
  pub valid : IsValid s
  pub storable : IsStorable s
  pub stable : cut s ≡ s
  pub same : Unchanged old.files mid.files
  pub time : Passes Unchanged old mid
  -- a crash then leaves the flushed part of the log
  pub left : CrashSurvives (bad_line 0) s mid mid

-- what the disk has of a log that isn't broken
pub record IsKeptOn (t : State) (new : DiskState) : Type 0 where
  pub files : t.broken ≡ false → TellsContents new → HoldsFlushed new.files t
  pub settled : t.broken ≡ false → IsHonest new → IsSettled new

-- What is so of a journal that led a log from the state in which it was loaded to another one.
pub record IsTakenFrom (buffers : ℕ) (old new : DiskState) (s t : State) (journal : List Entry) : Type 0 where
  pub taken : HasTaken buffers old new journal
  pub first : taken.first ≡ s
  pub last : taken.last ≡ t
  -- the disk is of the nature that it was
  pub contents : TellsContents old → TellsContents new
  pub honest : IsHonest old → IsHonest new
  -- over a disk that tells what its files hold only a fault breaks the log
  pub cause : t.broken ≡ true → TellsContents old → Rises old.faults new.faults
