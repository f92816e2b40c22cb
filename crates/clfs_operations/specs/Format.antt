-- How making a log ends.
use Rattle.std.specs.Prelude.{◌≡◌, ◌⊎◌, ℕ, ◌≤◌, Bool, List, [], codes, Option, Some, None}
use Rattle.std.specs.Io.KnownBytes.{Appends}
use Rattle.clfs_lsn.specs.declared.shape.Shape.{Shape}
use Rattle.clfs_ports.specs.Cause.{Rises}
use Rattle.clfs_disk.specs.Files.{Unchanged}
use Rattle.clfs_disk.specs.State.{DiskState, TellsContents, IsHonest, IsSteady, IsSettled, Later, Passes}
use Rattle.clfs_model.specs.State.{fresh}
use Rattle.clfs_recover.specs.Files.{StandsFor, AreWholeFiles}
use Rattle.clfs_format.specs.Making.{open_slot_of, KeepsLog}
use Rattle.clfs_manager.specs.Formatting.{ComesAtOnce}
use Rattle.clfs_lines.specs.Ends.{AppendsFront}
use Rattle.clfs_operations.specs.Ends.{disk_fault_text}

-- the line for a log that was made
abbrev pub formatted_text : List ℕ
formatted_text = codes "formatted\n"

-- the line for a folder in which a log is
abbrev pub exists_text : List ℕ
exists_text = codes "a log is there\n"

-- A log was made, dedicated or not: the files stand for a fresh one, are at full length, and nothing is pending. No slot was open before, and the log
-- came to be there at once.
pub record MakesLog (shape : Shape) (containers : ℕ) (dedicated : Bool) (old new : DiskState) : Type 0 where
  pub formatted : TellsContents old → (buffers : ℕ) → StandsFor new.files (fresh shape dedicated containers buffers)
  pub whole : TellsContents old → AreWholeFiles new.files
  pub settled : IsHonest old → IsSettled new
  pub moments : IsHonest old → ComesAtOnce shape dedicated containers old new
  pub free : TellsContents old → open_slot_of (old.files 0) ≡ None

-- A log is there: a slot is open, and nothing has changed.
pub record MeetsLog (old new : DiskState) : Type 0 where
  pub slot : ℕ
  pub is_open : TellsContents old → open_slot_of (old.files 0) ≡ Some slot
  pub same : Unchanged old.files new.files
  pub time : Passes Unchanged old new

-- What a line tells of making a log is what happened: one was made, one is there, or the disk failed in the call, which a steady one doesn't.
abbrev pub TellsMaking : List ℕ → Shape → ℕ → Bool → DiskState → DiskState → Type 0
TellsMaking text shape containers dedicated old new = ((text ≡ formatted_text) × MakesLog shape containers dedicated old new)
    ⊎ (((text ≡ exists_text) × MeetsLog old new) ⊎ ((text ≡ disk_fault_text) × Rises old.faults new.faults × (IsSteady old → ⊥)))

-- the statuses of making a log: done, a sink fault, a disk fault, no memory, a log is there
abbrev pub IsFormatStatus : ℕ → Type 0
IsFormatStatus status = (status ≡ 0) ⊎ ((status ≡ 3) ⊎ ((status ≡ 4) ⊎ ((status ≡ 5) ⊎ (status ≡ 8))))

-- How making a log ends: what each status says of the disk, before and after, and of what the sink has taken.
pub record EndsFormat (status : ℕ) (shape : Shape) (containers : ℕ) (dedicated : Bool) (old new : DiskState) (written written_after : Option (List ℕ)) (sink sink_after : ℕ) : Type 0 where
  -- there is no other status
  pub statuses : IsFormatStatus status
  -- whatever the status, a log that was there is as it was
  pub kept : KeepsLog old new
  -- the log was made, and the line that says so was written
  pub made : status ≡ 0 → MakesLog shape containers dedicated old new
  pub made_line : status ≡ 0 → Appends written written_after formatted_text
  -- a log is there, which is as it was, and the line that says so was written
  pub there : status ≡ 8 → MeetsLog old new
  pub there_line : status ≡ 8 → Appends written written_after exists_text
  -- the disk failed in this call, which a steady one doesn't, and the line that says so was written
  pub disk_fault : status ≡ 4 → Rises old.faults new.faults
  pub steady : IsSteady old → status ≡ 4 → ⊥
  pub disk_fault_line : status ≡ 4 → Appends written written_after disk_fault_text
  -- memory ran out, and nothing was written
  pub no_memory_silence : status ≡ 5 → Appends written written_after []
  -- the sink failed in this call, and what was written is a front of the line that tells what happened
  pub sink_fault : status ≡ 3 → Rises sink sink_after
  pub sink_fault_front : status ≡ 3 → (text : List ℕ) × TellsMaking text shape containers dedicated old new × AppendsFront written written_after text
  -- the counts of faults never fall, and time only goes on
  pub sink_count : sink ≤ sink_after
  pub time : Later old new
