-- How a race ends.
use Rattle.std.specs.Prelude.{◌≡◌, ◌⊎◌, ℕ, ◌≤◌, true, List, [], Option}
use Rattle.std.specs.Io.KnownBytes.{Consumes, Appends}
use Rattle.clfs_ports.specs.Cause.{Rises}
use Rattle.clfs_disk.specs.Files.{Unchanged}
use Rattle.clfs_disk.specs.State.{DiskState, Passes}
use Rattle.clfs_model.specs.Accepted.{race_limits, is_within}
use Rattle.clfs_recover.specs.declared.refusal.LoadRefusal.TheVariants.{DiskFault}
use Rattle.clfs_race.specs.Taken.{TakesBytes}
use Rattle.clfs_operations.specs.Ends.{disk_fault_text}
use Rattle.clfs_operations.specs.Opened.{RefusesLog, IsUnopenedText, IsRefusalText}
use Rattle.clfs_operations.specs.Raced.{IsRaced, IsRacedInPart}
use Rattle.clfs_lines.specs.Answering.{Answers, IsWholeAnswer, IsAnswerUpToFault, IsAnswerUpToLimit, Writes, WritesFront}
use Rattle.clfs_operations.specs.Serve.{IsServeStatus}
use Rattle.clfs_lines.specs.Taken.{AreReached}
use Rattle.clfs_lines.specs.declared.incomplete.IncompleteLine.TheVariants.{Counts}

-- The source failed before it passed a limit.
pub record FailsWithin (left left_after : Option (List ℕ)) (source source_after : ℕ) : Type 0 where
  pub bytes : List ℕ
  pub given : Consumes left left_after bytes
  pub within : is_within race_limits bytes ≡ true
  pub cause : Rises source source_after

-- The output of a race: the replies to all lines, or to those that came whole before the source failed, or before a limit was passed, and then the
-- line that says so.
abbrev pub IsRaceOutput : Answers → Option (List ℕ) → Option (List ℕ) → ℕ → ℕ → List ℕ → Type 0
IsRaceOutput Is left left_after source source_after text =
    IsWholeAnswer race_limits Counts Is left left_after text
    ⊎ ((FailsWithin left left_after source source_after × IsAnswerUpToFault race_limits Is left left_after text)
    ⊎ IsAnswerUpToLimit race_limits Is left left_after text)

-- The log wasn't opened, or it was and no call of it was made, and no file has changed.
pub record LeavesFiles (old new : DiskState) : Type 0 where
  pub same : Unchanged old.files new.files
  pub time : Passes Unchanged old new

-- How a race ends: what each status says of the log on the disk, before and after, of the bytes that the source has left, of those that the sink has
-- taken, and of the two counts of faults. All lines are answered before the first reply is written.
pub record EndsRacing (status buffers : ℕ) (old new : DiskState) (left left_after written written_after : Option (List ℕ)) (source source_after sink sink_after : ℕ) : Type 0 where
  -- there is no other status
  pub statuses : IsServeStatus status
  -- the source was read to its end, and the sink's new bytes are the replies to all its lines
  pub done : status ≡ 0 → Writes (IsWholeAnswer race_limits Counts (IsRaced buffers old new) left left_after) written written_after
  -- the source failed in this call before it passed a limit, and the lines that came whole before are answered
  pub source_fault : status ≡ 2 → FailsWithin left left_after source source_after
  pub source_fault_answers : status ≡ 2 → Writes (IsAnswerUpToFault race_limits (IsRaced buffers old new) left left_after) written written_after
  -- the sink failed in this call: a front of the output was written, or of the line that says why the log wasn't opened
  pub sink_fault : status ≡ 3 → Rises sink sink_after
  pub sink_fault_front : status ≡ 3
      → WritesFront (IsRaceOutput (IsRaced buffers old new) left left_after source source_after) written written_after
      ⊎ WritesFront (IsRefusalText old new) written written_after
  -- the disk failed in this call, before the log was opened, and the line that says so was written
  pub disk_fault : status ≡ 4 → RefusesLog DiskFault old new
  pub disk_fault_line : status ≡ 4 → Appends written written_after disk_fault_text
  -- memory ran out, and nothing was written: no file has changed, or of each client the first lines were done
  pub no_memory_silence : status ≡ 5 → Appends written written_after []
  pub no_memory : status ≡ 5 → LeavesFiles old new
      ⊎ ((lines : List (List ℕ)) × (AreReached race_limits Counts left left_after lines × IsRacedInPart buffers old new lines))
  -- the files aren't a log's, and the line that says so was written
  pub no_log : status ≡ 6 → Writes (IsUnopenedText old new) written written_after
  -- what the source gave passes a limit; the lines that came whole before it are answered, and then the line that says so
  pub too_long : status ≡ 7 → Writes (IsAnswerUpToLimit race_limits (IsRaced buffers old new) left left_after) written written_after
  -- bytes were taken from the source's beginning, perhaps none
  pub read : TakesBytes left left_after
  -- the counts of faults never fall
  pub source_count : source ≤ source_after
  pub sink_count : sink ≤ sink_after
