-- What the program answers, and how it ends.
use Rattle.std.specs.Prelude.{◌≡◌, ℕ, ◌≤◌, ◌⊎◌, false, List, [], codes, Option}
use Rattle.std.specs.Io.KnownBytes.{Appends}
use Rattle.clfs_ports.specs.Cause.{Rises}
use Rattle.clfs_disk.specs.Files.{Unchanged}
use Rattle.clfs_disk.specs.State.{DiskState, Passes}
use Rattle.clfs_model.specs.Accepted.{Limits}
use Rattle.clfs_recover.specs.declared.refusal.LoadRefusal.TheVariants.{DiskFault}
use Rattle.clfs_operations.specs.Answered.{IsAnswered, IsAnsweredInPart}
use Rattle.clfs_lines.specs.Ends.{AppendsFront}
use Rattle.clfs_operations.specs.Ends.{disk_fault_text}
use Rattle.clfs_operations.specs.Opened.{RefusesLog, IsUnopenedText, IsRefusalText}
use Rattle.clfs_lines.specs.Answering.{Writes, WritesFront, IsWholeAnswer, IsAnswerUpToFault, IsAnswerUpToLimit, StopsShort, StopsAtFault, IsAnswerStatus}
use Rattle.clfs_lines.specs.declared.incomplete.IncompleteLine.{IncompleteLine}

-- the line for words that are no command
abbrev pub usage_text : List ℕ
usage_text = codes "usage: clfs FOLDER format, serve, race, trial, crew, check, txn, archive, restore or crowd\n"

-- The log wasn't opened, no file has changed, and nothing was read or written.
pub record StaysUnopened (old new : DiskState) (left left_after written written_after : Option (List ℕ)) : Type 0 where
  pub same : Unchanged old.files new.files
  pub time : Passes Unchanged old new
  pub unread : left_after ≡ left
  pub silence : Appends written written_after []

-- the statuses of serving: those of answering, and that the disk failed before, or that its files aren't a log's
abbrev pub IsServeStatus : ℕ → Type 0
IsServeStatus status = IsAnswerStatus status ⊎ ((status ≡ 4) ⊎ (status ≡ 6))

-- How serving a script within limits ends: what each status says of the log on the disk, before and after, of the bytes that the source has left, of
-- those that the sink has taken, and of the two counts of faults. Where lines are answered it is by the log machine, from the state for which the files
-- stood, and the files stand for its flushed part then.
pub record EndsServing (limits : Limits) (incomplete : IncompleteLine) (status buffers : ℕ) (old new : DiskState) (left left_after written written_after : Option (List ℕ)) (source source_after sink sink_after : ℕ) : Type 0 where
  -- there is no other status
  pub statuses : IsServeStatus status
  -- the source was read to its end, and the sink's new bytes are the replies to all its lines
  pub done : status ≡ 0 → Writes (IsWholeAnswer limits incomplete (IsAnswered buffers old new) left left_after) written written_after
  -- the source failed in this call, and the lines that came whole before are answered
  pub source_fault : status ≡ 2 → Rises source source_after
  pub source_fault_answers : status ≡ 2 → Writes (IsAnswerUpToFault limits (IsAnswered buffers old new) left left_after) written written_after
  -- the sink failed in this call: of the last line that was answered a front of the reply was written, and all replies before it, or a front of
  -- the line that says why the log wasn't opened
  pub sink_fault : status ≡ 3 → Rises sink sink_after
  pub sink_fault_front : status ≡ 3
      → StopsAtFault limits incomplete (IsAnswered buffers old new) (IsAnsweredInPart buffers old new) left left_after written written_after
      ⊎ WritesFront (IsRefusalText old new) written written_after
  -- the disk failed in this call, before the log was opened, and the line that says so was written
  pub disk_fault : status ≡ 4 → RefusesLog DiskFault old new
  pub disk_fault_line : status ≡ 4 → Appends written written_after disk_fault_text
  -- memory ran out: the log wasn't opened, no file has changed, and nothing was written, or lines up to some were answered, and all their
  -- replies were written whole, or all but the last and nothing of that one
  pub no_memory : status ≡ 5 → StaysUnopened old new left left_after written written_after
      ⊎ StopsShort limits incomplete (IsAnsweredInPart buffers old new false) left left_after written written_after
  -- the files aren't a log's, and the line that says so was written
  pub no_log : status ≡ 6 → Writes (IsUnopenedText old new) written written_after
  -- what the source gave passes a limit; the lines that came whole before it are answered, and then the line that says so
  pub too_long : status ≡ 7 → Writes (IsAnswerUpToLimit limits (IsAnswered buffers old new) left left_after) written written_after
  -- the source isn't read before the log is opened
  pub unread : (status ≡ 4) ⊎ (status ≡ 6) → (left_after ≡ left) × (source_after ≡ source)
  -- the counts of faults never fall
  pub source_count : source ≤ source_after
  pub sink_count : sink ≤ sink_after

-- How a run ends whose words are no command: the line that says so was written, or the sink failed and took a front of it, or memory ran out
-- before the words were read, and nothing was written.
pub record EndsByUsage (status : ℕ) (written written_after : Option (List ℕ)) (sink sink_after : ℕ) : Type 0 where
  pub statuses : (status ≡ 1) ⊎ ((status ≡ 3) ⊎ (status ≡ 5))
  pub line : status ≡ 1 → Appends written written_after usage_text
  pub sink_fault : status ≡ 3 → Rises sink sink_after
  pub sink_fault_front : status ≡ 3 → AppendsFront written written_after usage_text
  pub no_memory_silence : status ≡ 5 → Appends written written_after []
  pub sink_count : sink ≤ sink_after
