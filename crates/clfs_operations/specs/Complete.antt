-- What commands come to if nothing outside fails: they are done, unless memory runs out. It adds nothing to the causes of the statuses and of the
-- replies; it says them together.
use Rattle.std.specs.Prelude.{◌≡◌, ◌⊎◌, ℕ, Bool, true, false, List, map, Option, Some, None}
use Rattle.clfs_ports.specs.Cause as ports
use Rattle.clfs_disk.specs.State as disks
use Rattle.clfs_disk.specs.State.{DiskState, TellsContents, IsSteady}
use Rattle.clfs_model.specs.declared.state.State.{State}
use Rattle.clfs_model.specs.declared.reply.Reply.{Reply}
use Rattle.clfs_model.specs.declared.journal.Entry.{Entry}
use Rattle.clfs_model.specs.Accepted.{Limits, serve_limits, race_limits, is_within}
use Rattle.clfs_recover.specs.Files.{StandsFor, AreWholeFiles}
use Rattle.clfs_format.specs.Making.{open_slot_of}
use Rattle.clfs_operations.specs.Answered.{IsAnswered, IsAnsweredInPart}
use Rattle.clfs_operations.specs.Race.{LeavesFiles}
use Rattle.clfs_operations.specs.Raced.{IsRaced, IsRacedInPart}
use Rattle.clfs_lines.specs.Answering.{IsWholeAnswer, StopsShort, Writes}
use Rattle.clfs_operations.specs.Serve.{StaysUnopened}
use Rattle.clfs_lines.specs.Taken.{AreReached}
use Rattle.clfs_lines.specs.declared.incomplete.IncompleteLine.{IncompleteLine}
use Rattle.clfs_lines.specs.declared.incomplete.IncompleteLine.TheVariants.{Counts}
use Rattle.clfs_operations.specs.Told.{has_fault, has_damage, has_broken}

-- The command was done, or memory ran out.
abbrev pub IsDone : ℕ → Type 0
IsDone status = (status ≡ 0) ⊎ (status ≡ 5)

-- The disk didn't fail in the call, or it is a steady one with files at full length, which doesn't.
abbrev pub DidNotFail : DiskState → DiskState → Type 0
DidNotFail old new = (disks.Rises old.faults new.faults → ⊥) ⊎ (IsSteady old × AreWholeFiles old.files)

-- the disk tells its files, and they stand for a log
pub record TellsLog (old : DiskState) : Type 0 where
  pub told : TellsContents old
  pub state : State
  pub stands : StandsFor old.files state

-- Nothing outside fails: a log is on the disk; the disk, the source and the sink don't fail in the call; and the source has a script within its limits.
pub record NothingFailsAnswering (limits : Limits) (old new : DiskState) (left : Option (List ℕ)) (source source_after sink sink_after : ℕ) : Type 0 where
  pub log : TellsLog old
  pub disk : DidNotFail old new
  pub source_calm : ports.Rises source source_after → ⊥
  pub sink_calm : ports.Rises sink sink_after → ⊥
  pub script : List ℕ
  pub given : left ≡ Some script
  pub within : is_within limits script ≡ true

-- no reply tells a fault, damage, or that the log is broken
pub record AreCalm (answers : List Reply) : Type 0 where
  pub no_fault : has_fault answers ≡ false
  pub no_damage : has_damage answers ≡ false
  pub no_broken : has_broken answers ≡ false

-- ---- serving

-- Nothing outside fails, and the script is within the limits of serving: at most 67,108,864 bytes, and no line above 131,072.
abbrev pub NothingFailsServing : DiskState → DiskState → Option (List ℕ) → ℕ → ℕ → ℕ → ℕ → Type 0
NothingFailsServing = NothingFailsAnswering serve_limits

-- the lines were answered, none of them by a fault, damage, or that the log is broken
pub record IsAnsweredCalmly (buffers : ℕ) (old new : DiskState) (lines : List (List ℕ)) (text : List ℕ) : Type 0 where
  pub answered : IsAnswered buffers old new lines text
  pub calm : AreCalm answered.answers

-- the same where memory ran out
pub record IsAnsweredCalmlyInPart (buffers : ℕ) (old new : DiskState) (torn : Bool) (lines : List (List ℕ)) (text : List ℕ) : Type 0 where
  pub answered : IsAnsweredInPart buffers old new torn lines text
  pub calm : AreCalm answered.answered.answers

-- Serving was done, or memory ran out, and no line was answered by a fault, damage, or that the log is broken, also none whose reply wasn't written.
pub record ComesThrough (limits : Limits) (incomplete : IncompleteLine) (status buffers : ℕ) (old new : DiskState) (left left_after written written_after : Option (List ℕ)) : Type 0 where
  pub statuses : IsDone status
  pub done : status ≡ 0 → Writes (IsWholeAnswer limits incomplete (IsAnsweredCalmly buffers old new) left left_after) written written_after
  pub no_memory : status ≡ 5 → StaysUnopened old new left left_after written written_after
      ⊎ StopsShort limits incomplete (IsAnsweredCalmlyInPart buffers old new false) left left_after written written_after

-- ---- racing

-- Nothing outside fails, and the script is within the limits of a race: at most 1,048,576 bytes and 10,000 lines, none above 131,072 bytes.
abbrev pub NothingFailsRacing : DiskState → DiskState → Option (List ℕ) → ℕ → ℕ → ℕ → ℕ → Type 0
NothingFailsRacing = NothingFailsAnswering race_limits

-- the replies of a journal
abbrev pub replies_of : List Entry → List Reply
replies_of journal = map (λ (entry : Entry). entry.reply) journal

-- the lines were answered, no call of them by a fault, damage, or that the log is broken
pub record IsRacedCalmly (buffers : ℕ) (old new : DiskState) (lines : List (List ℕ)) (text : List ℕ) : Type 0 where
  pub raced : IsRaced buffers old new lines text
  pub calm : AreCalm (replies_of raced.journal)

-- the same where memory ran out
pub record IsRacedCalmlyInPart (buffers : ℕ) (old new : DiskState) (lines : List (List ℕ)) : Type 0 where
  pub raced : IsRacedInPart buffers old new lines
  pub calm : AreCalm (replies_of raced.journal)

-- A race was done, or memory ran out and nothing was written, and no call was answered by a fault, damage, or that the log is broken, also none whose
-- reply wasn't written.
pub record RaceComesThrough (status buffers : ℕ) (old new : DiskState) (left left_after written written_after : Option (List ℕ)) : Type 0 where
  pub statuses : IsDone status
  pub done : status ≡ 0 → Writes (IsWholeAnswer race_limits Counts (IsRacedCalmly buffers old new) left left_after) written written_after
  pub no_memory : status ≡ 5 → LeavesFiles old new
      ⊎ ((lines : List (List ℕ)) × (AreReached race_limits Counts left left_after lines × IsRacedCalmlyInPart buffers old new lines))

-- ---- making and judging a log

-- Nothing outside fails: the disk tells its files, which have no open slot, and neither it nor the sink fails in the call. A steady disk doesn't.
pub record NothingFailsMaking (old new : DiskState) (sink sink_after : ℕ) : Type 0 where
  pub told : TellsContents old
  pub free : open_slot_of (old.files 0) ≡ None
  pub disk : (disks.Rises old.faults new.faults → ⊥) ⊎ IsSteady old
  pub sink_calm : ports.Rises sink sink_after → ⊥

-- Nothing outside fails: a log is on the disk, and neither the disk nor the sink fails in the call. A steady disk doesn't.
pub record NothingFailsChecking (old new : DiskState) (sink sink_after : ℕ) : Type 0 where
  pub log : TellsLog old
  pub disk : (disks.Rises old.faults new.faults → ⊥) ⊎ IsSteady old
  pub sink_calm : ports.Rises sink sink_after → ⊥
