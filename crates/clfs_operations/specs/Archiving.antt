-- How archiving a log ends.
use Rattle.std.specs.Prelude.{◌≡◌, ◌≢◌, ◌⊎◌, ℕ, ◌<◌, ◌≤◌, Bool, true, List, [], ◌++◌, codes, length, Option, None}
use Rattle.std.specs.Io.KnownBytes.{Appends}
use Rattle.clfs_ports.specs.Cause as ports
use Rattle.clfs_disk.specs.Files.{Files, Unchanged}
use Rattle.clfs_disk.specs.State.{DiskState, TellsContents, IsHonest, IsSettled, IsSteady, Later, MayLeave, Passes, Rises}
use Rattle.clfs_model.specs.declared.call.Call.TheVariants as calls
use Rattle.clfs_model.specs.declared.refusal.Refusal.TheVariants.{Ephemeral, Damaged}
use Rattle.clfs_model.specs.declared.state.State.{State}
use Rattle.clfs_model.specs.Flush.{IsSame, flushed}
use Rattle.clfs_model.specs.Run.{asks}
use Rattle.clfs_recover.specs.Files.{StandsFor, AreWholeFiles}
use Rattle.clfs_recover.specs.declared.refusal.LoadRefusal.{LoadRefusal}
use Rattle.clfs_recover.specs.declared.refusal.LoadRefusal.TheVariants.{DiskFault}
use Rattle.clfs_recover.specs.declared.refusal.LoadRefusal.TheVariants as loading
use Rattle.clfs_recover.specs.Telling.{TellsOpening}
use Rattle.clfs_manager.specs.Crashes.{HoldSurvivor}
use Rattle.clfs_archive_form.specs.Form.{IsArchiveOf}
use Rattle.clfs_archive_form.specs.Drafting.{most_archive}
use Rattle.clfs_restore.specs.Archiving.{TellsDamage, all_archived, refused_as}
use Rattle.clfs_restore.specs.declared.refusal.ArchiveRefusal.{ArchiveRefusal}
use Rattle.clfs_restore.specs.declared.refusal.ArchiveRefusal.TheVariants as refusals
use Rattle.clfs_lines.specs.Answering.{Writes, WritesFront}
use Rattle.clfs_lines.specs.Ends.{AppendsFront}
use Rattle.clfs_operations.specs.Complete.{IsDone, TellsLog, DidNotFail}
use Rattle.clfs_operations.specs.Ends.{disk_fault_text}
use Rattle.clfs_operations.specs.Opened.{RefusesLog, IsNoLogText, IsRefusalText, no_log_text}
use Rattle.clfs_operations.specs.Txn.{IsOpenedLog}

-- the line for a log in which archiving is off
abbrev pub archiving_off_text : List ℕ
archiving_off_text = codes "archiving is off\n"

-- the line for an archive that has more bytes than it may have
abbrev pub archive_too_long_text : List ℕ
archive_too_long_text = codes "archive too long\n"

-- ---- what was found

-- A log was opened in which archiving is off.
pub record IsUnarchived (old : DiskState) : Type 0 where
  pub first : State
  pub opened : IsOpenedLog old first
  pub off : first.archive ≡ None

-- A log was opened in which archiving is on, and its archive has more bytes than it may have.
pub record HasLongArchive (old : DiskState) : Type 0 where
  pub first : State
  pub opened : IsOpenedLog old first
  pub on : first.archive ≢ None
  pub long : TellsContents old → (archive : List ℕ) × IsArchiveOf old.files archive × (most_archive < length archive)

-- A log was opened in which archiving is on, and these bytes are its archive: that of the files as they were, if the disk tells what they hold.
pub record IsArchiveText (old : DiskState) (first : State) (bytes : List ℕ) : Type 0 where
  pub opened : IsOpenedLog old first
  pub on : first.archive ≢ None
  pub is : TellsContents old → IsArchiveOf old.files bytes
  pub few : length bytes ≤ most_archive

-- the line that says why there is no archive
abbrev pub unarchived_line : ArchiveRefusal → List ℕ
unarchived_line (refusals.Log Ephemeral) = archiving_off_text
unarchived_line (refusals.Log (Damaged container offset at)) = no_log_text (loading.Damaged container offset at)
unarchived_line (refusals.Log refusal) = disk_fault_text
unarchived_line (refusals.TooLong bytes) = archive_too_long_text
unarchived_line refusals.NoMemory = []

-- the status for it
abbrev pub unarchived_status : ArchiveRefusal → ℕ
unarchived_status (refusals.Log Ephemeral) = 11
unarchived_status (refusals.Log (Damaged container offset at)) = 6
unarchived_status (refusals.Log refusal) = 4
unarchived_status (refusals.TooLong bytes) = 15
unarchived_status refusals.NoMemory = 5

-- Why there is no archive was told by its status and its line, or the sink failed and took a front of it, or memory ran out and nothing was written.
pub record TellsUnarchived (status : ℕ) (cause : ArchiveRefusal) (written written_after : Option (List ℕ)) (sink sink_after : ℕ) : Type 0 where
  pub statuses : (status ≡ unarchived_status cause) ⊎ ((status ≡ 3) ⊎ (status ≡ 5))
  pub line : status ≢ 3 → status ≢ 5 → Appends written written_after (unarchived_line cause)
  pub sink_fault : status ≡ 3 → ports.Rises sink sink_after
  pub sink_fault_front : status ≡ 3 → (cause ≢ refusals.NoMemory) × AppendsFront written written_after (unarchived_line cause)
  pub no_memory_silence : status ≡ 5 → Appends written written_after []
  pub sink_count : sink ≤ sink_after

-- The line that says that the files aren't a log's names a byte that was wrong where the log was opened, or where it was archived then.
pub record NamesWrongByte (text : List ℕ) : Type 0 where
  pub refusal : LoadRefusal
  pub line : text ≡ no_log_text refusal
  pub told : TellsOpening refusal ⊎ TellsDamage (refused_as refusal)

-- ---- what was done

-- Files stand for a state that no reply can tell from this one.
abbrev pub StandForSame : Files → State → Type 0
StandForSame files s = (opened : State) × StandsFor files opened × IsSame s opened

-- The archive was written, and then the archive tail moved to the flushed LSN: but for it the files stand for the state for which they stood.
pub record ArchivesLog (old new : DiskState) (bytes : List ℕ) : Type 0 where
  pub first : State
  pub archive : IsArchiveText old first bytes
  pub files : TellsContents old → StandForSame new.files (all_archived first)
  pub settled : IsHonest old → IsSettled new
  pub whole : TellsContents old → AreWholeFiles old.files → AreWholeFiles new.files

-- The archive was written, and then the disk failed where the tail moves; a line says so. A steady disk whose files are at full length doesn't fail.
pub record FailsToMove (old new : DiskState) (text : List ℕ) : Type 0 where
  pub first : State
  pub bytes : List ℕ
  pub archive : IsArchiveText old first bytes
  pub cause : Rises old.faults new.faults
  pub steady : IsSteady old → TellsContents old → AreWholeFiles old.files → ⊥
  pub line : text ≡ bytes ++ disk_fault_text

-- What is written once the log is opened: its archive, after a fault of the disk with a line, or a line alone.
abbrev pub IsArchiveOutput : DiskState → DiskState → List ℕ → Type 0
IsArchiveOutput old new text = ((first : State) × IsArchiveText old first text) ⊎ (FailsToMove old new text
    ⊎ ((IsUnarchived old × (text ≡ archiving_off_text)) ⊎ (HasLongArchive old × (text ≡ archive_too_long_text))))

-- The sink has taken a whole archive of the files as they were, and maybe more after it.
pub record TakesArchive (old : DiskState) (written written_after : Option (List ℕ)) : Type 0 where
  pub first : State
  pub bytes : List ℕ
  pub archive : IsArchiveText old first bytes
  pub rest : List ℕ
  pub taken : Appends written written_after (bytes ++ rest)

-- Nothing was written until the archive tail of a log that was opened began to move to its flushed LSN: till then a crash leaves what it would have left at
-- first, and from then on what survives that move, in files of full length where they were so.
pub record IsLeftByMove (old new : DiskState) : Type 0 where
  pub first : State
  pub opened : IsOpenedLog old first
  pub from : ℕ
  pub later : old.clock ≤ from
  pub before : (moment : ℕ) (image : Files) → old.clock ≤ moment → moment < from → new.image_at moment image
      → (left : Files) × (MayLeave old left × Unchanged left image)
  pub moving : (whole : Bool) → (whole ≡ true → AreWholeFiles old.files)
      → (moment : ℕ) (image : Files) → from ≤ moment → moment ≤ new.clock → new.image_at moment image
      → HoldSurvivor whole (asks 1 (calls.SetArchiveTail (flushed first))) first image

-- the statuses of archiving: done; a sink fault, a disk fault, no memory, no log; archiving is off, or the archive is too long
abbrev pub IsArchiveStatus : ℕ → Type 0
IsArchiveStatus status =
    (status ≡ 0) ⊎ ((status ≡ 3) ⊎ ((status ≡ 4) ⊎ ((status ≡ 5) ⊎ ((status ≡ 6) ⊎ ((status ≡ 11) ⊎ (status ≡ 15))))))

-- How archiving ends: what each status says of the log on the disk, before and after, and of what the sink has taken.
pub record EndsArchive (status : ℕ) (old new : DiskState) (written written_after : Option (List ℕ)) (sink sink_after : ℕ) : Type 0 where
  -- there is no other status
  pub statuses : IsArchiveStatus status
  -- the archive was written and nothing else, and the tail moved
  pub done : status ≡ 0 → Writes (ArchivesLog old new) written written_after
  -- whatever the status, each file reads as before unless the sink has taken the whole archive
  pub kept : Unchanged old.files new.files ⊎ TakesArchive old written written_after
  -- the sink failed in this call: of the archive or of a line a front was written
  pub sink_fault : status ≡ 3 → ports.Rises sink sink_after
  pub sink_fault_front : status ≡ 3 → WritesFront (IsRefusalText old new) written written_after ⊎ WritesFront (IsArchiveOutput old new) written written_after
  -- the disk failed in this call, and the line that says so was written: before the archive, or after it where the tail moves
  pub disk_fault : status ≡ 4 → (RefusesLog DiskFault old new × Appends written written_after disk_fault_text)
      ⊎ Writes (FailsToMove old new) written written_after
  -- memory ran out: no file has changed, and nothing was written
  pub no_memory : status ≡ 5 → Unchanged old.files new.files × Appends written written_after []
  -- the files aren't a log's, and the line that says so was written
  pub no_log : status ≡ 6 → Writes (IsNoLogText old new) written written_after
  pub wrong_byte : status ≡ 6 → Writes NamesWrongByte written written_after
  -- archiving is off, and the line that says so was written
  pub off : status ≡ 11 → IsUnarchived old × Appends written written_after archiving_off_text
  -- the archive has more bytes than it may have, and the line that says so was written
  pub too_long : status ≡ 15 → HasLongArchive old × Appends written written_after archive_too_long_text
  -- a crash leaves what it would have left before, or, once the sink has taken the whole archive, what survives the move of the tail
  pub crash : IsHonest old → Passes Unchanged old new ⊎ (TakesArchive old written written_after × IsLeftByMove old new)
  -- time only goes on, and the count of the sink's faults never falls
  pub time : Later old new
  pub sink_count : sink ≤ sink_after

-- Nothing outside fails: a log is on the disk, and neither the disk nor the sink fails in the call. A steady disk with files at full length doesn't.
pub record NothingFailsArchiving (old new : DiskState) (sink sink_after : ℕ) : Type 0 where
  pub log : TellsLog old
  pub disk : DidNotFail old new
  pub sink_calm : ports.Rises sink sink_after → ⊥

-- the archive was written, or memory ran out, or archiving is off, or the archive is too long
abbrev pub IsArchivingDone : ℕ → Type 0
IsArchivingDone status = IsDone status ⊎ ((status ≡ 11) ⊎ (status ≡ 15))
