-- How restoring a log of archives ends.
use Rattle.std.specs.Prelude.{◌≡◌, ◌≢◌, ◌⊎◌, ℕ, ◌<◌, ◌≤◌, List, [], ◌++◌, codes, decimal, length, Option, Some, None}
use Rattle.std.specs.Io.KnownBytes.{Appends, Consumes, IsAtEnd}
use Rattle.clfs_lsn.specs.Words.{lsn_text}
use Rattle.clfs_ports.specs.Cause as ports
use Rattle.clfs_disk.specs.Files.{Unchanged}
use Rattle.clfs_disk.specs.State as disks
use Rattle.clfs_disk.specs.State.{DiskState, TellsContents, IsSteady, Later, Passes}
use Rattle.clfs_format.specs.Making.{open_slot_of, KeepsLog}
use Rattle.clfs_archive_form.specs.Drafting.{most_archive}
use Rattle.clfs_restore.specs.declared.refusal.RestoreRefusal.{RestoreRefusal}
use Rattle.clfs_restore.specs.declared.refusal.RestoreRefusal.TheVariants.{Exists, NotAnArchive, Gap, UpToInvalid, DiskFault, NoMemory}
use Rattle.clfs_restore.specs.Outcomes.{RestoresLog, RefusesRestoring}
use Rattle.clfs_lines.specs.Answering.{too_long_text}
use Rattle.clfs_lines.specs.Ends.{AppendsFront}
use Rattle.clfs_operations.specs.Complete.{IsDone}
use Rattle.clfs_operations.specs.Ends.{disk_fault_text}
use Rattle.clfs_operations.specs.Format.{exists_text, MeetsLog}
use Rattle.clfs_operations.specs.declared.restoring.Unread.{Unread}
use Rattle.clfs_operations.specs.declared.restoring.Unread.TheVariants as unread

-- the line for a log that was restored
abbrev pub restored_text : List ℕ
restored_text = codes "restored\n"

-- the line that says why none was restored
abbrev pub restore_refusal_line : RestoreRefusal → List ℕ
restore_refusal_line (Exists slot) = exists_text
restore_refusal_line (NotAnArchive at) = codes "not an archive: byte " ++ (decimal at ++ codes "\n")
restore_refusal_line (Gap container) = codes "archive gap: container " ++ (decimal container ++ codes "\n")
restore_refusal_line (UpToInvalid low high) = codes "up-to outside " ++ (lsn_text low ++ (codes " to " ++ (lsn_text high ++ codes "\n")))
restore_refusal_line DiskFault = disk_fault_text
restore_refusal_line NoMemory = []

-- the status for it
abbrev pub restore_refusal_status : RestoreRefusal → ℕ
restore_refusal_status (Exists slot) = 8
restore_refusal_status (NotAnArchive at) = 12
restore_refusal_status (Gap container) = 13
restore_refusal_status (UpToInvalid low high) = 14
restore_refusal_status DiskFault = 4
restore_refusal_status NoMemory = 5

-- Why none was restored was told by its status and its line, or the sink failed and took a front of it, or memory ran out and nothing was written; a fault
-- of the disk is told whether there is memory or not.
pub record TellsRestoreRefusal (status : ℕ) (cause : RestoreRefusal) (written written_after : Option (List ℕ)) (sink sink_after : ℕ) : Type 0 where
  pub statuses : (status ≡ restore_refusal_status cause) ⊎ ((status ≡ 3) ⊎ (status ≡ 5))
  pub line : status ≢ 3 → status ≢ 5 → Appends written written_after (restore_refusal_line cause)
  pub sink_fault : status ≡ 3 → ports.Rises sink sink_after
  pub sink_fault_front : status ≡ 3 → AppendsFront written written_after (restore_refusal_line cause)
  pub no_memory : status ≡ 5 → cause ≢ DiskFault
  pub no_memory_silence : status ≡ 5 → Appends written written_after []
  pub sink_count : sink ≤ sink_after

-- ---- the input

-- The source was read to its end and gave these bytes, no more than archives may have together.
pub record IsInput (left left_after : Option (List ℕ)) (bytes : List ℕ) : Type 0 where
  pub read : Consumes left left_after bytes
  pub end : IsAtEnd left_after
  pub few : length bytes ≤ most_archive

-- The source gave more bytes than archives may have together.
pub record IsLongInput (left left_after : Option (List ℕ)) : Type 0 where
  pub bytes : List ℕ
  pub read : Consumes left left_after bytes
  pub many : most_archive < length bytes

-- Why nothing of it is used: the source failed, or gave too many bytes. Because memory ran out that may come in place of anything.
abbrev pub IsUnread : Unread → Option (List ℕ) → Option (List ℕ) → ℕ → ℕ → Type 0
IsUnread unread.SourceFault left left_after source source_after = ports.Rises source source_after
IsUnread unread.TooLong left left_after source source_after = IsLongInput left left_after
IsUnread unread.NoMemory left left_after source source_after = Unit {0}

-- the status for it
abbrev pub unread_status : Unread → ℕ
unread_status unread.SourceFault = 2
unread_status unread.TooLong = 7
unread_status unread.NoMemory = 5

-- That was told by the status, and by a line if there are too many bytes; or the sink failed and took a front of the line.
pub record TellsUnread (status : ℕ) (cause : Unread) (written written_after : Option (List ℕ)) (sink sink_after : ℕ) : Type 0 where
  pub statuses : (status ≡ unread_status cause) ⊎ ((status ≡ 3) × (cause ≡ unread.TooLong))
  pub line : status ≡ 7 → Appends written written_after too_long_text
  pub silence : status ≢ 7 → status ≢ 3 → Appends written written_after []
  pub sink_fault : status ≡ 3 → ports.Rises sink sink_after
  pub sink_fault_front : status ≡ 3 → AppendsFront written written_after too_long_text
  pub sink_count : sink ≤ sink_after

-- ---- what came of it

-- The source was read to its end, and a log was restored of its bytes.
pub record IsRestored (up_to : Option ℕ) (old new : DiskState) (left left_after : Option (List ℕ)) : Type 0 where
  pub bytes : List ℕ
  pub input : IsInput left left_after bytes
  pub log : RestoresLog bytes up_to old new

-- The source was read to its end, and no log was restored of its bytes, for this cause.
pub record IsUnrestored (cause : RestoreRefusal) (up_to : Option ℕ) (old new : DiskState) (left left_after : Option (List ℕ)) : Type 0 where
  pub bytes : List ℕ
  pub input : IsInput left left_after bytes
  pub refuses : RefusesRestoring cause bytes up_to old new

-- Nothing was restored, and no file has changed.
abbrev pub StaysUnchanged : DiskState → DiskState → Type 0
StaysUnchanged old new = Unchanged old.files new.files × Passes Unchanged old new

-- What a line tells of restoring is what happened: a log was restored, one is there, there are too many bytes, or none was restored for a cause.
abbrev pub TellsRestoring : List ℕ → Option ℕ → DiskState → DiskState → Option (List ℕ) → Option (List ℕ) → Type 0
TellsRestoring text up_to old new left left_after = ((text ≡ restored_text) × IsRestored up_to old new left left_after)
    ⊎ (((text ≡ exists_text) × MeetsLog old new)
    ⊎ (((text ≡ too_long_text) × IsLongInput left left_after × StaysUnchanged old new)
    ⊎ ((cause : RestoreRefusal) × (text ≡ restore_refusal_line cause) × IsUnrestored cause up_to old new left left_after)))

-- None was restored for a cause of this status, and the line that says why was written.
pub record TellsWhy (status : ℕ) (up_to : Option ℕ) (old new : DiskState) (left left_after written written_after : Option (List ℕ)) : Type 0 where
  pub cause : RestoreRefusal
  pub by : restore_refusal_status cause ≡ status
  pub unrestored : IsUnrestored cause up_to old new left left_after
  pub line : Appends written written_after (restore_refusal_line cause)

-- That a log is there was told by the status, or the sink failed and took a front of the line that says so, or memory ran out.
abbrev pub TellsExists : ℕ → Option (List ℕ) → Option (List ℕ) → Type 0
TellsExists status written written_after = (status ≡ 8) ⊎ ((status ≡ 5) ⊎ ((status ≡ 3) × AppendsFront written written_after exists_text))

-- ---- how it ends

-- the statuses of restoring: done; a source fault, a sink fault, a disk fault, no memory, too long an input, a log is there; and why archives are refused
abbrev pub IsRestoreStatus : ℕ → Type 0
IsRestoreStatus status = (status ≡ 0) ⊎ ((status ≡ 2) ⊎ ((status ≡ 3) ⊎ ((status ≡ 4) ⊎ ((status ≡ 5) ⊎ ((status ≡ 7) ⊎ ((status ≡ 8)
    ⊎ ((status ≡ 12) ⊎ ((status ≡ 13) ⊎ (status ≡ 14)))))))))

-- How restoring ends, up to an LSN or as far as the archives reach: what each status says of the disk, before and after, of the bytes that the source has
-- left, of those that the sink has taken, and of the two counts of faults.
pub record EndsRestore (up_to : Option ℕ) (status : ℕ) (old new : DiskState) (left left_after written written_after : Option (List ℕ)) (source source_after sink sink_after : ℕ)
    : Type 0 where
  -- there is no other status
  pub statuses : IsRestoreStatus status
  -- whatever the status, a log that was there is as it was
  pub kept : KeepsLog old new
  -- the source was read to its end, a log was restored of its bytes, and the line that says so was written
  pub done : status ≡ 0 → IsRestored up_to old new left left_after × Appends written written_after restored_text
  -- the source failed in this call, no file has changed, and nothing was written
  pub source_fault : status ≡ 2 → ports.Rises source source_after × StaysUnchanged old new × Appends written written_after []
  -- the sink failed in this call, and what was written is a front of the line that tells what happened
  pub sink_fault : status ≡ 3 → ports.Rises sink sink_after
  pub sink_fault_front : status ≡ 3 → (text : List ℕ) × TellsRestoring text up_to old new left left_after × AppendsFront written written_after text
  -- the disk failed in this call, which a steady one doesn't, and the archives are right
  pub disk_fault : status ≡ 4 → TellsWhy 4 up_to old new left left_after written written_after
  -- memory ran out, and nothing was written: no file has changed, or the archives had been read
  pub no_memory : status ≡ 5 → StaysUnchanged old new ⊎ IsUnrestored NoMemory up_to old new left left_after
  pub no_memory_silence : status ≡ 5 → Appends written written_after []
  -- the source gave more bytes than archives may have, no file has changed, and the line that says so was written
  pub too_long : status ≡ 7 → IsLongInput left left_after × StaysUnchanged old new × Appends written written_after too_long_text
  -- a log is there, which is as it was, and the line that says so was written; over a disk that tells what its files hold nothing was read
  pub there : status ≡ 8 → MeetsLog old new × Appends written written_after exists_text
  pub there_unread : status ≡ 8 → TellsContents old → (left_after ≡ left) × (source_after ≡ source)
  -- where a log is there that is told before all else, unless the disk failed in the call
  pub first : TellsContents old → (slot : ℕ) → open_slot_of (old.files 0) ≡ Some slot
      → TellsExists status written written_after ⊎ disks.Rises old.faults new.faults
  -- why no log is restored of the archives was written, and no file has changed
  pub no_archive : status ≡ 12 → TellsWhy 12 up_to old new left left_after written written_after
  pub gap : status ≡ 13 → TellsWhy 13 up_to old new left left_after written written_after
  pub outside : status ≡ 14 → TellsWhy 14 up_to old new left left_after written written_after
  -- time only goes on, and the counts of faults never fall
  pub time : Later old new
  pub source_count : source ≤ source_after
  pub sink_count : sink ≤ sink_after

-- ---- where nothing outside fails

-- Nothing outside fails: the disk tells its files, which have no open slot; the disk, which may be a steady one, the source and the sink don't fail in the
-- call.
pub record NothingFailsRestoring (old new : DiskState) (source source_after sink sink_after : ℕ) : Type 0 where
  pub told : TellsContents old
  pub free : open_slot_of (old.files 0) ≡ None
  pub disk : (disks.Rises old.faults new.faults → ⊥) ⊎ IsSteady old
  pub source_calm : ports.Rises source source_after → ⊥
  pub sink_calm : ports.Rises sink sink_after → ⊥

-- a log was restored, or memory ran out, or the input is too long, or of the archives none is restored
abbrev pub IsRestoringDone : ℕ → Type 0
IsRestoringDone status = IsDone status ⊎ ((status ≡ 7) ⊎ ((status ≡ 12) ⊎ ((status ≡ 13) ⊎ (status ≡ 14))))
