-- What stays of a log's newest base copy, and of the files that it counts, while a call goes through its small changes.
use Rattle.std.specs.Prelude.{◌≡◌, ◌⊎◌, ℕ, ◌*◌, ◌<◌, ◌≤◌, false, length}
use Rattle.clfs_lsn.specs.Format.{sector_bytes}
use Rattle.clfs_disk.specs.State.{DiskState, TellsContents, IsSteady}
use Rattle.clfs_physical.specs.Joined.{SameLengths}
use Rattle.clfs_physical.specs.Stored.{Newest}
use Rattle.clfs_manager.specs.Written.{IsCurrent}
use Rattle.clfs_manager.specs.declared.log.Log.{Log}

-- The newest copy in memory is the one of before, or one of the second version.
abbrev pub StaysOrIsCurrent : Newest → Newest → Type 0
StaysOrIsCurrent before after = (after ≡ before) ⊎ IsCurrent after.image

-- A small change: a copy that it writes is of the second version and counts no further file, and no file changes its length.
pub record KeepsFiles (old new : DiskState) (before after : Newest) : Type 0 where
  pub copy : StaysOrIsCurrent before after
  pub made : after.image.files_made ≡ before.image.files_made
  pub lengths : SameLengths old.files new.files

-- A log that may have grown, and isn't broken: a copy that was written is of the second version, and the files that it counts besides are at full length.
pub record CountsFiles (old new : DiskState) (before after : Log) : Type 0 where
  pub unbroken : after.broken ≡ false
  pub copy : StaysOrIsCurrent before.physical after.physical
  pub made : TellsContents old ⊎ IsSteady old → (file : ℕ) → before.physical.image.files_made < file → file ≤ after.physical.image.files_made
      → sector_bytes * before.physical.image.container_sectors ≤ length (new.files file)
