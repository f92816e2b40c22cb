-- How restoring ends for whoever looked at the disk before: with a log, or with why there is none.
use Rattle.std.specs.Prelude.{◌≡◌, ◌≢◌, ◌⊎◌, ℕ, ◌≤◌, List, length, Option, None}
use Rattle.clfs_disk.specs.Files.{Files, Unchanged}
use Rattle.clfs_disk.specs.State.{DiskState, TellsContents, IsSteady, IsHonest, IsSettled, Leaves, Later, Passes, Rises}
use Rattle.clfs_base.specs.Writing.{HasNoCopy}
use Rattle.clfs_recover.specs.Files.{AreWholeFiles}
use Rattle.clfs_format.specs.Making.{open_slot_of, KeepsLog}
use Rattle.clfs_restore.specs.declared.refusal.RestoreRefusal.{RestoreRefusal}
use Rattle.clfs_restore.specs.declared.refusal.RestoreRefusal.TheVariants.{DiskFault}
use Rattle.clfs_restore.specs.Restoring.{AreChosen, StandForRestored, RestoresAtOnce, GrowsBase, base_bytes, IsFreeCause, IsRestoreCause, IsOfMaking, LooksFirst}

-- No slot is open, or files stand for what is restored of these bytes.
abbrev pub NoneOrRestored : List ℕ → Option ℕ → Files → Type 0
NoneOrRestored bytes up_to files = HasNoCopy files ⊎ StandForRestored bytes up_to files

-- A log was restored of these bytes, up to an LSN or as far as they reach.
pub record RestoresLog (bytes : List ℕ) (up_to : Option ℕ) (old new : DiskState) : Type 0 where
  -- the bytes are archives of which it can be, and no slot was open
  pub chosen : AreChosen bytes up_to
  pub free : TellsContents old → open_slot_of (old.files 0) ≡ None
  -- the files stand for what is restored, are at full length, and nothing is pending
  pub restored : TellsContents old → StandForRestored bytes up_to new.files
  pub whole : TellsContents old → AreWholeFiles new.files
  pub settled : IsHonest old → IsSettled new
  -- the log came to be there at once
  pub moments : IsHonest old → RestoresAtOnce bytes up_to old new
  pub all_moments : IsSettled old → open_slot_of (old.files 0) ≡ None → base_bytes ≤ length (old.files 0) → Leaves (NoneOrRestored bytes up_to) old new
  pub time : Later old new

-- No log was told as restored of these bytes, for this cause.
pub record RefusesRestoring (cause : RestoreRefusal) (bytes : List ℕ) (up_to : Option ℕ) (old new : DiskState) : Type 0 where
  pub why : IsRestoreCause old bytes up_to cause
  pub first : LooksFirst cause old new
  -- where that is a slot that is open, or what the archives are, nothing has changed; and nothing where a slot was open
  pub same : (IsOfMaking cause → ⊥) → Unchanged old.files new.files × Passes Unchanged old new
  pub kept : KeepsLog old new
  -- what a crash leaves
  pub moments : IsHonest old → open_slot_of (old.files 0) ≡ None → GrowsBase old new ⊎ RestoresAtOnce bytes up_to old new
  pub all_moments : IsSettled old → open_slot_of (old.files 0) ≡ None → base_bytes ≤ length (old.files 0) → Leaves (NoneOrRestored bytes up_to) old new
  pub time : Later old new
  -- a fault is told only where the disk failed, and never over a steady one
  pub fault : cause ≡ DiskFault → Rises old.faults new.faults
  pub steady : IsSteady old → cause ≢ DiskFault

-- Before restoring the disk may be read: what comes of it is said from before the reads on. `state` says what a disk shows.
pub record ReadsComeFirst {D : Type 0} (state : D → DiskState) : Type 0 where
  pub restores : (bytes : List ℕ) (up_to : Option ℕ) (old mid new : D) → Unchanged (state old).files (state mid).files → Passes Unchanged (state old) (state mid)
      → RestoresLog bytes up_to (state mid) (state new) → RestoresLog bytes up_to (state old) (state new)
  pub refuses : (cause : RestoreRefusal) (bytes : List ℕ) (up_to : Option ℕ) (old mid new : D) → Unchanged (state old).files (state mid).files
      → Passes Unchanged (state old) (state mid) → RefusesRestoring cause bytes up_to (state mid) (state new)
      → RefusesRestoring cause bytes up_to (state old) (state new)
  -- the disk failed in these reads, and nothing else was done
  pub fails : (cause : RestoreRefusal) (bytes : List ℕ) (up_to : Option ℕ) (old new : D) → Unchanged (state old).files (state new).files
      → Passes Unchanged (state old) (state new) → Rises (state old).faults (state new).faults → (IsSteady (state old) → ⊥)
      → IsFreeCause bytes up_to cause → RefusesRestoring cause bytes up_to (state old) (state new)
