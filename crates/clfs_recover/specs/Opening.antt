-- What opening answers, against what files stand for.
use Rattle.std.specs.Prelude.{◌≡◌, ℕ, List, map, Result, Ok, Err}
use Rattle.clfs_lsn.specs.Head.{head_of}
use Rattle.clfs_lsn.specs.declared.entry.LogEntry.{LogEntry}
use Rattle.clfs_disk.specs.Files.{Files}
use Rattle.clfs_base.specs.declared.image.BaseImage.{BaseImage}
use Rattle.clfs_recover.specs.Files.{Finds, IsDamaged, HasNoBase}
use Rattle.clfs_recover.specs.Stored.{HaveBlocks}
use Rattle.clfs_recover.specs.KnownLogs.{IsLogOf}
use Rattle.clfs_recover.specs.declared.opening.Walked.{Walked}
use Rattle.clfs_recover.specs.declared.parts.Parts.{Parts}
use Rattle.clfs_recover.specs.declared.parts.HeadParts.{HeadParts}
use Rattle.clfs_recover.specs.declared.refusal.LoadRefusal.{LoadRefusal}
use Rattle.clfs_recover.specs.declared.refusal.LoadRefusal.TheVariants.{NoBase, Damaged, DiskFault, NoMemory}

-- what was walked, with its records
abbrev pub parts_of : Walked → List LogEntry → Parts
parts_of walked entries =
    record { slot = walked.slot; image = walked.image; entries = entries; bases = walked.bases; place = walked.place }

-- what was opened with heads, with the records that are told in place of them
abbrev pub told_parts : HeadParts → Parts
told_parts opened =
    record { slot = opened.slot; image = opened.image; entries = opened.entries.value; bases = opened.bases; place = opened.place }

-- A refusal is the one that opening finds in files. A fault of the disk, or out of memory, may come in place of any answer.
abbrev pub IsRefused : Files → LoadRefusal → Type 0
IsRefused files NoBase = HasNoBase files
IsRefused files (Damaged container offset at) = IsDamaged files container offset at
IsRefused files DiskFault = Unit {0}
IsRefused files NoMemory = Unit {0}

-- The walk after a base copy left a log whose records the gatherer has. Where the contents of the files are told, its blocks are their open ones.
pub record IsWalkedLog (has : List LogEntry → Type 0) (told : Type 0) (files : Files) (slot : ℕ) (image : BaseImage) (walked : Walked) : Type 0 where
  pub entries : List LogEntry
  pub taken : has entries
  pub slot_is : walked.slot ≡ slot
  pub image_is : walked.image ≡ image
  pub log : IsLogOf (parts_of walked entries)
  pub stand : told → HaveBlocks image.container_sectors files image.files log.blocks

-- The walk is the one that opening finds, and the gatherer has taken its records.
abbrev pub IsWalked : (List LogEntry → Type 0) → Files → Result Walked LoadRefusal → Type 0
IsWalked has files (Ok walked) = (entries : List LogEntry) × has entries × Finds files (Ok (parts_of walked entries))
IsWalked has files (Err refusal) = IsRefused files refusal

-- What was loaded is what opening finds.
abbrev pub IsLoaded : Files → Result Parts LoadRefusal → Type 0
IsLoaded files (Ok parts) = Finds files (Ok parts)
IsLoaded files (Err refusal) = IsRefused files refusal

-- The same with the heads of the records.
abbrev pub AreHeadsLoaded : Files → Result HeadParts LoadRefusal → Type 0
AreHeadsLoaded files (Ok opened) = (opened.heads ≡ map head_of opened.entries.value) × Finds files (Ok (told_parts opened))
AreHeadsLoaded files (Err refusal) = IsRefused files refusal
