-- What files stand for. It hangs on the newest base copy and on the open blocks of the containers that this one lists, and on nothing else in the
-- files.
use Rattle.std.specs.Prelude.{◌≡◌, ℕ, ◌*◌, ◌==◌, ◌≤◌, if◌then◌else◌, false, List, [], ◌∷◌, length, Option, Some, None, Result, Ok, Err}
use Rattle.clfs_lsn.specs.Format.{sector_bytes}
use Rattle.clfs_disk.specs.Files.{Files}
use Rattle.clfs_container.specs.OpenBlocks.{AreOpen}
use Rattle.clfs_base.specs.declared.image.BaseImage.{BaseImage}
use Rattle.clfs_base.specs.declared.refusal.NewestRefusal.{NewestRefusal}
use Rattle.clfs_base.specs.declared.refusal.NewestRefusal.TheVariants as newest
use Rattle.clfs_base.specs.Layout.{slot_bytes}
use Rattle.clfs_base.specs.Slots.{newest_of}
use Rattle.clfs_base.specs.Streams.{streams_with}
use Rattle.clfs_model.specs.declared.state.State.{State}
use Rattle.clfs_recover.specs.Walk.{Container, shape_of, slot_offset, walked}
use Rattle.clfs_recover.specs.declared.parts.Parts.{Parts}
use Rattle.clfs_recover.specs.declared.refusal.LoadRefusal.{LoadRefusal}
use Rattle.clfs_recover.specs.declared.refusal.LoadRefusal.TheVariants.{NoBase, Damaged, DiskFault, NoMemory}

-- These are the containers of so many sectors in the files with these numbers, in order: each is the bytes of its file with the open blocks in
-- them.
abbrev pub AreListed : ℕ → Files → List ℕ → List Container → Type 0
AreListed sectors files [] [] = Unit {0}
AreListed sectors files [] (container ∷ containers) = ⊥
AreListed sectors files (number ∷ numbers) [] = ⊥
AreListed sectors files (number ∷ numbers) (container ∷ containers) =
    (container.bytes ≡ files number) × AreOpen sectors container.bytes container.blocks × AreListed sectors files numbers containers

-- why a base file has no newest copy, as the refusal of opening; a wrong byte of a slot is damage in file 0
abbrev pub without_copy : NewestRefusal → LoadRefusal
without_copy newest.NoBase = NoBase
without_copy (newest.BadByte slot at) = Damaged 0 (slot_offset slot) at
without_copy newest.DiskFault = DiskFault
without_copy newest.NoMemory = NoMemory

-- what opening finds after this newest base copy
abbrev pub FindsBehind : Files → Result Parts LoadRefusal → Result (ℕ × BaseImage) NewestRefusal → Type 0
FindsBehind files found (Err refusal) = found ≡ Err (without_copy refusal)
FindsBehind files found (Ok (slot, image)) =
    (listed : List Container) × AreListed image.container_sectors files image.files listed × (found ≡ walked slot image listed)

-- Opening finds this in files: why there is no newest base copy, or what the walk over the open blocks of the listed containers finds.
abbrev pub Finds : Files → Result Parts LoadRefusal → Type 0
Finds files found = FindsBehind files found (newest_of (files 0))

-- a policy that is installed, or 0
abbrev pub policy_of : ℕ → Option ℕ
policy_of value = if value == 0 then None else Some value

-- The state of a log that was opened with so many write buffers: no areas, nothing waits, and it isn't broken.
abbrev pub state_of : Parts → ℕ → State
state_of parts buffers = record {
  shape = shape_of parts.image;
  dedicated = parts.image.dedicated;
  containers = parts.image.containers;
  buffers = buffers;
  streams = streams_with parts.image.streams parts.bases;
  records = parts.entries;
  place = parts.place;
  waiting = [];
  areas = [];
  archive = if parts.image.archiving then Some parts.image.tail else None;
  maximum = policy_of parts.image.maximum;
  minimum = policy_of parts.image.minimum;
  growth = policy_of parts.image.growth;
  automatic = parts.image.automatic;
  broken = false;
}

-- Files stand for a state: opening finds it. The number of write buffers is free.
pub record StandsFor (files : Files) (s : State) : Type 0 where
  pub parts : Parts
  pub found : Finds files (Ok parts)
  pub is : s ≡ state_of parts s.buffers

-- The walk of opening fails in files, and this is the first place.
abbrev pub IsDamaged : Files → ℕ → ℕ → ℕ → Type 0
IsDamaged files container offset at = Finds files (Err (Damaged container offset at))

-- No slot of the base file is open.
abbrev pub HasNoBase : Files → Type 0
HasNoBase files = newest_of (files 0) ≡ Err newest.NoBase

-- The files of a log are there at full length: the base file, and each container's file that was made.
pub record AreWholeFiles (files : Files) : Type 0 where
  pub slot : ℕ
  pub image : BaseImage
  pub newest : newest_of (files 0) ≡ Ok (slot, image)
  pub base_file : 2 * slot_bytes ≤ length (files 0)
  pub containers : (file : ℕ) → 1 ≤ file → file ≤ image.files_made → sector_bytes * image.container_sectors ≤ length (files file)
