-- What making a log leaves in its files, and how the log comes to be there at once.
use Rattle.std.specs.Prelude.{◌≡◌, ◌≢◌, ◌⊎◌, ◌==◌, ℕ, ◌+◌, ◌*◌, ◌<◌, ◌≤◌, Bool, false, if◌then◌else◌, List, [], ◌∷◌, length, slice_index, Option, Some, None, Result, Ok, Err}
use Rattle.clfs_lsn.specs.Format.{sector_bytes, open_gate}
use Rattle.clfs_lsn.specs.Lsn.{null_lsn}
use Rattle.clfs_lsn.specs.declared.shape.Shape.{Shape}
use Rattle.clfs_disk.specs.Files.{Files, Unchanged}
use Rattle.clfs_disk.specs.State.{DiskState, TellsContents, IsSteady, Passes}
use Rattle.clfs_disk.specs.declared.disk.GrowRefusal.{GrowRefusal}
use Rattle.clfs_disk.specs.declared.disk.GrowRefusal.TheVariants as growths
use Rattle.clfs_base.specs.declared.image.BaseImage.{BaseImage}
use Rattle.clfs_base.specs.Layout.{slot_bytes}
use Rattle.clfs_base.specs.Slots.{is_open_slot, newest_of}
use Rattle.clfs_base.specs.Writing.{HasNoCopy}
use Rattle.clfs_format.specs.declared.refusal.FormatRefusal.{FormatRefusal}
use Rattle.clfs_format.specs.declared.refusal.FormatRefusal.TheVariants.{Exists, DiskFault, NoMemory}

-- a growth that was refused, as making a log tells it
abbrev pub growth_refused : GrowRefusal → FormatRefusal
growth_refused growths.Failed = DiskFault
growth_refused growths.NoMemory = NoMemory

-- The base copy of a log that has just been made: container 1 alone is listed, in file 1. It has no streams and no policies, and archiving is off.
abbrev pub first_image : Shape → Bool → ℕ → BaseImage
first_image shape dedicated containers = record {
  version = 2;
  turn = 0;
  block_sectors = shape.block_sectors;
  container_sectors = shape.container_sectors;
  containers = containers;
  files_made = containers;
  first = 1;
  archiving = false;
  automatic = false;
  maximum = 0;
  minimum = 0;
  growth = 0;
  tail = null_lsn;
  dedicated = dedicated;
  files = 1 ∷ [];
  streams = [];
}

-- the lowest slot of a base file whose gate is there and open
abbrev pub open_slot_of : List ℕ → Option ℕ
open_slot_of base = if is_open_slot base 0 then Some 0 else if is_open_slot base 1 then Some 1 else None

-- how long a log's file of this number is: the base file has two slots, each other file a container
abbrev pub full_length : Shape → ℕ → ℕ
full_length shape file = if file == 0 then 2 * slot_bytes else sector_bytes * shape.container_sectors

-- so many files, from 0 on, are at full length
abbrev pub AreLong : Shape → ℕ → Files → Type 0
AreLong shape count files = (file : ℕ) → file < count → full_length shape file ≤ length (files file)

-- No slot of the base file is open, and file 1 begins with a gate that is there and closed.
pub record HasNoGates (files : Files) : Type 0 where
  pub first_slot : is_open_slot (files 0) 0 ≡ false
  pub second_slot : is_open_slot (files 0) 1 ≡ false
  pub there : 0 < length (files 1)
  pub closed : slice_index (files 1) 0 ≢ open_gate

-- The files of a log that has just been made: its newest base copy is the first one, and file 1 begins with a gate that is there and closed.
pub record IsMade (shape : Shape) (dedicated : Bool) (containers : ℕ) (files : Files) : Type 0 where
  pub newest : newest_of (files 0) ≡ Ok (0, first_image shape dedicated containers)
  pub there : 0 < length (files 1)
  pub closed : slice_index (files 1) 0 ≢ open_gate

-- There is a moment within a call at which no slot is open, and from which on a crash leaves no open slot, or the files of a log that has just been made.
pub record IsMadeAtOnce (shape : Shape) (dedicated : Bool) (containers : ℕ) (old new : DiskState) : Type 0 where
  pub since : ℕ
  pub begun : old.clock ≤ since
  pub ended : since ≤ new.clock
  pub none : (image : Files) → new.image_at since image → HasNoCopy image
  pub later : (moment : ℕ) (image : Files) → since ≤ moment → moment ≤ new.clock → new.image_at moment image
      → HasNoCopy image ⊎ IsMade shape dedicated containers image

-- Each file is as long as it was.
abbrev pub SameLengths : Files → Files → Type 0
SameLengths old new = (file : ℕ) → length (new file) ≡ length (old file)

-- The base file is as it was.
abbrev pub BaseStays : Files → Files → Type 0
BaseStays old new = new 0 ≡ old 0

-- A disk that tells what its files hold, or is steady: how long its files are after a growth is known.
abbrev pub KnowsLengths : DiskState → Type 0
KnowsLengths disk = TellsContents disk ⊎ IsSteady disk

-- Where a slot of the base file was open no file changes, and a crash leaves what it would have left.
abbrev pub KeepsLog : DiskState → DiskState → Type 0
KeepsLog old new = TellsContents old → (slot : ℕ) → open_slot_of (old.files 0) ≡ Some slot → Unchanged old.files new.files × Passes Unchanged old new

-- How many calls of the disk it takes to make a log: two reads of gates, a growth for each file and a sync, closed gates by three writes and a
-- sync, and the copy and its gate by a write and a sync each.
abbrev pub making_calls : ℕ → ℕ
making_calls containers = containers + 12

-- What is answered by whether a log is there: this slot is open, or none. Out of memory is told only if none is.
abbrev pub IsFree : Result (Unit {0}) FormatRefusal → List ℕ → Type 0
IsFree (Ok done) base = open_slot_of base ≡ None
IsFree (Err (Exists slot)) base = open_slot_of base ≡ Some slot
IsFree (Err DiskFault) base = Unit {0}
IsFree (Err NoMemory) base = open_slot_of base ≡ None
