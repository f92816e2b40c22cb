-- What a disk shows at one time, and how a call changes it.
use Rattle.std.specs.Prelude.{◌≡◌, ℕ, ◌+◌, ◌-◌, ◌^◌, ◌<◌, ◌≤◌, min, Bool, IsTrue, []}
use Rattle.clfs_disk.specs.Files.{Files, Unchanged}

-- What a disk is by its making, which no call changes.
pub record Nature : Type 0 where
  pub tells_contents : Bool
  pub tells_images : Bool
  pub steady : Bool

-- What a disk shows: what a read gives where contents are told, the moment, what a crash at each moment up to now leaves
-- where images are told, how many calls were made of the disk, how often it has failed, and its nature.
pub record DiskState : Type 1 where
  pub files : Files
  pub clock : ℕ
  pub image_at : ℕ → Files → Type 0
  pub calls : ℕ
  pub faults : ℕ
  pub nature : Nature

-- The disk tells what its files hold.
abbrev pub TellsContents : DiskState → Type 0
TellsContents disk = IsTrue disk.nature.tells_contents

-- The disk fails in no call but a write that ends past its file's end.
abbrev pub IsSteady : DiskState → Type 0
IsSteady disk = IsTrue disk.nature.steady

-- The disk tells its contents and its images, and so both are as the calls say.
abbrev pub IsHonest : DiskState → Type 0
IsHonest disk = TellsContents disk × IsTrue disk.nature.tells_images

-- A disk at first: its files are empty, and no call was made of it.
pub record IsFirst (disk : DiskState) : Type 0 where
  pub empty : (file : ℕ) → disk.files file ≡ []
  pub calls : disk.calls ≡ 0
  pub faults : disk.faults ≡ 0

-- A crash now leaves this.
abbrev pub MayLeave : DiskState → Files → Type 0
MayLeave disk image = disk.image_at disk.clock image

-- Nothing is pending: a crash now leaves what is read and nothing else.
pub record IsSettled (disk : DiskState) : Type 0 where
  pub honest : IsHonest disk
  pub only : (image : Files) → MayLeave disk image → Unchanged disk.files image

-- A count of calls or of faults after so many more. It stands still at the end of its type.
abbrev pub raised : ℕ → ℕ → ℕ
raised more count = min (count + more) (2 ^ 64 - 1)

-- The count of faults rose, or it stands at the end of its type.
abbrev pub Rises : ℕ → ℕ → Type 0
Rises before now = min (before + 1) (2 ^ 64 - 1) ≤ now

-- Time went on from old to new. What a crash left at the moments up to old stays as it was, and what it leaves at a later
-- one is what it left at old after a change. The count of faults didn't fall.
pub record Passes (change : Files → Files → Type 0) (old new : DiskState) : Type 0 where
  pub later : old.clock ≤ new.clock
  pub past : (moment : ℕ) (image : Files) → moment ≤ old.clock → new.image_at moment image → old.image_at moment image
  pub kept : (moment : ℕ) (image : Files) → moment ≤ old.clock → old.image_at moment image → new.image_at moment image
  pub images : (moment : ℕ) (image : Files) → old.clock < moment → moment ≤ new.clock → new.image_at moment image
      → (before : Files) × MayLeave old before × change before image
  pub faults : old.faults ≤ new.faults
  pub nature : new.nature ≡ old.nature

-- Time went on, whatever became of the files.
abbrev pub Later : DiskState → DiskState → Type 0
Later old new = Passes (λ before image. Unit {0}) old new

-- A crash at any moment from old to new leaves files that have P.
pub record Leaves (P : Files → Type 0) (old new : DiskState) : Type 0 where
  pub later : old.clock ≤ new.clock
  pub past : (moment : ℕ) (image : Files) → moment ≤ old.clock → new.image_at moment image → old.image_at moment image
  pub each : (moment : ℕ) (image : Files) → old.clock ≤ moment → moment ≤ new.clock → new.image_at moment image → P image
