-- How a log that is made comes to be there at once.
use Rattle.std.specs.Prelude.{◌⊎◌, ℕ, ◌≤◌, Bool}
use Rattle.clfs_lsn.specs.declared.shape.Shape.{Shape}
use Rattle.clfs_disk.specs.Files.{Files}
use Rattle.clfs_disk.specs.State.{DiskState}
use Rattle.clfs_base.specs.Writing.{HasNoCopy}
use Rattle.clfs_model.specs.State.{fresh}
use Rattle.clfs_recover.specs.Files.{StandsFor}

-- There is a moment within a call at which no slot is open, and from which on a crash leaves no open slot, or files that stand for a fresh log: so
-- it comes to be there at once.
pub record ComesAtOnce (shape : Shape) (dedicated : Bool) (containers : ℕ) (old new : DiskState) : Type 0 where
  pub since : ℕ
  pub begun : old.clock ≤ since
  pub ended : since ≤ new.clock
  pub none : (image : Files) → new.image_at since image → HasNoCopy image
  pub later : (moment : ℕ) (image : Files) → since ≤ moment → moment ≤ new.clock → new.image_at moment image
      → HasNoCopy image ⊎ ((buffers : ℕ) → StandsFor image (fresh shape dedicated containers buffers))
