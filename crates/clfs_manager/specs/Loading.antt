-- Opening the log on a disk.
use Rattle.std.specs.Prelude.{◌≡◌, ◌≢◌, ℕ, Result, IfOk, IfErr}
use Rattle.clfs_disk.specs.Files.{Unchanged}
use Rattle.clfs_disk.specs.State.{DiskState, TellsContents, IsHonest, IsSettled, IsSteady, Passes, Rises}
use Rattle.clfs_model.specs.declared.state.State.{State}
use Rattle.clfs_model.specs.Flush.{cut}
use Rattle.clfs_model.specs.Storable.{IsStorable}
use Rattle.clfs_model.specs.Valid.{IsValid}
use Rattle.clfs_recover.specs.declared.refusal.LoadRefusal.TheVariants as loads
use Rattle.clfs_recover.specs.Files.{StandsFor}
use Rattle.clfs_recover.specs.Opening.{IsRefused}
use Rattle.clfs_recover.specs.Telling.{TellsOpening}
use Rattle.clfs_manager.specs.declared.manager.LoadRefused.{LoadRefused}

-- What opening the log on a disk answers, with so many write buffers, where a manager stands for the state and the disk of a pair.
pub record Opens {D : Type 0} (state : D → DiskState) (write_buffers : ℕ) (disk : D) (result : Result (State × D) (LoadRefused D)) : Type 0 where
  -- The state is the one for which the files stand, with so many write buffers, and one that a log can be in; over a disk that doesn't
  -- tell what its files hold it is some such state.
  pub loaded : IfOk result (λ manager. TellsContents (state disk) → StandsFor (state disk).files manager.0)
  pub buffers : IfOk result (λ manager. manager.0.buffers ≡ write_buffers)
  pub valid : IfOk result (λ manager. IsValid manager.0)
  pub storable : IfOk result (λ manager. IsStorable manager.0)
  pub stable : IfOk result (λ manager. cut manager.0 ≡ manager.0)
  pub settled : IfOk result (λ manager. IsHonest (state disk) → IsSettled (state manager.1))
  -- A refusal is what opening finds in the files: that no slot is open, or the first place of damage.
  pub refused : IfErr result (λ refused. TellsContents (state disk) → IsRefused (state disk).files refused.cause)
  -- Whatever the disk, damage is told of some bytes that fail at just that place: of a base copy, or of a block of a container that it lists.
  pub place : IfErr result (λ refused. TellsOpening refused.cause)
  -- No file changes.
  pub same : IfOk result (λ manager. Unchanged (state disk).files (state manager.1).files × Passes Unchanged (state disk) (state manager.1))
  pub same_refused : IfErr result (λ refused. Unchanged (state disk).files (state refused.disk).files
      × Passes Unchanged (state disk) (state refused.disk))
  -- A fault is told only where the disk failed in the call, and never over a steady disk.
  pub cause : IfErr result (λ refused. refused.cause ≡ loads.DiskFault → Rises (state disk).faults (state refused.disk).faults)
  pub steady : IsSteady (state disk) → IfErr result (λ refused. refused.cause ≢ loads.DiskFault)
