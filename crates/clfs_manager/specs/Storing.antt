-- What a call that writes what the disk has of a log leaves there and in memory, by what it answers.
use Rattle.std.specs.Prelude.{◌≡◌, Result, OnOk, OnErr, IsOk}
use Rattle.clfs_base.specs.declared.image.BaseImage.{BaseImage}
use Rattle.clfs_disk.specs.State.{DiskState, IsSettled, IsSteady, Later, Rises}
use Rattle.clfs_model.specs.declared.state.State.{State}
use Rattle.clfs_physical.specs.Stored.{AreMade}
use Rattle.clfs_manager.specs.Crashes.{StoredMeanwhile}
use Rattle.clfs_manager.specs.Flushing.{IsBroken, StoredAfter}
use Rattle.clfs_manager.specs.Memory.{Holds}
use Rattle.clfs_manager.specs.declared.log.Log.{Log}

-- How the calls of the disk went for a log with this newest base copy. Once they are done nothing is pending where nothing was. They fail only where the
-- disk failed in them, and never over a steady disk whose files are at full length.
pub record CallsDisk {A E : Type 0} (result : Result A E) (image : BaseImage) (old new : DiskState) : Type 0 where
  pub settled : OnOk result (IsSettled old → IsSettled new)
  pub time : Later old new
  pub cause : OnErr result (Rises old.faults new.faults)
  pub steady : IsSteady old → AreMade image old.files → IsOk result × (new.faults ≡ old.faults)

-- A log has a further state, and the disk what it has of that one; a crash meanwhile leaves what is there of the one or the other. Where the calls of
-- the disk fail the log is broken.
pub record StoresState {A E : Type 0} (result : Result A E) (further : State) (old new : DiskState) (before after : Log) : Type 0 where
  pub state : OnOk result (after.state.value ≡ further)
  pub holds : OnOk result (Holds after.state.value after)
  pub stored : OnOk result (StoredAfter old new before.state.value after.state.value before.physical after.physical)
  pub meanwhile : StoredMeanwhile old new before.state.value further before.physical
  pub broken : OnErr result (IsBroken before after)
  pub calls : CallsDisk result before.physical.image old new
