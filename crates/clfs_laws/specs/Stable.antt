-- What a call leaves of that which a crash leaves.
use Rattle.std.specs.Prelude.{◌≡◌}
use Rattle.clfs_model.specs.declared.state.State.{State}
use Rattle.clfs_model.specs.Flush.{flushed}
use Rattle.clfs_model.specs.Survivors.{HasSettings, HasBases}

-- The flushed LSN, the streams and their bases, the number of containers, archiving and the policies are as they were.
pub record LeavesStable (s t : State) : Type 0 where
  pub flushed : flushed t ≡ flushed s
  pub settings : HasSettings s t
  pub bases : HasBases s t
