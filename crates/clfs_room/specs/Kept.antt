-- What is true of the numbers in a `Space`.
use Rattle.std.specs.Prelude.{◌≡◌, ◌≤◌}
use Rattle.clfs_lsn.specs.Lsn.{container_of}
use Rattle.clfs_model.specs.Live.{hold}
use Rattle.clfs_model.specs.Space.{reserved}
use Rattle.clfs_model.specs.Valid.{IsValid}
use Rattle.clfs_room.specs.declared.space.Space.TheInside.{Inside}

-- Each number is the state's, which is one that a log can be in.
pub record IsKept (inside : Inside) : Type 0 where
  pub shape : inside.shape ≡ inside.state.value.shape
  pub place : inside.place ≡ inside.state.value.place
  pub needed : inside.needed ≡ hold inside.state.value
  -- the least LSN that is needed lies in the place's container, or in one before it
  pub low : container_of inside.needed ≤ inside.place.container
  pub containers : inside.containers ≡ inside.state.value.containers
  pub held : inside.held ≡ reserved inside.state.value
  pub maximum : inside.policies.maximum ≡ inside.state.value.maximum
  pub minimum : inside.policies.minimum ≡ inside.state.value.minimum
  pub growth : inside.policies.growth ≡ inside.state.value.growth
  pub automatic : inside.policies.automatic ≡ inside.state.value.automatic
  pub valid : IsValid inside.state.value
