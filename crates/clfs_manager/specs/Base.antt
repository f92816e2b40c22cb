-- Moving the base of a stream, and forgetting what lies below the hold.
use Rattle.std.specs.Prelude.{◌≡◌, ℕ}
use Rattle.clfs_model.specs.declared.state.State.{State}
use Rattle.clfs_lsn.specs.Streams.{set_base}
use Rattle.clfs_manager.specs.declared.log.Log.{Log}

-- the state with the base of a stream moved
abbrev pub with_base : ℕ → ℕ → State → State
with_base stream base s = record s { streams = set_base stream base s.streams }

-- Of a log all is as it was but the tables and the ends of blocks.
pub record KeepsAllButTables (old new : Log) : Type 0 where
  pub state : new.state ≡ old.state
  pub areas : new.areas ≡ old.areas
  pub policies : new.policies ≡ old.policies
  pub physical : new.physical ≡ old.physical
  pub queue : new.queue ≡ old.queue
  pub buffers : new.buffers ≡ old.buffers
  pub broken : new.broken ≡ old.broken
