-- What is set of a log: its policies and archiving.
use Rattle.std.specs.Prelude.{◌≡◌, ℕ, Option, is_some, unwrap_or}
use Rattle.clfs_lsn.specs.Lsn.{null_lsn}
use Rattle.clfs_model.specs.declared.state.State.{State}
use Rattle.clfs_physical.specs.declared.change.Change.{Change}
use Rattle.clfs_physical.specs.declared.change.Change.TheVariants as changes
use Rattle.clfs_policy.specs.declared.policies.Policies.{Policies}
use Rattle.clfs_manager.specs.declared.log.Log.{Log}

-- the state with these policies
abbrev pub with_policies : Policies → State → State
with_policies policies s =
    record s { maximum = policies.maximum; minimum = policies.minimum; growth = policies.growth; automatic = policies.automatic }

-- the change of a base copy that stores them
abbrev pub change_to : Policies → Change
change_to policies =
    changes.Policies policies.automatic (unwrap_or policies.maximum 0) (unwrap_or policies.minimum 0) (unwrap_or policies.growth 0)

-- Of a log the tables, the areas, the queue, the ends of blocks and the blocks that were read are as they were.
pub record KeepsTables (old new : Log) : Type 0 where
  pub tables : new.tables ≡ old.tables
  pub areas : new.areas ≡ old.areas
  pub ends : new.archive.blocks ≡ old.archive.blocks
  pub queue : new.queue ≡ old.queue
  pub buffers : new.buffers ≡ old.buffers
  pub broken : new.broken ≡ old.broken

-- Of a log the areas, the queue and the blocks that were read are as they were.
pub record KeepsQueue (old new : Log) : Type 0 where
  pub areas : new.areas ≡ old.areas
  pub queue : new.queue ≡ old.queue
  pub buffers : new.buffers ≡ old.buffers
  pub broken : new.broken ≡ old.broken

-- the state with archiving off, or on with this tail
abbrev pub with_archive : Option ℕ → State → State
with_archive tail s = record s { archive = tail }

-- the change of a base copy that stores it
abbrev pub archive_change : Option ℕ → Change
archive_change tail = changes.Archive (is_some tail) (unwrap_or tail null_lsn)
