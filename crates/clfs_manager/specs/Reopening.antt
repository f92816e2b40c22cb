-- Opening a log again: why it is refused, and what files hold of a log.
use Rattle.std.specs.Prelude.{◌≡◌}
use Rattle.clfs_disk.specs.Files.{Files}
use Rattle.clfs_model.specs.declared.refusal.Refusal.{Refusal}
use Rattle.clfs_model.specs.declared.refusal.Refusal.TheVariants as refusals
use Rattle.clfs_model.specs.declared.state.State.{State}
use Rattle.clfs_model.specs.Flush.{cut, IsSame}
use Rattle.clfs_recover.specs.Files.{StandsFor}
use Rattle.clfs_recover.specs.Telling.{TellsOpening}
use Rattle.clfs_recover.specs.declared.refusal.LoadRefusal.{LoadRefusal}
use Rattle.clfs_recover.specs.declared.refusal.LoadRefusal.TheVariants.{NoBase, Damaged, DiskFault, NoMemory}

-- why a log wasn't opened, as opening it again tells it: a base file without an open slot is damage at its first byte
abbrev pub refused_as : LoadRefusal → Refusal
refused_as NoBase = refusals.Damaged 0 0 0
refused_as (Damaged container offset at) = refusals.Damaged container offset at
refused_as DiskFault = refusals.DiskFault
refused_as NoMemory = refusals.NoMemory

-- Files hold the flushed part of a state: they stand for one that is the same to every reply.
pub record HoldsFlushed (files : Files) (s : State) : Type 0 where
  pub opened : State
  pub stands : StandsFor files opened
  pub same : IsSame (cut s) opened

-- Damage is told for a reason that opening tells.
pub record TellsReason (refusal : Refusal) : Type 0 where
  pub reason : LoadRefusal
  pub told : TellsOpening reason
  pub is : refusal ≡ refused_as reason

-- the same of damage alone; of other refusals nothing is said
abbrev pub TellsPlace : Refusal → Type 0
TellsPlace (refusals.Damaged container offset at) = TellsReason (refusals.Damaged container offset at)
TellsPlace _ = Unit {0}
