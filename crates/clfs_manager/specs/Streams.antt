-- A stream more.
use Rattle.std.specs.Prelude.{◌≡◌, ℕ, List, [], ◌∷◌, ◌++◌}
use Rattle.clfs_lsn.specs.Lsn.{null_lsn}
use Rattle.clfs_disk.specs.State.{DiskState}
use Rattle.clfs_model.specs.declared.refusal.Refusal.{Refusal}
use Rattle.clfs_model.specs.declared.refusal.Refusal.TheVariants as refusals
use Rattle.clfs_model.specs.declared.state.State.{State}
use Rattle.clfs_manager.specs.Flushing.{IsBroken}
use Rattle.clfs_manager.specs.Written.{IsIntact}
use Rattle.clfs_manager.specs.declared.log.Log.{Log}

-- the state with a stream of this name after the others, which has no base
abbrev pub with_stream : List ℕ → State → State
with_stream name s = record s { streams = s.streams ++ record { name = name; base = null_lsn } ∷ [] }

-- Out of memory for a stream leaves the log intact, with the state of before; a fault breaks it. Nothing else refuses one.
abbrev pub IsNotAdded : Refusal → DiskState → Log → Log → Type 0
IsNotAdded refusals.NoMemory disk old new = (new.state.value ≡ old.state.value) × IsIntact disk new
IsNotAdded refusals.DiskFault disk old new = IsBroken old new
IsNotAdded _ disk old new = ⊥
