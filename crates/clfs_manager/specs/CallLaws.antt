-- What files stand for, and what a crash leaves of a call: laws of lower crates that most calls which write cite together.
use Rattle.std.specs.Prelude.{◌≡◌, ℕ, ◌<◌, true, List, Ok, Some, length, map, slice_index}
use Rattle.clfs_lsn.specs.declared.entry.LogEntry.{LogEntry}
use Rattle.clfs_disk.specs.Files.{Files}
use Rattle.clfs_container.specs.OpenBlocks.{AreWhole}
use Rattle.clfs_base.specs.declared.image.BaseImage.{BaseImage}
use Rattle.clfs_base.specs.Slots.{newest_of}
use Rattle.clfs_model.specs.declared.call.Call.{Call}
use Rattle.clfs_laws.specs.Refused.{is_of_call}
use Rattle.clfs_model.specs.declared.refusal.Refusal.{Refusal}
use Rattle.clfs_model.specs.declared.state.State.{State}
use Rattle.clfs_model.specs.Flush.{cut}
use Rattle.clfs_model.specs.Refusals.{refusal}
use Rattle.clfs_model.specs.Run.{asks, bad_line, fine_outcome}
use Rattle.clfs_model.specs.Storable.{IsStorable}
use Rattle.clfs_model.specs.Survivors.{Survives}
use Rattle.clfs_model.specs.Valid.{IsValid}
use Rattle.clfs_recover.specs.Files.{StandsFor}
use Rattle.clfs_recover.specs.Logs.{IsLogWith, stored_state}
use Rattle.clfs_recover.specs.Stored.{HasLog}

-- a log of a copy and blocks stands for its state
abbrev pub StandByBlocks : Type 0
StandByBlocks = (slot : ℕ) (image : BaseImage) (blocks : List (List (List ℕ))) (entries : List LogEntry) (files : Files) (buffers : ℕ)
    → HasLog slot image blocks files → IsLogWith image blocks entries → StandsFor files (stored_state image blocks entries buffers)

-- files that have a copy and blocks by their numbers have the log of these
abbrev pub HaveByFile : Type 0
HaveByFile = (slot : ℕ) (image : BaseImage) (blocks : ℕ → List (List ℕ)) (files : Files) → newest_of (files 0) ≡ Ok (slot, image)
    → ((i : ℕ) → i < length image.files → AreWhole image.container_sectors (files (slice_index image.files i)) (blocks (slice_index image.files i)))
    → HasLog slot image (map blocks image.files) files

-- that the flushed part of what a call leaves survives it
abbrev pub SurvivesAfter : Type 0
SurvivesAfter = (s : State) (client : ℕ) (call : Call) → IsValid s → IsStorable s
    → Survives (asks client call) s (cut (fine_outcome s (asks client call)).state)

-- what files stand for, that the flushed parts of the states before and after a call survive it, that the flushed part survives where nothing is asked,
-- and that a call's refusals are its own
pub record CallLaws : Type 0 where
  pub stands : StandByBlocks
  pub by_file : HaveByFile
  pub before : (s : State) (client : ℕ) (call : Call) → IsValid s → Survives (asks client call) s (cut s)
  pub after : SurvivesAfter
  pub nothing : (s : State) (at : ℕ) → IsValid s → Survives (bad_line at) s (cut s)
  pub own : (s : State) (client : ℕ) (call : Call) (given : Refusal) → refusal s client call ≡ Some given → is_of_call given ≡ true
