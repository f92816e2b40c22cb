-- What a crash leaves while the calls of a journal are made, one after the other.
use Rattle.std.specs.Prelude.{◌≡◌, ℕ, ◌<◌, ◌≤◌, Bool, true, false, List, [], ◌∷◌, Contains}
use Rattle.clfs_lsn.specs.declared.entry.LogEntry.{LogEntry}
use Rattle.clfs_disk.specs.Files.{Files}
use Rattle.clfs_model.specs.declared.call.Call.{Call}
use Rattle.clfs_model.specs.declared.journal.Entry.{Entry}
use Rattle.clfs_model.specs.declared.state.State.{State}
use Rattle.clfs_model.specs.Flush.{flushed}
use Rattle.clfs_model.specs.Live.{is_live, live}
use Rattle.clfs_model.specs.Run.{asks, bad_line}
use Rattle.clfs_model.specs.Step.{Step}
use Rattle.clfs_recover.specs.Files.{StandsFor}
use Rattle.clfs_manager.specs.Crashes.{HoldSurvivor}

-- what a crash leaves at each moment
abbrev pub Images : Type 1
Images = ℕ → Files → Type 0

-- what it leaves at the moments after one
abbrev pub since : ℕ → Images → Images
since from images moment image = (from < moment) × images moment image

-- A crash at a moment from the first to the second, at these too, leaves files of which this holds. A broken log makes no call on the disk, so that no
-- time passes.
pub record HoldsMeanwhile (holds : Files → Type 0) (images : Images) (from to : ℕ) (s : State) : Type 0 where
  pub later : from ≤ to
  pub still : s.broken ≡ true → to ≡ from
  pub leaves : s.broken ≡ false → (moment : ℕ) (image : Files) → from ≤ moment → moment ≤ to → images moment image → holds image

-- From one moment to another the log is in this state, and a crash leaves the flushed part of it, which is what survives a bad line: no call is made, or
-- such alone as run out of memory.
abbrev pub StaysFlushed : Bool → Images → ℕ → ℕ → State → Type 0
StaysFlushed whole images from to s = HoldsMeanwhile (HoldSurvivor whole (bad_line 0) s) images from to s

-- from one moment to another this call was made from this state
abbrev pub MakesCall : Bool → Images → ℕ → ℕ → State → ℕ → Call → Type 0
MakesCall whole images from to s client call = HoldsMeanwhile (HoldSurvivor whole (asks client call) s) images from to s

-- The calls of these entries were made one after the other, each a step of the log machine. While one is made a crash leaves what survives it; before each
-- of them, and after the last, the flushed part of the log. At the moment at which a call has ended both hold, of the state before it and of the one after.
abbrev pub IsLeftByEntries : Bool → Bool → Images → ℕ → ℕ → State → List Entry → State → Type 0
IsLeftByEntries told whole images from to s [] t = (t ≡ s) × StaysFlushed whole images from to s
IsLeftByEntries told whole images from to s (entry ∷ entries) t =
    (begun : ℕ) × (StaysFlushed whole images from begun s
    × ((done : ℕ) × (MakesCall whole images begun done s entry.client entry.call
    × ((mid : State) × (Step told s entry.client entry.call entry.happened entry.reply mid
    × IsLeftByEntries told whole images done to mid entries t)))))

-- A journal is parted into a front and the rest, at the moment at which the front's last call had ended.
pub record PartsAt (told whole : Bool) (images : Images) (from to : ℕ) (s : State) (front rest : List Entry) (t : State) : Type 0 where
  pub moment : ℕ
  pub mid : State
  pub before : IsLeftByEntries told whole images from moment s front mid
  pub behind : IsLeftByEntries told whole images moment to mid rest t

-- Files open to a log that has each record of a state that was on the disk and that is still live: the base of its stream isn't above it.
pub record KeepFlushed (s : State) (files : Files) : Type 0 where
  pub opened : State
  pub stands : StandsFor files opened
  pub each : (entry : LogEntry) → Contains s.records entry → entry.lsn < flushed s → is_live opened entry ≡ true → Contains (live opened entry.stream) entry
