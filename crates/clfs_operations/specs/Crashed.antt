-- What a crash leaves while requests are answered, one after the other.
use Rattle.std.specs.Prelude.{◌≡◌, ℕ, ◌<◌, ◌≤◌, Bool, true, false, if◌then◌else◌, List, [], ◌∷◌}
use Rattle.clfs_disk.specs.Files.{Files, Unchanged}
use Rattle.clfs_disk.specs.State.{DiskState, IsHonest, MayLeave}
use Rattle.clfs_model.specs.declared.journal.Entry.{Entry}
use Rattle.clfs_model.specs.declared.refusal.Refusal.TheVariants as refusals
use Rattle.clfs_model.specs.declared.reply.Reply.{Reply}
use Rattle.clfs_model.specs.declared.reply.Reply.TheVariants as replies
use Rattle.clfs_model.specs.declared.state.State.{State}
use Rattle.clfs_model.specs.Happened.{happened_of}
use Rattle.clfs_model.specs.Run.{Request, RequestStep, asks, bad_line}
use Rattle.clfs_recover.specs.Files.{AreWholeFiles}
use Rattle.clfs_manager.specs.Crashes.{HoldSurvivor}
use Rattle.clfs_shared.specs.Crashes.{IsLeftByEntries, since}

-- a request, and the state from which it is asked
pub record Asking : Type 0 where
  pub request : Request
  pub state : State

-- nothing is asked: what survives is the flushed part of the state
abbrev pub nothing_asked : State → Asking
nothing_asked s = record { request = bad_line 0; state = s }

-- What is under way while a request is answered, by its reply. A call for which memory ran out leaves no more than a bad line: the flushed part of the
-- state.
abbrev pub asked_by : Request → Reply → Request
asked_by (asks client call) (replies.Refused refusals.NoMemory) = bad_line 0
asked_by request reply = request

-- The same, or, once the log is broken, what was under way when it broke, since the disk isn't called any more.
abbrev pub under_way : Asking → Request → Reply → State → Asking
under_way before request reply s = if s.broken then before else record { request = asked_by request reply; state = s }

-- what a crash leaves at each moment
abbrev pub Images : Type 1
Images = ℕ → Files → Type 0

-- A crash at any moment from one to another leaves files that hold a survivor of what is under way.
abbrev pub IsLeftBetween : Bool → Images → ℕ → ℕ → Asking → Type 0
IsLeftBetween whole images from to asked = (moment : ℕ) (image : Files) → from ≤ moment → moment ≤ to → images moment image
    → HoldSurvivor whole asked.request asked.state image

-- Requests are answered one after the other by steps of the log machine, with a moment after each, and while one is answered a crash leaves a
-- survivor of what is under way.
abbrev pub IsLeftByRun : Bool → Bool → Images → ℕ → ℕ → Asking → State → List Request → List Reply → State → Type 0
IsLeftByRun told whole images from to before s [] [] t = (t ≡ s) × (from ≡ to)
IsLeftByRun told whole images from to before s (request ∷ requests) (reply ∷ answers) t =
    (behind : ℕ) × ((from ≤ behind) × (IsLeftBetween whole images from behind (under_way before request reply s)
    × ((mid : State) × (RequestStep told s request (happened_of reply) reply mid
    × IsLeftByRun told whole images behind to (under_way before request reply s) mid requests answers t))))
IsLeftByRun told whole images from to before s _ _ t = ⊥

-- No call was made on the disk.
pub record StandsStill (old new : DiskState) : Type 0 where
  pub clock : new.clock ≡ old.clock
  pub images : (moment : ℕ) (image : Files) → new.image_at moment image → old.image_at moment image

-- While requests are answered from a state that isn't broken, and of which a crash leaves the flushed part, a crash leaves survivors, one request
-- after the other. With `whole` that is said of files at full length.
abbrev pub CrashLeavesRun : State → DiskState → List Request → List Reply → State → DiskState → Type 0
CrashLeavesRun s old requests answers t new = s.broken ≡ false → IsHonest old → (whole : Bool) → (whole ≡ true → AreWholeFiles old.files)
    → IsLeftBetween whole old.image_at old.clock old.clock (nothing_asked s)
    → IsLeftByRun old.nature.tells_contents whole new.image_at old.clock new.clock (nothing_asked s) s requests answers t

-- A log is opened on a disk, and requests are answered. Until it is open a crash leaves what it would have left at first; then it leaves the flushed
-- part of the log, and from then on survivors, one request after the other, in files of full length where they were so.
pub record IsLeftFrom (old new : DiskState) (first : State) (requests : List Request) (answers : List Reply) (last : State) : Type 0 where
  pub from : ℕ
  pub later : old.clock ≤ from
  pub before : (moment : ℕ) (image : Files) → old.clock ≤ moment → moment < from → new.image_at moment image
      → (left : Files) × (MayLeave old left × Unchanged left image)
  pub opened : (whole : Bool) → (whole ≡ true → AreWholeFiles old.files) → IsLeftBetween whole new.image_at from from (nothing_asked first)
  pub answered : (whole : Bool) → (whole ≡ true → AreWholeFiles old.files)
      → IsLeftByRun old.nature.tells_contents whole new.image_at from new.clock (nothing_asked first) first requests answers last

-- The same of a log that several clients share: from then on a crash leaves what survives the call of the journal that is made, and between two of them the
-- flushed part of the log.
pub record IsLeftByJournal (old new : DiskState) (first : State) (journal : List Entry) (last : State) : Type 0 where
  pub from : ℕ
  pub later : old.clock ≤ from
  pub before : (moment : ℕ) (image : Files) → old.clock ≤ moment → moment < from → new.image_at moment image
      → (left : Files) × (MayLeave old left × Unchanged left image)
  pub opened : (whole : Bool) → (whole ≡ true → AreWholeFiles old.files) → IsLeftBetween whole new.image_at from from (nothing_asked first)
  pub taken : (whole : Bool) → (whole ≡ true → AreWholeFiles old.files)
      → IsLeftByEntries old.nature.tells_contents whole (since from new.image_at) from new.clock first journal last
