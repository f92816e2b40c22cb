-- Carrying out planned calls on another disk.
use Rattle.std.specs.Prelude.{◌≡◌, ◌⊎◌, ℕ, ◌+◌, ◌≤◌, List, [], ◌∷◌, Result, Ok, take, slice_get, Some}
use Rattle.clfs_disk.specs.Files.{Files, Unchanged}
use Rattle.clfs_disk.specs.State.{DiskState, IsHonest, IsSettled, MayLeave}
use Rattle.clfs_disk.specs.Calls.{Writes, Grows, Syncs}
use Rattle.clfs_disk.specs.declared.disk.Failed.{Failed}
use Rattle.clfs_disk.specs.declared.disk.GrowRefusal.{GrowRefusal}
use Rattle.clfs_planned.specs.declared.call.Call.{Call}
use Rattle.clfs_planned.specs.declared.call.Call.TheVariants.{Write, Grow, Sync}
use Rattle.clfs_planned.specs.declared.call.History.{History}
use Rattle.clfs_planned.specs.Moments.{start_of, moment_of}

-- A call was made of a disk, and was done.
abbrev pub Does : Call → DiskState → DiskState → Type 0
Does (Write file at bytes) old new = Writes file at bytes (Ok tt) old new
Does (Grow file len) old new = Grows file len (Ok tt) old new
Does Sync old new = Syncs (Ok tt) old new

-- A call was made of a disk, whatever it answered.
abbrev pub Tries : Call → DiskState → DiskState → Type 0
Tries (Write file at bytes) old new = (result : Result (Unit {0}) Failed) × Writes file at bytes result old new
Tries (Grow file len) old new = (result : Result (Unit {0}) GrowRefusal) × Grows file len result old new
Tries Sync old new = (result : Result (Unit {0}) Failed) × Syncs result old new

-- Calls were made of a disk in this order, and each was done.
abbrev pub CarriesOut : {D : Type 0} → (D → DiskState) → List Call → D → D → Type 0
CarriesOut state [] a c = c ≡ a
CarriesOut {D} state (call ∷ calls) a c = (b : D) × Does call (state a) (state b) × CarriesOut state calls b c

-- A disk on which nothing was pending and whose files read as those of a plan did at first, after the plan's first m calls were carried out on it: it
-- reads as the plan's files at the moment m, and a crash leaves an image of that moment. While the next call is under way, and after it failed, a crash leaves an image of that
-- moment or of the next one.
pub record PlansCarryOver {D : Type 0} (state : D → DiskState) : Type 0 where
  pub files : (past : History) (m : ℕ) (a b : D) → IsSettled (state a) → Unchanged (start_of past) (state a).files
      → CarriesOut state (take m past.calls) a b → Unchanged (moment_of past m).files (state b).files
  pub images : (past : History) (m : ℕ) (a b : D) → IsSettled (state a) → Unchanged (start_of past) (state a).files
      → CarriesOut state (take m past.calls) a b → (image : Files) → MayLeave (state b) image → (moment_of past m).left image
  -- the same where something may have been pending at first, and the first call is a sync
  pub opened : (past : History) (rest : List Call) (m : ℕ) (a b : D) → IsHonest (state a) → Unchanged (start_of past) (state a).files → past.calls ≡ Sync ∷ rest
      → CarriesOut state (take (m + 1) past.calls) a b → (image : Files) → MayLeave (state b) image → (moment_of past (m + 1)).left image
  pub under_way : (past : History) (m : ℕ) (call : Call) (a b c : D) → IsSettled (state a) → Unchanged (start_of past) (state a).files
      → CarriesOut state (take m past.calls) a b → slice_get past.calls m ≡ Some call → Tries call (state b) (state c)
      → (moment : ℕ) (image : Files) → (state b).clock ≤ moment → moment ≤ (state c).clock → (state c).image_at moment image
      → (moment_of past m).left image ⊎ (moment_of past (m + 1)).left image
