-- What a `Fuse` shows.
use Rattle.std.specs.Prelude.{◌≡◌, ℕ, ◌+◌, ◌-◌, ◌<◌, false, Result, OnErr, IsErr}
use Rattle.clfs_disk.specs.State.{DiskState, Rises, raised}
use Rattle.clfs_disk.specs.declared.disk.Failed.{Failed}
use Rattle.clfs_disk.specs.declared.fuse.Fuse.{Fuse}

-- The disk that it passes calls on to.
abbrev pub inner_of : {D : Type 0} → Fuse D → D
inner_of fuse = fuse.inner

-- How many calls it still passes on.
abbrev pub passes_of : {D : Type 0} → Fuse D → ℕ
passes_of fuse = fuse.left

-- All that it shows over a disk that shows this: the other disk's files and images, and the refused calls as calls and as
-- faults beside the other disk's. It isn't steady.
abbrev pub fuse_shown : {D : Type 0} → (D → DiskState) → Fuse D → DiskState
fuse_shown state fuse = record (state fuse.inner) {
  calls = raised fuse.refused (state fuse.inner).calls;
  faults = (state fuse.inner).faults + fuse.refused;
  nature = record (state fuse.inner).nature { steady = false };
}

-- What becomes of the passes and of the other disk in a call that reads, writes or syncs.
pub record TakesPass {D T : Type 0} (state : D → DiskState) (result : Result T Failed) (old new : Fuse D) : Type 0 where
  -- one pass fewer, down to none
  pub passes : passes_of new ≡ passes_of old - 1
  -- where none was left the call fails, and the other disk is as it was
  pub stopped : passes_of old ≡ 0 → IsErr result
  pub same_inner : passes_of old ≡ 0 → inner_of new ≡ inner_of old
  -- where one was left, one call is made of the other disk, and fails only with it
  pub inner_calls : 0 < passes_of old → (state (inner_of new)).calls ≡ raised 1 (state (inner_of old)).calls
  pub passed : 0 < passes_of old → OnErr result (Rises (state (inner_of old)).faults (state (inner_of new)).faults)
