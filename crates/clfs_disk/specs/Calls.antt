-- What each call of a disk does, fact by fact. The trait states it in these words, and so do the disks, and whoever makes calls in the
-- place of a disk's. `old` and `new` are what the disk shows before the call and after it.
use Rattle.std.specs.Prelude.{◌≡◌, ℕ, ◌+◌, ◌≤◌, List, length, take, drop, Result, IfOk, OnOk, OnErr, IsOk, IsErrOf}
use Rattle.clfs_disk.specs.Files.{Files, found_count, Unchanged, TornIn, GrownIn, WrittenIn, LengthenedIn}
use Rattle.clfs_disk.specs.State.{DiskState, TellsContents, IsSteady, IsHonest, IsSettled, MayLeave, Passes, Leaves, Rises, raised}
use Rattle.clfs_disk.specs.declared.disk.Failed.{Failed}
use Rattle.clfs_disk.specs.declared.disk.GrowRefusal.{GrowRefusal}
use Rattle.clfs_disk.specs.declared.disk.GrowRefusal.TheVariants as refusals

-- A read gives the bytes that are there from a place on, all that there is room for, and how many. The room held `before` and holds
-- `after`.
pub record Reads (file at : ℕ) (before after : List ℕ) (result : Result ℕ Failed) (old new : DiskState) : Type 0 where
  -- no more than there is room for
  pub count : IfOk result (λ n. n ≤ length before)
  -- where contents are told, as many as the file has there, and these
  pub found : IfOk result (λ n. TellsContents old → (n ≡ found_count (old.files file) at (length before))
      × (take n after ≡ take n (drop at (old.files file))))
  -- no file changes
  pub same : Unchanged old.files new.files
  -- and no image
  pub time : Passes Unchanged old new
  -- it is one call
  pub calls : new.calls ≡ raised 1 old.calls
  -- it fails only where the disk fails in it
  pub cause : OnErr result (Rises old.faults new.faults)
  -- and never on a steady disk
  pub steady : IsSteady old → IsOk result × (new.faults ≡ old.faults)

-- A write puts bytes in their place within a file. Until a sync, a crash may leave any bytes in the range.
pub record Writes (file at : ℕ) (bytes : List ℕ) (result : Result (Unit {0}) Failed) (old new : DiskState) : Type 0 where
  -- after an Ok, where contents are told, the file has the range and the bytes stand in it
  pub written : OnOk result (TellsContents old → (at + length bytes ≤ length (old.files file)) × WrittenIn file at bytes old.files new.files)
  -- whatever the answer, the files differ in the range alone
  pub torn : TornIn file at (length bytes) old.files new.files
  -- and so do the images
  pub time : Passes (TornIn file at (length bytes)) old new
  -- it is one call
  pub calls : new.calls ≡ raised 1 old.calls
  -- it fails only where the disk fails in it
  pub cause : OnErr result (Rises old.faults new.faults)
  -- and on a steady disk only past the file's end
  pub steady : IsSteady old → at + length bytes ≤ length (old.files file) → IsOk result × (new.faults ≡ old.faults)

-- A growth makes a file at least so long, the new part zeros. Until a sync, a crash may leave any length between the two and any bytes
-- in the new part.
pub record Grows (file len : ℕ) (result : Result (Unit {0}) GrowRefusal) (old new : DiskState) : Type 0 where
  -- after an Ok, where contents are told, the file is so long
  pub grown : OnOk result (TellsContents old → LengthenedIn file len old.files new.files)
  -- whatever the answer, the files differ in the new part alone
  pub longer : GrownIn file len old.files new.files
  -- and so do the images
  pub time : Passes (GrownIn file len) old new
  -- where memory is wanting nothing has changed
  pub no_memory : IsErrOf result refusals.NoMemory → Unchanged old.files new.files × Passes Unchanged old new × (new.faults ≡ old.faults)
  -- it is one call; a growth that wants memory may be one or none
  pub calls : (IsErrOf result refusals.NoMemory → ⊥) → new.calls ≡ raised 1 old.calls
  pub calls_at_most : new.calls ≤ raised 1 old.calls
  -- it fails only where the disk fails in it
  pub cause : IsErrOf result refusals.Failed → Rises old.faults new.faults
  -- and never on a steady disk
  pub steady : IsSteady old → (IsErrOf result refusals.Failed → ⊥) × (new.faults ≡ old.faults)
  -- a steady disk's file is so long after an Ok, whether its contents are told or not
  pub long : IsSteady old → OnOk result (len ≤ length (new.files file))

-- A sync makes all that was written and grown, in all files, outlast a crash.
pub record Syncs (result : Result (Unit {0}) Failed) (old new : DiskState) : Type 0 where
  -- nothing is pending after an Ok
  pub settled : OnOk result (IsHonest old → IsSettled new)
  -- no file changes
  pub same : Unchanged old.files new.files
  -- and what a crash leaves was left before
  pub time : Passes Unchanged old new
  -- it is one call
  pub calls : new.calls ≡ raised 1 old.calls
  -- it fails only where the disk fails in it
  pub cause : OnErr result (Rises old.faults new.faults)
  -- and never on a steady disk
  pub steady : IsSteady old → IsOk result × (new.faults ≡ old.faults)

-- A write and a sync after it, the step of which every change of a log's files is made.
pub record WritesSynced (file at : ℕ) (bytes : List ℕ) (result : Result (Unit {0}) Failed) (old new : DiskState) : Type 0 where
  -- after an Ok, where contents are told, the file has the range and the bytes stand in it
  pub written : OnOk result (TellsContents old → (at + length bytes ≤ length (old.files file)) × WrittenIn file at bytes old.files new.files)
  -- nothing is pending after an Ok
  pub settled : OnOk result (IsHonest old → IsSettled new)
  -- so every image has the bytes in their place
  pub images : OnOk result (IsHonest old → (image : Files) → MayLeave new image → WrittenIn file at bytes old.files image)
  -- where nothing was pending, a crash at any moment of the two calls leaves the files of before, but for bytes in the range
  pub moments : IsSettled old → Leaves (TornIn file at (length bytes) old.files) old new
  -- whatever the answer, the files differ in the range alone
  pub torn : TornIn file at (length bytes) old.files new.files
  -- and so do the images
  pub time : Passes (TornIn file at (length bytes)) old new
  -- it is two calls, or one where the write fails
  pub calls : OnOk result (new.calls ≡ raised 2 old.calls)
  pub calls_at_most : new.calls ≤ raised 2 old.calls
  -- it fails only where the disk fails in it
  pub cause : OnErr result (Rises old.faults new.faults)
  -- and on a steady disk only past the file's end
  pub steady : IsSteady old → at + length bytes ≤ length (old.files file) → IsOk result × (new.faults ≡ old.faults)
