-- How calls of a disk are joined, as facts for whoever makes several.
use Rattle.std.specs.Prelude.{ℕ}
use Rattle.clfs_disk.specs.Files.{Unchanged, TornIn}
use Rattle.clfs_disk.specs.State.{DiskState, IsSettled, Passes, Leaves}

-- What the files and the images of a disk are after two calls, and what a crash leaves of a disk on which nothing was pending.
-- `state` says what a disk shows.
pub record CallsJoin {D : Type 0} (state : D → DiskState) : Type 0 where
  -- reads one after another
  pub reads : (a b c : D) → Passes Unchanged (state a) (state b) → Passes Unchanged (state b) (state c) → Passes Unchanged (state a) (state c)
  -- reads, and then writes to one range
  pub read_and_write : (file at count : ℕ) (a b c : D) → Passes Unchanged (state a) (state b)
      → Passes (TornIn file at count) (state b) (state c) → Passes (TornIn file at count) (state a) (state c)
  -- after reads, a crash at any moment of them leaves the files of before
  pub left_by_reads : (a b : D) → IsSettled (state a) → Passes Unchanged (state a) (state b)
      → Leaves (Unchanged (state a).files) (state a) (state b)
  -- after writes to one range, those files but for bytes in it
  pub left_by_writes : (file at count : ℕ) (a b : D) → IsSettled (state a) → Passes (TornIn file at count) (state a) (state b)
      → Leaves (TornIn file at count (state a).files) (state a) (state b)
