-- What the tables of a log that was opened are made of.
use Rattle.std.specs.Prelude.{◌≡◌, ◌≢◌, ℕ, ◌<◌, ◌≤◌, List, length, map, All, AllPairs}
use Rattle.clfs_lsn.specs.Limits.{most_streams}
use Rattle.clfs_lsn.specs.Lsn.{null_lsn}
use Rattle.clfs_lsn.specs.declared.entry.Head.{Head}
use Rattle.clfs_base.specs.declared.image.Row.{Row}
use Rattle.clfs_base.specs.Spelling.{row_in}
use Rattle.clfs_lsn.specs.declared.stream.Stream.{Stream}

-- Rows of streams with different names, a base for each, and heads of these streams' records, whose LSNs rise and whose links lie below them.
pub record AreRowsAndHeads (rows : List Row) (bases : List ℕ) (heads : List Head) : Type 0 where
  pub few : length rows ≤ most_streams
  pub different : (i j : ℕ) → i < j → j < length rows → (row_in rows i).name ≢ (row_in rows j).name
  pub bases_long : length bases ≡ length rows
  pub rising : AllPairs (λ (a b : Head). a.lsn < b.lsn) heads
  pub streams : All (λ (head : Head). (1 ≤ head.stream) × (head.stream ≤ length rows)) heads
  pub links : All (λ (head : Head). (head.previous < head.lsn) × (head.undo_next < head.lsn)) heads

-- streams of these rows' names, with no base
abbrev pub streams_of : List Row → List Stream
streams_of rows = map (λ (row : Row). record { name = row.name; base = null_lsn }) rows
