-- A record among the bytes of a block, which may still be open.
use Rattle.std.specs.Prelude.{◌≡◌, ℕ, ◌+◌, ◌≤◌, List, ◌∷◌, ◌++◌, length, drop}
use Rattle.std.specs.List.{flat_map}
use Rattle.clfs_lsn.specs.Format.{block_header}
use Rattle.clfs_lsn.specs.Spelling.{record_bytes}
use Rattle.clfs_lsn.specs.declared.entry.LogEntry.{LogEntry}
use Rattle.clfs_block.specs.Frame.{place_of, payload_of}
use Rattle.clfs_queue.specs.Rows.{AreInRow}

-- The bytes begin with a block's records, of which this one is at a position, after others and before others.
pub record IsHeld (bytes : List ℕ) (position : ℕ) (entry : LogEntry) : Type 0 where
  pub before : List LogEntry
  pub behind : List LogEntry
  pub position_is : length before ≡ position
  pub start : ℕ
  pub row : AreInRow start (before ++ entry ∷ behind)
  pub used : ℕ
  pub there : place_of used ≤ length bytes
  pub content : drop block_header (payload_of used bytes) ≡ flat_map record_bytes (before ++ entry ∷ behind)

-- the bytes of the records before it, with the block's header
abbrev pub payload_before : {bytes : List ℕ} {position : ℕ} {entry : LogEntry} → IsHeld bytes position entry → ℕ
payload_before held = block_header + length (flat_map record_bytes held.before)
