-- The records of an open block, or why there are none: the checks in their order, of which the first that fails is told.
use Rattle.std.specs.Prelude.{ℕ, zero, suc, ◌+◌, ◌==◌, if◌then◌else◌, List, [], ◌∷◌, length, drop, Result, Ok, Err}
use Rattle.clfs_lsn.specs.Format.{block_header}
use Rattle.clfs_lsn.specs.Spelling.{record_at}
use Rattle.clfs_lsn.specs.declared.entry.LogEntry.{LogEntry}
use Rattle.clfs_lsn.specs.declared.shape.Shape.{Shape}
use Rattle.clfs_block.specs.Frame.{place_of, payload_of}
use Rattle.clfs_block.specs.Checks.{frame_at, rest_at}
use Rattle.clfs_block.specs.declared.head.BlockRefusal.{BlockRefusal}
use Rattle.clfs_block.specs.declared.head.BlockRefusal.TheVariants.{BadByte}

infixl 10 ◌>>=◌
-- what comes after an answer that is a value; a refusal stands
abbrev pub ◌>>=◌ : {A B E : Type 0} → Result A E → (A → Result B E) → Result B E
(Ok a) >>= next = next a
(Err e) >>= next = Err e

-- the answer with its refusal told in other words
abbrev pub told_as : {A E F : Type 0} → (E → F) → Result A E → Result A F
told_as told (Ok a) = Ok a
told_as told (Err e) = Err (told e)

-- So many records from a byte of a block's used payload on, one after the other, the first of them at this LSN; or the byte of the block at
-- which the first that is wrong is told. They end where the used payload ends, or else the field of its length is wrong, byte 8 of the block.
abbrev pub records_from : ℕ → List ℕ → ℕ → ℕ → ℕ → Result (List LogEntry) ℕ
records_from streams payload zero lsn p = if p == length payload then Ok [] else Err 8
records_from streams payload (suc count) lsn p = do
  record_there ← told_as (λ at. place_of (p + at)) (record_at lsn streams (drop p payload))
  entries ← records_from streams payload count (lsn + 1) (p + record_there.1)
  Ok (record_there.0 ∷ entries)

-- The records of the block that begins bytes, at this LSN in a log of so many streams: the checks up to the sectors' addresses, each
-- record in turn, the end of the records, and the zeros after them.
unfoldable pub block_records : Shape → ℕ → ℕ → List ℕ → Result (List LogEntry) BlockRefusal
block_records shape streams start bytes = do
  head ← frame_at shape start bytes
  entries ← told_as BadByte (records_from streams (payload_of head.used bytes) head.records start block_header)
  clean ← rest_at bytes head
  Ok entries
