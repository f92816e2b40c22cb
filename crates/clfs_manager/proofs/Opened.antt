-- What memory has of a log that was opened.
use Rattle.clfs_manager.proofs.Words.{◌≡◌, ℕ, ◌*◌, ◌<◌, ◌≤◌, ◌^◌, true, false, refl, ap, List, [], ◌∷◌, length, map, arith, All, filter, nat_le}
use Rattle.clfs_manager.proofs.Words.{IsStrictlyIncreasing, nat_tests, All-head, All-tail, All-map, All-weaker, head_of, sequence_of, IsClosed, IsWithin}
use Rattle.clfs_manager.proofs.Words.{frontier, Shape, Place, end_of_block, block_start, Head, LogEntry, Row, streams_with, IsImage, current, Parts}
use Rattle.clfs_model.specs.Heads.{block_end}
use Rattle.clfs_lsn.specs.Spelling.{FitsAt}
use Rattle.clfs_tables.specs.Opening.{AreRowsAndHeads}
use Rattle.clfs_manager.proofs.Heads.{heads_rise, ends_as_heads}

-- the streams, their bases and the heads of their records fit each other
pub rows_and_heads : (parts : Parts) → IsImage (current parts.image) → length parts.bases ≡ length parts.image.streams
    → IsStrictlyIncreasing (map (λ (entry : LogEntry). entry.lsn) parts.entries)
    → All (λ (entry : LogEntry). FitsAt entry.lsn (length parts.image.streams) entry) parts.entries
    → AreRowsAndHeads parts.image.streams parts.bases (map head_of parts.entries)
rows_and_heads parts image bases rising fit = record {
  few = image.few_streams;
  different = image.rows.different;
  bases_long = bases;
  rising = heads_rise parts.entries rising;
  streams = All-map (λ (head : Head). (1 ≤ head.stream) × (head.stream ≤ length parts.image.streams)) head_of parts.entries
      (All-weaker (λ (entry : LogEntry). FitsAt entry.lsn (length parts.image.streams) entry) (λ (entry : LogEntry). (1 ≤ entry.stream) × (entry.stream ≤ length parts.image.streams))
      (λ entry is. (is.some_stream, is.stream)) parts.entries fit);
  links = All-map (λ (head : Head). (head.previous < head.lsn) × (head.undo_next < head.lsn)) head_of parts.entries
      (All-weaker (λ (entry : LogEntry). FitsAt entry.lsn (length parts.image.streams) entry) (λ (entry : LogEntry). (entry.previous < entry.lsn) × (entry.undo_next < entry.lsn))
      (λ entry is. (is.previous, is.undo_next)) parts.entries fit);
}

-- no record lies at or above an LSN below which all lie
pub none_from : (low : ℕ) (entries : List LogEntry) → All (λ (entry : LogEntry). entry.lsn < low) entries
    → filter (λ (entry : LogEntry). nat_le low entry.lsn) entries ≡ []
none_from low [] below = refl
none_from low (entry ∷ entries) below =
    let first = All-head (λ (e : LogEntry). e.lsn < low) entry entries below in
    let not_from : nat_le low entry.lsn ≡ false = grind (arith, nat_tests, first) in
    rw not_from (none_from low entries (All-tail (λ (e : LogEntry). e.lsn < low) entry entries below))

-- all records lie at or above an LSN at or above which each lies
pub all_from : (low : ℕ) (entries : List LogEntry) → All (λ (entry : LogEntry). low ≤ entry.lsn) entries
    → filter (λ (entry : LogEntry). nat_le low entry.lsn) entries ≡ entries
all_from low [] from = refl
all_from low (entry ∷ entries) from =
    let first = All-head (λ (e : LogEntry). low ≤ e.lsn) entry entries from in
    let is_from : nat_le low entry.lsn ≡ true = grind (arith, nat_tests, first) in
    rw is_from (ap (λ (es : List LogEntry). entry ∷ es) (all_from low entries (All-tail (λ (e : LogEntry). low ≤ e.lsn) entry entries from)))

-- where the blocks of heads end fits its type
pub ends_fit : (entries : List LogEntry) (sectors : ℕ) → sectors ≤ 16384
    → All (λ (entry : LogEntry). end_of_block entries entry.lsn ≤ 512 * sectors) entries
    → All (λ (head : Head). block_end (map head_of entries) head.lsn < 2 ^ 32) (map head_of entries)
ends_fit entries sectors few fit =
    All-map (λ (head : Head). block_end (map head_of entries) head.lsn < 2 ^ 32) head_of entries
    (All-weaker (λ (entry : LogEntry). end_of_block entries entry.lsn ≤ 512 * sectors) (λ (entry : LogEntry). block_end (map head_of entries) entry.lsn < 2 ^ 32)
    (λ entry is. omega (arith, is, ends_as_heads entries entry.lsn, few)) entries fit)

-- all lie below the start of the block that a closed place begins
pub below_start : (place : Place) (entries : List LogEntry) → IsClosed place → All (λ (entry : LogEntry). entry.lsn < frontier place) entries
    → All (λ (entry : LogEntry). entry.lsn < block_start place) entries
below_start place entries closed below =
    All-weaker (λ (entry : LogEntry). entry.lsn < frontier place) (λ (entry : LogEntry). entry.lsn < block_start place) (λ entry is. omega (arith, is, closed.1)) entries below

-- there is a stream for each row
pub streams_long : (rows : List Row) (bases : List ℕ) → length bases ≡ length rows → length (streams_with rows bases) ≡ length rows
streams_long [] bases long = refl
streams_long (row ∷ rows) [] long = absurd (omega (arith, long))
streams_long (row ∷ rows) (base ∷ bases) long = omega (arith, streams_long rows bases (omega (arith, long)))

-- the block that a place begins starts with its first record
pub starts : {shape : Shape} (place : Place) → IsWithin shape place → sequence_of (block_start place) ≡ 0
starts {shape} place within = omega (arith, within.offset)
