-- The tables of the records: what contracts see of them, and what they keep.
use Rattle.std.specs.Prelude.{◌≡◌, ℕ, ◌-◌, ◌*◌, ◌<◌, ◌≤◌, ◌^◌, min, map, List, length, take, drop, filter, All, Some, slice_index_or}
use Rattle.std.specs.Option.{option_map_or}
use Rattle.clfs_lsn.specs.Lsn.{null_lsn}
use Rattle.clfs_lsn.specs.Streams.{stream_in}
use Rattle.clfs_lsn.specs.declared.entry.Head.{Head}
use Rattle.clfs_lsn.specs.declared.stream.Stream.{Stream}
use Rattle.clfs_lsn.specs.Heads.{head_at, heads_from, stream_heads, is_restart}
use Rattle.clfs_model.specs.declared.state.State.{State}
use Rattle.clfs_model.specs.Heads.{heads_of}
use Rattle.clfs_tail.specs.Firsts.{AreFirsts}
use Rattle.clfs_tables.specs.declared.tables.StreamRow.{StreamRow}
use Rattle.clfs_tables.specs.declared.tables.Tables.TheInside.{Inside}

-- The streams, the heads of all records, dead ones too, and the LSN below which none is asked for any more; for how many records of a
-- stream, and for how many streams, there is memory.
pub record Tabled : Type 0 where
  pub streams : List Stream
  pub heads : List Head
  pub low : ℕ
  pub room : List ℕ
  pub more : ℕ

-- the base of the stream of a number, null where there is none
abbrev pub base_in : List Stream → ℕ → ℕ
base_in streams number = option_map_or (λ (stream : Stream). stream.base) (stream_in streams number) null_lsn

-- the number of a stream that is there
abbrev pub IsNumber : List Stream → ℕ → Type 0
IsNumber streams stream = (1 ≤ stream) × (stream ≤ length streams)

-- A fact of every state whose streams and records the tables have.
abbrev pub OfStates : Tabled → (State → Type 0) → Type 0
OfStates tables fact = (s : State) → s.streams ≡ tables.streams → heads_of s ≡ tables.heads → fact s

-- There is or was a record of a stream at an LSN.
abbrev pub IsKnown : List Head → ℕ → ℕ → Type 0
IsKnown heads stream lsn = (head : Head) × (head_at lsn heads ≡ Some head) × (head.stream ≡ stream)

-- The tables show the same streams and records, and forget no more.
pub record HasSame (old new : Tabled) : Type 0 where
  pub streams : new.streams ≡ old.streams
  pub heads : new.heads ≡ old.heads
  pub low : new.low ≡ old.low

-- Of these heads all are kept but the first ones, which lie below an LSN; at most twice as many are kept as lie from it on.
pub record IsKept (low : ℕ) (all kept : List Head) : Type 0 where
  pub count : ℕ
  pub within : count ≤ length all
  pub is : kept ≡ drop count all
  pub below : All (λ (head : Head). head.lsn < low) (take count all)
  pub few : length kept ≤ 2 * length (heads_from low all)

-- the restart areas among heads
abbrev pub restarts_of : List Head → List Head
restarts_of heads = filter (λ (head : Head). is_restart head.kind) heads

-- A head that lies below an LSN is dead.
abbrev pub IsDeadBelow : ℕ → ℕ → Head → Type 0
IsDeadBelow low base head = head.lsn < low → head.lsn < base

-- The rows of a stream have its base, and its heads and restart areas but for the lowest.
pub record IsRow (base low stream : ℕ) (heads : List Head) (row : StreamRow) : Type 0 where
  pub index_base : row.index.base ≡ base
  pub restarts_base : row.restarts.base ≡ base
  pub index : IsKept low (stream_heads stream heads) row.index.heads
  pub restarts : IsKept low (restarts_of (stream_heads stream heads)) row.restarts.heads

-- for how many more records of each stream there is memory in its rows
abbrev pub room_in : List StreamRow → List ℕ
room_in rows = map (λ (row : StreamRow). min row.index.room row.restarts.room) rows

-- A head whose links lie below it, and that is dead where it lies below an LSN.
pub record IsHead (low : ℕ) (streams : List Stream) (head : Head) : Type 0 where
  pub previous : head.previous < head.lsn
  pub undo_next : head.undo_next < head.lsn
  pub dead : IsDeadBelow low (base_in streams head.stream) head

-- What is true of the tables: a row for each stream, the first live LSN of each, and nothing live below the LSN below which heads are
-- forgotten.
pub record AreTables (t : Inside) : Type 0 where
  pub few : length t.streams.streams < 2 ^ 16
  pub rows_long : length t.rows.items ≡ length t.streams.streams
  pub firsts_long : length t.tail.firsts ≡ length t.streams.streams
  pub heads : All (IsHead t.low t.streams.streams) t.heads.value
  pub firsts : AreFirsts t.tail.firsts (base_in t.streams.streams) t.heads.value
  pub rows : (stream : ℕ) (d : StreamRow) → 1 ≤ stream → stream ≤ length t.streams.streams
      → IsRow (base_in t.streams.streams stream) t.low stream t.heads.value (slice_index_or t.rows.items (stream - 1) d)
