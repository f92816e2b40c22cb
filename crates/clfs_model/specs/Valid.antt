-- Which states a log can be in. Every step from such a state leaves such a state.
use Rattle.std.specs.Prelude.{◌≡◌, ◌≢◌, ◌<◌, ◌≤◌, ℕ, true, ◌&&◌, ◌==◌, ◌⊎◌, All, AllPairs, IsSome, IfSome, List, length, map, filter}
use Rattle.std.specs.List.{range_with_len}
use Rattle.std.specs.List.Sorted.{IsStrictlyIncreasing}
use Rattle.clfs_lsn.specs.Limits.{most_containers, most_write_buffers, greatest_rate}
use Rattle.clfs_lsn.specs.Lsn.{null_lsn, container_of, offset_of, sequence_of}
use Rattle.clfs_lsn.specs.Size.{IsShape, longest}
use Rattle.clfs_lsn.specs.Place.{IsWithin, frontier}
use Rattle.clfs_lsn.specs.declared.entry.LogEntry.{LogEntry}
use Rattle.clfs_lsn.specs.declared.entry.Kind.TheVariants.{Restart}
use Rattle.clfs_model.specs.declared.state.State.{State}
use Rattle.clfs_model.specs.declared.state.Area.{Area}
use Rattle.clfs_lsn.specs.declared.cursor.Cursor.{Cursor}
use Rattle.clfs_lsn.specs.declared.stream.Stream.{Stream}
use Rattle.clfs_model.specs.State.{stream_at}
use Rattle.clfs_model.specs.Live.{active}
use Rattle.clfs_model.specs.Space.{free, reserved}
use Rattle.clfs_model.specs.Flush.{flushed, block_start}
use Rattle.clfs_model.specs.Reading.{entry_at}

-- The shape, the number of containers and the number of write buffers are in their ranges, and the place is within its container.
pub record HasRanges (s : State) : Type 0 where
  pub shape : IsShape s.shape
  pub some_containers : 1 ≤ s.containers
  pub few_containers : s.containers ≤ most_containers
  pub some_buffers : 1 ≤ s.buffers
  pub few_buffers : s.buffers ≤ most_write_buffers
  pub place : IsWithin s.shape s.place

-- The installed policies are such as may be installed: the minimum is at most the maximum.
pub record HasPolicies (s : State) : Type 0 where
  pub maximum : IfSome s.maximum (λ most. (2 ≤ most) × (most ≤ most_containers))
  pub minimum : IfSome s.minimum (λ least. (2 ≤ least) × (least ≤ most_containers))
  pub order : IfSome s.maximum (λ most. IfSome s.minimum (λ least. least ≤ most))
  pub growth : IfSome s.growth (λ rate. (1 ≤ rate) × (rate ≤ greatest_rate))

-- two areas of which at least the client or the number differs
abbrev pub AreDifferentAreas : Area → Area → Type 0
AreDifferentAreas a b = (a.client ≢ b.client) ⊎ (a.number ≢ b.number)

-- an area on a stream that is there, with records that fit a block, and with cursors of different numbers
pub record IsArea (s : State) (area : Area) : Type 0 where
  pub stream : IsSome (stream_at s area.stream)
  pub largest : area.largest ≤ longest s.shape
  pub cursors : AllPairs (λ (a b : Cursor). a.number ≢ b.number) area.cursors

-- Streams have different names, areas of one client different numbers. A dedicated log has at most one stream.
pub record HasTables (s : State) : Type 0 where
  pub names : AllPairs (λ (a b : Stream). a.name ≢ b.name) s.streams
  pub numbers : AllPairs AreDifferentAreas s.areas
  pub areas : All (IsArea s) s.areas
  pub dedicated : s.dedicated ≡ true → length s.streams ≤ 1

-- a record of a stream that is there, above the null LSN and below the frontier, whose links are null or below it
pub record IsRecord (s : State) (entry : LogEntry) : Type 0 where
  pub stream : IsSome (stream_at s entry.stream)
  pub named : null_lsn < entry.lsn
  pub below : entry.lsn < frontier s.place
  pub previous : (entry.previous ≡ null_lsn) ⊎ (entry.previous < entry.lsn)
  pub undo_next : (entry.undo_next ≡ null_lsn) ⊎ (entry.undo_next < entry.lsn)

-- the sequences of the records at the place's container and offset
abbrev pub open_sequences : State → List ℕ
open_sequences s = map (λ (entry : LogEntry). sequence_of entry.lsn)
    (filter (λ (entry : LogEntry). (container_of entry.lsn == s.place.container) && (offset_of entry.lsn == s.place.offset)) s.records)

-- LSNs rise, and the open block has as many records as the place says, one after the other.
pub record HasRecords (s : State) : Type 0 where
  pub rising : IsStrictlyIncreasing (map (λ (entry : LogEntry). entry.lsn) s.records)
  pub records : All (IsRecord s) s.records
  pub open_block : open_sequences s ≡ range_with_len 0 s.place.records

-- Bases and the archive tail lie at or below the flushed LSN, restart areas below it: none of them is lost in a crash.
pub record HasStable (s : State) : Type 0 where
  pub bases : All (λ (stream : Stream). stream.base ≤ flushed s) s.streams
  pub restarts : All (λ (entry : LogEntry). entry.kind ≡ Restart → entry.lsn < flushed s) s.records
  pub tail : IfSome s.archive (λ tail. tail ≤ flushed s)

-- a block that waits: its first record is there, and it lies in the place's container, below the open block
pub record IsWaiting (s : State) (start : ℕ) : Type 0 where
  pub container : container_of start ≡ s.place.container
  pub sequence : sequence_of start ≡ 0
  pub first : IsSome (entry_at s start)
  pub below : start < block_start s.place

-- Fewer blocks wait than there are write buffers, in their order.
pub record HasWaiting (s : State) : Type 0 where
  pub few : length s.waiting < s.buffers
  pub rising : IsStrictlyIncreasing s.waiting
  pub blocks : All (IsWaiting s) s.waiting

-- The containers in use are there, what is reserved is free, and only a log of two containers has reservations.
pub record HasSpace (s : State) : Type 0 where
  pub active : active s ≤ s.containers
  pub room : reserved s ≤ free s
  pub two : 0 < reserved s → 2 ≤ s.containers

-- a state that a log can be in
pub record IsValid (s : State) : Type 0 where
  pub ranges : HasRanges s
  pub policies : HasPolicies s
  pub tables : HasTables s
  pub records : HasRecords s
  pub stable : HasStable s
  pub waiting : HasWaiting s
  pub space : HasSpace s
