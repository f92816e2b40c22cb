-- The states between the small changes that make up an append, a restart area or a reservation, and what holds in them.
use Rattle.std.specs.Prelude.{◌≡◌, ℕ, ◌+◌, ◌<◌, ◌≤◌, ◌^◌, true, false, ◌⊎◌, ◌==◌, if◌then◌else◌, All, IfSome, IsSome, length}
use Rattle.clfs_lsn.specs.Lsn.{null_lsn, container_of}
use Rattle.clfs_lsn.specs.Size.{own, longest}
use Rattle.clfs_lsn.specs.Place.{IsClosed, joins, begins_here}
use Rattle.clfs_lsn.specs.Spelling.{BaseFits}
use Rattle.clfs_lsn.specs.declared.entry.LogEntry.{LogEntry}
use Rattle.clfs_model.specs.declared.state.State.{State}
use Rattle.clfs_model.specs.declared.state.Area.{Area}
use Rattle.clfs_lsn.specs.declared.stream.Stream.{Stream}
use Rattle.clfs_model.specs.State.{stream_at, area_of}
use Rattle.clfs_model.specs.Live.{hold}
use Rattle.clfs_model.specs.Space.{free, reserved}
use Rattle.clfs_model.specs.Flush.{flushed, seal, flush}
use Rattle.clfs_model.specs.Put.{next_lsn, put, made_ready}
use Rattle.clfs_model.specs.Refusals.{is_base}
use Rattle.clfs_model.specs.Storable.{HasBlocks, IsWithinLimits, IsStorable}
use Rattle.clfs_model.specs.Valid.{HasRanges, HasPolicies, HasTables, HasRecords, HasWaiting, HasSpace, IsValid}

-- a state that a log can be in and that files can hold
pub record IsWhole (s : State) : Type 0 where
  pub valid : IsValid s
  pub storable : IsStorable s

-- A state that is valid and that files can hold, but for the restart area that was put last: it need not be on the disk yet, and has moved
-- no base.
pub record IsLaid (s : State) : Type 0 where
  pub ranges : HasRanges s
  pub policies : HasPolicies s
  pub tables : HasTables s
  pub records : HasRecords s
  pub bases : All (λ (stream : Stream). stream.base ≤ flushed s) s.streams
  pub tail : IfSome s.archive (λ tail. tail ≤ flushed s)
  pub waiting : HasWaiting s
  pub space : HasSpace s
  pub new_bases : All (λ (entry : LogEntry). BaseFits entry.kind entry.lsn entry.new_base) s.records
  pub blocks : HasBlocks s
  pub limits : IsWithinLimits s

-- Room for a record, whose stream is there and whose links and new base lie where they may.
pub record MayPut (s : State) (entry : LogEntry) : Type 0 where
  pub short : length entry.bytes ≤ longest s.shape
  pub room : reserved s + own (length entry.bytes) ≤ free s
  pub stream : IsSome (stream_at s entry.stream)
  pub previous : entry.previous < next_lsn s (length entry.bytes)
  pub undo_next : entry.undo_next < next_lsn s (length entry.bytes)
  pub new_base : BaseFits entry.kind (next_lsn s (length entry.bytes)) entry.new_base

-- a base that a stream may move to; a null one moves none
abbrev pub MayMove : State → ℕ → ℕ → Type 0
MayMove s stream base = (base == null_lsn) ≡ false → is_base s stream base ≡ true

-- the place moves on to the first byte of the next container
abbrev pub turned : State → State
turned s = record s { place = record { container = s.place.container + 1; offset = 0; used = 0; records = 0 } }

-- The log made ready for a record of n bytes: the record joins the open block, or that is sealed, or all is flushed and the log goes on in
-- the next container.
abbrev pub readied : State → ℕ → State
readied s n =
    if joins s.shape s.place n then s
    else if begins_here s.shape s.place n then seal s
    else turned (flush s)

-- The next record, of n bytes, joins the open block, or begins one where none is open.
abbrev pub IsReadyFor : State → ℕ → Type 0
IsReadyFor s n = (joins s.shape s.place n ≡ true) ⊎ ((begins_here s.shape s.place n ≡ true) × IsClosed s.place)

-- A log of the same tables, shape and containers, whose hold's container isn't earlier.
pub record KeepsTables (s t : State) : Type 0 where
  pub shape : t.shape ≡ s.shape
  pub containers : t.containers ≡ s.containers
  pub buffers : t.buffers ≡ s.buffers
  pub streams : t.streams ≡ s.streams
  pub areas : t.areas ≡ s.areas
  pub archive : t.archive ≡ s.archive
  pub hold : container_of (hold s) ≤ container_of (hold t)

-- A log that is ready for a record: it has the same records and the same next LSN, and putting the record leaves the same.
pub record IsReadiedFor (s r : State) (entry : LogEntry) : Type 0 where
  pub valid : IsValid r
  pub storable : IsStorable r
  pub may : MayPut r entry
  pub tables : KeepsTables s r
  pub records : r.records ≡ s.records
  pub lsn : next_lsn r (length entry.bytes) ≡ next_lsn s (length entry.bytes)
  pub put : put r entry ≡ put s entry
  pub stays : made_ready r (length entry.bytes) ≡ r
  pub ready : IsReadyFor r (length entry.bytes)

-- A log that goes on in a further container: that has an id, and is one of the log's that aren't in use.
pub record MayTurn (s : State) : Type 0 where
  pub id : s.place.container + 1 < 2 ^ 32
  pub unused : s.place.container + 1 + 1 ≤ container_of (hold s) + s.containers
  pub hold : container_of (hold s) ≤ container_of (hold (turned (flush s)))

-- A log that takes a record through an area, and then room for that many sectors more.
pub record TakesThrough (u : State) (area : Area) (entry : LogEntry) (more : ℕ) : Type 0 where
  pub valid : IsValid u
  pub storable : IsStorable u
  pub may : MayPut u entry
  pub there : IsSome (area_of u area.client area.number)
  pub two : 2 ≤ u.containers
  pub room : reserved u + own (length entry.bytes) + more ≤ free u
