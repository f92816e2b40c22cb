-- The states whose flushed part the files of a log can hold, and everything in which fits its type. A state that is reached is valid
-- and such a state too: the one says what the machine's answers rest on, the other what writing, opening and printing rest on.
use Rattle.std.specs.Prelude.{◌≡◌, ℕ, ◌*◌, ◌/◌, ◌+◌, ◌<◌, ◌≤◌, ◌^◌, ◌==◌, ◌⊎◌, if◌then◌else◌, All, List, [], ◌∷◌, length, Some, None}
use Rattle.clfs_lsn.specs.Format.{sector_bytes}
use Rattle.clfs_lsn.specs.Limits.{most_streams, most_areas, most_cursors}
use Rattle.clfs_lsn.specs.Lsn.{lsn_number, container_of, offset_of, sequence_of}
use Rattle.clfs_lsn.specs.Size.{size}
use Rattle.clfs_lsn.specs.Place.{IsWithin, block_end, begun, sealed, frontier}
use Rattle.clfs_lsn.specs.Spelling.{BaseFits}
use Rattle.clfs_lsn.specs.declared.shape.Shape.{Shape}
use Rattle.clfs_lsn.specs.declared.place.Place.{Place}
use Rattle.clfs_lsn.specs.declared.entry.LogEntry.{LogEntry}
use Rattle.clfs_lsn.specs.declared.entry.Kind.{Kind}
use Rattle.clfs_lsn.specs.declared.entry.Kind.TheVariants.{Restart}
use Rattle.clfs_model.specs.declared.state.State.{State}
use Rattle.clfs_lsn.specs.declared.stream.Stream.{Stream}
use Rattle.clfs_model.specs.declared.state.Area.{Area}
use Rattle.clfs_lsn.specs.declared.cursor.Cursor.{Cursor}
use Rattle.clfs_lsn.specs.declared.cursor.CursorKind.{CursorKind}
use Rattle.clfs_lsn.specs.declared.cursor.CursorKind.TheVariants.{Records, RestartAreas}
use Rattle.clfs_model.specs.State.{base_of, areas_of}
use Rattle.clfs_model.specs.Reading.{entry_at}
use Rattle.clfs_model.specs.Refusals.{name_fault}
use Rattle.clfs_model.specs.Conditions.{IsClient}

-- A plain record has no new base, and a restart area one of at most its own LSN; and its stream's base has moved there, or further.
pub record HasMovedBase (s : State) (entry : LogEntry) : Type 0 where
  pub own : BaseFits entry.kind entry.lsn entry.new_base
  pub moved : entry.new_base ≤ base_of s entry.stream

-- the place before the first record: no container has this id, so that the first record begins one
abbrev pub before_all : Place
before_all = record { container = 0; offset = 0; used = 0; records = 0 }

-- the place after a record, given the one before it: a record of sequence 0 begins a block, each other one joins the open one
abbrev pub behind : Place → LogEntry → Place
behind place entry =
    if sequence_of entry.lsn == 0
    then begun (container_of entry.lsn) (offset_of entry.lsn / sector_bytes) (length entry.bytes)
    else record place { used = place.used + size (length entry.bytes); records = place.records + 1 }

-- the place after all these records
abbrev pub behind_all : Place → List LogEntry → Place
behind_all place [] = place
behind_all place (entry ∷ entries) = behind_all (behind place entry) entries

-- A record joins the open block, begins a block right after it, or begins a further container at its first byte.
abbrev pub LiesBehind : Place → LogEntry → Type 0
LiesBehind place entry =
    ((1 ≤ place.records) × (entry.lsn ≡ frontier place))
    ⊎ ((entry.lsn ≡ lsn_number place.container (sector_bytes * block_end place) 0)
    ⊎ ((place.container < container_of entry.lsn) × (entry.lsn ≡ lsn_number (container_of entry.lsn) 0 0)))

-- The records lie one after the other, and each block is within its container, no longer than a block may be and as long as its
-- records make it.
abbrev pub LieInBlocks : Shape → Place → List LogEntry → Type 0
LieInBlocks shape place [] = Unit {0}
LieInBlocks shape place (entry ∷ entries) =
    LiesBehind place entry × (IsWithin shape (behind place entry) × LieInBlocks shape (behind place entry) entries)

-- The log goes on after the last record: in its block, or after that, or at the first byte of a further container, where no record
-- is yet.
abbrev pub GoesOnAt : Place → Place → Type 0
GoesOnAt last place =
    (place ≡ last) ⊎ ((place ≡ sealed last)
    ⊎ ((last.container < place.container) × (place ≡ record { container = place.container; offset = 0; used = 0; records = 0 })))

-- The blocks of each container lie one after the other from its first byte on, without gaps, and the log's place is after the last.
pub record HasBlocks (s : State) : Type 0 where
  pub laid : LieInBlocks s.shape before_all s.records
  pub place : GoesOnAt (behind_all before_all s.records) s.place
  pub container : s.place.container < 2 ^ 32

-- a cursor over records gave any record last, one over restart areas a restart area
abbrev pub IsOfCursor : CursorKind → Kind → Type 0
IsOfCursor (Records mode) kind = Unit {0}
IsOfCursor RestartAreas kind = kind ≡ Restart

-- a cursor with a number that its area can give, whose last record is there, in the area's stream
pub record IsCursor (s : State) (area : Area) (cursor : Cursor) : Type 0 where
  pub some_number : 1 ≤ cursor.number
  pub number : cursor.number ≤ area.reads
  pub entry : LogEntry
  pub there : entry_at s cursor.last ≡ Some entry
  pub stream : entry.stream ≡ area.stream
  pub kind : IsOfCursor cursor.kind entry.kind

-- an area with a client and a number that can be, and no more cursors than it was made for
pub record IsAreaWithinLimits (s : State) (area : Area) : Type 0 where
  pub client : IsClient area.client
  pub some_number : 1 ≤ area.number
  pub number : area.number ≤ most_areas
  pub some_reads : 1 ≤ area.reads
  pub reads : area.reads ≤ most_cursors
  pub few_cursors : length area.cursors ≤ area.reads
  pub cursors : All (IsCursor s area) area.cursors

-- Names are legal; streams, areas and cursors are no more than there can be.
pub record IsWithinLimits (s : State) : Type 0 where
  pub names : All (λ (stream : Stream). name_fault stream.name ≡ None) s.streams
  pub few_streams : length s.streams ≤ most_streams
  pub few_areas : (client : ℕ) → length (areas_of s client) ≤ most_areas
  pub areas : All (IsAreaWithinLimits s) s.areas

-- A state whose flushed part files can hold. That its LSNs, offsets and lengths fit their types follows, for a valid one.
pub record IsStorable (s : State) : Type 0 where
  pub bases : All (HasMovedBase s) s.records
  pub blocks : HasBlocks s
  pub limits : IsWithinLimits s
