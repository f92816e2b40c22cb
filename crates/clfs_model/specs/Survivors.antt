-- What a crash while a request is under way may leave of the log. The state that a log opens to after it is a survivor of the request.
use Rattle.std.specs.Prelude.{◌≡◌, ℕ, ◌+◌, ◌<◌, ◌≤◌, ◌⊎◌, false, nat_lt, List, [], map, filter, All, Any, IsTrue}
use Rattle.clfs_lsn.specs.Lsn.{container_of}
use Rattle.clfs_lsn.specs.Place.{IsClosed, frontier}
use Rattle.clfs_lsn.specs.declared.place.Place.{Place}
use Rattle.clfs_lsn.specs.declared.entry.LogEntry.{LogEntry}
use Rattle.clfs_model.specs.declared.call.Call.TheVariants as calls
use Rattle.clfs_model.specs.declared.state.State.{State}
use Rattle.clfs_lsn.specs.declared.stream.Stream.{Stream}
use Rattle.clfs_model.specs.State.{base_of}
use Rattle.clfs_model.specs.Flush.{flushed, cut}
use Rattle.clfs_model.specs.Archive.{is_in_block, end_of_block}
use Rattle.clfs_model.specs.Run.{Request, asks, fine_outcome}

-- the names of a log's streams, in order
abbrev pub names_of : State → List (List ℕ)
names_of s = map (λ (stream : Stream). stream.name) s.streams

-- the streams' names, the number of containers, archiving and the policies are those of this state
pub record HasSettings (s x : State) : Type 0 where
  pub names : names_of x ≡ names_of s
  pub containers : x.containers ≡ s.containers
  pub archive : x.archive ≡ s.archive
  pub maximum : x.maximum ≡ s.maximum
  pub minimum : x.minimum ≡ s.minimum
  pub growth : x.growth ≡ s.growth
  pub automatic : x.automatic ≡ s.automatic

-- the bases of all streams are those of this state
abbrev pub HasBases : State → State → Type 0
HasBases s x = (stream : ℕ) → base_of x stream ≡ base_of s stream

-- the end of a record's block, or the start of the container after it
abbrev pub EndsBlockOf : List LogEntry → Place → LogEntry → Type 0
EndsBlockOf records place entry =
    ((place.container ≡ container_of entry.lsn) × (place.offset ≡ end_of_block records entry.lsn))
    ⊎ ((place.container ≡ container_of entry.lsn + 1) × (place.offset ≡ 0))

-- the records below a place
abbrev pub records_below : Place → List LogEntry → List LogEntry
records_below place records = filter (λ (entry : LogEntry). nat_lt entry.lsn (frontier place)) records

-- no block has records on both sides of the place
abbrev pub SplitsNoBlock : List LogEntry → Place → Type 0
SplitsNoBlock records place = All (λ (entry : LogEntry). entry.lsn < frontier place →
    All (λ (other : LogEntry). IsTrue (is_in_block other.lsn entry.lsn) → other.lsn < frontier place) records) records

-- a state has a record that the other one lacks
abbrev pub HasMore : List LogEntry → State → Type 0
HasMore records s = Any (λ (entry : LogEntry). All (λ (other : LogEntry). other.lsn ≡ entry.lsn → ⊥) s.records) records

-- The place that a crash leaves: no block is open, it lies from the flushed LSN before the call to the one after it, and it is
-- the first of these, or the end of a block, or the start of the container after one.
pub record IsSurvivingPlace (s s2 x : State) : Type 0 where
  pub closed : IsClosed x.place
  pub from : flushed s ≤ frontier x.place
  pub to : frontier x.place ≤ flushed s2
  pub end : (x.place ≡ (cut s).place) ⊎ Any (EndsBlockOf s2.records x.place) s2.records
  pub whole_blocks : SplitsNoBlock s2.records x.place

-- A restart area carries its base: where it is there all bases are the new ones, and where it is lost all are the old ones. It
-- is the last record of its call, so it is lost exactly where some record is.
pub record HasBasesOfRestart (s s2 x : State) : Type 0 where
  pub there : (HasMore s2.records x → ⊥) → HasBases s2 x
  pub lost : HasMore s2.records x → HasBases s x

-- The bases that a crash leaves, by what was asked. A base that is advanced comes after all that is flushed before it.
abbrev pub HasBasesOfRequest : Request → State → State → State → Type 0
HasBasesOfRequest (asks client (calls.WriteRestart area bytes base reserved)) s s2 x = HasBasesOfRestart s s2 x
HasBasesOfRequest (asks client (calls.Advance area lsn)) s s2 x = HasMore (cut s2).records x → HasBases s x
HasBasesOfRequest request s s2 x = Unit {0}

-- The state x is left by a crash while a request is under way from s, s2 being the state that the request gives where nothing happens.
-- A bad line asks for nothing, so s2 is s there; for opening again s2 is the flushed part of s, and nothing else survives.
pub record IsSurvivor (asked : Request) (s s2 x : State) : Type 0 where
  pub shape : x.shape ≡ s.shape
  pub dedicated : x.dedicated ≡ s.dedicated
  pub place : IsSurvivingPlace s s2 x
  pub records : x.records ≡ records_below x.place s2.records
  pub settings : HasSettings s x ⊎ HasSettings s2 x
  pub new_settings : HasMore x.records s → HasSettings s2 x
  pub bases : (stream : ℕ) → (base_of x stream ≡ base_of s stream) ⊎ (base_of x stream ≡ base_of s2 stream)
  pub bases_of_request : HasBasesOfRequest asked s s2 x
  pub no_areas : x.areas ≡ []
  pub nothing_waits : x.waiting ≡ []
  pub whole : x.broken ≡ false

-- the state x may be left by a crash while a request is under way from s
abbrev pub Survives : Request → State → State → Type 0
Survives asked s x = IsSurvivor asked s (fine_outcome s asked).state x
