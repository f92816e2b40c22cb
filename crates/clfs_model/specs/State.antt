-- The state of a log, and how its streams and areas are found and changed. The state itself is the type `State` of `src/`,
-- whose lists contracts see as lists. It has one list of all records of all streams.
use Rattle.std.specs.Prelude.{ℕ, Bool, false, ◌&&◌, ◌==◌, if◌then◌else◌, List, [], ◌∷◌, find, filter, Option, None, codes}
use Rattle.std.specs.Option.{option_map_or}
use Rattle.clfs_lsn.specs.Limits.{most_container_sectors, most_containers}
use Rattle.clfs_lsn.specs.Lsn.{null_lsn}
use Rattle.clfs_lsn.specs.Streams.{stream_in}
use Rattle.clfs_lsn.specs.declared.shape.Shape.{Shape}
use Rattle.clfs_model.specs.declared.state.State.{State}
use Rattle.clfs_lsn.specs.declared.stream.Stream.{Stream}
use Rattle.clfs_model.specs.declared.state.Area.{Area}

-- A log that has just been made: its place is the first byte of the container with the id 1, and of its other containers none is in use
-- yet. It has no streams, records, areas or policies, and archiving is off. A dedicated log will have one stream, another log several.
abbrev pub fresh : Shape → Bool → ℕ → ℕ → State
fresh shape dedicated containers buffers = record {
  shape = shape;
  dedicated = dedicated;
  containers = containers;
  buffers = buffers;
  streams = [];
  records = [];
  place = record { container = 1; offset = 0; used = 0; records = 0 };
  waiting = [];
  areas = [];
  archive = None;
  maximum = None;
  minimum = None;
  growth = None;
  automatic = false;
  broken = false;
}

-- a log for several streams that has just been made, by the sectors of its largest block and of a container, its containers and its
-- write buffers
abbrev pub log_of : ℕ → ℕ → ℕ → ℕ → State
log_of block container containers buffers =
    fresh (record { block_sectors = block; container_sectors = container }) false containers buffers

-- One stream `a` and an area of client 1 on it, in an empty log of 256 containers: where scripts begin while no log is kept on
-- a disk.
abbrev pub first : State
first = record (log_of 2 most_container_sectors most_containers 4) {
  streams = record { name = codes "a"; base = null_lsn } ∷ [];
  areas = record { client = 1; number = 1; stream = 1; largest = 960; reads = 4; held = 0; cursors = [] } ∷ [];
}

-- the stream of this number
abbrev pub stream_at : State → ℕ → Option Stream
stream_at s number = stream_in s.streams number

-- the base of a stream; a new stream's is null
abbrev pub base_of : State → ℕ → ℕ
base_of s number = option_map_or (λ (stream : Stream). stream.base) (stream_at s number) null_lsn

-- the first element that passes, changed
abbrev pub change_first : {A : Type 0} → (A → Bool) → (A → A) → List A → List A
change_first p change [] = []
change_first p change (x ∷ xs) = if p x then change x ∷ xs else x ∷ change_first p change xs

-- An area is named by its client and its number among the client's.
abbrev pub is_area : ℕ → ℕ → Area → Bool
is_area client number area = (area.client == client) && (area.number == number)

-- the client's area of this number
abbrev pub area_of : State → ℕ → ℕ → Option Area
area_of s client number = find (is_area client number) s.areas

-- the areas of a client
abbrev pub areas_of : State → ℕ → List Area
areas_of s client = filter (λ (area : Area). area.client == client) s.areas

-- the state with one area changed
abbrev pub change_area : (Area → Area) → ℕ → ℕ → State → State
change_area change client number s = record s { areas = change_first (is_area client number) change s.areas }
