-- What contracts see of the areas of all clients.
use Rattle.std.specs.Prelude.{ℕ, ◌<◌, ◌==◌, List, [], filter, length, slice_index_or, sum_by}
use Rattle.clfs_model.specs.declared.state.Area.{Area}

-- the areas in the order in which they were made, and for how many cursors in all there is memory
pub record AreaTable : Type 0 where
  pub areas : List Area
  pub capacity : ℕ

-- an area that is none
abbrev pub no_area : Area
no_area = record { client = 0; number = 0; stream = 0; largest = 0; reads = 0; held = 0; cursors = [] }

-- the area at a place, from 0 on
abbrev pub area_at : ℕ → List Area → Area
area_at place areas = slice_index_or areas place no_area

-- the areas of a client
abbrev pub client_areas : ℕ → List Area → List Area
client_areas client areas = filter (λ (area : Area). area.client == client) areas

-- the sectors that all areas hold
abbrev pub all_held : List Area → ℕ
all_held areas = sum_by (λ (area : Area). area.held) areas

-- how many cursors all areas have
abbrev pub all_cursors : List Area → ℕ
all_cursors areas = sum_by (λ (area : Area). length area.cursors) areas

-- a cursor can be started without memory
abbrev pub HasRoom : AreaTable → Type 0
HasRoom table = all_cursors table.areas < table.capacity
