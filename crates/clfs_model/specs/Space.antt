-- The room of a log, and how it grows.
use Rattle.std.specs.Prelude.{ℕ, ◌+◌, Bool, true, false, ◌&&◌, nat_lt, nat_le, List, sum_by, unwrap_or}
use Rattle.clfs_lsn.specs.Limits.{most_containers}
use Rattle.clfs_lsn.specs.Size.{own}
use Rattle.clfs_lsn.specs.Space.{free_sectors, growth, least_containers}
use Rattle.clfs_model.specs.declared.state.State.{State}
use Rattle.clfs_model.specs.declared.state.Area.{Area}
use Rattle.clfs_model.specs.Live.{hold}

-- the sectors that appends can surely take
abbrev pub free : State → ℕ
free s = free_sectors s.shape s.place (hold s) s.containers

-- the sectors that all areas hold
abbrev pub reserved : State → ℕ
reserved s = sum_by (λ (area : Area). area.held) s.areas

-- the sectors for records of these lengths, each in a block of its own
abbrev pub own_sum : List ℕ → ℕ
own_sum sizes = sum_by own sizes

-- the same log with another number of containers
abbrev pub with_containers : ℕ → State → State
with_containers containers s = record s { containers = containers }

-- the growth rate that is installed, else 1
abbrev pub growth_rate : State → ℕ
growth_rate s = unwrap_or s.growth 1

-- the maximum that is installed, else the most containers of any log
abbrev pub size_limit : State → ℕ
size_limit s = unwrap_or s.maximum most_containers

-- the number of containers after growth for the wanted sectors; where no step of growth gives them nothing grows
abbrev pub grown_containers : State → ℕ → ℕ
grown_containers s wanted =
    unwrap_or (growth s.shape s.place (hold s) s.containers (growth_rate s) (size_limit s) wanted) s.containers

-- the state after growth, where the log is to grow
abbrev pub grown_if : Bool → State → ℕ → State
grown_if true s wanted = with_containers (grown_containers s wanted) s
grown_if false s wanted = s

-- A call that needs sectors lets the log grow first, where automatic growth is installed and the free sectors are fewer than
-- the reserved and the needed ones.
unfoldable pub grown : State → ℕ → State
grown s need = grown_if (s.automatic && nat_lt (free s) (reserved s + need)) s (reserved s + need)

-- There is room where then the free sectors are as many.
unfoldable pub has_room : State → ℕ → Bool
has_room s need = nat_le (reserved s + need) (free (grown s need))

-- the fewest containers whose free sectors are at least the reserved ones
abbrev pub containers_for_reserved : State → ℕ
containers_for_reserved s = least_containers s.shape s.place (hold s) s.containers (reserved s)
