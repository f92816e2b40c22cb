-- The free sectors of a log, and the numbers of containers that give enough of them. The hold is the least LSN that the log
-- still needs: containers below the hold's can be used again.
use Rattle.std.specs.Prelude.{ℕ, ◌+◌, ◌-◌, ◌*◌, ◌^◌, min, Bool, ◌&&◌, nat_le, List, map, find, Option, unwrap_or}
use Rattle.std.specs.List.{range_with_len}
use Rattle.clfs_lsn.specs.Limits.{most_containers}
use Rattle.clfs_lsn.specs.Lsn.{container_of}
use Rattle.clfs_lsn.specs.Place.{block_end}
use Rattle.clfs_lsn.specs.declared.place.Place.{Place}
use Rattle.clfs_lsn.specs.declared.shape.Shape.{Shape}

-- the number of containers in use: those from the hold's to the place's
abbrev pub active_containers : Place → ℕ → ℕ
active_containers place hold = place.container - container_of hold + 1

-- the sectors that the place's container has after the open block
abbrev pub left_sectors : Shape → Place → ℕ
left_sectors shape place = shape.container_sectors - block_end place

-- the containers that the log can still go on to: those not in use, and no more than there are ids
abbrev pub next_containers : Place → ℕ → ℕ → ℕ
next_containers place hold containers = min (containers - active_containers place hold) (2 ^ 32 - 1 - place.container)

-- The sectors that appends can surely take. At the end of a container up to one sector less than the largest block may
-- have to be skipped, in the place's container and in each later one.
abbrev pub free_sectors : Shape → Place → ℕ → ℕ → ℕ
free_sectors shape place hold containers =
    (left_sectors shape place - (shape.block_sectors - 1))
    + next_containers place hold containers * (shape.container_sectors - shape.block_sectors + 1)

-- so many containers give the wanted sectors
abbrev pub is_enough : Shape → Place → ℕ → ℕ → ℕ → Bool
is_enough shape place hold wanted containers = nat_le wanted (free_sectors shape place hold containers)

-- the numbers of containers that a log grows to, in steps of the rate, rising; 256 of them, since no maximum is above 256
abbrev pub growth_steps : ℕ → ℕ → List ℕ
growth_steps containers rate = map (λ k. containers + k * rate) (range_with_len 1 most_containers)

-- the number of containers after growth: the first step that is at most the maximum and gives the wanted sectors
abbrev pub growth : Shape → Place → ℕ → ℕ → ℕ → ℕ → ℕ → Option ℕ
growth shape place hold containers rate maximum wanted =
    find (λ n. nat_le n maximum && is_enough shape place hold wanted n) (growth_steps containers rate)

-- the least number of containers, from those in use to those that there are, whose free sectors are at least the reserved ones
abbrev pub least_containers : Shape → Place → ℕ → ℕ → ℕ → ℕ
least_containers shape place hold containers reserved =
    let used = active_containers place hold in
    unwrap_or (find (is_enough shape place hold reserved) (range_with_len used (containers + 1 - used))) containers
