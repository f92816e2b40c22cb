-- The bytes of what waits, as a group that is written at once.
use Rattle.std.specs.Prelude.{◌≡◌, ◌⊎◌, ℕ, ◌+◌, ◌-◌, ◌*◌, ◌/◌, ◌≤◌, List, [], length}
use Rattle.clfs_lsn.specs.Format.{sector_bytes}
use Rattle.clfs_lsn.specs.declared.shape.Shape.{Shape}
use Rattle.clfs_lsn.specs.declared.place.Place.{Place}
use Rattle.clfs_container.specs.OpenBlocks.{total}
use Rattle.clfs_container.specs.Writing.{IsGroup}
use Rattle.clfs_queue.specs.Queued.{Queued}
use Rattle.clfs_queue.specs.Rows.{AreBlocks}

-- From a byte of its container on up to this place, these are the bytes of a group of blocks, within the container.
pub record EndsAt (shape : Shape) (place : Place) (at : ℕ) (body : List ℕ) (blocks : List (List ℕ)) : Type 0 where
  pub group : IsGroup (shape.container_sectors - at / sector_bytes) body blocks (shape.container_sectors - place.offset / sector_bytes)
  pub within : at + 1 + length body ≤ sector_bytes * shape.container_sectors

-- One block for each start that waits, from a byte of the container on up to the log's place, and the bytes of these blocks as a group:
-- all but the gate of the first, and after the last one a closed gate, where the container has a sector there. Where nothing waits, no
-- bytes.
pub record IsGroupOf (q : Queued) (at : ℕ) (body : List ℕ) : Type 0 where
  pub blocks : List (List ℕ)
  pub waiting : AreBlocks q.shape q.place.container at q.waiting q.records blocks
  pub end : at + total blocks ≡ q.place.offset
  pub bytes : ((body ≡ []) × (blocks ≡ [])) ⊎ EndsAt q.shape q.place at body blocks
