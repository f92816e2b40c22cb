use Rattle.clfs_rows.proofs.Words.{refl, digits, decode_pairs, encode_with, grown, has_room, lsn_number, fine_outcome, request_in, with_broken}
use Rattle.clfs_rows.proofs.Words.{two_containers, closed_at, with_base, Some, codes, ◌∷◌, []}
use Rattle.std.specs.Prelude.{true}
use Rattle.clfs_rows.proofs.Decisions.{no}
use Rattle.clfs_rows.proofs.SameTests.{is_same}
use Rattle.clfs_rows.proofs.sameness.what_else_is_compared.Goals as goal

pub returns : goal.returns
unfolding grown has_room fine_outcome request_in digits decode_pairs encode_with
returns c = record {
  blocks = no (is_same two_containers (record two_containers { shape = record { block_sectors = 3; container_sectors = 8 } })) refl;
  containers_in_sectors = no (is_same two_containers (record two_containers { shape = record { block_sectors = 2; container_sectors = 9 } })) refl;
  containers = no (is_same two_containers (record two_containers { containers = 3 })) refl;
  write_buffers = no (is_same two_containers (record two_containers { buffers = 3 })) refl;
  bases = no (is_same two_containers (with_base (lsn_number 2 0 0) two_containers)) refl;
  names = no (is_same two_containers (record two_containers { streams = record { name = codes "b"; base = lsn_number 2 0 1 } ∷ [] })) refl;
  container_of_the_place = no (is_same two_containers (record two_containers { place = closed_at 3 512 })) refl;
  offset_of_the_place = no (is_same two_containers (record two_containers { place = closed_at 2 1024 })) refl;
  blocks_that_wait = no (is_same two_containers (record two_containers { waiting = lsn_number 2 0 0 ∷ [] })) refl;
  areas = no (is_same two_containers (record two_containers { areas = [] })) refl;
  archiving = no (is_same two_containers (record two_containers { archive = Some (lsn_number 2 0 1) })) refl;
  maximum = no (is_same two_containers (record two_containers { maximum = Some 2 })) refl;
  minimum = no (is_same two_containers (record two_containers { minimum = Some 2 })) refl;
  growth = no (is_same two_containers (record two_containers { growth = Some 1 })) refl;
  growth_by_itself = no (is_same two_containers (record two_containers { automatic = true })) refl;
  being_broken = no (is_same two_containers (with_broken two_containers)) refl;
}
