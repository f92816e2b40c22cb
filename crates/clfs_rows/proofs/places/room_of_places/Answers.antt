use Rattle.clfs_rows.proofs.Words.{refl}
use Rattle.clfs_rows.proofs.places.room_of_places.Goals as goal

pub returns : goal.returns
returns c = record {
  fresh = refl;
  nearly_full = refl;
  last_container_of_all = refl;
  grows_by_the_rate = refl;
  grows_up_to_the_maximum = refl;
  three_containers_for_eight_sectors = refl;
  four_containers_for_nine_sectors = refl;
}
