use Rattle.clfs_recover.proofs.Words.{refl, record_at, frame_at, sectors_at, block_records}
use Rattle.clfs_recover.proofs.rows.changes_of_a_small_log.Goals as goal

pub returns : goal.returns
unfolding block_records frame_at sectors_at record_at
returns c = record {
  read = refl;
  state = refl;
  moved = refl;
  further = refl;
  left = refl;
  none_left = refl;
  all_left = refl;
}
