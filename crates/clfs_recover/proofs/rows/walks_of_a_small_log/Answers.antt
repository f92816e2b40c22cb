use Rattle.clfs_recover.proofs.Words.{refl, record_at, frame_at, sectors_at, block_records}
use Rattle.clfs_recover.proofs.rows.walks_of_a_small_log.Goals as goal

pub returns : goal.returns
unfolding block_records frame_at sectors_at record_at
returns c = record {
  fresh = refl;
  one = refl;
  no_stream = refl;
  version = refl;
  records = refl;
  used = refl;
  address = refl;
  filling = refl;
  behind = refl;
  short = refl;
  no_file = refl;
  base = refl;
  high_base = refl;
  high_tail = refl;
  low_tail = refl;
}
