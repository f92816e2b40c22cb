use Rattle.clfs_dump.proofs.Words.{refl, digits, encode_with, record_at, frame_at, sectors_at, block_records}
use Rattle.clfs_dump.proofs.rows.dumps_of_a_small_log.Goals as goal

pub returns : goal.returns
unfolding digits encode_with block_records frame_at sectors_at record_at
returns c = record {
  all = refl;
  end = refl;
  records = refl;
  dead = refl;
  from = refl;
  to = refl;
  named = refl;
  other = refl;
  version = refl;
  version_place = refl;
  second = refl;
  second_place = refl;
  behind = refl;
}
