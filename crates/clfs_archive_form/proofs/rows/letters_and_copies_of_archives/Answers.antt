use Rattle.clfs_archive_form.proofs.Words.{refl, record_at, frame_at, sectors_at, block_records, copy_there, rest_there, container_there, kept_records}
use Rattle.clfs_archive_form.proofs.rows.letters_and_copies_of_archives.Goals as goal

pub returns : goal.returns
unfolding copy_there rest_there container_there kept_records block_records frame_at sectors_at record_at
returns c = record {
  letters = refl;
  nothing = refl;
  five = refl;
  other_letter = refl;
  a_letter_more = refl;
  right = refl;
  version = refl;
  turn = refl;
  block = refl;
  archiving = refl;
  low_tail = refl;
  high_tail = refl;
  same_again = refl;
  other_block = refl;
  other_container = refl;
  fewer_streams = refl;
  more_streams = refl;
  turn_told = refl;
  block_told = refl;
  archiving_told = refl;
  later_block_told = refl;
  cut_field = refl;
  whole_field = refl;
  cut_file = refl;
}
