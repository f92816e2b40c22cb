use Rattle.clfs_rows.proofs.Words.{refl, digits, decode_pairs, encode_with, grown, has_room, fine_outcome, request_in, closed_at, waiting_log, empty_record}
use Rattle.clfs_rows.proofs.Words.{map, ◌∷◌, []}
use Rattle.clfs_rows.proofs.Decisions.{no, yes}
use Rattle.clfs_rows.proofs.SurvivorTests.{splits_no_block, ends_block}
use Rattle.clfs_rows.proofs.crashes.blocks_that_a_crash_leaves.Goals as goal

pub returns : goal.returns
unfolding grown has_room fine_outcome request_in digits decode_pairs encode_with
returns c = record {
  before_it = yes (splits_no_block waiting_log.records (closed_at 1 1024)) refl;
  behind_it = yes (splits_no_block waiting_log.records (closed_at 1 1536)) refl;
  between_its_records = no (splits_no_block waiting_log.records (record (closed_at 1 1024) { records = 1 })) refl;
  never_a_part = λ asked s s2 x survives. survives.place.whole_blocks;
  its_end = yes (ends_block (map empty_record (0 ∷ 1 ∷ [])) (closed_at 1 512) (empty_record 0)) refl;
  the_next_container = yes (ends_block (map empty_record (0 ∷ 1 ∷ [])) (closed_at 2 0) (empty_record 0)) refl;
  not_its_begin = no (ends_block (map empty_record (0 ∷ 1 ∷ [])) (closed_at 1 0) (empty_record 0)) refl;
  not_further_on = no (ends_block (map empty_record (0 ∷ 1 ∷ [])) (closed_at 1 1024) (empty_record 0)) refl;
  not_within_the_next_container = no (ends_block (map empty_record (0 ∷ 1 ∷ [])) (closed_at 2 512) (empty_record 0)) refl;
  not_the_container_after_the_next = no (ends_block (map empty_record (0 ∷ 1 ∷ [])) (closed_at 3 0) (empty_record 0)) refl;
}
