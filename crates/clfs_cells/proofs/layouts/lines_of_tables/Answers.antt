use Rattle.clfs_cells.proofs.Words.{refl, digits, decode_pairs, encode_with, grown, has_room, fine_outcome, request_in, txn_call_in, fine_load, fine_call}
use Rattle.clfs_cells.proofs.Words.{call_without_memory}
use Rattle.clfs_cells.proofs.layouts.lines_of_tables.Goals as goal

pub returns : goal.returns
unfolding grown has_room fine_outcome request_in digits decode_pairs encode_with txn_call_in fine_load fine_call call_without_memory
returns c = record { begin = refl; set = refl; back = refl; commit = refl; rollback = refl; get = refl; checkpoint = refl; empty = refl; other_verb = refl; a_client = refl; no_changes = refl; too_many_changes = refl; no_transaction = refl; too_great_a_transaction = refl; no_cell = refl; too_great_a_value = refl; too_many_kept = refl; a_leading_zero = refl; no_word = refl; an_empty_word = refl; a_word_more = refl; a_word_more_behind_values = refl }
