use Rattle.clfs_rows.proofs.Words.{refl, digits, decode_pairs, encode_with, grown, has_room, fine_outcome, request_in, an_area, with_areas, streams_of}
use Rattle.clfs_rows.proofs.Words.{worked, codes, replicate, ◌∷◌, []}
use Rattle.clfs_rows.specs.Arranged.{stream_named}
use Rattle.clfs_rows.proofs.Decisions.{no, yes}
use Rattle.clfs_rows.proofs.StorableTests.{is_storable}
use Rattle.clfs_rows.proofs.storable_states.streams_and_areas_within_limits.Goals as goal

pub returns : goal.returns
unfolding grown has_room fine_outcome request_in digits decode_pairs encode_with
returns c = record {
  a_longest_name = yes (is_storable (stream_named (replicate 64 97))) refl;
  no_longer_name = no (is_storable (stream_named (replicate 65 97))) refl;
  no_empty_name = no (is_storable (stream_named [])) refl;
  no_name_with_another_byte = no (is_storable (stream_named (codes "a:b"))) refl;
  the_most_streams = yes (is_storable (streams_of 192)) refl;
  no_more_streams = no (is_storable (streams_of 193)) refl;
  the_most_areas = yes (is_storable (with_areas (record an_area { client = 2 } ∷ replicate 16 an_area) worked)) refl;
  no_more_areas_of_a_client = no (is_storable (with_areas (record an_area { client = 2 } ∷ replicate 17 an_area) worked)) refl;
  the_last_client = yes (is_storable (with_areas (record an_area { client = 64 } ∷ []) worked)) refl;
  no_client_0 = no (is_storable (with_areas (record an_area { client = 0 } ∷ []) worked)) refl;
  no_client_65 = no (is_storable (with_areas (record an_area { client = 65 } ∷ []) worked)) refl;
  the_last_area = yes (is_storable (with_areas (record an_area { number = 16 } ∷ []) worked)) refl;
  no_area_0 = no (is_storable (with_areas (record an_area { number = 0 } ∷ []) worked)) refl;
  no_area_17 = no (is_storable (with_areas (record an_area { number = 17 } ∷ []) worked)) refl;
}
