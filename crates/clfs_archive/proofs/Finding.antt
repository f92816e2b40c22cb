-- The first block whose last record lies at or above an LSN stands at the place that a search by halves finds.
use Rattle.std.proofs.Common.{◌≡◌, ℕ, zero, suc, ◌<◌, List, [], ◌∷◌, length, get_or, Some, None, refl, ap, ◌∙◌, arith}
use Rattle.std.specs.Prelude.{slice_get, find, nat_le}
use Rattle.std.specs.Option.{option_map}
use Rattle.std.proofs.lemmas.Option.{slice_get-get_or, slice_get_past}
use Rattle.std.proofs.lemmas.Bool.{le-leb, lt-leb}
use Rattle.clfs_lsn.specs.Rising.{IsPlaceOf}
use Rattle.clfs_archive.specs.declared.block.BlockEnd.{BlockEnd}
use Rattle.clfs_archive.specs.Blocks.{lsn_of_block}

pub found_at_place : (blocks : List BlockEnd) (lsn place : ℕ) → IsPlaceOf lsn_of_block blocks lsn place
    → find (λ (block : BlockEnd). nat_le lsn block.last) blocks ≡ slice_get blocks place
found_at_place [] lsn zero is = refl
found_at_place [] lsn (suc place) is = refl
found_at_place (block ∷ blocks) lsn zero is = rw (le-leb lsn block.last (is.above 0 block (omega arith) (omega arith))) refl
found_at_place (block ∷ blocks) lsn (suc place) is =
    rw (lt-leb lsn block.last (is.below 0 block (omega arith))) (found_at_place blocks lsn place (record {
      within = (let all = is.within in omega (arith, all));
      below = λ k d under. is.below (suc k) d (omega (arith, under));
      above = λ k d from within. is.above (suc k) d (omega (arith, from)) (omega (arith, within));
    }))

-- the end of that block
pub end_at_place : (blocks : List BlockEnd) (lsn place : ℕ) (d : BlockEnd) → IsPlaceOf lsn_of_block blocks lsn place → place < length blocks
    → option_map (λ (block : BlockEnd). block.end) (find (λ (block : BlockEnd). nat_le lsn block.last) blocks) ≡ Some (get_or blocks place d).end
end_at_place blocks lsn place d is within =
    ap (option_map (λ (block : BlockEnd). block.end)) (found_at_place blocks lsn place is ∙ slice_get-get_or blocks place d within)

-- or none, where the place is after them all
pub none_at_place : (blocks : List BlockEnd) (lsn place : ℕ) → IsPlaceOf lsn_of_block blocks lsn place → place ≡ length blocks
    → option_map (λ (block : BlockEnd). block.end) (find (λ (block : BlockEnd). nat_le lsn block.last) blocks) ≡ None
none_at_place blocks lsn place is past =
    ap (option_map (λ (block : BlockEnd). block.end)) (found_at_place blocks lsn place is ∙ slice_get_past blocks place (omega (arith, past)))
