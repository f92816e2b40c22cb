-- What a change of the slab leaves of the areas.
use Rattle.clfs_cursor.proofs.Words.{◌≡◌, ℕ, ◌+◌, ◌<◌, ◌≤◌, true, refl, ap, ap₂, arith, zero, suc, List, [], ◌∷◌, length, map, get_or, count_by, slice_set}
use Rattle.clfs_cursor.proofs.Words.{nat_tests, sum_by-cons, get_or-le-sum_by, Slab, get, Cursor, AreaCursors, Keys, cursor_by, area_by, has_key, uses_in}
use Rattle.clfs_cursor.proofs.Words.{uses, Numbered, Standing}
use Rattle.clfs_cursor.proofs.Counts.{counted_more, counted_le}

-- where each of its keys has what it had, the cursor is as it was
pub same_cursor : (old new : Slab Standing) (numbered : Numbered) → get new numbered.key ≡ get old numbered.key → cursor_by new numbered ≡ cursor_by old numbered
same_cursor old new numbered same = rw same refl

-- its own key is its key
pub has_own_key : (numbered : Numbered) → has_key numbered.key numbered ≡ true
has_own_key numbered = grind (arith, nat_tests)

-- where each key of an area has what it had, its cursors are as they were
pub same_cursors : (old new : Slab Standing) (keys : List Numbered) → ((key : ℕ) → 1 ≤ count_by (has_key key) keys → get new key ≡ get old key)
    → map (cursor_by new) keys ≡ map (cursor_by old) keys
same_cursors old new [] same = refl
same_cursors old new (first ∷ keys) same =
    let here = same first.key (omega (arith, counted_more (has_key first.key) first keys (has_own_key first))) in
    ap₂ (λ (cursor : Cursor) (rest : List Cursor). cursor ∷ rest) (same_cursor old new first here)
    (same_cursors old new keys (λ key some. same key (omega (arith, some, counted_le (has_key key) first keys))))

same_area : (old new : Slab Standing) (area : Keys) → ((key : ℕ) → 1 ≤ uses_in key area → get new key ≡ get old key) → area_by new area ≡ area_by old area
same_area old new area same = ap (λ (cursors : List Cursor). record { cursors = cursors; reads = area.reads }) (same_cursors old new area.numbered same)

-- a key's uses in the first area, and in the others
uses_first : (key : ℕ) (area : Keys) (areas : List Keys) → uses key (area ∷ areas) ≡ uses_in key area + uses key areas
uses_first key area areas = sum_by-cons (uses_in key) area areas

-- where each key of all areas has what it had, the areas are as they were
pub same_areas : (old new : Slab Standing) (areas : List Keys) → ((key : ℕ) → 1 ≤ uses key areas → get new key ≡ get old key)
    → map (area_by new) areas ≡ map (area_by old) areas
same_areas old new [] same = refl
same_areas old new (area ∷ areas) same = ap₂ (λ (one : AreaCursors) (rest : List AreaCursors). one ∷ rest)
    (same_area old new area (λ key some. same key (omega (arith, some, uses_first key area areas))))
    (same_areas old new areas (λ key some. same key (omega (arith, some, uses_first key area areas))))

-- where each key that other areas have has what it had, only the area at the place changes
pub one_area : (old new : Slab Standing) (areas : List Keys) (place : ℕ) (none after : Keys) → place < length areas
    → ((key : ℕ) → uses_in key (get_or areas place none) < uses key areas → get new key ≡ get old key)
    → map (area_by new) (slice_set areas place after) ≡ slice_set (map (area_by old) areas) place (area_by new after)
one_area old new [] place none after there same = absurd (omega (arith, there))
one_area old new (area ∷ areas) zero none after there same = ap (λ (rest : List AreaCursors). area_by new after ∷ rest)
    (same_areas old new areas (λ key some. same key (omega (arith, some, uses_first key area areas))))
one_area old new (area ∷ areas) (suc place) none after there same =
    let within : place < length areas = omega (arith, there) in
    ap₂ (λ (one : AreaCursors) (rest : List AreaCursors). one ∷ rest)
    (same_area old new area (λ key some. same key
    (omega (arith, some, uses_first key area areas, get_or-le-sum_by (uses_in key) areas place none within))))
    (one_area old new areas place none after within (λ key more. same key (omega (arith, more, uses_first key area areas))))
