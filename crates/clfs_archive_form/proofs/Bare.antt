-- Bases alone, as those of rows that no restart area has moved.
use Rattle.clfs_archive_form.proofs.Words.{◌≡◌, ℕ, ◌<◌, List, [], length, get_or, map, sym, ◌∙◌, ap, arith, length-map, get_or-map, length-map-range_with_len}
use Rattle.clfs_archive_form.proofs.Words.{Row, row_in, base_with, bases_with}
use Rattle.std.proofs.lemmas.List.{ext_get_or}
use Rattle.std.proofs.lemmas.List.FromFn.{get_or-map-range_with_len}

-- the row with this base and no name
bare_row : ℕ → Row
bare_row base = record { name = []; base = base }

-- a row for each base
pub bare : List ℕ → List Row
bare bases = map bare_row bases

length-bases_with : (rows : List Row) → length (bases_with rows []) ≡ length rows
length-bases_with rows = length-map-range_with_len (base_with rows []) 0 (length rows)

base_at : (rows : List Row) (i : ℕ) → i < length rows → get_or (bases_with rows []) i 0 ≡ (row_in rows i).base
base_at rows i near = get_or-map-range_with_len (base_with rows []) 0 (length rows) i i 0 near (omega arith)

pub bare_bases : (bases : List ℕ) → bases ≡ bases_with (bare bases) []
unfolding bare bare_row
bare_bases bases =
    let same : length (bare bases) ≡ length bases = length-map bases bare_row in
    ext_get_or 0 bases (bases_with (bare bases) []) (sym (length-bases_with (bare bases) ∙ same))
    (λ i lt.
    let near : i < length (bare bases) = omega (arith, same, lt) in
    sym (base_at (bare bases) i near ∙ ap (λ (row : Row). row.base) (get_or-map bare_row bases i 0 (record { name = []; base = 0 }) lt)))
