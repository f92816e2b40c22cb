-- What contracts see of the keys of an area.
use Rattle.clfs_cursor.proofs.Words.{◌≡◌, ℕ, ◌+◌, Bool, true, false, refl, ap, ◌∙◌, List, [], ◌∷◌, length, map, Option, ◌==◌, find, filter, unwrap_or}
use Rattle.clfs_cursor.proofs.Words.{range_with_len, option_map, length-map, Slab, least_unused, Cursor, unused_cursor, has_number, is_numbered, cursor_by}
use Rattle.clfs_cursor.proofs.Words.{Numbered, Standing}
use Rattle.std.proofs.Common.{not}
use Rattle.std.specs.Prelude.{◌||◌}
use Rattle.clfs_lsn.specs.Cursors.{is_cursor_number}

-- a number is a cursor's where it is a key's
numbers_seen : (slots : Slab Standing) (keys : List Numbered) (number : ℕ) → is_cursor_number (map (cursor_by slots) keys) number ≡ is_numbered keys number
numbers_seen slots [] number = refl
numbers_seen slots (first ∷ keys) number = ap (λ (b : Bool). (first.number == number) || b) (numbers_seen slots keys number)

-- tests that answer alike find the same number
find_alike : (p q : ℕ → Bool) → ((n : ℕ) → p n ≡ q n) → (xs : List ℕ) → find p xs ≡ find q xs
find_alike p q alike [] = refl
find_alike p q alike (x ∷ xs) = rw (alike x, find_alike p q alike xs) refl

-- the least number that no cursor has
pub unused_seen : (slots : Slab Standing) (keys : List Numbered) → unused_cursor (map (cursor_by slots) keys) ≡ least_unused (length keys) (is_numbered keys)
unused_seen slots keys =
    ap (λ (count : ℕ). least_unused count (is_cursor_number (map (cursor_by slots) keys))) (length-map keys (cursor_by slots))
    ∙ ap (λ (found : Option ℕ). unwrap_or found (length keys + 1))
    (find_alike (λ n. not (is_cursor_number (map (cursor_by slots) keys) n)) (λ n. not (is_numbered keys n))
    (λ n. ap not (numbers_seen slots keys n)) (range_with_len 1 (length keys)))

-- the cursor of a number
pub found_seen : (slots : Slab Standing) (keys : List Numbered) (number : ℕ)
    → find (λ (cursor : Cursor). cursor.number == number) (map (cursor_by slots) keys) ≡ option_map (cursor_by slots) (find (has_number number) keys)
found_seen slots [] number = refl
found_seen slots (first ∷ keys) number = go (has_number number first) refl (found_seen slots keys number)
  where
    go : (b : Bool) → has_number number first ≡ b
        → find (λ (cursor : Cursor). cursor.number == number) (map (cursor_by slots) keys) ≡ option_map (cursor_by slots) (find (has_number number) keys)
        → find (λ (cursor : Cursor). cursor.number == number) (map (cursor_by slots) (first ∷ keys))
        ≡ option_map (cursor_by slots) (find (has_number number) (first ∷ keys))
    go true here rest = rw here refl
    go false here rest = rw here rest

-- the cursors of other numbers
pub others_seen : (slots : Slab Standing) (keys : List Numbered) (number : ℕ)
    → filter (λ (cursor : Cursor). not (cursor.number == number)) (map (cursor_by slots) keys)
    ≡ map (cursor_by slots) (filter (λ (numbered : Numbered). not (numbered.number == number)) keys)
others_seen slots [] number = refl
others_seen slots (first ∷ keys) number = go (has_number number first) refl (others_seen slots keys number)
  where
    go : (b : Bool) → has_number number first ≡ b
        → filter (λ (cursor : Cursor). not (cursor.number == number)) (map (cursor_by slots) keys)
        ≡ map (cursor_by slots) (filter (λ (numbered : Numbered). not (numbered.number == number)) keys)
        → filter (λ (cursor : Cursor). not (cursor.number == number)) (map (cursor_by slots) (first ∷ keys))
        ≡ map (cursor_by slots) (filter (λ (numbered : Numbered). not (numbered.number == number)) (first ∷ keys))
    go true here rest = rw here rest
    go false here rest = rw here (ap (λ (cursors : List Cursor). cursor_by slots first ∷ cursors) rest)
