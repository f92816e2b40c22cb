-- A log can be restored up to the LSN that was chosen.
use Rattle.clfs_archive_form.proofs.Words.{◌≡◌, ℕ, zero, suc, ◌+◌, ◌-◌, ◌<◌, ◌≤◌, max, Bool, true, false, cond, ltb, ◌||◌, List, [], ◌∷◌, length, Option}
use Rattle.clfs_archive_form.proofs.Words.{Some, None, Result, Ok, Err, refl, sym, ◌∙◌, ap, subst, arith, is_none, find, fold, range_with_len, option_map_or}
use Rattle.clfs_archive_form.proofs.Words.{ltb-false, eqb-true, lsn_number, container_of, Row, IsImage, stored_in, shape_of, Archive, Stored, InputRefusal}
use Rattle.clfs_archive_form.proofs.Words.{UpToInvalid, blocks_in, part_of, IsReadableAs, is_container, last_copy, is_missing, gap_in, end_in, high_bound}
use Rattle.clfs_archive_form.proofs.Words.{chosen_unless, chosen, blocks_at, IsReadable}
use Rattle.std.proofs.lemmas.Bool.{or_parts}
use Rattle.clfs_archive_form.specs.Archives.{last_listed}
use Rattle.clfs_archive_form.specs.Reading.{CanBeRead}
use Rattle.clfs_archive_form.specs.Restoring.{low_bound, within, asked_for}
use Rattle.clfs_archive_form.specs.Written.{CanBeRestored}
use Rattle.clfs_archive_form.proofs.Readable.{found_last}

-- a search that finds none
none_found : (test : ℕ → Bool) (a n : ℕ) → find test (range_with_len a n) ≡ None → (i : ℕ) → i < n → test (a + i) ≡ false
none_found test a zero none i lt = absurd (omega (arith, lt))
none_found test a (suc n) none i lt = pick (test a) refl none (λ rest j near. none_found test (a + 1) n rest j near) i lt
  where
    pick : (b : Bool) → test a ≡ b → cond b (Some a) (find test (range_with_len (a + 1) n)) ≡ None
        → (find test (range_with_len (a + 1) n) ≡ None → (j : ℕ) → j < n → test (a + 1 + j) ≡ false) → (i : ℕ) → i < suc n → test (a + i) ≡ false
    pick true on is later i lt = absurd (cc is)
    pick false off is later zero lt = ap test (here a) ∙ off
      where
        here : (a : ℕ) → a + 0 ≡ a
        here a = omega arith
    pick false off is later (suc j) lt = ap test (there a j) ∙ later is j (omega (arith, lt))
      where
        there : (a j : ℕ) → a + suc j ≡ a + 1 + j
        there a j = omega arith

some_there : (o : Option Stored) → is_none o ≡ false → (stored : Stored) × (o ≡ Some stored)
some_there None is = absurd (cc is)
some_there (Some stored) is = (stored, refl)

-- what the choice was made of
unless_parts : (gap : Option ℕ) (asked : Result ℕ InputRefusal) (lsn : ℕ) → chosen_unless gap asked ≡ Ok lsn → (gap ≡ None) × (asked ≡ Ok lsn)
unless_parts None asked lsn is = (refl, is)
unless_parts (Some container) asked lsn is = absurd (cc is)

fold_least : (rows : List Row) (low : ℕ) → low ≤ fold (λ (least : ℕ) (row : Row). max least row.base) low rows
fold_least [] low = omega arith
fold_least (row ∷ rows) low = let more = fold_least rows (max low row.base) in omega (arith, more)

within_bounds : (low high up_to lsn : ℕ) → within low high up_to ≡ Ok lsn → (low ≤ lsn) × (lsn ≤ high)
within_bounds low high up_to lsn is = pick (ltb up_to low || ltb high up_to) refl is
  where
    pick : (b : Bool) → (ltb up_to low || ltb high up_to) ≡ b → cond b (Err (UpToInvalid low high)) (Ok up_to) ≡ Ok lsn → (low ≤ lsn) × (lsn ≤ high)
    pick true on found = absurd (cc found)
    pick false off found =
        let parts = or_parts (ltb up_to low) (ltb high up_to) off in
        let same : up_to ≡ lsn = cc found in
        (omega (arith, ltb-false up_to low parts.0, same), omega (arith, ltb-false high up_to parts.1, same))

module _ (bytes : List ℕ) (archive : Archive) (fits : IsImage archive.image) (read : CanBeRead bytes archive) where
  -- the last copy of a container can be read
  pub last_readable : (id : ℕ) (stored : Stored) → last_copy archive.containers id ≡ Some stored
      → IsReadableAs bytes archive.image stored × (stored.container ≡ id)
  last_readable id stored is =
      let found = found_last (is_container id) (IsReadableAs bytes archive.image) archive.containers read.containers stored is in
      (found.0, eqb-true stored.container id found.1)

  module _ (up_to : Option ℕ) (lsn : ℕ) (choice : chosen archive up_to ≡ Ok lsn) where
    parts : (gap_in archive ≡ None) × (asked_for archive up_to ≡ Ok lsn)
    parts = unless_parts (gap_in archive) (asked_for archive up_to) lsn choice

    -- no listed container is missing
    pub is_there : (i : ℕ) → i < length archive.image.files → (stored : Stored) × (last_copy archive.containers (archive.image.first + i) ≡ Some stored)
    is_there i lt =
        some_there (last_copy archive.containers (archive.image.first + i))
        (none_found (is_missing archive.containers) archive.image.first (length archive.image.files) parts.0 i lt)

    readable : (i : ℕ) → i < length archive.image.files → IsReadable bytes archive (archive.image.first + i)
    readable i lt =
        let id : ℕ = archive.image.first + i in
        let there = is_there i lt in
        let last = last_readable id there.0 there.1 in
        let blocks : blocks_at bytes archive id ≡ blocks_in (part_of bytes there.0.at there.0.len) =
        ap (λ (o : Option Stored). option_map_or (λ (stored : Stored). blocks_in (part_of bytes stored.at stored.len)) o []) there.1 in (
          last.0.entries,
          subst (λ (l : List (List ℕ)). stored_in (shape_of archive.image) (length archive.image.streams) id 0 l ≡ Ok last.0.entries) (sym blocks)
              (subst (λ (n : ℕ). stored_in (shape_of archive.image) (length archive.image.streams) n 0 (blocks_in (part_of bytes there.0.at there.0.len)) ≡ Ok last.0.entries) last.1
              last.0.read),
        )

    -- the highest bound lies in the last listed container
    high_end : end_in archive.containers (last_listed archive.image) ≤ 8388608
    high_end =
        let n : ℕ = length archive.image.files in
        let there = is_there (n - 1) (omega (arith, fits.some_listed)) in
        let id : archive.image.first + (n - 1) ≡ last_listed archive.image = omega (arith, fits.some_listed) in
        let last = last_readable (archive.image.first + (n - 1)) there.0 there.1 in
        let size : end_in archive.containers (archive.image.first + (n - 1)) ≡ there.0.len = ap (λ (o : Option Stored). option_map_or (λ (stored : Stored). stored.len) o 0) there.1 in
        subst (λ (k : ℕ). end_in archive.containers k ≤ 8388608) id (omega (arith, size, last.0.within, fits.shape.largest_container))

    bounds : (asked : Option ℕ) → asked_for archive asked ≡ Ok lsn → (archive.image.first ≤ container_of lsn) × (container_of lsn < archive.image.first + length archive.image.files)
    bounds None is =
        let same : high_bound archive ≡ lsn = cc is in
        (omega (arith, sym same, high_end, fits.some_listed), omega (arith, sym same, high_end, fits.some_listed))
    bounds (Some asked) is =
        let between = within_bounds (low_bound archive.image) (high_bound archive) asked lsn is in
        let least = fold_least archive.image.streams (lsn_number archive.image.first 0 0) in
        (omega (arith, between.0, least), omega (arith, between.1, high_end, fits.some_listed))

    pub can_be_restored : CanBeRestored bytes archive lsn
    can_be_restored = let range = bounds up_to parts.1 in record {
      image = fits;
      tail = read.tail;
      low = range.0;
      high = range.1;
      readable = readable;
    }
