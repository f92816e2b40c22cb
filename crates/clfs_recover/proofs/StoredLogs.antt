-- Logs as copies and blocks, and the files that they are found in.
use Rattle.clfs_recover.proofs.Words.{◌≡◌, inl, inr, ℕ, ◌+◌, ◌-◌, ◌<◌, ◌≤◌, Bool, true, false, cond, ltb, ◌&&◌, ◌||◌, List, [], length, map, Option, Some}
use Rattle.clfs_recover.proofs.Words.{None, Ok, refl, sym, ◌∙◌, ap, subst, arith, position, position_or_len, option_map, option_or, cases_Bool, le-ltb}
use Rattle.clfs_recover.proofs.Words.{or_from, position_or_len_is, container_of, frontier, LogEntry, Files, AreReadAsWritten, BaseImage, Row, layout_of}
use Rattle.clfs_recover.proofs.Words.{row_place, row_in, told, Container, shape_of, last_end, high_row, is_wrong_tail, image_fault, parts_with, Finds}
use Rattle.clfs_recover.proofs.Words.{StandsFor, HaveBlocks, HasLog, stored_records, stored_end, stored_parts, IsLogWith, IsStoredIn, stored_state, Parts}
use Rattle.clfs_recover.specs.Logs.{FitsUpTo}
use Rattle.clfs_recover.proofs.CleanEnds.{open_in, listed_whole, listed_by_file, each_whole, blocks_within}
use Rattle.clfs_recover.proofs.FoundParts.{AreImagesRead, IsFoundIn, found_in, both_none, rows_below, tail_within}
use Rattle.clfs_recover.proofs.Meanings.{OneList, WholeAreOpen, last_end_is, stored_found}
use Rattle.clfs_recover.proofs.ReadBlocks.{ReadsFit}

-- ---- what a copy fits

pub fault_fits : (image : BaseImage) (lsn : ℕ) → image_fault image lsn ≡ None → FitsUpTo image lsn
fault_fits image lsn right =
    let parts = both_none (high_row image.version image.streams lsn) (told (is_wrong_tail image lsn) 32) right in
    record { rows = rows_below image.version image.streams lsn parts.0; tail = tail_within image lsn parts.1 }

-- no row is too high
no_high_row : (version : ℕ) (rows : List Row) (lsn : ℕ) → ((i : ℕ) → i < length rows → (row_in rows i).base ≤ lsn) → high_row version rows lsn ≡ None
no_high_row version rows lsn low =
    let p : Row → Bool = λ row. ltb lsn row.base in
    let none : Row = record { name = []; base = 0 } in
    let far : position_or_len p rows ≡ length rows = position_or_len_is p rows (length rows) none (omega arith)
    (λ k lt. le-ltb lsn (row_in rows k).base (low k lt)) (λ lt. absurd (omega (arith, lt))) in
    let nothing : position p rows ≡ None =
    ap (λ b. cond b (Some (position_or_len p rows)) None) (le-ltb (position_or_len p rows) (length rows) (omega (arith, far))) in
    ap (λ (o : Option ℕ). option_map (λ i. row_place (layout_of version) i + 8) o) nothing

-- the tail is right
right_tail : (image : BaseImage) (lsn : ℕ) → (image.archiving ≡ true → (image.tail ≤ lsn) × (image.first ≤ container_of image.tail))
    → is_wrong_tail image lsn ≡ false
right_tail image lsn within = elim (cases_Bool image.archiving) [
  | inl on ↦
      let is = within on in
      ap (λ b. b && (ltb lsn image.tail || ltb (container_of image.tail) image.first)) on
      ∙ or_from (ltb lsn image.tail) (ltb (container_of image.tail) image.first) (le-ltb lsn image.tail is.0) (le-ltb (container_of image.tail) image.first is.1)
  | inr off ↦ ap (λ b. b && (ltb lsn image.tail || ltb (container_of image.tail) image.first)) off
]

pub fits_right : (image : BaseImage) (lsn : ℕ) → FitsUpTo image lsn → image_fault image lsn ≡ None
fits_right image lsn fits =
    ap (λ (o : Option ℕ). option_or o (told (is_wrong_tail image lsn) 32)) (no_high_row image.version image.streams lsn fits.rows)
    ∙ ap (λ b. told b 32) (right_tail image lsn fits.tail)

-- ---- files and logs

pub stands : WholeAreOpen → (slot : ℕ) (image : BaseImage) (blocks : List (List (List ℕ))) (entries : List LogEntry) (files : Files) (buffers : ℕ)
    → HasLog slot image blocks files → IsLogWith image blocks entries → StandsFor files (stored_state image blocks entries buffers)
stands open_too slot image blocks entries files buffers has with = record {
  parts = stored_parts slot image blocks entries;
  found = stored_found slot image blocks open_too files has entries with.read with.right;
  is = refl;
}

module _ (one : OneList) (images : AreImagesRead) (written : AreReadAsWritten) (reads : ReadsFit) where
  stored_by : (files : Files) (parts : Parts) → IsFoundIn files parts → (blocks : ℕ → List (List ℕ)) × IsStoredIn files parts blocks
  stored_by files parts found =
      let image : BaseImage = parts.image in
      let blocks : ℕ → List (List ℕ) = open_in image.container_sectors files in
      let listed : List (List (List ℕ)) = map (λ (c : Container). c.blocks) found.listed in
      let whole = listed_whole written (shape_of image) found.opened.image_is.shape (length image.streams) files image.first image.files found.listed parts.entries
      found.are found.read in
      let same : listed ≡ map blocks image.files = sym (listed_by_file one image.container_sectors files image.files found.listed found.are) in
      let have : HaveBlocks image.container_sectors files image.files (map blocks image.files) =
      subst (HaveBlocks image.container_sectors files image.files) same whole.have in
      let end : last_end found.listed ≡ stored_end (map blocks image.files) = last_end_is found.listed ∙ ap stored_end same in
      let is : parts ≡ stored_parts parts.slot image (map blocks image.files) parts.entries =
      found.is ∙ (λ i. record (parts_with parts.slot image found.listed parts.entries) {
        place = record { container = image.first + length image.files - 1; offset = end i; used = 0; records = 0 };
      }) in (
        blocks,
        record {
          log = record { newest = found.newest; containers = have };
          whole = each_whole image.container_sectors files blocks image.files have;
          with = record {
            within = blocks_within image.container_sectors files image.files (map blocks image.files) have;
            read = subst (λ (l : List (List (List ℕ))). stored_records (shape_of image) (length image.streams) image.first l ≡ Ok parts.entries) same whole.read;
            right = subst (λ (p : Parts). image_fault image (frontier p.place) ≡ None) is found.opened.right;
          };
          is = is;
        },
      )

  pub stored_somehow : (files : Files) (parts : Parts) → Finds files (Ok parts) → (blocks : ℕ → List (List ℕ)) × IsStoredIn files parts blocks
  stored_somehow files parts found = stored_by files parts (found_in images written reads files parts found)
