-- What is known of the parts that opening finds: the newest copy is one that a log can have, the records lie in blocks up to the place, and the
-- copy's bases and its tail fit them.
use Rattle.clfs_recover.proofs.Words.{◌≡◌, ℕ, ◌+◌, ◌-◌, ◌*◌, ◌%◌, ◌^◌, ◌<◌, ◌≤◌, Bool, true, false, cond, eqb, ltb, ◌&&◌, ◌||◌, List, [], ◌∷◌, length, Option}
use Rattle.clfs_recover.proofs.Words.{Some, None, Result, Ok, Err, refl, sym, ◌∙◌, ap, subst, arith, position, option_map, option_or, ltb-false, or_parts}
use Rattle.clfs_recover.proofs.Words.{lsn_number, container_of, IsShape, frontier, unless_wrong, unless_ok, LogEntry, Place, Shape, Files, AreReadAsWritten}
use Rattle.clfs_recover.proofs.Words.{BaseImage, Row, Front, NewestRefusal, layout_of, row_place, IsImage, row_in, told, image_at, slot_of, front_of, slot_by}
use Rattle.clfs_recover.proofs.Words.{copy_in, copy_of, newest_of, before_all, Container, shape_of, listed_records, last_end, place_behind, bases_with}
use Rattle.clfs_recover.proofs.Words.{high_row, is_wrong_tail, image_fault, slot_offset, parts_with, AreListed, FindsBehind, Finds, Parts, LoadRefusal, Damaged}
use Rattle.std.proofs.lemmas.Bool.{cond_both}
use Rattle.std.proofs.lemmas.List.Sums.{fails_before_first}
use Rattle.clfs_lsn.specs.Place.{IsClosed}
use Rattle.clfs_base.specs.declared.refusal.NewestRefusal.TheVariants.{NoBase, BadByte}
use Rattle.clfs_base.specs.Spelling.{current}
use Rattle.clfs_base.specs.Slots.{newer_slot, used_slot}
use Rattle.clfs_recover.proofs.Binding.{bound, one_value}
use Rattle.clfs_recover.proofs.LaidBlocks.{AreLaid}
use Rattle.clfs_recover.proofs.LaidContainers.{listed_laid}
use Rattle.clfs_recover.proofs.Meanings.{opens_rest}
use Rattle.clfs_recover.proofs.ReadBlocks.{ReadsFit}

-- ---- the newest copy

abbrev Copy : Type 0
Copy = Result (ℕ × BaseImage) NewestRefusal

-- an image is read from some bytes
abbrev IsReadFrom : BaseImage → Type 0
IsReadFrom image = (bytes : List ℕ) × (image_at bytes ≡ Ok image)

abbrev copied : ℕ × BaseImage → Copy
copied copy = Ok copy

-- the slot that counts is one of the two
abbrev IsSlot : Result ℕ NewestRefusal → Type 0
IsSlot (Ok slot) = slot ≤ 1
IsSlot (Err refusal) = Unit {0}

newer_is_slot : (first second : ℕ) → IsSlot (newer_slot first second)
newer_is_slot first second = cond_both (eqb first second) (Err (BadByte 1 2)) (cond (eqb second ((first + 1) % 3)) (Ok 1) (Ok 0)) IsSlot (λ same. tt)
    (λ other. cond_both (eqb second ((first + 1) % 3)) (Ok 1) (Ok 0) IsSlot (λ newer. omega arith) (λ older. omega arith))

used_is_slot : (first second : Front) → IsSlot (slot_by first second)
used_is_slot first second =
    let newer : Result ℕ NewestRefusal = newer_slot first.turn second.turn in
    let later : Result ℕ NewestRefusal = cond second.is_wrong_turn (Err (BadByte 1 2)) newer in
    let only : Result ℕ NewestRefusal = cond second.is_open (Ok 1) (Err NoBase) in
    cond_both (first.is_open && second.is_open) (cond first.is_wrong_turn (Err (BadByte 0 2)) later) (cond first.is_open (Ok 0) only) IsSlot
    (λ both. cond_both first.is_wrong_turn (Err (BadByte 0 2)) later IsSlot (λ wrong. tt)
    (λ right. cond_both second.is_wrong_turn (Err (BadByte 1 2)) newer IsSlot (λ wrong. tt) (λ turns. newer_is_slot first.turn second.turn)))
    (λ one. cond_both first.is_open (Ok 0) only IsSlot (λ here. omega arith)
    (λ closed. cond_both second.is_open (Ok 1) (Err NoBase) IsSlot (λ there. omega arith) (λ none. tt)))

newest_slot : (base : List ℕ) (slot : ℕ) (image : BaseImage) → newest_of base ≡ Ok (slot, image) → slot ≤ 1
newest_slot base slot image is = by_slot (used_slot base) (used_is_slot (front_of base 0) (front_of base 1)) is
  where
    by_image : (k : ℕ) (r : Result BaseImage ℕ) → k ≤ 1 → copy_in k r ≡ Ok (slot, image) → slot ≤ 1
    by_image k (Ok found) small is =
        let same : k ≡ slot = ap (λ (copy : ℕ × BaseImage). copy.0) (one_value (copied (k, found)) (k, found) (slot, image) refl is) in
        omega (arith, same, small)
    by_image k (Err at) small is = absurd (cc is)

    by_slot : (r : Result ℕ NewestRefusal) → IsSlot r → copy_of base r ≡ Ok (slot, image) → slot ≤ 1
    by_slot (Ok k) small is = by_image k (image_at (slot_of base k)) small is
    by_slot (Err refusal) small is = absurd (cc is)

newest_read : (base : List ℕ) (slot : ℕ) (image : BaseImage) → newest_of base ≡ Ok (slot, image) → IsReadFrom image
newest_read base slot image is = by_slot (used_slot base) is
  where
    by_image : (k : ℕ) (r : Result BaseImage ℕ) → image_at (slot_of base k) ≡ r → copy_in k r ≡ Ok (slot, image) → IsReadFrom image
    by_image k (Ok found) e is =
        let same : found ≡ image = ap (λ (copy : ℕ × BaseImage). copy.1) (one_value (copied (k, found)) (k, found) (slot, image) refl is) in
        subst IsReadFrom same (slot_of base k, e)
    by_image k (Err at) e is = absurd (cc is)

    by_slot : (r : Result ℕ NewestRefusal) → copy_of base r ≡ Ok (slot, image) → IsReadFrom image
    by_slot (Ok k) is = by_image k (image_at (slot_of base k)) refl is
    by_slot (Err refusal) is = absurd (cc is)

-- ---- what of a copy fits the records

pub both_none : (one other : Option ℕ) → option_or one other ≡ None → (one ≡ None) × (other ≡ None)
both_none None other is = (refl, is)
both_none (Some at) other is = absurd (cc is)

mapped_none : (f : ℕ → ℕ) (o : Option ℕ) → option_map f o ≡ None → o ≡ None
mapped_none f None is = refl
mapped_none f (Some at) is = absurd (cc is)

not_found : (b : Bool) (at : ℕ) → cond b (Some at) None ≡ None → b ≡ false
not_found true at is = absurd (cc is)
not_found false at is = refl

-- no base lies above an LSN
abbrev pub AreRowsBelow : List Row → ℕ → Type 0
AreRowsBelow rows lsn = (i : ℕ) → i < length rows → (row_in rows i).base ≤ lsn

pub rows_below : (version : ℕ) (rows : List Row) (lsn : ℕ) → high_row version rows lsn ≡ None → AreRowsBelow rows lsn
rows_below version rows lsn none i lt =
    let p : Row → Bool = λ row. ltb lsn row.base in
    let far = ltb-false _ _ (not_found _ _ (mapped_none (λ i. row_place (layout_of version) i + 8) (position p rows) none)) in
    ltb-false lsn (row_in rows i).base (fails_before_first p rows i (record { name = []; base = 0 }) (omega (arith, lt, far)))

-- the tail of a log with archiving lies from the first listed container to an LSN
abbrev pub IsTailWithin : BaseImage → ℕ → Type 0
IsTailWithin image lsn = image.archiving ≡ true → (image.tail ≤ lsn) × (image.first ≤ container_of image.tail)

pub tail_within : (image : BaseImage) (lsn : ℕ) → told (is_wrong_tail image lsn) 32 ≡ None → IsTailWithin image lsn
tail_within image lsn none on =
    let tests : Bool = ltb lsn image.tail || ltb (container_of image.tail) image.first in
    let fails : tests ≡ false = ap (λ b. b && tests) (sym on) ∙ not_found (is_wrong_tail image lsn) 32 none in
    let parts = or_parts (ltb lsn image.tail) (ltb (container_of image.tail) image.first) fails in
    (ltb-false lsn image.tail parts.0, ltb-false (container_of image.tail) image.first parts.1)

-- ---- the listed containers

-- the blocks of the last one end within it
end_within : (sectors : ℕ) (files : Files) (numbers : List ℕ) (listed : List Container) → AreListed sectors files numbers listed
    → last_end listed ≤ 512 * sectors
end_within sectors files [] [] are = omega arith
end_within sectors files [] (container ∷ others) are = absurd are
end_within sectors files (number ∷ numbers) [] are = absurd are
end_within sectors files (number ∷ numbers) (container ∷ []) are =
    omega (arith, opens_rest sectors container.bytes container.blocks are.1.0 are.1.1)
end_within sectors files (number ∷ numbers) (container ∷ other ∷ others) are = end_within sectors files numbers (other ∷ others) are.2

-- their records lie in blocks up to that end
all_laid : AreReadAsWritten → ReadsFit → (shape : Shape) → IsShape shape → (streams id : ℕ) (files : Files) (numbers : List ℕ) (listed : List Container)
    (entries : List LogEntry) → 1 ≤ id → 1 ≤ length numbers → AreListed shape.container_sectors files numbers listed
    → listed_records shape streams id listed ≡ Ok entries
    → AreLaid shape streams before_all (lsn_number id 0 0) (id + length numbers - 1) (last_end listed) entries
all_laid written reads shape good streams id files [] listed entries some_id some are is = absurd (omega (arith, some))
all_laid written reads shape good streams id files (number ∷ numbers) [] entries some_id some are is = absurd are
all_laid written reads shape good streams id files (number ∷ numbers) (container ∷ others) entries some_id some are is =
    let last : id + length numbers ≡ id + length (number ∷ numbers) - 1 = omega arith in
    subst (λ (k : ℕ). AreLaid shape streams before_all (lsn_number id 0 0) k (last_end (container ∷ others)) entries) last
    (listed_laid written reads shape good streams files number numbers container others id before_all entries some_id (omega (arith, some_id)) are is)

-- ---- the parts

-- what is read of a slot, whatever numbers stand for bytes
pub record AreImagesRead : Type 0 where
  pub limits : (bytes : List ℕ) (image : BaseImage) → image_at bytes ≡ Ok image
      → IsShape (record { block_sectors = image.block_sectors; container_sectors = image.container_sectors }) × (image.first + length image.files ≤ 2 ^ 32)
  pub may_be : (bytes : List ℕ) (image : BaseImage) → ((i : ℕ) → i < length image.streams → (row_in image.streams i).base < 2 ^ 64)
      → image_at bytes ≡ Ok image → IsImage image
  pub current : (image : BaseImage) → IsImage image → IsImage (current image)

-- What opening finds: a copy that a log can have, records in blocks from the first listed container's first byte to the place, the bases with
-- them, and rows and a tail that fit.
pub record AreOpened (parts : Parts) : Type 0 where
  pub image_is : IsImage parts.image
  pub current_is : IsImage (current parts.image)
  pub laid : AreLaid (shape_of parts.image) (length parts.image.streams) before_all (lsn_number parts.image.first 0 0) parts.place.container parts.place.offset
      parts.entries
  pub rows : AreRowsBelow parts.image.streams (frontier parts.place)
  pub tail : IsTailWithin parts.image (frontier parts.place)
  pub bases_are : parts.bases ≡ bases_with parts.image.streams parts.entries
  pub container_is : parts.place.container + 1 ≡ parts.image.first + length parts.image.files
  pub closed : IsClosed parts.place
  pub right : image_fault parts.image (frontier parts.place) ≡ None

-- what is known of files in which opening finds these parts
pub record IsFoundIn (files : Files) (parts : Parts) : Type 0 where
  pub newest : newest_of (files 0) ≡ Ok (parts.slot, parts.image)
  pub slot : parts.slot ≤ 1
  pub opened : AreOpened parts
  pub listed : List Container
  pub are : AreListed parts.image.container_sectors files parts.image.files listed
  pub read : listed_records (shape_of parts.image) (length parts.image.streams) parts.image.first listed ≡ Ok parts.entries
  pub is : parts ≡ parts_with parts.slot parts.image listed parts.entries

abbrev found_is : Parts → Result Parts LoadRefusal
found_is parts = Ok parts

module _ (images : AreImagesRead) (written : AreReadAsWritten) (reads : ReadsFit) where
  walked_opened : (files : Files) (slot : ℕ) (image : BaseImage) (listed : List Container) (entries : List LogEntry) → IsReadFrom image
      → AreListed image.container_sectors files image.files listed
      → listed_records (shape_of image) (length image.streams) image.first listed ≡ Ok entries
      → image_fault image (frontier (place_behind image listed)) ≡ None → AreOpened (parts_with slot image listed entries)
  walked_opened files slot image listed entries from are read right =
      let place : Place = place_behind image listed in
      let limits = images.limits from.0 image from.1 in
      let end = end_within image.container_sectors files image.files listed are in
      let small : frontier place < 2 ^ 64 = omega (arith, limits.1, end, limits.0.largest_container) in
      let fits = both_none (high_row image.version image.streams (frontier place)) (told (is_wrong_tail image (frontier place)) 32) right in
      let rows = rows_below image.version image.streams (frontier place) fits.0 in
      let good = images.may_be from.0 image (λ i lt. omega (arith, rows i lt, small)) from.1 in record {
        image_is = good;
        current_is = images.current image good;
        laid = all_laid written reads (shape_of image) good.shape (length image.streams) image.first files image.files listed entries good.first good.some_listed
            are read;
        rows = rows;
        tail = tail_within image (frontier place) fits.1;
        bases_are = refl;
        container_is = omega (arith, good.first, good.some_listed);
        closed = (refl, refl);
        right = right;
      }

  pub found_in : (files : Files) (parts : Parts) → Finds files (Ok parts) → IsFoundIn files parts
  found_in files parts found = by_copy (newest_of (files 0)) refl found
    where
      by_copy : (r : Copy) → newest_of (files 0) ≡ r → FindsBehind files (Ok parts) r → IsFoundIn files parts
      by_copy (Err refusal) e found = absurd (cc found)
      by_copy (Ok (slot, image)) e found =
          let listed : List Container = found.0 in
          let all = bound (listed_records (shape_of image) (length image.streams) image.first listed) (λ (entries : List LogEntry).
          unless_wrong (λ at. Damaged 0 (slot_offset slot) at) (image_fault image (frontier (place_behind image listed))) (Ok (parts_with slot image listed entries)))
          parts (sym found.2) in
          let right = unless_ok (λ at. Damaged 0 (slot_offset slot) at) (image_fault image (frontier (place_behind image listed)))
          (Ok (parts_with slot image listed all.first)) parts all.then in
          subst (IsFoundIn files) (one_value (found_is (parts_with slot image listed all.first)) (parts_with slot image listed all.first) parts refl right.1)
          (record {
            newest = e;
            slot = newest_slot (files 0) slot image e;
            opened = walked_opened files slot image listed all.first (newest_read (files 0) slot image e) found.1 all.is right.0;
            listed = listed;
            are = found.1;
            read = all.is;
            is = refl;
          })

  pub found_opened : (files : Files) (parts : Parts) → Finds files (Ok parts) → AreOpened parts
  found_opened files parts found = (found_in files parts found).opened
