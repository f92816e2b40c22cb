-- The bytes of an archive by its parts, and which log they are of.
use Rattle.clfs_restore.proofs.Words.{◌≡◌, ℕ, zero, suc, ◌+◌, ◌-◌, min, Bool, true, false, List, [], ◌∷◌, ◌++◌, length, drop, map, Some, None, Result, Ok}
use Rattle.clfs_restore.proofs.Words.{refl, sym, ◌∙◌, ap, append_assoc, arith, flat_map, little_bytes, container_of, Files, DiskState, TellsContents}
use Rattle.clfs_restore.proofs.Words.{BaseImage, NewestRefusal, newest_of, spelled, State, archived_image, piece_bytes, archive_bytes, archived_pieces}
use Rattle.clfs_restore.proofs.Words.{front_bytes, pieces_from, ArchiveRefusal, Log, TooLong, NoMemory}
use Rattle.std.specs.Prelude.{if◌then◌else◌}
use Rattle.std.proofs.lemmas.List.{drop-map}
use Rattle.clfs_model.specs.declared.refusal.Refusal.TheVariants as refusals
use Rattle.clfs_recover.specs.Files.{state_of}
use Rattle.clfs_recover.specs.Logs.{IsStoredIn}
use Rattle.clfs_recover.specs.declared.parts.Parts.{Parts}
use Rattle.clfs_archive_form.specs.Form.{magic, IsArchiveOf}
use Rattle.clfs_restore.specs.Archiving.{IsOfReading, IsCause}
use Rattle.clfs_restore.proofs.Pieces.{in_pairs, length-pieces, drop-pieces}

abbrev nothing : List ℕ
nothing = []

by_count : (n m : ℕ) (l : List ℕ) → n ≡ m → drop n l ≡ drop m l
by_count n m l e = ap (λ (i : ℕ). drop i l) e

-- those after as many as there are at most
pub drop_few : (k : ℕ) (l : List ℕ) → drop (min (length l) k) l ≡ drop k l
drop_few zero l = by_count (min (length l) 0) 0 l (omega arith)
drop_few (suc k) [] = by_count (min (length nothing) (suc k)) 0 [] (omega arith)
drop_few (suc k) (x ∷ l) = by_count (min (length (x ∷ l)) (suc k)) (suc (min (length l) k)) (x ∷ l) (omega arith) ∙ drop_few k l

-- how many containers a copy lists below the one of its tail
abbrev pub skipped : BaseImage → ℕ
skipped image = container_of image.tail - image.first

length-mapped : (blocks : ℕ → List (List ℕ)) (l : List ℕ) → length (map blocks l) ≡ length l
length-mapped blocks [] = refl
length-mapped blocks (x ∷ l) = ap suc (length-mapped blocks l)

module _ (image : BaseImage) (blocks : ℕ → List (List ℕ)) (numbers : List ℕ) (is : numbers ≡ drop (skipped image) image.files) where
  pieces_are : archived_pieces image (map blocks image.files) ≡ pieces_from (image.first + skipped image) (map blocks numbers)
  pieces_are =
      ap (drop (skipped image)) (in_pairs image.first (map blocks image.files))
      ∙ drop-pieces (skipped image) image.first (map blocks image.files)
      ∙ ap (pieces_from (image.first + skipped image)) (drop-map blocks (skipped image) image.files)
      ∙ ap (λ (l : List ℕ). pieces_from (image.first + skipped image) (map blocks l)) (sym is)

  -- what an archive begins with, and its containers
  pub archive_is : front_bytes image (length numbers) ++ flat_map piece_bytes (pieces_from (image.first + skipped image) (map blocks numbers))
      ≡ archive_bytes image (archived_pieces image (map blocks image.files))
  archive_is =
      let S = spelled (archived_image image) in
      let N = little_bytes 4 (length numbers) in
      let P = pieces_from (image.first + skipped image) (map blocks numbers) in
      let F = flat_map piece_bytes P in
      let len : length P ≡ length numbers = length-pieces (image.first + skipped image) (map blocks numbers) ∙ length-mapped blocks numbers in
      append_assoc magic (S ++ N) F
      ∙ ap (λ (l : List ℕ). magic ++ l) (append_assoc S N F)
      ∙ ap (λ (n : ℕ). magic ++ (S ++ (little_bytes 4 n ++ F))) (sym len)
      ∙ ap (λ (ps : List (ℕ × List (List ℕ))). magic ++ (S ++ (little_bytes 4 (length ps) ++ flat_map piece_bytes ps))) (sym pieces_are)

-- archiving is on in the copy of a log with an archive tail
is_on : (archiving : Bool) (tail : ℕ) → ((if archiving then Some tail else None) ≡ None → ⊥) → archiving ≡ true
is_on true tail some = refl
is_on false tail some = absurd (some refl)

pub archiving_on : (parts : Parts) (s : State) → s ≡ state_of parts s.buffers → (s.archive ≡ None → ⊥) → parts.image.archiving ≡ true
archiving_on parts s is some = is_on parts.image.archiving parts.image.tail (λ none. some (ap (λ (t : State). t.archive) is ∙ none))

-- the image of the newest copy
abbrev found : ℕ × BaseImage → Result (ℕ × BaseImage) NewestRefusal
found copy = Ok copy

one_pair : (a b : ℕ × BaseImage) → found a ≡ found b → a ≡ b
one_pair a b e = cc e

pub one_copy : (files : Files) (slot other : ℕ) (image copy : BaseImage) → newest_of (files 0) ≡ Ok (slot, image) → newest_of (files 0) ≡ Ok (other, copy)
    → copy ≡ image
one_copy files slot other image copy a b = ap (λ (p : ℕ × BaseImage). p.1) (one_pair (other, copy) (slot, image) (sym b ∙ a))

-- the archive that was put together is the log's
pub is_archive : (files : Files) (parts : Parts) (blocks : ℕ → List (List ℕ)) (copy image : BaseImage) (bytes : List ℕ) → IsStoredIn files parts blocks
    → copy ≡ parts.image → image ≡ archived_image copy → parts.image.archiving ≡ true
    → bytes ≡ archive_bytes image (archived_pieces image (map blocks image.files)) → IsArchiveOf files bytes
is_archive files parts blocks copy image bytes stored same is on bytes_are = record {
  slot = parts.slot;
  image = parts.image;
  blocks = map blocks parts.image.files;
  log = stored.log;
  archiving = on;
  is = bytes_are ∙ ap (λ (i : BaseImage). archive_bytes i (archived_pieces i (map blocks i.files))) (is ∙ ap archived_image same);
}

-- why reading is refused: it is damage only where that can't be
pub cause_of : (disk : DiskState) (s : State) (refusal : ArchiveRefusal) → IsOfReading refusal
    → (TellsContents disk → (container offset at : ℕ) → refusal ≡ Log (refusals.Damaged container offset at) → ⊥) → IsCause disk s refusal
cause_of disk s (Log refusals.DiskFault) r never = tt
cause_of disk s (Log (refusals.Damaged container offset at)) r never = λ told. never told container offset at refl
cause_of disk s (Log refusal) r never = absurd r
cause_of disk s (TooLong bytes) r never = absurd r
cause_of disk s NoMemory r never = tt
