-- The archive of a log is read as it was written.
use Rattle.clfs_archive_form.proofs.Words.{◌≡◌, ℕ, zero, suc, ◌+◌, ◌-◌, ◌*◌, ◌^◌, ◌<◌, ◌≤◌, Bool, true, cond, ◌&&◌, eqb, List, [], ◌∷◌, ◌++◌, length, drop}
use Rattle.clfs_archive_form.proofs.Words.{get_or, map, Option, Some, None, Result, Ok, refl, sym, ◌∙◌, ap, subst, arith, flat_map, get_or-append}
use Rattle.clfs_archive_form.proofs.Words.{drop-append_seam, eq-eqb, lt-ltb, nat_tests, drop-drop, length-append, length-drop, little_bytes, container_of}
use Rattle.clfs_archive_form.proofs.Words.{frontier, LogEntry, Place, Shape, Files, AreWhole, BaseImage, IsImage, current, flag, spelled, first_failing}
use Rattle.clfs_archive_form.proofs.Words.{◌>>=◌, State, state_of, FitsUpTo, stored_state, HaveBlocks, HasLog, stored_in, stored_records, stored_end}
use Rattle.clfs_archive_form.proofs.Words.{stored_place, shape_of, image_fault, magic, archived_image, piece_bytes, archive_bytes, archived_pieces}
use Rattle.clfs_archive_form.proofs.Words.{has_letter, magic_there, wanted_count, archives_in, containers_there, first_demands, pieces_at, archive_alone}
use Rattle.clfs_container.specs.OpenBlocks.{AreOpen}
use Rattle.clfs_base.specs.declared.refusal.NewestRefusal.{NewestRefusal}
use Rattle.clfs_base.specs.Slots.{newest_of}
use Rattle.clfs_base.specs.Layout.{most_tail}
use Rattle.clfs_recover.specs.Logs.{IsStoredIn}
use Rattle.clfs_recover.specs.declared.parts.Parts.{Parts}
use Rattle.clfs_archive_form.specs.Archives.{unless_found}
use Rattle.clfs_archive_form.proofs.CopyBack.{Written, HaveLength, copy_back}
use Rattle.clfs_archive_form.proofs.Grammar.{archive_is, read_alone, rest_is}
use Rattle.clfs_archive_form.proofs.PiecesBack.{Blocks, open_exact, pieces_from, in_pairs, length-pieces, drop-pieces, AreFine, drop-fine, just_back, all_back}
use Rattle.clfs_archive_form.proofs.ReadRecords.{bound}
use Rattle.clfs_archive_form.proofs.RestoredFiles.{opens_total}

-- what open blocks are, and what files have, is one thing
abbrev pub OneList : Type 0
OneList = (sectors : ℕ) (bytes : List ℕ) (blocks others : List (List ℕ)) → AreOpen sectors bytes blocks → AreOpen sectors bytes others → blocks ≡ others

abbrev pub WholeOpen : Type 0
WholeOpen = (sectors : ℕ) (bytes : List ℕ) (blocks : List (List ℕ)) → AreWhole sectors bytes blocks → AreOpen sectors bytes blocks

same_blocks : OneList → WholeOpen → (sectors : ℕ) (files : Files) (numbers : List ℕ) (a b : List Blocks) → HaveBlocks sectors files numbers a
    → HaveBlocks sectors files numbers b → a ≡ b
same_blocks one opens sectors files [] [] [] x y = refl
same_blocks one opens sectors files [] (first ∷ a) b x y = absurd x
same_blocks one opens sectors files [] [] (first ∷ b) x y = absurd y
same_blocks one opens sectors files (number ∷ numbers) [] b x y = absurd x
same_blocks one opens sectors files (number ∷ numbers) (first ∷ a) [] x y = absurd y
same_blocks one opens sectors files (number ∷ numbers) (first ∷ a) (other ∷ b) x y =
    let here : first ≡ other =
    one sectors (files number) first other (opens sectors (files number) first x.0) (opens sectors (files number) other y.0) in
    let rest : a ≡ b = same_blocks one opens sectors files numbers a b x.1 y.1 in (λ i. here i ∷ rest i)

pub have_count : (sectors : ℕ) (files : Files) (numbers : List ℕ) (bs : List Blocks) → HaveBlocks sectors files numbers bs → length bs ≡ length numbers
have_count sectors files [] [] have = refl
have_count sectors files [] (b ∷ bs) have = absurd have
have_count sectors files (number ∷ numbers) [] have = absurd have
have_count sectors files (number ∷ numbers) (b ∷ bs) have = ap suc (have_count sectors files numbers bs have.1)

-- the blocks of a log can be read back
pub log_fine : (shape : Shape) (streams : ℕ) (files : Files) (numbers : List ℕ) (bs : List Blocks) (id : ℕ) (entries : List LogEntry)
    → HaveBlocks shape.container_sectors files numbers bs → stored_records shape streams id bs ≡ Ok entries → id + length bs ≤ 2 ^ 32
    → AreFine shape streams id bs
log_fine shape streams files [] [] id entries have read few = tt
log_fine shape streams files [] (b ∷ bs) id entries have read few = absurd have
log_fine shape streams files (number ∷ numbers) [] id entries have read few = tt
log_fine shape streams files (number ∷ numbers) (b ∷ bs) id entries have read few =
    let first = bound (stored_in shape streams id 0 b)
    (λ (es : List LogEntry). stored_records shape streams (id + 1) bs >>= λ (others : List LogEntry). Ok (es ++ others)) entries read in
    let next = bound (stored_records shape streams (id + 1) bs) (λ (others : List LogEntry). Ok (first.first ++ others)) entries first.then in
    let fine = open_exact shape.container_sectors (files number) b have.0.0 have.0.1 in
    let size = opens_total shape.container_sectors (files number) b have.0.0 have.0.1 in (
      record {
        small = omega (arith, few);
        exact = fine.0;
        some = fine.1;
        within = omega (arith, size);
        entries = first.first;
        read = first.is;
      },
      log_fine shape streams files numbers bs (id + 1) next.first have.1 next.is (omega (arith, few)),
    )

-- A log in files by its newest copy and by its blocks, and the state that it stands for.
pub record IsHeld (files : Files) (image : BaseImage) (blocks : List Blocks) (s : State) : Type 0 where
  pub entries : List LogEntry
  pub fits : IsImage image
  pub have : HaveBlocks image.container_sectors files image.files blocks
  pub read : stored_records (shape_of image) (length image.streams) image.first blocks ≡ Ok entries
  pub right : image_fault image (frontier (stored_place image blocks)) ≡ None
  pub below : (k : ℕ) (d : LogEntry) → k < length entries → (get_or entries k d).lsn < frontier (stored_place image blocks)
  pub state : s ≡ stored_state image blocks entries s.buffers

abbrev found_copy : ℕ × BaseImage → Result (ℕ × BaseImage) NewestRefusal
found_copy copy = Ok copy

one_pair : (a b : ℕ × BaseImage) → found_copy a ≡ found_copy b → a ≡ b
one_pair a b e = cc e

pub held : OneList → WholeOpen → (files : Files) (slot : ℕ) (image : BaseImage) (blocks : List Blocks) (s : State) (log : HasLog slot image blocks files)
    (parts : Parts) (given : ℕ → Blocks) → s ≡ state_of parts s.buffers → newest_of (files 0) ≡ Ok (parts.slot, parts.image) → IsImage parts.image
    → image_fault parts.image (frontier parts.place) ≡ None
    → ((k : ℕ) (d : LogEntry) → k < length parts.entries → (get_or parts.entries k d).lsn < frontier parts.place)
    → IsStoredIn files parts given → IsHeld files image blocks s
held one opens files slot image blocks s log parts given state newest fits right below stored =
    let old : List Blocks = map given parts.image.files in
    let same : parts.image ≡ image = ap (λ (p : ℕ × BaseImage). p.1) (one_pair (parts.slot, parts.image) (slot, image) (sym newest ∙ log.newest)) in
    let lists : old ≡ blocks = same_blocks one opens image.container_sectors files image.files old blocks
    (subst (λ (x : BaseImage). HaveBlocks x.container_sectors files x.files old) same stored.log.containers) log.containers in
    let place : parts.place ≡ stored_place image blocks =
    ap (λ (p : Parts). p.place) stored.is ∙ ap (λ (x : BaseImage). stored_place x old) same ∙ ap (stored_place image) lists in
    let whole : state_of parts s.buffers ≡ stored_state image blocks parts.entries s.buffers =
    ap (λ (p : Parts). state_of p s.buffers) stored.is ∙ ap (λ (x : BaseImage). stored_state x old parts.entries s.buffers) same
    ∙ ap (λ (l : List Blocks). stored_state image l parts.entries s.buffers) lists in record {
      entries = parts.entries;
      fits = subst IsImage same fits;
      have = log.containers;
      read = subst (λ (l : List Blocks). stored_records (shape_of image) (length image.streams) image.first l ≡ Ok parts.entries) lists
          (subst (λ (x : BaseImage). stored_records (shape_of x) (length x.streams) x.first old ≡ Ok parts.entries) same stored.with.read);
      right = subst (λ (p : Place). image_fault image (frontier p) ≡ None) place (subst (λ (x : BaseImage). image_fault x (frontier parts.place) ≡ None) same right);
      below = subst (λ (p : Place). (k : ℕ) (d : LogEntry) → k < length parts.entries → (get_or parts.entries k d).lsn < frontier p) place below;
      state = state ∙ whole;
    }

-- ---- the bytes of an archive

tail_small : (archiving tail : ℕ) → tail ≤ most_tail archiving → tail < 2 ^ 64
tail_small archiving tail le = grind (arith, nat_tests)

-- a copy as an archive has it
pub turned_fits : (image : BaseImage) → IsImage (current image) → IsImage (archived_image image)
turned_fits image fits = record {
  version = fits.version;
  turn = omega arith;
  shape = fits.shape;
  some_containers = fits.some_containers;
  containers_made = fits.containers_made;
  few_made = fits.few_made;
  first = fits.first;
  some_listed = fits.some_listed;
  few_listed = fits.few_listed;
  last_id = fits.last_id;
  maximum = fits.maximum;
  minimum = fits.minimum;
  growth = fits.growth;
  tail = fits.tail;
  dedicated = fits.dedicated;
  files = fits.files;
  few_streams = fits.few_streams;
  rows = fits.rows;
}

all_pass : (test : ℕ → Bool) (from n : ℕ) → ((i : ℕ) → i < from + n → test i ≡ true) → first_failing test from n ≡ None
all_pass test from zero each = refl
all_pass test from (suc n) each =
    ap (λ (b : Bool). cond b (first_failing test (from + 1) n) (Some from)) (each from (omega arith))
    ∙ all_pass test (from + 1) n (λ i lt. each i (omega (arith, lt)))

module _ (written : Written) (sized : HaveLength) (image : BaseImage) (fits : IsImage (archived_image image)) (on : image.archiving ≡ true)
    (low : image.first ≤ container_of image.tail) (from : ℕ) (bs : List Blocks) (starts : from ≡ container_of image.tail)
    (count : length bs ≡ wanted_count image) (fine : AreFine (shape_of image) (length image.streams) from bs) where
  abbrev copy : BaseImage
  copy = archived_image image

  abbrev pieces : List (ℕ × Blocks)
  pieces = pieces_from from bs

  abbrev bytes : List ℕ
  bytes = archive_bytes image pieces

  abbrev behind : List ℕ
  behind = flat_map piece_bytes pieces

  size : length (spelled copy) ≡ 16383
  size = sized copy fits

  at_count : drop 16391 bytes ≡ little_bytes 4 (length pieces) ++ behind
  at_count =
      let rest : List ℕ = little_bytes 4 (length pieces) ++ behind in
      sym (drop-drop 16383 8 bytes) ∙ ap (λ (k : ℕ). drop k (spelled copy ++ rest)) (sym size) ∙ drop-append_seam (spelled copy) rest

  pub at_pieces : drop 16395 bytes ≡ behind
  at_pieces = sym (drop-drop 4 16391 bytes) ∙ ap (drop 4) at_count

  pub long : length bytes ≡ 16395 + length behind
  long =
      let rest : List ℕ = little_bytes 4 (length pieces) ++ behind in
      let all : length (spelled copy ++ rest) ≡ length (spelled copy) + length rest = length-append (spelled copy) rest in omega (arith, all, size)

  letters : magic_there bytes 0 ≡ Ok 0
  letters = ap (λ (o : Option ℕ). unless_found o 0) (all_pass (has_letter bytes 0) 0 8 letter)
    where
      letter : (i : ℕ) → i < 8 → has_letter bytes 0 i ≡ true
      letter i lt =
          let rest : List ℕ = spelled copy ++ (little_bytes 4 (length pieces) ++ behind) in
          let here : 0 + i ≡ i = omega arith in
          ap (λ (b : Bool). b && eqb (get_or bytes (0 + i) 0) (get_or magic i 0)) (lt-ltb (0 + i) (length bytes) (omega (arith, lt, long)))
          ∙ eq-eqb (get_or bytes (0 + i) 0) (get_or magic i 0) (ap (λ (k : ℕ). get_or bytes k 0) here ∙ get_or-append magic rest 0 i lt)

  pub alone : archives_in bytes ≡ Ok (archive_alone image pieces ∷ [])
  alone =
      let wanted : length pieces ≡ wanted_count image = length-pieces from bs ∙ count in
      let few : wanted_count image < 2 ^ 32 = omega (arith, fits.last_id, fits.some_listed) in
      let number = just_back bytes 16391 (wanted_count image) behind few (omega (arith, long)) (subst (λ (n : ℕ). drop 16391 bytes ≡ little_bytes 4 n ++ behind) wanted at_count) in
      let back = all_back (shape_of image) fits.shape.largest_container (length image.streams) bytes bs from 16395 fine (omega (arith, long)) at_pieces in
      let rest = rest_is copy bytes 0 (wanted_count image) number
      ∙ ap (λ (n : ℕ). containers_there (shape_of image) (length image.streams) bytes n (container_of image.tail) 16395) (sym count)
      ∙ ap (λ (n : ℕ). containers_there (shape_of image) (length image.streams) bytes (length bs) n 16395) (sym starts) ∙ back.0 in
      let there = archive_is first_demands bytes 0 0 letters copy
      (copy_back written sized copy (little_bytes 4 (length pieces) ++ behind) fits refl refl on low (tail_small (flag image.archiving) image.tail fits.tail))
      (pieces_at 16395 pieces) (length bytes) rest (sym back.1) in
      read_alone bytes copy (pieces_at 16395 pieces) (length bytes) there (omega arith)

-- ---- of a log

module _ (files : Files) (image : BaseImage) (blocks : List Blocks) (s : State) (held : IsHeld files image blocks s) where
  pub end_low : stored_end blocks ≤ 512 * image.container_sectors
  end_low = by image.files blocks held.have
    where
      by : (numbers : List ℕ) (bs : List Blocks) → HaveBlocks image.container_sectors files numbers bs → stored_end bs ≤ 512 * image.container_sectors
      by numbers [] have = omega arith
      by [] (b ∷ bs) have = absurd have
      by (number ∷ numbers) (b ∷ []) have = let size = opens_total image.container_sectors (files number) b have.0.0 have.0.1 in omega (arith, size)
      by (number ∷ numbers) (b ∷ other ∷ bs) have = by numbers (other ∷ bs) have.1

  pub blocks_count : length blocks ≡ length image.files
  blocks_count = have_count image.container_sectors files image.files blocks held.have

  pub all_fine : AreFine (shape_of image) (length image.streams) image.first blocks
  all_fine = log_fine (shape_of image) (length image.streams) files image.files blocks image.first held.entries held.have held.read
      (omega (arith, blocks_count, held.fits.last_id))

  module _ (on : image.archiving ≡ true) (fit : FitsUpTo image (frontier (stored_place image blocks))) where
    skipped : ℕ
    skipped = container_of image.tail - image.first

    pub log_back : Written → HaveLength → IsImage (current image) → archives_in (archive_bytes image (archived_pieces image blocks))
        ≡ Ok (archive_alone image (archived_pieces image blocks) ∷ [])
    unfolding skipped
    log_back written sized fits =
        let tail = fit.tail on in
        let last : container_of image.tail ≤ image.first + length image.files - 1 =
        omega (arith, tail.0, end_low, held.fits.shape.largest_container, held.fits.some_listed) in
        let are : archived_pieces image blocks ≡ pieces_from (image.first + skipped) (drop skipped blocks) =
        ap (drop skipped) (in_pairs image.first blocks) ∙ drop-pieces skipped image.first blocks in
        let count : length (drop skipped blocks) ≡ wanted_count image =
        length-drop skipped blocks ∙ left blocks_count tail.1 last in
        let whole = alone written sized image (turned_fits image fits) on tail.1 (image.first + skipped) (drop skipped blocks) (starts tail.1) count
        (drop-fine (shape_of image) (length image.streams) skipped image.first blocks all_fine) in
        subst (λ (ps : List (ℕ × Blocks)). archives_in (archive_bytes image ps) ≡ Ok (archive_alone image ps ∷ [])) (sym are) whole
      where
        left : length blocks ≡ length image.files → image.first ≤ container_of image.tail → container_of image.tail ≤ image.first + length image.files - 1
            → length blocks - (container_of image.tail - image.first) ≡ wanted_count image
        left count low high = omega (arith, count, low, high)

        starts : image.first ≤ container_of image.tail → image.first + (container_of image.tail - image.first) ≡ container_of image.tail
        starts low = omega (arith, low)
