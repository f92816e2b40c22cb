-- What is restored of the archive of a log alone is that log.
use Rattle.clfs_archive_form.proofs.Words.{⊎_elim, ◌≡◌, ℕ, zero, suc, ◌+◌, ◌-◌, ◌*◌, ◌<◌, ◌≤◌, min, Bool, true, false, cond, if◌then◌else◌, List, [], ◌∷◌}
use Rattle.clfs_archive_form.proofs.Words.{length, drop, get_or, map, Option, Some, None, Result, Ok, refl, sym, ◌∙◌, ap, subst, arith, is_none, find}
use Rattle.clfs_archive_form.proofs.Words.{range_with_len, flat_map, zip, option_map_or, cases_lt, lsn_number, container_of, frontier, LogEntry, Shape, Files}
use Rattle.clfs_archive_form.proofs.Words.{AreWhole, total, AreReadAsWritten, BaseImage, Row, IsImage, current, row_in, streams_with, State, state_of}
use Rattle.clfs_archive_form.proofs.Words.{FitsUpTo, stored_state, HaveBlocks, stored_in, stored_records, stored_end, stored_place, shape_of, bases_with}
use Rattle.clfs_archive_form.proofs.Words.{LoadRefusal, Archive, Stored, InputRefusal, archived_image, piece_bytes, archive_bytes, archived_pieces}
use Rattle.clfs_archive_form.proofs.Words.{wanted_count, blocks_in, part_of, below, archive_alone, is_missing, gap_in, end_in, high_bound, chosen_unless}
use Rattle.clfs_archive_form.proofs.Words.{chosen, blocks_at, kept_ids, kept_records, in_container, end_of_last, restored_place, restored_bases}
use Rattle.clfs_archive_form.proofs.Words.{restored_parts, restored, lowered_rows, IsReadable, HoldsKept}
use Rattle.clfs_archive_form.proofs.BlockEnds.{HaveLowBases, stored_below}
use Rattle.clfs_archive_form.proofs.Blocks.{ReadAlone}
use Rattle.clfs_archive_form.proofs.CopyBack.{Written, HaveLength}
use Rattle.clfs_archive_form.proofs.KeptEnds.{AreBelow, all_below, below_higher}
use Rattle.clfs_archive_form.proofs.PiecesBack.{Blocks, pieces_from, in_pairs, AreFine, IsFine, IsLast, last_back}
use Rattle.clfs_archive_form.proofs.ReadBack.{IsHeld, all_fine, at_pieces, blocks_count, end_low, long, turned_fits}
use Rattle.clfs_archive_form.proofs.ReadRecords.{ReadsFit, one_value}
use Rattle.clfs_archive_form.proofs.RestoredFiles.{Gathered, gather, kept_are, bases_lowered}

-- ---- lists

no_blocks : Blocks
no_blocks = []

none_missing : (test : ℕ → Bool) (a n : ℕ) → ((i : ℕ) → i < n → test (a + i) ≡ false) → find test (range_with_len a n) ≡ None
none_missing test a zero each = refl
none_missing test a (suc n) each =
    ap (λ (b : Bool). cond b (Some a) (find test (range_with_len (a + 1) n))) (subst (λ (k : ℕ). test k ≡ false) (here a) (each 0 (omega arith)))
    ∙ none_missing test (a + 1) n (λ i lt. subst (λ (k : ℕ). test k ≡ false) (next a i) (each (suc i) (omega (arith, lt))))
  where
    here : (a : ℕ) → a + 0 ≡ a
    here a = omega arith

    next : (a i : ℕ) → a + suc i ≡ a + 1 + i
    next a i = omega arith

-- what is found at each of some numbers in a row
mapped_row : (f : ℕ → Blocks) (a : ℕ) (bs : List Blocks) → ((i : ℕ) → i < length bs → f (a + i) ≡ get_or bs i []) → map f (range_with_len a (length bs)) ≡ bs
mapped_row f a [] each = refl
mapped_row f a (b ∷ bs) each =
    let first : f a ≡ b = ap f (here a) ∙ each 0 (omega arith) in
    let rest : map f (range_with_len (a + 1) (length bs)) ≡ bs = mapped_row f (a + 1) bs (λ i lt. ap f (next a i) ∙ each (suc i) (omega (arith, lt))) in
    (λ i. first i ∷ rest i)
  where
    here : (a : ℕ) → a ≡ a + 0
    here a = omega arith

    next : (a i : ℕ) → a + 1 + i ≡ a + suc i
    next a i = omega arith

last_end : (bs : List Blocks) → 1 ≤ length bs → total (get_or bs (length bs - 1) []) ≡ stored_end bs
last_end [] some = absurd (omega (arith, some))
last_end (b ∷ []) some = refl
last_end (b ∷ other ∷ bs) some =
    ap (λ (k : ℕ). total (get_or (b ∷ other ∷ bs) k [])) (fewer (length bs)) ∙ last_end (other ∷ bs) (omega arith)
  where
    fewer : (n : ℕ) → suc (suc n) - 1 ≡ suc (suc n - 1)
    fewer n = omega arith

fine_at : (shape : Shape) (streams id : ℕ) (bs : List Blocks) → AreFine shape streams id bs → (i : ℕ) → i < length bs → IsFine shape streams (id + i) (get_or bs i [])
fine_at shape streams id [] fine i lt = absurd (omega (arith, lt))
fine_at shape streams id (b ∷ bs) fine zero lt = subst (λ (k : ℕ). IsFine shape streams k b) (omega arith) fine.0
fine_at shape streams id (b ∷ bs) fine (suc i) lt =
    subst (λ (k : ℕ). IsFine shape streams k (get_or bs i [])) (omega arith) (fine_at shape streams (id + 1) bs fine.1 i (omega (arith, lt)))

whole_at : (sectors : ℕ) (files : Files) (numbers : List ℕ) (bs : List Blocks) → HaveBlocks sectors files numbers bs → (i : ℕ) → i < length bs
    → AreWhole sectors (files (get_or numbers i 0)) (get_or bs i [])
whole_at sectors files [] [] have i lt = absurd (omega (arith, lt))
whole_at sectors files [] (b ∷ bs) have i lt = absurd have
whole_at sectors files (number ∷ numbers) [] have i lt = absurd have
whole_at sectors files (number ∷ numbers) (b ∷ bs) have zero lt = have.0
whole_at sectors files (number ∷ numbers) (b ∷ bs) have (suc i) lt = whole_at sectors files numbers bs have.1 i (omega (arith, lt))

are_below : (lsn : ℕ) (es : List LogEntry) → ((k : ℕ) (d : LogEntry) → k < length es → (get_or es k d).lsn < lsn) → AreBelow lsn es
are_below lsn [] each = tt
are_below lsn (e ∷ es) each = (each 0 e (omega arith), are_below lsn es (λ k d lt. each (suc k) d (omega (arith, lt))))

rows_low : (e : ℕ) (rows : List Row) → ((i : ℕ) → i < length rows → (row_in rows i).base ≤ e) → lowered_rows e rows ≡ rows
rows_low e [] each = refl
rows_low e (row ∷ rows) each =
    let base : min row.base e ≡ row.base = omega (arith, each 0 (omega arith)) in
    let rest : lowered_rows e rows ≡ rows = rows_low e rows (λ i lt. each (suc i) (omega (arith, lt))) in
    (λ i. record row { base = base i } ∷ rest i)

some_is : (o : Option Stored) (stored : Stored) → o ≡ Some stored → is_none o ≡ false
some_is o stored is = ap is_none is

range_right : ℕ → Result ℕ InputRefusal
range_right n = Ok n

abbrev entries_right : List LogEntry → Result (List LogEntry) LoadRefusal
entries_right l = Ok l

-- ---- the archive of the whole log

module _ (files : Files) (image : BaseImage) (blocks : List Blocks) (s : State) (held : IsHeld files image blocks s) (on : image.archiving ≡ true)
    (fit : FitsUpTo image (frontier (stored_place image blocks))) (written : Written) (sized : HaveLength) (fits : IsImage (current image)) where
  abbrev n : ℕ
  n = length image.files

  abbrev pieces : List (ℕ × Blocks)
  pieces = pieces_from image.first blocks

  abbrev bytes : List ℕ
  bytes = archive_bytes image pieces

  abbrev archive : Archive
  archive = archive_alone image pieces

  abbrev end : ℕ
  end = stored_end blocks

  abbrev last : ℕ
  last = image.first + n - 1

  abbrev up_to : ℕ
  up_to = lsn_number last end 0

  count : length blocks ≡ n
  count = blocks_count files image blocks s held

  short : end ≤ 8388608
  short = omega (arith, end_low files image blocks s held, held.fits.shape.largest_container)

  fine : AreFine (shape_of image) (length image.streams) image.first blocks
  fine = all_fine files image blocks s held

  module _ (starts : container_of image.tail ≡ image.first) where
    wanted : length blocks ≡ wanted_count image
    wanted = omega (arith, count, starts, held.fits.some_listed)

    length_is : length bytes ≡ 16395 + length (flat_map piece_bytes pieces)
    length_is = long written sized image (turned_fits image fits) on (omega (arith, starts)) image.first blocks (sym starts) wanted fine

    there : drop 16395 bytes ≡ flat_map piece_bytes pieces
    there = at_pieces written sized image (turned_fits image fits) on (omega (arith, starts)) image.first blocks (sym starts) wanted fine

    found : (i : ℕ) → i < length blocks
        → IsLast (shape_of image) held.fits.shape.largest_container (length image.streams) bytes archive.containers (image.first + i) (get_or blocks i [])
    found i lt =
        last_back (shape_of image) held.fits.shape.largest_container (length image.streams) bytes blocks image.first 16395 fine (omega (arith, length_is)) there i lt

    no_gap : gap_in archive ≡ None
    no_gap = none_missing (is_missing archive.containers) image.first n (λ i lt. let f = found i (omega (arith, lt, count)) in some_is _ f.stored f.is)

    last_is : end_in archive.containers last ≡ end
    last_is =
        let f = found (n - 1) (omega (arith, count, held.fits.some_listed)) in
        let id : image.first + (n - 1) ≡ last = omega (arith, held.fits.some_listed) in
        let same : length blocks - 1 ≡ n - 1 = omega (arith, count) in
        ap (end_in archive.containers) (sym id) ∙ ap (λ (o : Option Stored). option_map_or (λ (stored : Stored). stored.len) o 0) f.is ∙ f.len
        ∙ ap (λ (k : ℕ). total (get_or blocks k [])) (sym same) ∙ last_end blocks (omega (arith, count, held.fits.some_listed))

    pub chosen_is : chosen archive None ≡ Ok up_to
    unfolding range_right
    chosen_is =
        ap (λ (o : Option ℕ). chosen_unless o (Ok (high_bound archive))) no_gap
        ∙ ap range_right (ap (λ (k : ℕ). lsn_number last k 0) last_is)

    blocks_are : (i : ℕ) → i < length blocks → blocks_at bytes archive (image.first + i) ≡ get_or blocks i []
    blocks_are i lt =
        let f = found i lt in
        ap (λ (o : Option Stored). option_map_or (λ (stored : Stored). blocks_in (part_of bytes stored.at stored.len)) o []) f.is ∙ f.blocks_are

    container_is : container_of up_to ≡ last
    container_is = omega (arith, short)

    module _ (alone : ReadAlone) (as_written : AreReadAsWritten) (reads : ReadsFit) where
      -- the files of the containers in order
      abbrev in_order : Files
      in_order number = files (get_or image.files (number - 1) 0)

      readable : (i : ℕ) → i < length blocks → IsReadable bytes archive (image.first + i)
      readable i lt =
          let one = fine_at (shape_of image) (length image.streams) image.first blocks fine i lt in
          (one.entries, ap (stored_in (shape_of image) (length image.streams) (image.first + i) 0) (blocks_are i lt) ∙ one.read)

      below_all : (i : ℕ) → i < length blocks → (entries : List LogEntry)
          → stored_in (shape_of image) (length image.streams) (image.first + i) 0 (get_or blocks i []) ≡ Ok entries → below up_to entries ≡ entries
      below_all i lt entries read =
          let one = fine_at (shape_of image) (length image.streams) image.first blocks fine i lt in
          let low = stored_below as_written reads (shape_of image) held.fits.shape.largest_block held.fits.shape.largest_container (length image.streams) (image.first + i) 0
          (get_or blocks i []) entries one.exact read in
          all_below up_to entries (below_higher (lsn_number (image.first + i) (0 + total (get_or blocks i [])) 0) up_to entries (near i lt one.within) low.0)
        where
          near : (i : ℕ) → i < length blocks → total (get_or blocks i []) ≤ 512 * image.container_sectors
              → lsn_number (image.first + i) (0 + total (get_or blocks i [])) 0 ≤ up_to
          near i lt within = ⊎_elim
              (λ (before : i < length blocks - 1). omega (arith, before, within, held.fits.shape.largest_container, count))
              (λ (at_last : length blocks - 1 ≤ i).
              let same : i ≡ length blocks - 1 = omega (arith, at_last, lt) in
              let size = ap (λ (k : ℕ). total (get_or blocks k [])) same ∙ last_end blocks (omega (arith, lt)) in omega (arith, size, same, count, lt))
              (cases_lt i (length blocks - 1))

      holds : (i : ℕ) → i < length blocks → HoldsKept bytes archive up_to in_order i (total (get_or blocks i []))
      holds i lt = let one = fine_at (shape_of image) (length image.streams) image.first blocks fine i lt in record {
        blocks = get_or blocks i [];
        read = λ entries is.
            let own = ap (stored_in (shape_of image) (length image.streams) (image.first + i) 0) (sym (blocks_are i lt)) ∙ is in
            own ∙ sym (ap entries_right (below_all i lt entries own));
        exact = one.exact;
        whole = subst (λ (k : ℕ). AreWhole image.container_sectors (files (get_or image.files k 0)) (get_or blocks i [])) (omega arith)
            (whole_at image.container_sectors files image.files blocks held.have i lt);
        ends = refl;
      }

      gathered : Gathered alone as_written reads bytes archive up_to in_order (image.first + 0) 0 (n - 1) end
      gathered =
          let size : total (get_or blocks (n - 1) []) ≡ end =
          ap (λ (k : ℕ). total (get_or blocks (k - 1) [])) (sym count) ∙ last_end blocks (omega (arith, count, held.fits.some_listed)) in
          let at_end : n - 1 ≡ container_of up_to - image.first = omega (arith, container_is, held.fits.some_listed) in
          gather alone as_written reads bytes archive up_to in_order held.fits.shape (n - 1) 0 end (omega (arith, container_is, held.fits.some_listed))
          (λ i low. readable i (omega (arith, low, container_is, count, held.fits.some_listed)))
          (λ i low. (total (get_or blocks i []), holds i (omega (arith, low, container_is, count, held.fits.some_listed))))
          (subst (λ (k : ℕ). HoldsKept bytes archive up_to in_order k end) at_end
          (subst (λ (k : ℕ). HoldsKept bytes archive up_to in_order (n - 1) k) size (holds (n - 1) (omega (arith, count, held.fits.some_listed)))))

      source_is : map (λ (id : ℕ). blocks_at bytes archive id) (range_with_len image.first (length blocks)) ≡ blocks
      source_is = mapped_row (λ (id : ℕ). blocks_at bytes archive id) image.first blocks blocks_are

      kept_is : kept_records bytes archive up_to ≡ held.entries
      kept_is =
          let ids : length blocks ≡ container_of up_to + 1 - image.first = omega (arith, container_is, count, held.fits.some_listed) in
          let given : stored_records (shape_of image) (length image.streams) image.first (map (λ (id : ℕ). blocks_at bytes archive id) (kept_ids image up_to)) ≡ Ok held.entries =
          ap (λ (k : ℕ). stored_records (shape_of image) (length image.streams) image.first (map (λ (id : ℕ). blocks_at bytes archive id) (range_with_len image.first k))) (sym ids)
          ∙ ap (stored_records (shape_of image) (length image.streams) image.first) source_is ∙ held.read in
          kept_are alone as_written reads bytes archive up_to in_order held.fits.shape held.entries given ∙ all_below up_to held.entries (are_below up_to held.entries held.below)

      -- what was gathered is the log's
      all_is : below up_to gathered.all ≡ held.entries
      all_is =
          let ids : suc (n - 1) ≡ length blocks = omega (arith, count, held.fits.some_listed) in
          let first : image.first + 0 ≡ image.first = omega arith in
          let given : stored_records (shape_of image) (length image.streams) image.first (map (λ (id : ℕ). blocks_at bytes archive id) (range_with_len image.first (length blocks)))
          ≡ Ok gathered.all =
          subst (λ (k : ℕ). stored_records (shape_of image) (length image.streams) image.first (map (λ (id : ℕ). blocks_at bytes archive id) (range_with_len image.first k)) ≡ Ok gathered.all) ids
          (subst (λ (k : ℕ). stored_records (shape_of image) (length image.streams) k (map (λ (id : ℕ). blocks_at bytes archive id) (range_with_len k (suc (n - 1)))) ≡ Ok gathered.all) first
          gathered.given) in
          let same : gathered.all ≡ held.entries =
          one_value (stored_records (shape_of image) (length image.streams) image.first blocks) gathered.all held.entries
          (ap (stored_records (shape_of image) (length image.streams) image.first) (sym source_is) ∙ given) held.read in
          ap (below up_to) same ∙ all_below up_to held.entries (are_below up_to held.entries held.below)

      place_is : restored_place held.entries up_to ≡ stored_place image blocks
      place_is =
          let ends : end_of_last held.entries (in_container (container_of up_to) held.entries) ≡ end =
          subst (λ (l : List LogEntry). end_of_last l (in_container (container_of up_to) l) ≡ end) all_is (gathered.last_end [] tt) in
          (λ i. record { container = container_is i; offset = ends i; used = 0; records = 0 })

      bases_are : restored_bases image.streams held.entries up_to ≡ bases_with image.streams held.entries
      bases_are =
          let to : AreBelow up_to held.entries = are_below up_to held.entries held.below in
          let low : HaveLowBases held.entries = subst HaveLowBases all_is gathered.low in
          sym (bases_lowered up_to image.streams held.entries to low) ∙ ap (λ (rows : List Row). bases_with rows held.entries) (rows_low up_to image.streams fit.rows)

      pub same_log : restored bytes archive up_to s.buffers ≡ s
      same_log =
          let tail : min image.tail up_to ≡ image.tail = omega (arith, fit.tail on) in
          let ends : frontier (restored_place held.entries up_to) ≡ up_to = ap frontier place_is in
          let streams : streams_with image.streams (restored_bases image.streams held.entries (frontier (restored_place held.entries up_to)))
          ≡ streams_with image.streams (bases_with image.streams held.entries) =
          ap (λ (e : ℕ). streams_with image.streams (restored_bases image.streams held.entries e)) ends ∙ ap (streams_with image.streams) bases_are in
          let tails : min image.tail (frontier (restored_place held.entries up_to)) ≡ image.tail = ap (min image.tail) ends ∙ tail in
          let whole : state_of (restored_parts (archived_image image) held.entries up_to) s.buffers ≡ stored_state image blocks held.entries s.buffers =
          (λ i. record (stored_state image blocks held.entries s.buffers) {
            streams = streams i;
            place = place_is i;
            archive = if image.archiving then Some (tails i) else None;
          }) in
          ap (λ (l : List LogEntry). state_of (restored_parts (archived_image image) l up_to) s.buffers) kept_is ∙ whole ∙ sym held.state

      pub same_alone : (input : List ℕ) → input ≡ archive_bytes image (archived_pieces image blocks)
          → (lsn : ℕ) × (chosen (archive_alone image (archived_pieces image blocks)) None ≡ Ok lsn)
          × (restored input (archive_alone image (archived_pieces image blocks)) lsn s.buffers ≡ s)
      same_alone input is =
          let none : container_of image.tail - image.first ≡ 0 = omega (arith, starts) in
          let are : archived_pieces image blocks ≡ pieces =
          ap (λ (k : ℕ). drop k (zip (range_with_len image.first (length blocks)) blocks)) none ∙ in_pairs image.first blocks in
          let whole : input ≡ bytes = is ∙ ap (archive_bytes image) are in
          subst (λ (ps : List (ℕ × Blocks)). (lsn : ℕ) × (chosen (archive_alone image ps) None ≡ Ok lsn) × (restored input (archive_alone image ps) lsn s.buffers ≡ s)) (sym are)
          (up_to, chosen_is, subst (λ (l : List ℕ). restored l archive up_to s.buffers ≡ s) (sym whole) same_log)
