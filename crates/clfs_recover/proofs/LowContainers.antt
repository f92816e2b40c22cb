-- A log whose copy lists its low containers no more.
use Rattle.clfs_recover.proofs.Words.{◌≡◌, inl, inr, ℕ, zero, suc, ◌+◌, ◌-◌, ◌*◌, ◌<◌, ◌≤◌, Bool, true, false, cond, leb, List, [], ◌∷◌, ◌++◌, length, get_or}
use Rattle.clfs_recover.proofs.Words.{take, drop, map, Some, None, Ok, refl, sym, ◌∙◌, ap, subst, arith, length-drop, take-append-drop, All, AllByRecursion}
use Rattle.clfs_recover.proofs.Words.{filter, option_to_list, le-leb, lt-leb, leb-true, eq-eqb, length-take, length-map, get_or-map, ext_get_or, All-take}
use Rattle.clfs_recover.proofs.Words.{All-from_recursion, recursion_from_All, filter-append, lsn_number, container_of, frontier, FitsAt, LogEntry, total}
use Rattle.clfs_recover.proofs.Words.{AreReadAsWritten, BaseImage, IsImage, row_in, State, Stream, base_of, is_live, live_lsns, hold, least_or, streams_with}
use Rattle.clfs_recover.proofs.Words.{IsLogWith, stored_state, file_at_end, stored_records, stored_end, stored_place, shape_of, base_with, bases_with}
use Rattle.std.proofs.lemmas.List.{drop-map}
use Rattle.std.proofs.lemmas.List.Elements.{All-drop}
use Rattle.clfs_model.specs.Flush.{IsSame}
use Rattle.clfs_recover.specs.Logs.{from_container, records_from_container}
use Rattle.clfs_recover.proofs.FoundBases.{base_low, new_base_of, new_bases, greatest_first, greatest_above, greatest_below, IsFromSome, from_some}
use Rattle.clfs_recover.proofs.FoundRecords.{all_below, all_above}
use Rattle.clfs_recover.proofs.FoundStreams.{base_there}
use Rattle.clfs_recover.proofs.HoldOrder.{hold_live, hold_tail, hold_under}
use Rattle.clfs_recover.proofs.KeptRecords.{weaker, kept_all, kept_none, kept_passed, all_of_kept, of_kept, numbers_of_kept, of_numbers}
use Rattle.clfs_recover.proofs.Raising.{is_of, base_at, length-bases_with}
use Rattle.clfs_recover.proofs.ReadBlocks.{ReadsFit}
use Rattle.clfs_recover.proofs.ReadStored.{parted}
use Rattle.clfs_recover.proofs.StoredLogs.{fault_fits, fits_right}
use Rattle.clfs_recover.proofs.StoredRecords.{Rise, containers_rise}
use Rattle.clfs_recover.proofs.StoredSteps.{end_is}

-- the end of the last container is that of the last of the later ones
end_of_rest : (n : ℕ) (containers : List (List (List ℕ))) → n < length containers → stored_end (drop n containers) ≡ stored_end containers
end_of_rest zero containers lt = refl
end_of_rest (suc n) [] lt = absurd (omega (arith, lt))
end_of_rest (suc n) (here ∷ []) lt = absurd (omega (arith, lt))
end_of_rest (suc n) (here ∷ next ∷ others) lt = end_of_rest n (next ∷ others) (omega (arith, lt))

-- the log goes on where it did
pub place_left : (image : BaseImage) (blocks : ℕ → List (List ℕ)) (first : ℕ) → image.first ≤ first → first + 1 ≤ image.first + length image.files
    → stored_place (from_container first image) (map blocks (from_container first image).files) ≡ stored_place image (map blocks image.files)
place_left image blocks first from to =
    let n : ℕ = first - image.first in
    let fewer = length-drop n image.files in
    let long = length-map image.files blocks in
    let container : first + length (drop n image.files) - 1 ≡ image.first + length image.files - 1 = omega (arith, fewer, from, to) in
    let end : stored_end (map blocks (drop n image.files)) ≡ stored_end (map blocks image.files) =
    ap stored_end (sym (drop-map blocks n image.files)) ∙ end_of_rest n (map blocks image.files) (omega (arith, long, from, to)) in
    λ i. record { container = container i; offset = end i; used = 0; records = 0 }

module _ (written : AreReadAsWritten) (reads : ReadsFit) (image : BaseImage) (good : IsImage image) (blocks : ℕ → List (List ℕ))
    (entries : List LogEntry) (with : IsLogWith image (map blocks image.files) entries) where
  abbrev all : List (List (List ℕ))
  all = map blocks image.files

  abbrev streams : ℕ
  streams = length image.streams

  long : length all ≡ length image.files
  long = length-map image.files blocks

  rise : Rise streams (lsn_number image.first 0 0) (lsn_number (image.first + length all) 0 0) entries
  rise = containers_rise written reads (shape_of image) good.shape streams image.first all entries
      (recursion_from_All (λ (here : List (List ℕ)). total here ≤ 512 * image.container_sectors) all with.within) with.read

  -- ---- the later containers

  module _ (first : ℕ) (from : image.first ≤ first) (to : first + 1 ≤ image.first + length image.files) where
    abbrev n : ℕ
    n = first - image.first

    abbrev left : BaseImage
    left = from_container first image

    abbrev keep : LogEntry → Bool
    keep entry = leb (lsn_number first 0 0) entry.lsn

    abbrev kept : List LogEntry
    kept = records_from_container first entries

    front_long : length (take n all) ≡ n
    front_long = let at = length-take n all in omega (arith, at, long, to, from)

    id_is : image.first + length (take n all) ≡ first
    id_is = omega (arith, front_long, from)

    left_are : map blocks left.files ≡ drop n all
    left_are = sym (drop-map blocks n image.files)

    read_left : stored_records (shape_of image) streams first (drop n all) ≡ Ok kept
    read_left =
        let Fits : List (List ℕ) → Type 0 = λ here. total here ≤ 512 * image.container_sectors in
        let shape = shape_of image in
        let parts = parted shape streams image.first (take n all) (drop n all) entries
        (subst (λ (l : List (List (List ℕ))). stored_records shape streams image.first l ≡ Ok entries) (sym (take-append-drop n all)) with.read) in
        let low = containers_rise written reads shape good.shape streams image.first (take n all) parts.entries
        (recursion_from_All Fits (take n all) (All-take Fits n all with.within)) parts.first in
        let high = containers_rise written reads shape good.shape streams (image.first + length (take n all)) (drop n all) parts.others
        (recursion_from_All Fits (drop n all) (All-drop Fits n all with.within)) parts.behind in
        let below = all_below (lsn_number image.first 0 0) (lsn_number (image.first + length (take n all)) 0 0) parts.entries low.rise in
        let above = all_above (lsn_number (image.first + length (take n all)) 0 0) (lsn_number (image.first + length (take n all) + length (drop n all)) 0 0)
        parts.others high.rise in
        let none = kept_none keep parts.entries (weaker (λ (entry : LogEntry). entry.lsn < lsn_number (image.first + length (take n all)) 0 0)
        (λ (entry : LogEntry). keep entry ≡ false) parts.entries (λ entry lt. lt-leb (lsn_number first 0 0) entry.lsn (omega (arith, lt, id_is))) below) in
        let rest = kept_all keep parts.others (weaker (λ (entry : LogEntry). lsn_number (image.first + length (take n all)) 0 0 ≤ entry.lsn)
        (λ (entry : LogEntry). keep entry ≡ true) parts.others (λ entry le. le-leb (lsn_number first 0 0) entry.lsn (omega (arith, le, id_is))) above) in
        let is : kept ≡ parts.others = ap (filter keep) (sym parts.is) ∙ filter-append keep parts.entries parts.others
        ∙ (λ i. none i ++ rest i) in
        subst (λ (k : ℕ). stored_records shape streams k (drop n all) ≡ Ok kept) id_is
        (parts.behind ∙ (λ i. Ok (sym is i)))

    pub log_left : (image.archiving ≡ true → first ≤ container_of image.tail) → IsLogWith left (map blocks left.files) kept
    log_left tail =
        let Fits : List (List ℕ) → Type 0 = λ here. total here ≤ 512 * image.container_sectors in
        let fits = fault_fits image (frontier (stored_place image all)) with.right in
        let end : frontier (stored_place left (map blocks left.files)) ≡ frontier (stored_place image all) = ap frontier (place_left image blocks first from to) in record {
          within = subst (All Fits) (sym left_are) (All-drop Fits n all with.within);
          read = subst (λ (l : List (List (List ℕ))). stored_records (shape_of image) streams first l ≡ Ok kept) (sym left_are) read_left;
          right = fits_right left (frontier (stored_place left (map blocks left.files))) (record {
            rows = λ i lt. let low = fits.rows i lt in omega (arith, low, end);
            tail = λ on. let low = (fits.tail on).0 in (omega (arith, low, end), tail on);
          });
        }

  -- ---- containers below the hold's

  module _ (buffers first : ℕ) where
    abbrev s : State
    s = stored_state image all entries buffers

    -- the hold is in no later container than the place, nor than the tail
    pub held : first ≤ container_of (hold s) → (first + 1 ≤ image.first + length image.files) × (image.archiving ≡ true → first ≤ container_of image.tail)
    held below = (here, λ on. by_tail image.archiving on (hold_tail s))
      where
        place_end : stored_end all ≤ 8388608
        place_end =
            let end = end_is image good blocks in
            let Fits : List (List ℕ) → Type 0 = λ here. total here ≤ 512 * image.container_sectors in
            let room : total (blocks (file_at_end image)) ≤ 512 * image.container_sectors =
            subst Fits (get_or-map blocks image.files (length image.files - 1) 0 [] (omega (arith, good.some_listed)))
            (with.within (length image.files - 1) [] (omega (arith, long, good.some_listed))) in
            omega (arith, end, room, good.shape.largest_container)

        bound : ℕ
        bound = lsn_number (image.first + length image.files) 0 0

        tail_under : (archiving : Bool) → image.archiving ≡ archiving → AllByRecursion (λ lsn. lsn < lsn_number (image.first + length image.files) 0 0)
            (option_to_list (cond archiving (Some image.tail) None))
        tail_under true on =
            let low = ((fault_fits image (frontier (stored_place image all)) with.right).tail on).0 in
            (omega (arith, low, place_end, good.some_listed), tt)
        tail_under false off = tt

        here : first + 1 ≤ image.first + length image.files
        here =
            let under = hold_under (lsn_number (image.first + length image.files) 0 0) s (omega (arith, place_end, good.some_listed)) (tail_under image.archiving refl)
            (weaker (λ (entry : LogEntry). entry.lsn < lsn_number (image.first + length all) 0 0)
            (λ (entry : LogEntry). entry.lsn < lsn_number (image.first + length image.files) 0 0) entries (λ entry lt. omega (arith, lt, long))
            (all_below (lsn_number image.first 0 0) (lsn_number (image.first + length all) 0 0) entries rise.rise)) in
            omega (arith, under, below)

        by_tail : (archiving : Bool) → archiving ≡ true → AllByRecursion (λ lsn. hold s ≤ lsn) (option_to_list (cond archiving (Some image.tail) None))
            → first ≤ container_of image.tail
        by_tail true on all = let low = all.0 in omega (arith, low, below)
        by_tail false on all = absurd (cc on)

    -- ---- the same log

    module _ (from : image.first ≤ first) (below : first ≤ container_of (hold s)) where
      abbrev left_of : BaseImage
      left_of = from_container first image

      abbrev rest : List LogEntry
      rest = records_from_container first entries

      abbrev t : State
      t = stored_state left_of (map blocks left_of.files) rest buffers

      abbrev keeps : LogEntry → Bool
      keeps entry = leb (lsn_number first 0 0) entry.lsn

      -- live records are left
      live_kept : AllByRecursion (λ (entry : LogEntry). is_live s entry ≡ true → keeps entry ≡ true) entries
      live_kept = weaker (λ (entry : LogEntry). is_live s entry ≡ true → hold s ≤ entry.lsn) (λ (entry : LogEntry). is_live s entry ≡ true → keeps entry ≡ true)
          entries (λ entry held live. let low = held live in le-leb (lsn_number first 0 0) entry.lsn (omega (arith, low, below))) (hold_live s)

      -- the base of a stream is that of its row, or of a record that is live
      base_kept : (i : ℕ) → i < streams → base_with image.streams entries i ≤ base_with image.streams rest i
      base_kept i lt = by_case (from_some i row entries)
        where
          row : ℕ
          row = (row_in image.streams i).base

          by_case : IsFromSome i (row_in image.streams i).base (base_with image.streams entries i) entries
              → base_with image.streams entries i ≤ base_with image.streams rest i
          by_case (inl same) = omega (arith, same, greatest_first (row_in image.streams i).base (new_bases i rest))
          by_case (inr some) =
              let entry : LogEntry = some.1 in
              let fits : FitsAt entry.lsn streams entry =
              subst (λ (e : LogEntry). FitsAt e.lsn streams e) some.3
              (All-from_recursion (λ (e : LogEntry). FitsAt e.lsn streams e) entries rise.fit some.0 entry some.2) in
              let of_stream : entry.stream ≡ i + 1 = some.4.0 in
              let at : base_of s entry.stream ≡ base_with image.streams entries i =
              ap (base_of s) of_stream
              ∙ base_there image.streams (bases_with image.streams entries) (length-bases_with image.streams entries) s refl (i + 1) (omega arith) (omega (arith, lt))
              ∙ (let index : i + 1 - 1 ≡ i = omega arith in ap (λ (k : ℕ). get_or (bases_with image.streams entries) k 0) index)
              ∙ base_at image.streams entries i lt in
              let own = base_low entry.kind entry.lsn entry.new_base fits.new_base in
              let is = some.4.2 in
              let live : is_live s entry ≡ true = le-leb (base_of s entry.stream) entry.lsn (omega (arith, at, is, own)) in
              let kept_is : keeps entry ≡ true = subst (λ (e : LogEntry). is_live s e ≡ true → keeps e ≡ true) some.3
              (All-from_recursion (λ (e : LogEntry). is_live s e ≡ true → keeps e ≡ true) entries live_kept some.0 entry some.2) live in
              let Reaches : LogEntry → Type 0 = λ e. is_of i e ≡ true → e.new_base ≤ base_with image.streams rest i in
              let reaches = of_kept Reaches keeps entries
              (of_numbers (λ k. k ≤ base_with image.streams rest i) new_base_of (is_of i) rest (greatest_above (row_in image.streams i).base (new_bases i rest))) in
              let here = subst (λ (e : LogEntry). keeps e ≡ true → Reaches e) some.3
              (All-from_recursion (λ (e : LogEntry). keeps e ≡ true → Reaches e) entries reaches some.0 entry some.2) kept_is
              (eq-eqb entry.stream (i + 1) of_stream) in
              omega (arith, here, is)

      base_not_more : (i : ℕ) → base_with image.streams rest i ≤ base_with image.streams entries i
      base_not_more i =
          let Reaches : LogEntry → Type 0 = λ e. is_of i e ≡ true → e.new_base ≤ base_with image.streams entries i in
          greatest_below (base_with image.streams entries i) (row_in image.streams i).base (new_bases i rest)
          (greatest_first (row_in image.streams i).base (new_bases i entries))
          (numbers_of_kept (λ k. k ≤ base_with image.streams entries i) new_base_of (is_of i) rest (all_of_kept Reaches keeps entries
          (of_numbers (λ k. k ≤ base_with image.streams entries i) new_base_of (is_of i) entries (greatest_above (row_in image.streams i).base (new_bases i entries)))))

      bases_same : bases_with image.streams rest ≡ bases_with image.streams entries
      bases_same =
          let one = length-bases_with image.streams rest in
          let other = length-bases_with image.streams entries in
          ext_get_or 0 (bases_with image.streams rest) (bases_with image.streams entries) (one ∙ sym other)
          (λ i within.
          let lt : i < streams = omega (arith, within, one) in
          let up = base_kept i lt in
          let down = base_not_more i in
          let equal : base_with image.streams rest i ≡ base_with image.streams entries i = omega (arith, up, down) in
          base_at image.streams rest i lt ∙ equal ∙ sym (base_at image.streams entries i lt))

      streams_same : t.streams ≡ s.streams
      streams_same = ap (streams_with image.streams) bases_same

      place_same : t.place ≡ s.place
      place_same = place_left image blocks first from (held below).0

      live_same : (entry : LogEntry) → is_live t entry ≡ is_live s entry
      live_same entry = ap (λ (l : List Stream). leb (base_of (record s { streams = l }) entry.stream) entry.lsn) streams_same

      hold_same : hold t ≡ hold s
      hold_same =
          let lsns : live_lsns t ≡ live_lsns s =
          ap (map (λ (entry : LogEntry). entry.lsn)) (kept_passed keeps (is_live s) (is_live t) entries live_same live_kept) in
          λ i. least_or (frontier (place_same i)) (option_to_list s.archive ++ lsns i)

      pub same_left : IsSame s t
      same_left = record {
        hold = ap container_of (sym hold_same);
        records = sym (kept_passed keeps (λ (entry : LogEntry). leb (container_of (hold s)) (container_of entry.lsn))
            (λ (entry : LogEntry). leb (container_of (hold t)) (container_of entry.lsn)) entries
            (λ entry. ap (λ (lsn : ℕ). leb (container_of lsn) (container_of entry.lsn)) hold_same) (needed entries));
        others = λ i. record s { records = rest; streams = streams_same i; place = place_same i };
      }
        where
          needed : (entries : List LogEntry)
              → AllByRecursion (λ (entry : LogEntry). leb (container_of (hold s)) (container_of entry.lsn) ≡ true → keeps entry ≡ true) entries
          needed [] = tt
          needed (entry ∷ entries) = (
            λ is. let low = leb-true (container_of (hold s)) (container_of entry.lsn) is in
                le-leb (lsn_number first 0 0) entry.lsn (omega (arith, low, below)),
            needed entries,
          )
