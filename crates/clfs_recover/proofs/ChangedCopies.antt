-- A log that has more blocks or containers, or whose copy has another base in a row, a stream more, or other settings.
use Rattle.clfs_recover.proofs.Words.{◌≡◌, ◌≢◌, ⊎_elim, ℕ, ◌+◌, ◌-◌, ◌*◌, ◌<◌, ◌≤◌, Bool, true, max, List, [], ◌∷◌, ◌++◌, length, get_or, map, refl, sym, ◌∙◌}
use Rattle.clfs_recover.proofs.Words.{ap, arith, append_assoc, length-append, length-set, get_or-set_same, get_or-set_other, All, AllByRecursion}
use Rattle.clfs_recover.proofs.Words.{get_or-append_seam, cases_eq, get_or_append_left, recursion_from_All, container_of, frontier, LogEntry, Place, total}
use Rattle.clfs_recover.proofs.Words.{AreReadAsWritten, BaseImage, Row, IsImage, row_in, State, base_of, set_base, raised, streams_with, IsLogWith, HaveMore}
use Rattle.clfs_recover.proofs.Words.{HaveEmpty, file_at_end, stored_state, stored_place, shape_of, bases_with}
use Rattle.clfs_recover.specs.Logs.{with_row_base}
use Rattle.clfs_recover.proofs.FoundStreams.{base_there}
use Rattle.clfs_recover.proofs.LaidBlocks.{FitTheirs}
use Rattle.clfs_recover.proofs.Raising.{base_at, bases_more, length-bases_with}
use Rattle.clfs_recover.proofs.ReadBlocks.{ReadsFit}
use Rattle.clfs_recover.proofs.ReadStored.{stored_more}
use Rattle.clfs_recover.proofs.RowBases.{streams_moved, streams_raised, streams_more, bases_set, bases_more_rows, bases_stay}
use Rattle.clfs_recover.proofs.StoredLogs.{fault_fits, fits_right}
use Rattle.clfs_recover.proofs.StoredRecords.{containers_rise}
use Rattle.clfs_recover.proofs.StoredSteps.{place_more, place_next}

module _ (image : BaseImage) (blocks : List (List (List ℕ))) (entries : List LogEntry) where
  abbrev end : ℕ
  end = frontier (stored_place image blocks)

  -- ---- another base in a row

  module _ (stream base : ℕ) (some : 1 ≤ stream) (few : stream ≤ length image.streams) where
    abbrev row : Row
    row = record (row_in image.streams (stream - 1)) { base = base }

    abbrev moved : BaseImage
    moved = with_row_base stream base image

    near : stream - 1 < length image.streams
    near = omega (arith, some, few)

    pub log_moved : base ≤ end → IsLogWith image blocks entries → IsLogWith moved blocks entries
    log_moved le with =
        let fits = fault_fits image end with.right in
        let none : Row = record { name = []; base = 0 } in
        let long : length moved.streams ≡ length image.streams = length-set image.streams (stream - 1) row in record {
          within = with.within;
          read = stored_more (shape_of image) (length image.streams) (length moved.streams) (omega (arith, long)) image.first blocks entries with.read;
          right = fits_right moved end (record {
            rows = λ i lt.
                ⊎_elim
                (λ (same : i ≡ stream - 1).
                let here : row_in moved.streams i ≡ row =
                ap (λ (n : ℕ). row_in moved.streams n) same ∙ get_or-set_same image.streams (stream - 1) row none near in
                let is = ap (λ (r : Row). r.base) here in omega (arith, is, le))
                (λ (apart : i ≢ stream - 1).
                let is = ap (λ (r : Row). r.base) (get_or-set_other image.streams (stream - 1) i row none apart) in
                let low = fits.rows i (omega (arith, lt, long)) in omega (arith, is, low))
                (cases_eq i (stream - 1));
            tail = fits.tail;
          });
        }

    pub state_moved : (buffers : ℕ) → base_of (stored_state image blocks entries buffers) stream ≤ base
        → stored_state moved blocks entries buffers
        ≡ record (stored_state image blocks entries buffers) { streams = set_base stream base (stored_state image blocks entries buffers).streams }
    state_moved buffers least =
        let bases : List ℕ = bases_with image.streams entries in
        let same = length-bases_with image.streams entries in
        let at = base_there image.streams bases same (stored_state image blocks entries buffers) refl stream some few in
        let is = base_at image.streams entries (stream - 1) near in
        let set_is = bases_set image.streams entries (stream - 1) row near (omega (arith, at, is, least)) in
        let number : stream - 1 + 1 ≡ stream = omega (arith, some) in
        let streams_are = ap (streams_with moved.streams) set_is ∙ streams_moved image.streams bases (stream - 1) row base same near refl
        ∙ ap (λ (n : ℕ). set_base n base (streams_with image.streams bases)) number in
        λ i. record (stored_state image blocks entries buffers) { streams = streams_are i }

  -- ---- a stream more

  module _ (new : Row) where
    abbrev more : BaseImage
    more = record image { streams = image.streams ++ new ∷ [] }

    pub log_more_streams : new.base ≤ end → IsLogWith image blocks entries → IsLogWith more blocks entries
    log_more_streams le with =
        let fits = fault_fits image end with.right in
        let none : Row = record { name = []; base = 0 } in
        let long : length more.streams ≡ length image.streams + 1 = length-append image.streams (new ∷ []) in record {
          within = with.within;
          read = stored_more (shape_of image) (length image.streams) (length more.streams) (omega (arith, long)) image.first blocks entries with.read;
          right = fits_right more end (record {
            rows = λ i lt.
                ⊎_elim
                (λ (last : i ≡ length image.streams).
                let here : row_in more.streams i ≡ new =
                ap (λ (n : ℕ). row_in more.streams n) last ∙ get_or-append_seam image.streams new [] none in
                let is = ap (λ (r : Row). r.base) here in omega (arith, is, le))
                (λ (other : i ≢ length image.streams).
                let front : i < length image.streams = omega (arith, lt, long, other) in
                let is = ap (λ (r : Row). r.base) (get_or_append_left image.streams (new ∷ []) none i front) in
                let low = fits.rows i front in omega (arith, is, low))
                (cases_eq i (length image.streams));
            tail = fits.tail;
          });
        }

    pub state_more_streams : AreReadAsWritten → ReadsFit → (buffers : ℕ) → IsImage image → IsLogWith image blocks entries
        → stored_state more blocks entries buffers
        ≡ record (stored_state image blocks entries buffers) {
          streams = (stored_state image blocks entries buffers).streams ++ record { name = new.name; base = new.base } ∷ [];
        }
    state_more_streams written reads buffers good with =
        let bases : List ℕ = bases_with image.streams entries in
        let rise = containers_rise written reads (shape_of image) good.shape (length image.streams) image.first blocks entries
        (recursion_from_All (λ (here : List (List ℕ)). total here ≤ 512 * image.container_sectors) blocks with.within) with.read in
        let few = streams_few (length image.streams) entries rise.fit in
        let streams_are = ap (streams_with more.streams) (bases_more_rows image.streams entries new few)
        ∙ streams_more image.streams bases new new.base (length-bases_with image.streams entries) in
        λ i. record (stored_state image blocks entries buffers) { streams = streams_are i }
      where
        streams_few : (streams : ℕ) (entries : List LogEntry) → FitTheirs streams entries → AllByRecursion (λ (entry : LogEntry). entry.stream ≤ streams) entries
        streams_few streams [] fit = tt
        streams_few streams (entry ∷ entries) fit = (fit.0.stream, streams_few streams entries fit.1)

  -- ---- other settings

  pub log_settings : (version turn containers files_made maximum minimum growth : ℕ) (automatic : Bool) → IsLogWith image blocks entries
      → IsLogWith (record image { version = version; turn = turn; containers = containers; files_made = files_made; automatic = automatic; maximum = maximum; minimum = minimum; growth = growth })
      blocks entries
  log_settings version turn containers files_made maximum minimum growth automatic with =
      let fits = fault_fits image end with.right in record {
        within = with.within;
        read = with.read;
        right = fits_right (record image { version = version }) end (record { rows = fits.rows; tail = fits.tail });
      }

  pub log_archived : (archiving : Bool) (tail : ℕ) → (archiving ≡ true → (tail ≤ end) × (image.first ≤ container_of tail)) → IsLogWith image blocks entries
      → IsLogWith (record image { archiving = archiving; tail = tail }) blocks entries
  log_archived archiving tail within with = record {
    within = with.within;
    read = with.read;
    right = fits_right (record image { archiving = archiving; tail = tail }) end (record { rows = (fault_fits image end with.right).rows; tail = within });
  }

-- ---- a base that a record moves

pub streams_with_raised : (rows : List Row) (bases : List ℕ) (stream base : ℕ) → length bases ≡ length rows → 1 ≤ stream → stream ≤ length rows
    → streams_with rows (raised bases stream base) ≡ set_base stream (max (get_or bases (stream - 1) 0) base) (streams_with rows bases)
streams_with_raised rows bases stream base same some few =
    let number : stream - 1 + 1 ≡ stream = omega (arith, some) in
    streams_raised rows bases (stream - 1) (max (get_or bases (stream - 1) 0) base) same (omega (arith, some, few))
    ∙ ap (λ (n : ℕ). set_base n (max (get_or bases (stream - 1) 0) base) (streams_with rows bases)) number

-- ---- more blocks and containers

module _ (image : BaseImage) (old new : ℕ → List (List ℕ)) (entries : List LogEntry) (buffers : ℕ) where
  abbrev before : State
  before = stored_state image (map old image.files) entries buffers

  abbrev end_with : List (List ℕ) → Place
  end_with more = record (stored_place image (map old image.files)) { offset = total (old (file_at_end image)) + total more }

  -- a group whose records have no new bases
  pub state_more_blocks : (more : List (List ℕ)) (others : List LogEntry) → IsImage image → HaveMore image more old new
      → All (λ (entry : LogEntry). entry.new_base ≡ 0) others
      → stored_state image (map new image.files) (entries ++ others) buffers ≡ record before { records = entries ++ others; place = end_with more }
  state_more_blocks more others good have zeros =
      let place = place_more image good old new more have in
      let streams_are = ap (streams_with image.streams) (bases_stay image.streams entries others zeros) in
      λ i. record before { records = entries ++ others; place = place i; streams = streams_are i }

  -- a group whose last record alone may have one
  pub state_moved_blocks : (more : List (List ℕ)) (others : List LogEntry) (entry : LogEntry) → IsImage image → HaveMore image more old new
      → All (λ (other : LogEntry). other.new_base ≡ 0) others → 1 ≤ entry.stream → entry.stream ≤ length image.streams
      → base_of before entry.stream ≤ entry.new_base
      → stored_state image (map new image.files) (entries ++ (others ++ entry ∷ [])) buffers
      ≡ record before { records = entries ++ (others ++ entry ∷ []); place = end_with more; streams = set_base entry.stream entry.new_base before.streams }
  state_moved_blocks more others entry good have zeros some few least =
      let rows : List Row = image.streams in
      let bases : List ℕ = bases_with rows entries in
      let same = length-bases_with rows entries in
      let place = place_more image good old new more have in
      let at = base_there rows bases same before refl entry.stream some few in
      let highest : max (get_or bases (entry.stream - 1) 0) entry.new_base ≡ entry.new_base = omega (arith, at, least) in
      let bases_are : bases_with rows (entries ++ (others ++ entry ∷ [])) ≡ raised bases entry.stream entry.new_base =
      ap (bases_with rows) (sym (append_assoc entries others (entry ∷ []))) ∙ sym (bases_more rows (entries ++ others) entry some few)
      ∙ ap (λ (l : List ℕ). raised l entry.stream entry.new_base) (bases_stay rows entries others zeros) in
      let streams_are = ap (streams_with rows) bases_are ∙ streams_with_raised rows bases entry.stream entry.new_base same some few
      ∙ ap (λ (n : ℕ). set_base entry.stream n (streams_with rows bases)) highest in
      λ i. record before { records = entries ++ (others ++ entry ∷ []); place = place i; streams = streams_are i }

  -- a container more
  pub state_next : (file : ℕ) → HaveEmpty image file old new
      → stored_state (record image { files = image.files ++ file ∷ [] }) (map new (image.files ++ file ∷ [])) entries buffers
      ≡ record before { place = record { container = image.first + length image.files; offset = 0; used = 0; records = 0 } }
  state_next file have = let place = place_next image file old new have in λ i. record before { place = place i }
