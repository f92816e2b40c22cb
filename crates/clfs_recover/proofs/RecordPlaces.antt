-- The places at which the records of stored blocks are read: block by block and container by container, each at its LSN.
use Rattle.clfs_recover.proofs.Words.{◌≡◌, inl, ℕ, suc, ◌+◌, ◌-◌, ◌*◌, ◌%◌, ◌^◌, ◌<◌, ◌≤◌, List, [], ◌∷◌, ◌++◌, length, get_or, take, drop, map, Some, Ok}
use Rattle.clfs_recover.proofs.Words.{refl, sym, ◌∙◌, ap, subst, arith, All, drop-drop, length-take-le, length-map, All-nil, All-append, All-weaker}
use Rattle.clfs_recover.proofs.Words.{All-from_recursion, recursion_from_All, slice_get-get_or, lsn_number, container_of, offset_of, sequence_of, LogEntry}
use Rattle.clfs_recover.proofs.Words.{Shape, Files, block_sectors, BeginsWith, Opens, AreWhole, total, BaseImage, IsImage, IsEnough, AreReadAsWritten, ◌>>=◌}
use Rattle.clfs_recover.proofs.Words.{told_as, block_records, IsLogWith, stored_in, stored_records, damage_at, shape_of}
use Rattle.std.specs.Prelude.{Contains, slice_get}
use Rattle.clfs_lsn.specs.Size.{longest}
use Rattle.clfs_recover.specs.Reading.{file_of, IsReadAt}
use Rattle.clfs_recover.proofs.Binding.{read, bound, one_value, told_value}
use Rattle.clfs_recover.proofs.Containers.{sectors_said}
use Rattle.clfs_recover.proofs.FoundRecords.{all_below, all_above}
use Rattle.clfs_recover.proofs.ReadBlocks.{ReadsFit}
use Rattle.clfs_recover.proofs.StoredRecords.{containers_rise}

-- the records of a block are read of its own bytes
abbrev pub ReadAlone : Type 0
ReadAlone = (shape : Shape) (streams start : ℕ) (bytes : List ℕ) (count : ℕ) → IsEnough shape bytes count
    → block_records shape streams start (take count bytes) ≡ block_records shape streams start bytes

-- they are few
abbrev pub AreFew : Type 0
AreFew = (shape : Shape) (streams start : ℕ) (bytes : List ℕ) (records : List LogEntry) → block_records shape streams start bytes ≡ Ok records
    → (1 ≤ length records) × (length records ≤ 511)

-- and each has the LSN of its position
abbrev pub HavePositions : Type 0
HavePositions = (shape : Shape) (streams start : ℕ) (bytes : List ℕ) (records : List LogEntry) → block_records shape streams start bytes ≡ Ok records
    → (i : ℕ) (entry : LogEntry) → slice_get records i ≡ Some entry → (entry.lsn ≡ start + i) × (length entry.bytes ≤ longest shape)

-- what is so of all elements is so of one that is among them
of_one : {X : Type 0} (P : X → Type 0) (xs : List X) (x : X) → All P xs → Contains xs x → P x
of_one P xs x all among = subst P among.2 (all among.0 x among.1)

module _ (shape : Shape) (streams : ℕ) where
  -- a record lies in the container with this id, whose bytes these are
  record LiesIn (id : ℕ) (bytes : List ℕ) (entry : LogEntry) : Type 0 where
    container : container_of entry.lsn ≡ id
    there : IsReadAt shape streams bytes entry

  -- a record lies in one of the containers with ids from one on, in the file that this one has
  record LiesAmong (files : Files) (id : ℕ) (numbers : List ℕ) (entry : LogEntry) : Type 0 where
    from : id ≤ container_of entry.lsn
    there : IsReadAt shape streams (files (get_or numbers (container_of entry.lsn - id) 0)) entry

  module _ (alone : ReadAlone) (few : AreFew) (positions : HavePositions) where
    -- the records of a block
    in_block : (id offset left : ℕ) (bytes block : List ℕ) (records : List LogEntry) → offset % 512 ≡ 0 → offset < 2 ^ 32
        → BeginsWith left (drop offset bytes) block → block_records shape streams (lsn_number id offset 0) block ≡ Ok records → All (LiesIn id bytes) records
    in_block id offset left bytes block records whole small begins is k d lt =
        let start : ℕ = lsn_number id offset 0 in
        let here : List ℕ = drop offset bytes in
        let count : ℕ = 512 * block_sectors here in
        let said = sectors_said here in
        let enough : IsEnough shape here count = record { first = omega (arith, begins.some); all = inl (omega (arith, said)) } in
        let all : block_records shape streams start here ≡ Ok records =
        sym (alone shape streams start here count enough) ∙ ap (block_records shape streams start) (sym begins.is) ∙ is in
        let entry : LogEntry = get_or records k d in
        let got : slice_get records k ≡ Some entry = slice_get-get_or records k d lt in
        let number : entry.lsn ≡ lsn_number id offset 0 + k = (positions shape streams start block records is k entry got).0 in
        let most : length records ≤ 511 = (few shape streams start block records is).1 in
        let container : container_of entry.lsn ≡ id = omega (arith, number, most, lt, whole, small) in
        let at : offset_of entry.lsn ≡ offset = omega (arith, number, most, lt, whole, small) in
        let position : sequence_of entry.lsn ≡ k = omega (arith, number, most, lt, whole, small) in record {
          container = container;
          there = record {
            records = records;
            read = (λ i. block_records shape streams (lsn_number (container i) (at i) 0) (drop (at i) bytes)) ∙ all;
            at = ap (slice_get records) position ∙ got;
          };
        }

    -- of blocks one after the other
    in_blocks : (id offset left rest : ℕ) (bytes : List ℕ) (here : List (List ℕ)) (entries : List LogEntry) → offset % 512 ≡ 0
        → offset + 512 * left < 2 ^ 32 → Opens left (drop offset bytes) here rest → stored_in shape streams id offset here ≡ Ok entries
        → All (LiesIn id bytes) entries
    in_blocks id offset left rest bytes [] entries whole small opens is =
        subst (All (LiesIn id bytes)) (one_value (read []) [] entries refl is) (All-nil (LiesIn id bytes))
    in_blocks id offset left rest bytes (block ∷ others) entries whole small opens is =
        let first = bound (told_as (damage_at id offset) (block_records shape streams (lsn_number id offset 0) block)) (λ (es : List LogEntry).
        stored_in shape streams id (offset + length block) others >>= λ (more : List LogEntry). Ok (es ++ more)) entries is in
        let next = bound (stored_in shape streams id (offset + length block) others) (λ (more : List LogEntry). Ok (first.first ++ more)) entries first.then in
        let n : ℕ = block_sectors (drop offset bytes) in
        let size : length block ≡ 512 * n = ap length opens.0.is ∙ length-take-le (512 * n) (drop offset bytes) opens.0.whole in
        let fits : n ≤ left = opens.0.fits in
        let behind : drop (512 * n) (drop offset bytes) ≡ drop (offset + length block) bytes =
        drop-drop (512 * n) offset bytes ∙ ap (λ (k : ℕ). drop (offset + k) bytes) (sym size) in
        let one = in_block id offset left bytes block first.first whole (omega (arith, small)) opens.0
        (told_value (damage_at id offset) (block_records shape streams (lsn_number id offset 0) block) first.first first.is) in
        let more = in_blocks id (offset + length block) (left - n) rest bytes others next.first (omega (arith, size, whole)) (omega (arith, size, fits, small))
        (subst (λ (l : List ℕ). Opens (left - n) l others rest) behind opens.1) next.is in
        subst (All (LiesIn id bytes)) (one_value (read (first.first ++ next.first)) (first.first ++ next.first) entries refl next.then)
        (All-append (LiesIn id bytes) first.first next.first one more)

    -- of containers
    in_containers : (files : Files) (blocks : ℕ → List (List ℕ)) (small : shape.container_sectors ≤ 16384) (id : ℕ) (numbers : List ℕ) (entries : List LogEntry)
        → ((i : ℕ) → i < length numbers → AreWhole shape.container_sectors (files (get_or numbers i 0)) (blocks (get_or numbers i 0)))
        → stored_records shape streams id (map blocks numbers) ≡ Ok entries → All (LiesAmong files id numbers) entries
    in_containers files blocks small id [] entries whole is =
        subst (All (LiesAmong files id [])) (one_value (read []) [] entries refl is) (All-nil (LiesAmong files id []))
    in_containers files blocks small id (number ∷ numbers) entries whole is =
        let first = bound (stored_in shape streams id 0 (blocks number)) (λ (es : List LogEntry).
        stored_records shape streams (id + 1) (map blocks numbers) >>= λ (more : List LogEntry). Ok (es ++ more)) entries is in
        let next = bound (stored_records shape streams (id + 1) (map blocks numbers)) (λ (more : List LogEntry). Ok (first.first ++ more)) entries first.then in
        let own = whole 0 (omega arith) in
        let one = in_blocks id 0 shape.container_sectors own.0 (files number) (blocks number) first.first refl (omega (arith, small)) own.1 first.is in
        let more = in_containers files blocks small (id + 1) numbers next.first (λ i lt. whole (suc i) (omega (arith, lt))) next.is in
        subst (All (LiesAmong files id (number ∷ numbers))) (one_value (read (first.first ++ next.first)) (first.first ++ next.first) entries refl next.then)
        (All-append (LiesAmong files id (number ∷ numbers)) first.first next.first
        (All-weaker (LiesIn id (files number)) (LiesAmong files id (number ∷ numbers)) (λ entry lies. in_first entry lies) first.first one)
        (All-weaker (LiesAmong files (id + 1) numbers) (LiesAmong files id (number ∷ numbers)) (λ entry lies. in_later entry lies) next.first more))
      where
        in_first : (entry : LogEntry) → LiesIn id (files number) entry → LiesAmong files id (number ∷ numbers) entry
        in_first entry lies =
            let at : 0 ≡ container_of entry.lsn - id = omega (arith, lies.container) in record {
              from = omega (arith, lies.container);
              there = subst (λ (k : ℕ). IsReadAt shape streams (files (get_or (number ∷ numbers) k 0)) entry) at lies.there;
            }

        in_later : (entry : LogEntry) → LiesAmong files (id + 1) numbers entry → LiesAmong files id (number ∷ numbers) entry
        in_later entry lies =
            let at : suc (container_of entry.lsn - (id + 1)) ≡ container_of entry.lsn - id = omega (arith, lies.from) in record {
              from = omega (arith, lies.from);
              there = subst (λ (k : ℕ). IsReadAt shape streams (files (get_or (number ∷ numbers) k 0)) entry) at lies.there;
            }

-- each record of a log lies in a listed container
pub lie_listed : AreReadAsWritten → ReadsFit → (image : BaseImage) (blocks : ℕ → List (List ℕ)) (entries : List LogEntry) (entry : LogEntry)
    → IsImage image → IsLogWith image (map blocks image.files) entries → Contains entries entry
    → (image.first ≤ container_of entry.lsn) × (container_of entry.lsn + 1 ≤ image.first + length image.files)
lie_listed written reads image blocks entries entry good with among =
    let all : List (List (List ℕ)) = map blocks image.files in
    let low : ℕ = lsn_number image.first 0 0 in
    let high : ℕ = lsn_number (image.first + length all) 0 0 in
    let long = length-map image.files blocks in
    let rise = containers_rise written reads (shape_of image) good.shape (length image.streams) image.first all entries
    (recursion_from_All (λ (here : List (List ℕ)). total here ≤ 512 * image.container_sectors) all with.within) with.read in
    let above : low ≤ entry.lsn = of_one (λ (e : LogEntry). low ≤ e.lsn) entries entry
    (All-from_recursion (λ (e : LogEntry). low ≤ e.lsn) entries (all_above low high entries rise.rise)) among in
    let below : entry.lsn < high = of_one (λ (e : LogEntry). e.lsn < high) entries entry
    (All-from_recursion (λ (e : LogEntry). e.lsn < high) entries (all_below low high entries rise.rise)) among in
    (omega (arith, above), omega (arith, below, long))

-- and is read there
pub read_there : ReadAlone → AreFew → HavePositions → (image : BaseImage) (blocks : ℕ → List (List ℕ)) (entries : List LogEntry) (entry : LogEntry)
    → IsImage image → IsLogWith image (map blocks image.files) entries → Contains entries entry → (files : Files)
    → ((i : ℕ) → i < length image.files → AreWhole image.container_sectors (files (get_or image.files i 0)) (blocks (get_or image.files i 0)))
    → IsReadAt (shape_of image) (length image.streams) (files (file_of image entry.lsn)) entry
read_there alone few positions image blocks entries entry good with among files whole =
    let all = in_containers (shape_of image) (length image.streams) alone few positions files blocks good.shape.largest_container image.first image.files entries
    whole with.read in
    (of_one (LiesAmong (shape_of image) (length image.streams) files image.first image.files) entries entry all among).there
