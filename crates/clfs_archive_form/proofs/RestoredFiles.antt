-- The files of a restored log stand for what is restored.
use Rattle.clfs_archive_form.proofs.Words.{◌≡◌, ℕ, zero, suc, ◌+◌, ◌-◌, ◌*◌, ◌<◌, ◌≤◌, min, max, Bool, true, false, cond, eqb, if◌then◌else◌, List, [], ◌∷◌}
use Rattle.clfs_archive_form.proofs.Words.{◌++◌, length, drop, map, filter, Some, None, Result, Ok, refl, sym, ◌∙◌, ap, subst, append_assoc, append-nil}
use Rattle.clfs_archive_form.proofs.Words.{arith, All, fold, range_with_len, eq-eqb, ne_eqb, length-map, All-cons, All-nil, filter-append}
use Rattle.clfs_archive_form.proofs.Words.{length-range_with_len, lsn_number, container_of, frontier, IsShape, LogEntry, Place, Shape, Files, block_sectors}
use Rattle.clfs_archive_form.proofs.Words.{Opens, total, AreReadAsWritten, ◌>>=◌, BaseImage, Row, row_in, streams_with, State, state_of, FitsUpTo}
use Rattle.clfs_archive_form.proofs.Words.{stored_state, HasLog, HaveBlocks, stored_in, stored_records, stored_end, stored_place, shape_of, base_with}
use Rattle.clfs_archive_form.proofs.Words.{bases_with, image_fault, LoadRefusal, Archive, below, AreExact, blocks_at, kept_ids, kept_records, in_container}
use Rattle.clfs_archive_form.proofs.Words.{end_of_last, restored_place, restored_bases, restored_parts, restored, kept_count, lowered_rows, restored_copy}
use Rattle.clfs_archive_form.proofs.Words.{IsReadable, HoldsKept}
use Rattle.std.proofs.lemmas.Simd.{map-map}
use Rattle.clfs_lsn.specs.declared.stream.Stream.{Stream}
use Rattle.clfs_recover.specs.Files.{StandsFor}
use Rattle.clfs_recover.specs.Logs.{IsLogWith}
use Rattle.clfs_archive_form.specs.Restoring.{were_read}
use Rattle.clfs_archive_form.specs.Written.{AreRestored}
use Rattle.clfs_archive_form.proofs.BlockEnds.{HaveLowBases, bases_both, ends_at, stored_below}
use Rattle.clfs_archive_form.proofs.Blocks.{ReadAlone}
use Rattle.clfs_archive_form.proofs.KeptEnds.{AreBelow, AreFrom, below-append, below_both, below_higher, from_both, from_lower, stored_from}
use Rattle.clfs_archive_form.proofs.OpenEnds.{block_len}
use Rattle.clfs_archive_form.proofs.ReadRecords.{ReadsFit, one_value}

abbrev right : List LogEntry → Result (List LogEntry) LoadRefusal
right entries = Ok entries

abbrev read_both : List LogEntry → Result (List LogEntry) LoadRefusal → Result (List LogEntry) LoadRefusal
read_both entries read = read >>= (λ (others : List LogEntry). Ok (entries ++ others))

-- open blocks have no more sectors than there are
pub opens_total : (left : ℕ) (bytes : List ℕ) (blocks : List (List ℕ)) (rest : ℕ) → Opens left bytes blocks rest → total blocks + 512 * rest ≡ 512 * left
opens_total left bytes [] rest opens = omega (arith, opens)
opens_total left bytes (block ∷ blocks) rest opens =
    let more = opens_total (left - block_sectors bytes) (drop (512 * block_sectors bytes) bytes) blocks rest opens.1 in omega (arith, more, block_len left bytes block opens.0, opens.0.fits)

-- ---- records of one container

abbrev of_container : ℕ → LogEntry → Bool
of_container id entry = eqb (container_of entry.lsn) id

none_here : (id : ℕ) (es : List LogEntry) → AreBelow (lsn_number id 0 0) es → filter (of_container id) es ≡ []
none_here id [] are = refl
none_here id (e ∷ es) are =
    ap (λ (b : Bool). cond b (e ∷ filter (of_container id) es) (filter (of_container id) es))
    (ne_eqb (container_of e.lsn) id (λ same. omega (arith, same, are.0))) ∙ none_here id es are.1

all_here : (id end : ℕ) (es : List LogEntry) → end < 4294967296 → AreFrom (lsn_number id 0 0) es → AreBelow (lsn_number id end 0) es → filter (of_container id) es ≡ es
all_here id end [] small from to = refl
all_here id end (e ∷ es) small from to =
    ap (λ (b : Bool). cond b (e ∷ filter (of_container id) es) (filter (of_container id) es))
    (eq-eqb (container_of e.lsn) id (omega (arith, small, from.0, to.0))) ∙ ap (λ (l : List LogEntry). e ∷ l) (all_here id end es small from.1 to.1)

-- ---- bases

abbrev lowered : ℕ → Row → Row
lowered e row = record row { base = min row.base e }

row_lowered : (e : ℕ) (rows : List Row) (i : ℕ) → (row_in (lowered_rows e rows) i).base ≡ min (row_in rows i).base e
row_lowered e [] i = omega arith
row_lowered e (row ∷ rows) zero = refl
row_lowered e (row ∷ rows) (suc i) = row_lowered e rows i

abbrev own_bases : ℕ → List LogEntry → List ℕ
own_bases i entries = map (λ (entry : LogEntry). entry.new_base) (filter (λ (entry : LogEntry). eqb entry.stream (i + 1)) entries)

abbrev AreLow : ℕ → List ℕ → Type 0
AreLow e [] = Unit {0}
AreLow e (b ∷ bs) = (b ≤ e) × AreLow e bs

low_bases : (e i : ℕ) (entries : List LogEntry) → AreBelow e entries → HaveLowBases entries → AreLow e (own_bases i entries)
low_bases e i [] to low = tt
low_bases e i (x ∷ xs) to low = pick (eqb x.stream (i + 1)) (low_bases e i xs to.1 low.1)
  where
    pick : (b : Bool) → AreLow e (own_bases i xs) → AreLow e (map (λ (entry : LogEntry). entry.new_base) (cond b (x ∷ filter (λ (entry : LogEntry). eqb entry.stream (i + 1)) xs)
        (filter (λ (entry : LogEntry). eqb entry.stream (i + 1)) xs)))
    pick true others = (omega (arith, low.0, to.0), others)
    pick false others = others

fold_low : (e b : ℕ) (bs : List ℕ) → AreLow e bs → fold max (min b e) bs ≡ min (fold max b bs) e
fold_low e b [] low = refl
fold_low e b (x ∷ bs) low =
    let first : max (min b e) x ≡ min (max b x) e = omega (arith, low.0) in
    ap (λ (n : ℕ). fold max n bs) first ∙ fold_low e (max b x) bs low.1

pub bases_lowered : (e : ℕ) (rows : List Row) (entries : List LogEntry) → AreBelow e entries → HaveLowBases entries
    → bases_with (lowered_rows e rows) entries ≡ map (λ (base : ℕ). min base e) (bases_with rows entries)
bases_lowered e rows entries to low =
    ap (λ (n : ℕ). map (base_with (lowered_rows e rows) entries) (range_with_len 0 n)) (length-map rows (lowered e))
    ∙ each (range_with_len 0 (length rows)) ∙ sym (map-map (λ (base : ℕ). min base e) (base_with rows entries) (range_with_len 0 (length rows)))
  where
    one : (i : ℕ) → base_with (lowered_rows e rows) entries i ≡ min (base_with rows entries i) e
    one i = ap (λ (n : ℕ). fold max n (own_bases i entries)) (row_lowered e rows i) ∙ fold_low e (row_in rows i).base (own_bases i entries) (low_bases e i entries to low)

    each : (is : List ℕ) → map (base_with (lowered_rows e rows) entries) is ≡ map (λ (i : ℕ). min (base_with rows entries i) e) is
    each [] = refl
    each (i ∷ is) = ap (λ (n : ℕ). n ∷ map (base_with (lowered_rows e rows) entries) is) (one i) ∙ ap (λ (l : List ℕ). min (base_with rows entries i) e ∷ l) (each is)

streams_lowered : (e : ℕ) (rows : List Row) (bases : List ℕ) → streams_with (lowered_rows e rows) bases ≡ streams_with rows bases
streams_lowered e [] bases = refl
streams_lowered e (row ∷ rows) [] = refl
streams_lowered e (row ∷ rows) (base ∷ bases) = ap (λ (l : List Stream). record { name = row.name; base = base } ∷ l) (streams_lowered e rows bases)

-- ---- containers one after the other

module _ (alone : ReadAlone) (written : AreReadAsWritten) (fits : ReadsFit) (bytes : List ℕ) (archive : Archive) (up_to : ℕ) (files : Files) where
  abbrev image : BaseImage
  image = archive.image

  abbrev shape : Shape
  shape = shape_of archive.image

  abbrev streams : ℕ
  streams = length archive.image.streams

  abbrev source : ℕ → List (List ℕ)
  source id = blocks_at bytes archive id

  -- what is read of the containers from one on, of which so many follow the first, and what their files hold of it
  pub record Gathered (id j count end : ℕ) : Type 0 where
    pub all : List LogEntry
    pub given : stored_records shape streams id (map source (range_with_len id (suc count))) ≡ Ok all
    pub here : List (List ℕ)
    pub others : List (List (List ℕ))
    pub have : HaveBlocks image.container_sectors files (range_with_len (1 + j) (suc count)) (here ∷ others)
    pub read : stored_records shape streams id (here ∷ others) ≡ Ok (below up_to all)
    pub within : All (λ (blocks : List (List ℕ)). total blocks ≤ 512 * image.container_sectors) (here ∷ others)
    pub ends : stored_end (here ∷ others) ≡ end
    pub last_end : (before : List LogEntry) → AreBelow (lsn_number id 0 0) before
        → end_of_last (before ++ below up_to all) (in_container (container_of up_to) (below up_to all)) ≡ end
    pub from : AreFrom (lsn_number id 0 0) (below up_to all)
    pub to : AreBelow (lsn_number (container_of up_to) end 0) (below up_to all)
    pub low : HaveLowBases (below up_to all)

  module _ (is_shape : IsShape shape) where
    -- the blocks of the last container
    last_one : (j end : ℕ) → image.first + j ≡ container_of up_to → IsReadable bytes archive (image.first + j) → HoldsKept bytes archive up_to files j end
        → Gathered (image.first + j) j 0 end
    last_one j end is readable holds =
        let id : ℕ = image.first + j in
        let entries : List LogEntry = readable.0 in
        let kept : List LogEntry = below up_to entries in
        let same : entries ++ [] ≡ entries = append-nil entries in
        let read = holds.read entries readable.1 in
        let size = opens_total image.container_sectors (files (1 + j)) holds.blocks holds.whole.0 holds.whole.1 in
        let low = stored_below written fits shape is_shape.largest_block is_shape.largest_container streams id 0 holds.blocks kept holds.exact read in
        let from = stored_from alone written fits shape is_shape.largest_block streams id 0 holds.blocks kept read in
        let to : AreBelow (lsn_number id end 0) kept = subst (λ (n : ℕ). AreBelow (lsn_number id n 0) kept) (zero_more (total holds.blocks) ∙ holds.ends) low.0 in
        let own : in_container (container_of up_to) kept ≡ kept = subst (λ (n : ℕ). in_container n kept ≡ kept) is
        (all_here id end kept (omega (arith, size, holds.ends, is_shape.largest_container)) from to) in record {
          all = entries;
          given = ap (λ (r : Result (List LogEntry) LoadRefusal). r >>= (λ (es : List LogEntry). right (es ++ []))) readable.1 ∙ ap right same;
          here = holds.blocks;
          others = [];
          have = (holds.whole, tt);
          read = ap (λ (r : Result (List LogEntry) LoadRefusal). r >>= (λ (es : List LogEntry). right (es ++ []))) read ∙ ap right (append-nil kept);
          within = All-cons (λ (blocks : List (List ℕ)). total blocks ≤ 512 * image.container_sectors) holds.blocks [] (omega (arith, size))
              (All-nil (λ (blocks : List (List ℕ)). total blocks ≤ 512 * image.container_sectors));
          ends = holds.ends;
          last_end = λ before are. ap (end_of_last (before ++ kept)) own ∙ last_end holds.blocks holds.exact holds.ends kept read before are;
          from = from;
          to = subst (λ (n : ℕ). AreBelow (lsn_number n end 0) kept) is to;
          low = low.1;
        }
      where
        zero_more : (n : ℕ) → 0 + n ≡ n
        zero_more n = omega arith

        last_end : (blocks : List (List ℕ)) → AreExact blocks → total blocks ≡ end → (kept : List LogEntry)
            → stored_in shape streams (image.first + j) 0 blocks ≡ Ok kept → (before : List LogEntry) → AreBelow (lsn_number (image.first + j) 0 0) before
            → end_of_last (before ++ kept) kept ≡ end
        last_end [] exact size kept read before are =
            subst (λ (l : List LogEntry). end_of_last (before ++ l) l ≡ end) (one_value (right []) [] kept refl read) size
        last_end (block ∷ blocks) exact size kept read before are =
            (ends_at written fits shape is_shape.largest_block is_shape.largest_container streams (image.first + j) 0 block blocks before kept refl (omega arith) are exact read).0
            ∙ zero_more (total (block ∷ blocks)) ∙ size

    -- the blocks of one container, and those after it
    one_more : (j count end size : ℕ) → image.first + j < container_of up_to → IsReadable bytes archive (image.first + j) → HoldsKept bytes archive up_to files j size
        → Gathered (image.first + (j + 1)) (j + 1) count end → Gathered (image.first + j) j (suc count) end
    one_more j count end size before_last readable holds rest =
        let id : ℕ = image.first + j in
        let entries : List LogEntry = readable.0 in
        let kept : List LogEntry = below up_to entries in
        let read = holds.read entries readable.1 in
        let next : image.first + (j + 1) ≡ id + 1 = omega arith in
        let number : 1 + (j + 1) ≡ 1 + j + 1 = omega arith in
        let room = opens_total image.container_sectors (files (1 + j)) holds.blocks holds.whole.0 holds.whole.1 in
        let low = stored_below written fits shape is_shape.largest_block is_shape.largest_container streams id 0 holds.blocks kept holds.exact read in
        let from = stored_from alone written fits shape is_shape.largest_block streams id 0 holds.blocks kept read in
        let split : below up_to (entries ++ rest.all) ≡ kept ++ below up_to rest.all = below-append up_to entries rest.all in
        let given : stored_records shape streams (id + 1) (map source (range_with_len (id + 1) (suc count))) ≡ Ok rest.all =
        subst (λ (n : ℕ). stored_records shape streams n (map source (range_with_len n (suc count))) ≡ Ok rest.all) next rest.given in
        let read_more : stored_records shape streams (id + 1) (rest.here ∷ rest.others) ≡ Ok (below up_to rest.all) =
        subst (λ (n : ℕ). stored_records shape streams n (rest.here ∷ rest.others) ≡ Ok (below up_to rest.all)) next rest.read in
        let beyond : AreBelow (lsn_number (image.first + (j + 1)) 0 0) kept = below_higher (lsn_number id (0 + total holds.blocks) 0) (lsn_number (image.first + (j + 1)) 0 0) kept
        (omega (arith, room, is_shape.largest_container)) low.0 in
        let last : AreBelow (lsn_number (container_of up_to) 0 0) kept =
        below_higher (lsn_number (image.first + (j + 1)) 0 0) (lsn_number (container_of up_to) 0 0) kept (omega (arith, before_last)) beyond in record {
          all = entries ++ rest.all;
          given = λ i. readable.1 i >>= (λ (es : List LogEntry). (given i >>= (λ (others : List LogEntry). right (es ++ others))));
          here = holds.blocks;
          others = rest.here ∷ rest.others;
          have = (holds.whole, subst (λ (n : ℕ). HaveBlocks image.container_sectors files (range_with_len n (suc count)) (rest.here ∷ rest.others)) number rest.have);
          read = (λ i. read i >>= (λ (es : List LogEntry). (read_more i >>= (λ (others : List LogEntry). right (es ++ others))))) ∙ ap right (sym split);
          within = All-cons (λ (blocks : List (List ℕ)). total blocks ≤ 512 * image.container_sectors) holds.blocks (rest.here ∷ rest.others) (omega (arith, room)) rest.within;
          ends = rest.ends;
          last_end = λ before are.
              ap (λ (l : List LogEntry). end_of_last (before ++ l) (in_container (container_of up_to) l)) split
              ∙ ap (end_of_last (before ++ (kept ++ below up_to rest.all)))
              (filter-append (of_container (container_of up_to)) kept (below up_to rest.all)
              ∙ ap (λ (l : List LogEntry). l ++ in_container (container_of up_to) (below up_to rest.all)) (none_here (container_of up_to) kept last))
              ∙ ap (λ (l : List LogEntry). end_of_last l (in_container (container_of up_to) (below up_to rest.all))) (sym (append_assoc before kept (below up_to rest.all)))
              ∙ rest.last_end (before ++ kept) (below_both (lsn_number (image.first + (j + 1)) 0 0) before kept
              (below_higher (lsn_number id 0 0) (lsn_number (image.first + (j + 1)) 0 0) before (omega arith) are) beyond);
          from = subst (AreFrom (lsn_number id 0 0)) (sym split) (from_both (lsn_number id 0 0) kept (below up_to rest.all) from
              (from_lower (lsn_number (image.first + (j + 1)) 0 0) (lsn_number id 0 0) (below up_to rest.all) (omega arith) rest.from));
          to = subst (AreBelow (lsn_number (container_of up_to) end 0)) (sym split) (below_both (lsn_number (container_of up_to) end 0) kept (below up_to rest.all)
              (below_higher (lsn_number (container_of up_to) 0 0) (lsn_number (container_of up_to) end 0) kept (omega arith) last) rest.to);
          low = subst HaveLowBases (sym split) (bases_both kept (below up_to rest.all) low.1 rest.low);
        }

    pub gather : (count j end : ℕ) → image.first + j + count ≡ container_of up_to → ((i : ℕ) → image.first + i ≤ container_of up_to → IsReadable bytes archive (image.first + i))
        → ((i : ℕ) → image.first + i < container_of up_to → (size : ℕ) × HoldsKept bytes archive up_to files i size)
        → HoldsKept bytes archive up_to files (container_of up_to - image.first) end → Gathered (image.first + j) j count end
    gather zero j end is readable fronts last =
        last_one j end (omega (arith, is)) (readable j (omega (arith, is)))
        (subst (λ (n : ℕ). HoldsKept bytes archive up_to files n end) (at_last j is) last)
      where
        at_last : (j : ℕ) → image.first + j + 0 ≡ container_of up_to → container_of up_to - image.first ≡ j
        at_last j is = omega (arith, is)
    gather (suc count) j end is readable fronts last =
        let holds = fronts j (omega (arith, is)) in
        one_more j count end holds.0 (omega (arith, is)) (readable j (omega (arith, is))) holds.1 (gather count (j + 1) end (omega (arith, is)) readable fronts last)

    -- ---- the whole log

    abbrev Stands : Type 0
    Stands = (slot : ℕ) (image : BaseImage) (blocks : List (List (List ℕ))) (entries : List LogEntry) (files : Files) (buffers : ℕ)
        → HasLog slot image blocks files → IsLogWith image blocks entries → StandsFor files (stored_state image blocks entries buffers)

    abbrev Fitting : Type 0
    Fitting = (image : BaseImage) (lsn : ℕ) → FitsUpTo image lsn → image_fault image lsn ≡ None

    abbrev state_with : List Stream → List LogEntry → Place → ℕ → ℕ → State
    state_with all entries place tail buffers = record (state_of (restored_parts image entries up_to) buffers) {
      streams = all;
      records = entries;
      place = place;
      archive = if image.archiving then Some tail else None;
    }

    pub kept_are : (all : List LogEntry) → stored_records shape streams image.first (map source (kept_ids image up_to)) ≡ Ok all
        → kept_records bytes archive up_to ≡ below up_to all
    unfolding kept_records
    kept_are all given = ap (λ (r : Result (List LogEntry) LoadRefusal). below up_to (were_read r)) given

    -- files with the copy and the blocks stand for what is restored
    pub stand : Stands → Fitting → (restored_in : AreRestored bytes archive up_to files) → image.first ≤ container_of image.tail
        → image.first ≤ container_of up_to → ((i : ℕ) → image.first + i ≤ container_of up_to → IsReadable bytes archive (image.first + i))
        → (buffers : ℕ) → StandsFor files (restored bytes archive up_to buffers)
    stand stands fitting restored_in tail_low low readable buffers =
        let c : ℕ = container_of up_to in
        let end : ℕ = restored_in.end in
        let e : ℕ = lsn_number c end 0 in
        let k : ℕ = c - image.first in
        let copy : BaseImage = restored_copy image up_to e in
        let g = gather k 0 end (omega (arith, low)) readable restored_in.fronts restored_in.last in
        let entries : List LogEntry = below up_to g.all in
        let blocks : List (List (List ℕ)) = g.here ∷ g.others in
        let first : image.first + 0 ≡ image.first = omega arith in
        let count : suc k ≡ kept_count image up_to = omega (arith, low) in
        let number : 1 + 0 ≡ 1 = omega arith in
        let rows : length (lowered_rows e image.streams) ≡ length image.streams = length-map image.streams (lowered e) in
        let listed : length (range_with_len 1 (kept_count image up_to)) ≡ kept_count image up_to = length-range_with_len 1 (kept_count image up_to) in
        let container : copy.first + length copy.files - 1 ≡ c = omega (arith, listed, low) in
        let place : stored_place copy blocks ≡ record { container = c; offset = end; used = 0; records = 0 } =
        (λ i. record { container = container i; offset = g.ends i; used = 0; records = 0 }) in
        let given : stored_records shape streams image.first (map source (kept_ids image up_to)) ≡ Ok g.all =
        subst (λ (n : ℕ). stored_records shape streams image.first (map source (range_with_len image.first n)) ≡ Ok g.all) count
        (subst (λ (n : ℕ). stored_records shape streams n (map source (range_with_len n (suc k))) ≡ Ok g.all) first g.given) in
        let kept : kept_records bytes archive up_to ≡ entries = kept_are g.all given in
        let read : stored_records shape (length copy.streams) copy.first blocks ≡ Ok entries =
        subst (λ (n : ℕ). stored_records shape n image.first blocks ≡ Ok entries) (sym rows)
        (subst (λ (n : ℕ). stored_records shape streams n blocks ≡ Ok entries) first g.read) in
        let have : HaveBlocks image.container_sectors files (range_with_len 1 (kept_count image up_to)) blocks =
        subst (λ (n : ℕ). HaveBlocks image.container_sectors files (range_with_len 1 n) blocks) count
        (subst (λ (n : ℕ). HaveBlocks image.container_sectors files (range_with_len n (suc k)) blocks) number g.have) in
        let fits_end : FitsUpTo copy (frontier (stored_place copy blocks)) = subst (λ (p : Place). FitsUpTo copy (frontier p)) (sym place) (record {
          rows = λ i lt. omega (arith, row_lowered e image.streams i);
          tail = λ on. (omega arith, omega (arith, tail_low, low));
        }) in
        let log : IsLogWith copy blocks entries = record { within = g.within; read = read; right = fitting copy (frontier (stored_place copy blocks)) fits_end } in
        let last : end_of_last entries (in_container c entries) ≡ end = g.last_end [] tt in
        let spot : restored_place entries up_to ≡ record { container = c; offset = end; used = 0; records = 0 } =
        (λ i. record { container = c; offset = last i; used = 0; records = 0 }) in
        let streams_are : streams_with copy.streams (bases_with copy.streams entries) ≡ streams_with image.streams (restored_bases image.streams entries e) =
        streams_lowered e image.streams (bases_with (lowered_rows e image.streams) entries) ∙ ap (streams_with image.streams) (bases_lowered e image.streams entries g.to g.low) in
        let same : stored_state copy blocks entries buffers ≡ state_of (restored_parts image entries up_to) buffers =
        ap (λ (all : List Stream). state_with all entries (stored_place copy blocks) (min image.tail e) buffers) streams_are
        ∙ ap (λ (p : Place). state_with (streams_with image.streams (restored_bases image.streams entries e)) entries p (min image.tail e) buffers) (place ∙ sym spot)
        ∙ ap (λ (p : Place). state_with (streams_with image.streams (restored_bases image.streams entries (frontier p))) entries (restored_place entries up_to)
        (min image.tail (frontier p)) buffers) (sym spot) in
        subst (λ (s : State). StandsFor files s) (same ∙ ap (λ (l : List LogEntry). state_of (restored_parts image l up_to) buffers) (sym kept))
        (stands 0 copy blocks entries files buffers (record { newest = restored_in.newest; containers = have }) log)
