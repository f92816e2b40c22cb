-- What is spelled is read: no byte of it is wrong, and it stands for the image.
use Rattle.clfs_base.proofs.Words.{◌≡◌, ◌≢◌, inl, inr, ℕ, ◌+◌, ◌-◌, ◌*◌, ◌^◌, ◌<◌, ◌≤◌, Bool, true, false, not, ◌||◌, ◌&&◌, eqb, leb, ltb, List, [], ◌∷◌}
use Rattle.clfs_base.proofs.Words.{◌++◌, length, get_or, take, drop, replicate, None, refl, sym, ◌∙◌, ap, subst, arith, length-append, append_assoc}
use Rattle.clfs_base.proofs.Words.{mul-le-mul_left, nat_tests, take_at, ext_get_or, length-map-range_with_len, get_or-map-range_with_len, bytes_eq-Decides}
use Rattle.clfs_base.proofs.Words.{flat_map, list_any, list_all, bytes_eq, little_bytes, little_number, BaseImage, Row, Layout, Numbers, number_at}
use Rattle.clfs_base.proofs.Words.{numbers_of, fields, row_place, file_place, most_minimum, most_tail, is_name_byte, IsName, AreFiles, AreRows, IsImageOf}
use Rattle.clfs_base.proofs.Words.{IsPolicy, row_in, flag, numbers_for, filled, field_bytes, number_bytes, spelled_row, spelled_as, other_byte, file_in}
use Rattle.clfs_base.proofs.Words.{files_in, wrong_file, name_len, name_in, is_taken, row_of, rows_of, row_fault, wrong_row, slot_fault, image_with, image_of}
use Rattle.std.specs.Bool.{Decides}
use Rattle.byteorder.specs.Numbers.{little_number-reads_back}
use Rattle.clfs_base.specs.Checks.{is_short, is_wrong_length, is_wrong_name}
use Rattle.clfs_base.proofs.Searches.{goes_on, none_found}
use Rattle.clfs_base.proofs.Chains.{chained}
use Rattle.clfs_base.proofs.Filling.{length-filled, length-row, length-all_pieces}
use Rattle.clfs_base.proofs.Places.{behind_part, byte_of, is_there, not_told, zeros_pass, piece_at, none_passes}
use Rattle.clfs_base.proofs.Ranges.{IsRight, right_pass, none_wrong}

-- a layout whose numbers fit their fields, and whose rows fit the slot
pub record IsLayout (layout : Layout) : Type 0 where
  pub version : layout.version < 256
  pub streams : layout.most_streams < 2 ^ 16
  pub name : layout.longest_name < 256
  pub rows : (16 + layout.longest_name) * layout.most_streams ≤ 15808

-- ---- bytes that are filled up with zeros

pub behind_filled : (bytes l q : List ℕ) (at n : ℕ) → drop at bytes ≡ filled n l ++ q → length l ≤ n → drop (at + n) bytes ≡ q
behind_filled bytes l q at n is le = behind_part bytes (filled n l) q at n is (length-filled n l le)

pub filling_passes : (bytes l q : List ℕ) (at n from end : ℕ) → drop at bytes ≡ filled n l ++ q → length l ≤ n → from ≡ at + length l → end ≡ at + n
    → other_byte bytes from end ≡ None
filling_passes bytes l q at n from end is le from_is end_is =
    let zeros : List ℕ = replicate (n - length l) 0 in
    let behind = behind_part bytes l (zeros ++ q) at (length l) (is ∙ append_assoc l zeros q) refl in
    zeros_pass bytes q from (n - length l) end (ap (λ (k : ℕ). drop k bytes) from_is ∙ behind) (omega (arith, from_is, end_is, le))

-- ---- the numbers in the fields

flag_small : (on : Bool) → flag on ≤ 1
flag_small true = omega arith
flag_small false = omega arith

policy_small : (least most value : ℕ) → IsPolicy least most value → value ≤ most
policy_small least most value (inl none) = omega (arith, none)
policy_small least most value (inr is) = is.1

minimum_small : (maximum minimum : ℕ) → maximum ≤ 256 → IsPolicy 2 (most_minimum maximum) minimum → minimum ≤ 256
minimum_small maximum minimum le is = let most = policy_small 2 (most_minimum maximum) minimum is in grind (arith, nat_tests)

tail_small : (archiving tail : ℕ) → tail ≤ most_tail archiving → tail < 2 ^ 64
tail_small archiving tail le = grind (arith, nat_tests)

pub numbers_read : (layout : Layout) (image : BaseImage) (gate : ℕ) (rest : List ℕ) → IsLayout layout → IsImageOf layout image
    → numbers_of (gate ∷ (spelled_as layout image ++ rest)) ≡ numbers_for image
numbers_read layout image gate rest l i =
    let maximum_le : image.maximum ≤ 256 = policy_small 2 256 image.maximum i.maximum in
    let minimum_le = minimum_small image.maximum image.minimum maximum_le i.minimum in
    let version = little_number-reads_back 1 image.version [] (omega (arith, l.version, i.version)) in
    let turn = little_number-reads_back 1 image.turn [] (omega (arith, i.turn)) in
    let block = little_number-reads_back 4 image.block_sectors [] (omega (arith, i.shape.largest_block)) in
    let container = little_number-reads_back 4 image.container_sectors [] (omega (arith, i.shape.largest_container)) in
    let containers = little_number-reads_back 2 image.containers [] (omega (arith, i.containers_made, i.few_made)) in
    let made = little_number-reads_back 2 image.files_made [] (omega (arith, i.few_made)) in
    let first = little_number-reads_back 4 image.first [] (omega (arith, i.last_id, i.some_listed)) in
    let listed = little_number-reads_back 2 (length image.files) [] (omega (arith, i.few_listed, i.containers_made, i.few_made)) in
    let streams = little_number-reads_back 2 (length image.streams) [] (omega (arith, i.few_streams, l.streams)) in
    let archiving = little_number-reads_back 1 (flag image.archiving) [] (omega (arith, flag_small image.archiving)) in
    let automatic = little_number-reads_back 1 (flag image.automatic) [] (omega (arith, flag_small image.automatic)) in
    let maximum = little_number-reads_back 2 image.maximum [] (omega (arith, maximum_le)) in
    let minimum = little_number-reads_back 2 image.minimum [] (omega (arith, minimum_le)) in
    let growth = little_number-reads_back 2 image.growth [] (omega (arith, i.growth)) in
    let tail = little_number-reads_back 8 image.tail [] (tail_small (flag image.archiving) image.tail i.tail) in
    let dedicated = little_number-reads_back 1 (flag image.dedicated) [] (omega (arith, flag_small image.dedicated)) in
    λ k. record {
      version = version k;
      turn = turn k;
      zero = 0;
      block_sectors = block k;
      container_sectors = container k;
      containers = containers k;
      files_made = made k;
      first = first k;
      listed = listed k;
      streams = streams k;
      archiving = archiving k;
      automatic = automatic k;
      maximum = maximum k;
      minimum = minimum k;
      growth = growth k;
      tail = tail k;
      dedicated = dedicated k;
    }

pub image_right : (layout : Layout) (image : BaseImage) → IsImageOf layout image → IsRight layout (numbers_for image)
image_right layout image i = record {
  version = i.version;
  turn = i.turn;
  zero_is = refl;
  block = (i.shape.some_sectors, i.shape.largest_block);
  container = (i.shape.two_blocks, i.shape.largest_container);
  containers = (i.some_containers, omega (arith, i.containers_made, i.few_made));
  files_made = (i.containers_made, i.few_made);
  first = (i.first, omega (arith, i.last_id, i.some_listed));
  listed = (i.some_listed, omega (arith, i.few_listed, i.last_id));
  streams = i.few_streams;
  archiving = flag_small image.archiving;
  automatic = flag_small image.automatic;
  maximum = i.maximum;
  minimum = i.minimum;
  growth = i.growth;
  tail = i.tail;
  dedicated = i.dedicated;
}

-- ---- the file numbers

file_passes : (short taken : Bool) (file made : ℕ) → short ≡ false → 1 ≤ file → file ≤ made → taken ≡ false
    → (short || (not (leb 1 file && leb file made) || taken)) ≡ false
file_passes short taken file made p low high q = grind (arith, nat_tests)

differ : (a b : ℕ) → a ≢ b → eqb a b ≡ false
differ a b p = grind (arith, nat_tests)

there_is : (size at width : ℕ) → at + width ≤ size → ltb size (at + width) ≡ false
there_is size at width le = grind (arith, nat_tests)

module _ (bytes files q : List ℕ) (made : ℕ) (are : AreFiles made files) (few : made ≤ 256) (is : drop 64 bytes ≡ flat_map number_bytes files ++ q) where
  file_read : (i : ℕ) → i < length files → (file_in bytes i ≡ get_or files i 0) × (64 + 2 * i + 2 ≤ length bytes)
  file_read i lt =
      let here = piece_at number_bytes 2 0 bytes q files 64 i (λ k within. refl) lt is in
      let small : get_or files i 0 < 256 ^ 2 = omega (arith, are.to_last i lt, few) in (
        ap (λ (l : List ℕ). little_number 2 l) here ∙ little_number-reads_back 2 (get_or files i 0) [] small,
        is_there bytes (number_bytes (get_or files i 0)) (flat_map number_bytes (drop (i + 1) files) ++ q) (64 + 2 * i) here (omega arith),
      )

  pub files_read : files_in bytes (length files) ≡ files
  files_read =
      let n = length files in
      let size : length (files_in bytes n) ≡ n = length-map-range_with_len (file_in bytes) 0 n in
      ext_get_or 0 (files_in bytes n) files size
      (λ i lt.
      let within : i < n = omega (arith, lt, size) in
      get_or-map-range_with_len (file_in bytes) 0 n i i 0 within (omega arith) ∙ (file_read i within).0)

  pub files_pass : wrong_file bytes made (length files) ≡ None
  files_pass = none_found _ 0 (length files) (λ i from until.
      let lt : i < length files = omega (arith, until) in
      let here = file_read i lt in
      let taken : list_any (λ other. eqb other (file_in bytes i)) (files_in bytes i) ≡ false =
      none_passes (λ other. eqb other (file_in bytes i)) (file_in bytes) 0 i (λ k le below.
      let before = file_read k (omega (arith, below, lt)) in
      differ (file_in bytes k) (file_in bytes i) (λ same. are.different k i (omega (arith, below)) lt (sym before.0 ∙ same ∙ here.0))) in
      not_told _ (file_place i)
      (file_passes (is_short bytes (file_place i) 2) (list_any (λ other. eqb other (file_in bytes i)) (files_in bytes i)) (file_in bytes i) made
      (there_is (length bytes) (64 + 2 * i) 2 here.1) (omega (arith, here.0, are.from_one i lt)) (omega (arith, here.0, are.to_last i lt)) taken))

-- ---- the rows

length_passes : (size at len most : ℕ) → at + 1 ≤ size → 1 ≤ len → len ≤ most → (ltb size (at + 1) || not (leb 1 len && leb len most)) ≡ false
length_passes size at len most there low high = grind (arith, nat_tests)

name_passes : (short bytes taken : Bool) → short ≡ false → bytes ≡ true → taken ≡ false → (short || (not bytes || taken)) ≡ false
name_passes short bytes taken p q r = grind (arith, nat_tests)

false_from : {P : Type 0} (r : Bool) → Decides r P → (P → ⊥) → r ≡ false
false_from true d not_p = absurd (not_p (d.0 refl))
false_from false d not_p = refl

-- what stands at a row's place
pub record RowIs (layout : Layout) (bytes : List ℕ) (at : ℕ) (row : Row) : Type 0 where
  pub name : name_in bytes at ≡ row.name
  pub base : number_at (at + 8) 8 bytes ≡ row.base
  pub passes : (earlier : List Row) → is_taken row.name earlier ≡ false → row_fault layout bytes at earlier ≡ None

pub row_read : (layout : Layout) (bytes q : List ℕ) (at : ℕ) (row : Row) → layout.longest_name < 256 → IsName layout.longest_name row.name → row.base < 2 ^ 64
    → drop at bytes ≡ spelled_row layout.longest_name row ++ q → RowIs layout bytes at row
row_read layout bytes q at row small named base_small is =
    let room = layout.longest_name in
    let len = length row.name in
    let behind : List ℕ = filled room row.name ++ q in
    let there : at + (16 + room) ≤ length bytes =
    subst (λ (k : ℕ). at + k ≤ length bytes) (length-row room row named.few) (is_there bytes (spelled_row room row) q at is (omega arith)) in
    let len_is : name_len bytes at ≡ len =
    ap (λ (k : ℕ). get_or bytes k 0) (omega arith) ∙ byte_of bytes (spelled_row room row ++ q) at 0 is in
    let zeros : drop (at + 1) bytes ≡ replicate 7 0 ++ (little_bytes 8 row.base ++ behind) =
    behind_part bytes (len ∷ []) (replicate 7 0 ++ (little_bytes 8 row.base ++ behind)) at 1 is refl in
    let eight : at + 8 ≡ at + 1 + 7 = omega arith in
    let base : drop (at + 8) bytes ≡ little_bytes 8 row.base ++ behind =
    ap (λ (k : ℕ). drop k bytes) eight ∙ behind_part bytes (replicate 7 0) (little_bytes 8 row.base ++ behind) (at + 1) 7 zeros refl in
    let sixteen : at + 16 ≡ at + 8 + 8 = omega arith in
    let name : drop (at + 16) bytes ≡ behind =
    ap (λ (k : ℕ). drop k bytes) sixteen ∙ behind_part bytes (little_bytes 8 row.base) behind (at + 8) 8 base refl in
    let name_is : name_in bytes at ≡ row.name =
    ap (λ (k : ℕ). take k (drop (at + 16) bytes)) len_is ∙ ap (λ (l : List ℕ). take len l) (name ∙ append_assoc row.name (replicate (room - len) 0) q)
    ∙ take_at row.name (replicate (room - len) 0 ++ q) len refl in
    record {
      name = name_is;
      base = ap (λ (l : List ℕ). little_number 8 l) base ∙ little_number-reads_back 8 row.base [] (omega (arith, base_small));
      passes = λ earlier free.
          goes_on _ _ _ (not_told (is_wrong_length layout bytes at) at
          (length_passes (length bytes) at (name_len bytes at) room (omega (arith, there)) (omega (arith, len_is, named.some)) (omega (arith, len_is, named.few))))
          (goes_on _ _ _ (zeros_pass bytes (little_bytes 8 row.base ++ behind) (at + 1) 7 (at + 8) zeros (omega arith))
          (goes_on _ _ _ (not_told (is_short bytes (at + 8) 8) (at + 8) (there_is (length bytes) (at + 8) 8 (omega (arith, there))))
          (goes_on _ _ _ (not_told (is_wrong_name bytes at earlier) (at + 16)
          (name_passes (is_short bytes (at + 16) (name_len bytes at)) (list_all is_name_byte (name_in bytes at)) (is_taken (name_in bytes at) earlier)
          (there_is (length bytes) (at + 16) (name_len bytes at) (omega (arith, there, len_is, named.few)))
          (ap (λ (l : List ℕ). list_all is_name_byte l) name_is ∙ named.bytes)
          (ap (λ (l : List ℕ). is_taken l earlier) name_is ∙ free)))
          (filling_passes bytes row.name q (at + 16) room (at + 16 + name_len bytes at) (at + (16 + room)) name named.few
          (ap (λ (k : ℕ). at + 16 + k) len_is) (omega arith)))));
    }

module _ (layout : Layout) (bytes q : List ℕ) (rows : List Row) (small : layout.longest_name < 256) (are : AreRows layout.longest_name rows)
    (is : drop 576 bytes ≡ flat_map (spelled_row layout.longest_name) rows ++ q) where
  row_at : (i : ℕ) → i < length rows → RowIs layout bytes (row_place layout i) (row_in rows i)
  row_at i lt =
      let room = layout.longest_name in
      let none : Row = record { name = []; base = 0 } in
      let here = piece_at (spelled_row room) (16 + room) none bytes q rows 576 i (λ k within. length-row room (row_in rows k) (are.named k within).few) lt is in
      row_read layout bytes (flat_map (spelled_row room) (drop (i + 1) rows) ++ q) (row_place layout i) (row_in rows i) small (are.named i lt) (are.bases i lt) here

  pub rows_read : rows_of layout bytes (length rows) ≡ rows
  rows_read =
      let n = length rows in
      let none : Row = record { name = []; base = 0 } in
      let size : length (rows_of layout bytes n) ≡ n = length-map-range_with_len (row_of layout bytes) 0 n in
      ext_get_or none (rows_of layout bytes n) rows size
      (λ i lt.
      let within : i < n = omega (arith, lt, size) in
      let here = row_at i within in
      get_or-map-range_with_len (row_of layout bytes) 0 n i i none within (omega arith)
      ∙ (λ k. record { name = here.name k; base = here.base k }))

  pub rows_pass : wrong_row layout bytes (length rows) ≡ None
  rows_pass = none_found _ 0 (length rows) (λ i from until.
      let lt : i < length rows = omega (arith, until) in
      let name = (row_in rows i).name in
      (row_at i lt).passes (rows_of layout bytes i) (none_passes (λ row. bytes_eq row.name name) (row_of layout bytes) 0 i (λ k le below.
      let before = row_at k (omega (arith, below, lt)) in
      false_from (bytes_eq (row_of layout bytes k).name name) (bytes_eq-Decides (row_of layout bytes k).name name)
      (λ same. are.different k i (omega (arith, below)) lt (sym before.name ∙ same)))))

-- ---- the whole slot

flag_read : (on : Bool) → eqb (flag on) 1 ≡ on
flag_read true = refl
flag_read false = refl

-- a slot with some gate that an image is spelled after
pub record Reads (layout : Layout) (bytes : List ℕ) (image : BaseImage) : Type 0 where
  pub version : number_at 1 1 bytes ≡ image.version
  pub none_wrong : slot_fault layout bytes ≡ None
  pub image_is : image_of layout bytes ≡ image

pub spelled_is_read : (layout : Layout) (image : BaseImage) (gate : ℕ) (rest bytes : List ℕ) → IsLayout layout → IsImageOf layout image
    → bytes ≡ gate ∷ (spelled_as layout image ++ rest) → Reads layout bytes image
spelled_is_read layout image gate rest bytes l i is =
    let n = numbers_for image in
    let table : List ℕ = flat_map field_bytes (fields layout n) in
    let numbers : List ℕ = flat_map number_bytes image.files in
    let rows : List ℕ = flat_map (spelled_row layout.longest_name) image.streams in
    let back : List ℕ = filled 15808 rows ++ rest in
    let middle : List ℕ = filled 512 numbers ++ back in
    let files_size : length numbers ≡ 2 * length image.files = length-all_pieces number_bytes 2 0 image.files (λ k lt. refl) in
    let files_fit : length numbers ≤ 512 = omega (arith, files_size, i.few_listed, i.containers_made, i.few_made) in
    let none : Row = record { name = []; base = 0 } in
    let rows_size : length rows ≡ (16 + layout.longest_name) * length image.streams =
    length-all_pieces (spelled_row layout.longest_name) (16 + layout.longest_name) none image.streams
    (λ k lt. length-row layout.longest_name (row_in image.streams k) (i.rows.named k lt).few) in
    let rows_most : (16 + layout.longest_name) * length image.streams ≤ (16 + layout.longest_name) * layout.most_streams =
    mul-le-mul_left (16 + layout.longest_name) i.few_streams in
    let rows_fit : length rows ≤ 15808 = omega (arith, rows_size, rows_most, l.rows) in
    let all : drop 1 bytes ≡ filled 63 table ++ middle =
    ap (λ (k : List ℕ). drop 1 k) is ∙ append_assoc (filled 63 table) (filled 512 numbers ++ filled 15808 rows) rest
    ∙ ap (λ (k : List ℕ). filled 63 table ++ k) (append_assoc (filled 512 numbers) (filled 15808 rows) rest) in
    let from_files : drop 64 bytes ≡ middle = behind_filled bytes table middle 1 63 all (omega arith) in
    let from_rows : drop 576 bytes ≡ back = behind_filled bytes numbers back 64 512 from_files files_fit in
    let files_here : drop 64 bytes ≡ numbers ++ (replicate (512 - length numbers) 0 ++ back) =
    from_files ∙ append_assoc numbers (replicate (512 - length numbers) 0) back in
    let rows_here : drop 576 bytes ≡ rows ++ (replicate (15808 - length rows) 0 ++ rest) =
    from_rows ∙ append_assoc rows (replicate (15808 - length rows) 0) rest in
    let read : numbers_of bytes ≡ n = ap numbers_of is ∙ numbers_read layout image gate rest l i in
    let long : 16384 ≤ length bytes =
    omega (arith, is_there bytes (filled 15808 rows) rest 576 from_rows (omega (arith, length-filled 15808 rows rows_fit)), length-filled 15808 rows rows_fit) in
    let files_are = files_read bytes image.files (replicate (512 - length numbers) 0 ++ back) image.files_made i.files i.few_made files_here in
    let rows_are = rows_read layout bytes (replicate (15808 - length rows) 0 ++ rest) image.streams l.name i.rows rows_here in
    record {
      version = ap (λ (k : Numbers). k.version) read;
      none_wrong = chained layout bytes n (sym read)
          ∙ goes_on _ _ _ (none_wrong bytes (fields layout n) (right_pass layout n bytes (omega (arith, long)) (image_right layout image i)))
          (goes_on _ _ _ (filling_passes bytes table middle 1 63 41 64 all (omega arith) (omega arith) (omega arith))
          (goes_on _ _ _ (files_pass bytes image.files (replicate (512 - length numbers) 0 ++ back) image.files_made i.files i.few_made files_here)
          (goes_on _ _ _ (filling_passes bytes numbers back 64 512 (file_place (length image.files)) 576 from_files files_fit (omega (arith, files_size)) (omega arith))
          (goes_on _ _ _ (rows_pass layout bytes (replicate (15808 - length rows) 0 ++ rest) image.streams l.name i.rows rows_here)
          (filling_passes bytes rows rest 576 15808 (row_place layout (length image.streams)) 16384 from_rows rows_fit (omega (arith, rows_size)) (omega arith))))));
      image_is = ap (λ (k : Numbers). image_with k (files_in bytes k.listed) (rows_of layout bytes k.streams)) read
          ∙ ap (λ (f : List ℕ). image_with n f (rows_of layout bytes (length image.streams))) files_are
          ∙ ap (λ (r : List Row). image_with n image.files r) rows_are
          ∙ (λ k. record image { archiving = flag_read image.archiving k; automatic = flag_read image.automatic k; dedicated = flag_read image.dedicated k });
    }

pub length-spelled : (layout : Layout) (image : BaseImage) → IsLayout layout → IsImageOf layout image → length (spelled_as layout image) ≡ 16383
length-spelled layout image l i =
    let numbers : List ℕ = flat_map number_bytes image.files in
    let rows : List ℕ = flat_map (spelled_row layout.longest_name) image.streams in
    let files_size : length numbers ≡ 2 * length image.files = length-all_pieces number_bytes 2 0 image.files (λ k lt. refl) in
    let rows_size : length rows ≡ (16 + layout.longest_name) * length image.streams =
    length-all_pieces (spelled_row layout.longest_name) (16 + layout.longest_name) (record { name = []; base = 0 }) image.streams
    (λ k lt. length-row layout.longest_name (row_in image.streams k) (i.rows.named k lt).few) in
    let rows_most : (16 + layout.longest_name) * length image.streams ≤ (16 + layout.longest_name) * layout.most_streams =
    mul-le-mul_left (16 + layout.longest_name) i.few_streams in
    let middle = length-filled 512 numbers (omega (arith, files_size, i.few_listed, i.containers_made, i.few_made)) in
    let back = length-filled 15808 rows (omega (arith, rows_size, rows_most, l.rows)) in
    omega (arith, length-append (filled 512 numbers) (filled 15808 rows), middle, back)
