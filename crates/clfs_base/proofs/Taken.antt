-- What a slot without a wrong byte spells: the image that is read, which is one that there may be.
use Rattle.clfs_base.proofs.Words.{◌≡◌, ◌≢◌, inl, inr, ℕ, ◌+◌, ◌-◌, ◌*◌, ◌%◌, ◌^◌, ◌<◌, ◌≤◌, Bool, true, false, not, ◌||◌, ◌&&◌, eqb, leb, ltb, cond, List}
use Rattle.clfs_base.proofs.Words.{[], ◌∷◌, ◌++◌, length, get_or, take, drop, replicate, None, refl, sym, ◌∙◌, ap, subst, arith, length-drop, append_assoc}
use Rattle.clfs_base.proofs.Words.{take-append-drop, mul-le-mul_left, cases_lt, nat_tests, length-take, length-take-le, drop_more, drop-drop, get_or-take}
use Rattle.clfs_base.proofs.Words.{get_or-drop, length-map-range_with_len, get_or-map-range_with_len, bytes_eq-Decides, flat_map, list_any, list_all}
use Rattle.clfs_base.proofs.Words.{bytes_eq, little_bytes, little_number, most_containers, Row, Layout, Numbers, number_at, numbers_of, fields, row_place}
use Rattle.clfs_base.proofs.Words.{file_place, most_tail, most_dedicated, is_name_byte, IsShape, IsName, AreFiles, AreRows, IsImageOf, row_in, flag}
use Rattle.clfs_base.proofs.Words.{numbers_for, filled, field_bytes, number_bytes, spelled_row, spelled_as, file_in, files_in, wrong_file, name_len, name_in}
use Rattle.clfs_base.proofs.Words.{is_taken, row_of, rows_of, row_fault, wrong_row, slot_fault, image_of}
use Rattle.std.proofs.lemmas.List.{get_or_past}
use Rattle.std.proofs.lemmas.Nat.{le_bytes_2, le_bytes_4, le_bytes_8}
use Rattle.std.specs.Int.{w16, w32, w64, from_le_bytes}
use Rattle.byteorder.specs.Numbers.{little_from-lt}
use Rattle.clfs_base.proofs.Searches.{both_none, each_none}
use Rattle.clfs_base.proofs.Chains.{chained}
use Rattle.clfs_base.proofs.Filling.{length-row, length-all_pieces}
use Rattle.clfs_base.proofs.Places.{told_none, passed_zeros, pieces_are, each_fails}
use Rattle.clfs_base.proofs.Ranges.{all_pass, pass_right}
use Rattle.clfs_base.proofs.Spelled.{IsLayout}

-- ---- the file numbers that are there

module _ (bytes : List ℕ) (made count : ℕ) (none : wrong_file bytes made count ≡ None) where
  file_is : (i : ℕ) → i < count
      → (64 + 2 * i + 2 ≤ length bytes) × (1 ≤ file_in bytes i) × (file_in bytes i ≤ made)
      × (list_any (λ other. eqb other (file_in bytes i)) (files_in bytes i) ≡ false)
  file_is i lt =
      facts (length bytes) (64 + 2 * i) (file_in bytes i) (list_any (λ other. eqb other (file_in bytes i)) (files_in bytes i))
      (told_none _ (file_place i) (each_none _ 0 count none i (omega arith) (omega (arith, lt))))
    where
      facts : (size at file : ℕ) (taken : Bool) → (ltb size (at + 2) || (not (leb 1 file && leb file made) || taken)) ≡ false
          → (at + 2 ≤ size) × (1 ≤ file) × (file ≤ made) × (taken ≡ false)
      facts size at file taken e = (grind (arith, nat_tests), grind (arith, nat_tests), grind (arith, nat_tests), grind (arith, nat_tests))

  files_are : AreFiles made (files_in bytes count)
  files_are =
      let size : length (files_in bytes count) ≡ count = length-map-range_with_len (file_in bytes) 0 count in
      let each = λ (i : ℕ) (lt : i < count). get_or-map-range_with_len (file_in bytes) 0 count i i 0 lt (omega arith) in
      record {
        from_one = λ i lt. omega (arith, each i (omega (arith, lt, size)), (file_is i (omega (arith, lt, size))).1);
        to_last = λ i lt. omega (arith, each i (omega (arith, lt, size)), (file_is i (omega (arith, lt, size))).2);
        different = λ i j lt below same.
            let here : j < count = omega (arith, below, size) in
            let apart = each_fails (λ other. eqb other (file_in bytes j)) (file_in bytes) 0 j (file_is j here).3 i (omega arith) (omega (arith, lt)) in
            unequal (file_in bytes i) (file_in bytes j) apart (sym (each i (omega (arith, lt, here))) ∙ same ∙ each j here);
      }
    where
      unequal : (a b : ℕ) → eqb a b ≡ false → a ≢ b
      unequal a b e = grind (arith, nat_tests)

-- ---- numbers as bytes

-- bytes, and not larger numbers
abbrev pub IsBytes : List ℕ → Type 0
IsBytes bytes = (i : ℕ) → get_or bytes i 0 < 256

IsBytes-drop : (n : ℕ) (bytes : List ℕ) → IsBytes bytes → IsBytes (drop n bytes)
IsBytes-drop n bytes h i = rw get_or-drop (h (n + i))

IsBytes-take : (n : ℕ) (bytes : List ℕ) → IsBytes bytes → IsBytes (take n bytes)
IsBytes-take n bytes h i =
    elim (cases_lt i n) [
      | inl lt ↦ rw (get_or-take n bytes i 0 lt) (h i)
      | inr le ↦ rw (get_or_past (take n bytes) i 0 (omega (arith, length-take n bytes))) (omega arith)
    ]

module _ (bytes : List ℕ) (fits : IsBytes bytes) where
  one : (at : ℕ) → at + 1 ≤ length bytes → drop at bytes ≡ little_bytes 1 (number_at at 1 bytes) ++ drop (at + 1) bytes
  one at there =
      let small = fits at in
      let none : at + 0 ≡ at = omega arith in
      let byte : number_at at 1 bytes % 256 ≡ get_or bytes at 0 = omega (arith, get_or-drop at bytes 0 0, ap (λ (k : ℕ). get_or bytes k 0) none, small) in
      drop_more bytes at 0 (omega (arith, there)) ∙ ap (λ (b : ℕ). b ∷ drop (at + 1) bytes) (sym byte)

  two : (at : ℕ) → at + 2 ≤ length bytes → drop at bytes ≡ little_bytes 2 (number_at at 2 bytes) ++ drop (at + 2) bytes
  two at there =
      let xs = drop at bytes in
      let long : 2 ≤ length xs = omega (arith, length-drop at bytes, there) in
      let same : little_number 2 xs ≡ from_le_bytes w16 (take 2 xs) =
      omega (arith, get_or-take 2 xs 0 0 (omega arith), get_or-take 2 xs 1 0 (omega arith)) in
      sym (ap (λ (l : List ℕ). l ++ drop 2 xs)
      (le_bytes_2 (take 2 xs) (little_number 2 xs) (length-take-le 2 xs long) (IsBytes-take 2 xs (IsBytes-drop at bytes fits)) same) ∙ take-append-drop 2 xs)
      ∙ ap (λ (l : List ℕ). little_bytes 2 (little_number 2 xs) ++ l) (drop-drop 2 at bytes)

  four : (at : ℕ) → at + 4 ≤ length bytes → drop at bytes ≡ little_bytes 4 (number_at at 4 bytes) ++ drop (at + 4) bytes
  four at there =
      let xs = drop at bytes in
      let long : 4 ≤ length xs = omega (arith, length-drop at bytes, there) in
      let byte = λ (i : ℕ) (lt : i < 4). get_or-take 4 xs i 0 lt in
      let same : little_number 4 xs ≡ from_le_bytes w32 (take 4 xs) =
      omega (arith, byte 0 (omega arith), byte 1 (omega arith), byte 2 (omega arith), byte 3 (omega arith)) in
      sym (ap (λ (l : List ℕ). l ++ drop 4 xs)
      (le_bytes_4 (take 4 xs) (little_number 4 xs) (length-take-le 4 xs long) (IsBytes-take 4 xs (IsBytes-drop at bytes fits)) same) ∙ take-append-drop 4 xs)
      ∙ ap (λ (l : List ℕ). little_bytes 4 (little_number 4 xs) ++ l) (drop-drop 4 at bytes)

  eight : (at : ℕ) → at + 8 ≤ length bytes → drop at bytes ≡ little_bytes 8 (number_at at 8 bytes) ++ drop (at + 8) bytes
  eight at there =
      let xs = drop at bytes in
      let long : 8 ≤ length xs = omega (arith, length-drop at bytes, there) in
      let byte = λ (i : ℕ) (lt : i < 8). get_or-take 8 xs i 0 lt in
      let same : little_number 8 xs ≡ from_le_bytes w64 (take 8 xs) =
      omega (
        arith,
        byte 0 (omega arith),
        byte 1 (omega arith),
        byte 2 (omega arith),
        byte 3 (omega arith),
        byte 4 (omega arith),
        byte 5 (omega arith),
        byte 6 (omega arith),
        byte 7 (omega arith),
      ) in
      sym (ap (λ (l : List ℕ). l ++ drop 8 xs)
      (le_bytes_8 (take 8 xs) (little_number 8 xs) (length-take-le 8 xs long) (IsBytes-take 8 xs (IsBytes-drop at bytes fits)) same) ∙ take-append-drop 8 xs)
      ∙ ap (λ (l : List ℕ). little_bytes 8 (little_number 8 xs) ++ l) (drop-drop 8 at bytes)

  -- what stands at a place, and then what stands after it
  and_then : (at w : ℕ) (x : List ℕ) → drop at bytes ≡ little_bytes w (number_at at w bytes) ++ drop (at + w) bytes → drop (at + w) bytes ≡ x
      → drop at bytes ≡ little_bytes w (number_at at w bytes) ++ x
  and_then at w x here next = here ∙ ap (λ (l : List ℕ). little_bytes w (number_at at w bytes) ++ l) next

  table_taken : (layout : Layout) → 41 ≤ length bytes → drop 1 bytes ≡ flat_map field_bytes (fields layout (numbers_of bytes)) ++ drop 41 bytes
  table_taken layout there =
      and_then 1 1 _ (one 1 (omega (arith, there)))
      (and_then 2 1 _ (one 2 (omega (arith, there)))
      (and_then 3 1 _ (one 3 (omega (arith, there)))
      (and_then 4 4 _ (four 4 (omega (arith, there)))
      (and_then 8 4 _ (four 8 (omega (arith, there)))
      (and_then 12 2 _ (two 12 (omega (arith, there)))
      (and_then 14 2 _ (two 14 (omega (arith, there)))
      (and_then 16 4 _ (four 16 (omega (arith, there)))
      (and_then 20 2 _ (two 20 (omega (arith, there)))
      (and_then 22 2 _ (two 22 (omega (arith, there)))
      (and_then 24 1 _ (one 24 (omega (arith, there)))
      (and_then 25 1 _ (one 25 (omega (arith, there)))
      (and_then 26 2 _ (two 26 (omega (arith, there)))
      (and_then 28 2 _ (two 28 (omega (arith, there)))
      (and_then 30 2 _ (two 30 (omega (arith, there)))
      (and_then 32 8 _ (eight 32 (omega (arith, there)))
      (one 40 (omega (arith, there))))))))))))))))))

  -- ---- the file numbers

  module _ (made count : ℕ) (none : wrong_file bytes made count ≡ None) where
    files_taken : drop 64 bytes ≡ flat_map number_bytes (files_in bytes count) ++ drop (64 + 2 * count) bytes
    files_taken = pieces_are number_bytes (file_in bytes) 2 64 bytes count
        (λ i lt.
        let next : 64 + 2 * i + 2 ≡ 64 + 2 * (i + 1) = omega arith in
        two (64 + 2 * i) (file_is bytes made count none i lt).0 ∙ ap (λ (k : ℕ). number_bytes (file_in bytes i) ++ drop k bytes) next)

-- ---- the rows

length_is : (size at len most : ℕ) → (ltb size (at + 1) || not (leb 1 len && leb len most)) ≡ false → (at + 1 ≤ size) × (1 ≤ len) × (len ≤ most)
length_is size at len most e = (grind (arith, nat_tests), grind (arith, nat_tests), grind (arith, nat_tests))

name_is : (size at len : ℕ) (bytes taken : Bool) → (ltb size (at + len) || (not bytes || taken)) ≡ false → (at + len ≤ size) × (bytes ≡ true) × (taken ≡ false)
name_is size at len bytes taken e = (grind (arith, nat_tests), grind (arith, nat_tests), grind (arith, nat_tests))

there_is : (size at width : ℕ) → ltb size (at + width) ≡ false → at + width ≤ size
there_is size at width e = grind (arith, nat_tests)

-- each base is a number of eight bytes
abbrev pub HaveSmallBases : List Row → Type 0
HaveSmallBases rows = (i : ℕ) → i < length rows → (row_in rows i).base < 2 ^ 64

abbrev row_here : List ℕ → ℕ → Row
row_here bytes at = record { name = name_in bytes at; base = number_at (at + 8) 8 bytes }

-- the name in a row without a wrong byte
record RowNamed (layout : Layout) (bytes : List ℕ) (at : ℕ) (earlier : List Row) : Type 0 where
  pub named : IsName layout.longest_name (name_in bytes at)
  pub free : is_taken (name_in bytes at) earlier ≡ false

row_named : (layout : Layout) (bytes : List ℕ) (at : ℕ) (earlier : List Row) → row_fault layout bytes at earlier ≡ None → RowNamed layout bytes at earlier
row_named layout bytes at earlier none =
    let len = name_len bytes at in
    let name = name_in bytes at in
    let a = both_none _ _ none in
    let d = both_none _ _ (both_none _ _ (both_none _ _ a.1).1).1 in
    let long = length_is (length bytes) at len layout.longest_name (told_none _ at a.0) in
    let named = name_is (length bytes) (at + 16) len (list_all is_name_byte name) (is_taken name earlier) (told_none _ (at + 16) d.0) in
    let size : length name ≡ len = length-take-le len (drop (at + 16) bytes) (omega (arith, length-drop (at + 16) bytes, named.0)) in
    record { named = record { some = omega (arith, size, long.1); few = omega (arith, size, long.2); bytes = named.1 }; free = named.2 }

-- a row without a wrong byte is spelled
row_spelled : (layout : Layout) (bytes : List ℕ) (at : ℕ) (earlier : List Row) → IsBytes bytes → row_fault layout bytes at earlier ≡ None
    → drop at bytes ≡ spelled_row layout.longest_name (row_here bytes at) ++ drop (at + (16 + layout.longest_name)) bytes
row_spelled layout bytes at earlier fits none =
    let room = layout.longest_name in
    let len = name_len bytes at in
    let name = name_in bytes at in
    let end = at + (16 + room) in
    let base : List ℕ = little_bytes 8 (number_at (at + 8) 8 bytes) in
    let a = both_none _ _ none in
    let b = both_none _ _ a.1 in
    let c = both_none _ _ b.1 in
    let d = both_none _ _ c.1 in
    let long = length_is (length bytes) at len room (told_none _ at a.0) in
    let base_there = there_is (length bytes) (at + 8) 8 (told_none _ (at + 8) c.0) in
    let named = name_is (length bytes) (at + 16) len (list_all is_name_byte name) (is_taken name earlier) (told_none _ (at + 16) d.0) in
    let seven : at + 8 - (at + 1) ≡ 7 = omega arith in
    let sixteen : at + 8 + 8 ≡ at + 16 = omega arith in
    let size : length name ≡ len = length-take-le len (drop (at + 16) bytes) (omega (arith, length-drop (at + 16) bytes, named.0)) in
    let left : end - (at + 16 + len) ≡ room - length name = omega (arith, size) in
    let zeros : drop (at + 1) bytes ≡ replicate 7 0 ++ drop (at + 8) bytes =
    passed_zeros bytes (at + 1) (at + 8) (omega arith) b.0 ∙ ap (λ (k : ℕ). replicate k 0 ++ drop (at + 8) bytes) seven in
    let base_here : drop (at + 8) bytes ≡ base ++ drop (at + 16) bytes =
    eight bytes fits (at + 8) base_there ∙ ap (λ (k : ℕ). base ++ drop k bytes) sixteen in
    let behind : drop (at + 16 + len) bytes ≡ replicate (room - length name) 0 ++ drop end bytes =
    passed_zeros bytes (at + 16 + len) end (omega (arith, long.2)) d.1 ∙ ap (λ (k : ℕ). replicate k 0 ++ drop end bytes) left in
    let name_here : drop (at + 16) bytes ≡ filled room name ++ drop end bytes =
    sym (take-append-drop len (drop (at + 16) bytes)) ∙ ap (λ (l : List ℕ). name ++ l) (drop-drop len (at + 16) bytes ∙ behind)
    ∙ sym (append_assoc name (replicate (room - length name) 0) (drop end bytes)) in
    drop_more bytes at 0 (omega (arith, long.0))
    ∙ ap (λ (l : List ℕ). len ∷ l) (zeros ∙ ap (λ (l : List ℕ). replicate 7 0 ++ l) (base_here ∙ ap (λ (l : List ℕ). base ++ l) name_here))
    ∙ ap (λ (k : ℕ). k ∷ replicate 7 0 ++ (base ++ (filled room name ++ drop end bytes))) (sym size)

module _ (layout : Layout) (bytes : List ℕ) (count : ℕ) (none : wrong_row layout bytes count ≡ None) where
  passes : (i : ℕ) → i < count → row_fault layout bytes (row_place layout i) (rows_of layout bytes i) ≡ None
  passes i lt = each_none _ 0 count none i (omega arith) (omega (arith, lt))

  row_is : (i : ℕ) → i < count → RowNamed layout bytes (row_place layout i) (rows_of layout bytes i)
  row_is i lt = row_named layout bytes (row_place layout i) (rows_of layout bytes i) (passes i lt)

  rows_taken : IsBytes bytes → drop 576 bytes ≡ flat_map (spelled_row layout.longest_name) (rows_of layout bytes count) ++ drop (row_place layout count) bytes
  rows_taken fits = pieces_are (spelled_row layout.longest_name) (row_of layout bytes) (16 + layout.longest_name) 576 bytes count
      (λ i lt.
      let next : row_place layout i + (16 + layout.longest_name) ≡ row_place layout (i + 1) = omega arith in
      row_spelled layout bytes (row_place layout i) (rows_of layout bytes i) fits (passes i lt)
      ∙ ap (λ (k : ℕ). spelled_row layout.longest_name (row_of layout bytes i) ++ drop k bytes) next)

  -- where the bases are numbers of eight bytes
  rows_are : HaveSmallBases (rows_of layout bytes count) → AreRows layout.longest_name (rows_of layout bytes count)
  rows_are small =
      let no_row : Row = record { name = []; base = 0 } in
      let size : length (rows_of layout bytes count) ≡ count = length-map-range_with_len (row_of layout bytes) 0 count in
      let each = λ (i : ℕ) (lt : i < count). get_or-map-range_with_len (row_of layout bytes) 0 count i i no_row lt (omega arith) in
      record {
        named = λ i lt.
            let here : i < count = omega (arith, lt, size) in
            subst (λ (r : Row). IsName layout.longest_name r.name) (sym (each i here)) (row_is i here).named;
        different = λ i j lt below same.
            let here : j < count = omega (arith, below, size) in
            let name : List ℕ = (row_of layout bytes j).name in
            let apart = each_fails (λ row. bytes_eq row.name name) (row_of layout bytes) 0 j (row_is j here).free i (omega arith) (omega (arith, lt)) in
            let equal : (row_of layout bytes i).name ≡ name =
            ap (λ (r : Row). r.name) (sym (each i (omega (arith, lt, here)))) ∙ same ∙ ap (λ (r : Row). r.name) (each j here) in
            clash (sym apart ∙ (bytes_eq-Decides (row_of layout bytes i).name name).1 equal);
        bases = small;
      }
    where
      clash : false ≡ true → ⊥
      clash e = absurd (cc e)

-- the base in a row of bytes is a number of eight bytes
small_bases : (layout : Layout) (bytes : List ℕ) (count : ℕ) → IsBytes bytes → HaveSmallBases (rows_of layout bytes count)
small_bases layout bytes count fits i lt =
    let no_row : Row = record { name = []; base = 0 } in
    let size : length (rows_of layout bytes count) ≡ count = length-map-range_with_len (row_of layout bytes) 0 count in
    let here = get_or-map-range_with_len (row_of layout bytes) 0 count i i no_row (omega (arith, lt, size)) (omega arith) in
    subst (λ (r : Row). r.base < 2 ^ 64) (sym here) (omega (
      arith,
      little_from-lt 0 8 (drop (row_place layout i + 8) bytes) (IsBytes-drop (row_place layout i + 8) bytes fits),
    ))

-- ---- the whole slot

pub flag_back : (number : ℕ) → number ≤ 1 → flag (eqb number 1) ≡ number
flag_back number le = grind (arith, nat_tests)

-- a slot without a wrong byte has blocks and containers of sizes that there are, and ids that fit four bytes
pub limits_hold : (layout : Layout) (bytes : List ℕ) → slot_fault layout bytes ≡ None
    → IsShape (record { block_sectors = (image_of layout bytes).block_sectors; container_sectors = (image_of layout bytes).container_sectors })
    × ((image_of layout bytes).first + length (image_of layout bytes).files ≤ 2 ^ 32)
limits_hold layout bytes none =
    let n = numbers_of bytes in
    let a = both_none _ _ (sym (chained layout bytes n refl) ∙ none) in
    let r = (pass_right layout n bytes (all_pass bytes (fields layout n) a.0)).0 in
    let files_size : length (files_in bytes n.listed) ≡ n.listed = length-map-range_with_len (file_in bytes) 0 n.listed in (
      record { some_sectors = r.block.0; largest_block = r.block.1; two_blocks = r.container.0; largest_container = r.container.1 },
      omega (arith, files_size, r.listed.1, r.first.1),
    )

-- and no more containers listed than a log can have
pub few_listed : (layout : Layout) (bytes : List ℕ) → slot_fault layout bytes ≡ None → (numbers_of bytes).listed ≤ most_containers
few_listed layout bytes none =
    let n = numbers_of bytes in
    let a = both_none _ _ (sym (chained layout bytes n refl) ∙ none) in
    let r = (pass_right layout n bytes (all_pass bytes (fields layout n) a.0)).0 in
    omega (arith, r.listed.1, r.containers.1)

one_at_most : (layout : Layout) (streams number : ℕ) → number ≤ most_dedicated layout streams → number ≤ 1
one_at_most layout streams number le = small (layout.has_dedicated && leb streams 1) le
  where
    small : (b : Bool) → number ≤ cond b 1 0 → number ≤ 1
    small true le = le
    small false le = omega (arith, le)

-- and an image that there may be, where its bases are numbers of eight bytes
pub image_may_be : (layout : Layout) (bytes : List ℕ) → slot_fault layout bytes ≡ None → HaveSmallBases (image_of layout bytes).streams
    → IsImageOf layout (image_of layout bytes)
image_may_be layout bytes none small =
    let n = numbers_of bytes in
    let image = image_of layout bytes in
    let a = both_none _ _ (sym (chained layout bytes n refl) ∙ none) in
    let c = both_none _ _ (both_none _ _ a.1).1 in
    let e = both_none _ _ (both_none _ _ c.1).1 in
    let r = (pass_right layout n bytes (all_pass bytes (fields layout n) a.0)).0 in
    let files_size : length image.files ≡ n.listed = length-map-range_with_len (file_in bytes) 0 n.listed in
    let rows_size : length image.streams ≡ n.streams = length-map-range_with_len (row_of layout bytes) 0 n.streams in
    record {
      version = r.version;
      turn = r.turn;
      shape = (limits_hold layout bytes none).0;
      some_containers = r.containers.0;
      containers_made = r.files_made.0;
      few_made = r.files_made.1;
      first = r.first.0;
      some_listed = omega (arith, files_size, r.listed.0);
      few_listed = omega (arith, files_size, r.listed.1);
      last_id = (limits_hold layout bytes none).1;
      maximum = r.maximum;
      minimum = r.minimum;
      growth = r.growth;
      tail = subst (λ (k : ℕ). n.tail ≤ most_tail k) (sym (flag_back n.archiving r.archiving)) r.tail;
      dedicated = subst (λ (count : ℕ). flag image.dedicated ≤ most_dedicated layout count) (sym rows_size)
          (subst (λ (k : ℕ). k ≤ most_dedicated layout n.streams)
          (sym (flag_back n.dedicated (one_at_most layout n.streams n.dedicated r.dedicated))) r.dedicated);
      files = files_are bytes n.files_made n.listed c.0;
      few_streams = omega (arith, rows_size, r.streams);
      rows = rows_are layout bytes n.streams e.0 small;
    }

-- a slot of bytes without a wrong one spells an image
pub record Spells (layout : Layout) (bytes : List ℕ) : Type 0 where
  pub image : IsImageOf layout (image_of layout bytes)
  pub spelled_is : drop 1 bytes ≡ spelled_as layout (image_of layout bytes) ++ drop 16384 bytes

pub read_is_spelled : (layout : Layout) (bytes : List ℕ) → IsLayout layout → IsBytes bytes → slot_fault layout bytes ≡ None → Spells layout bytes
read_is_spelled layout bytes l fits none =
    let n = numbers_of bytes in
    let image = image_of layout bytes in
    let a = both_none _ _ (sym (chained layout bytes n refl) ∙ none) in
    let b = both_none _ _ a.1 in
    let c = both_none _ _ b.1 in
    let d = both_none _ _ c.1 in
    let e = both_none _ _ d.1 in
    let right = pass_right layout n bytes (all_pass bytes (fields layout n) a.0) in
    let r = right.0 in
    let files_size : length image.files ≡ n.listed = length-map-range_with_len (file_in bytes) 0 n.listed in
    let rows_size : length image.streams ≡ n.streams = length-map-range_with_len (row_of layout bytes) 0 n.streams in
    let zero_is : 0 ≡ n.zero = sym r.zero_is in
    let archiving_is = flag_back n.archiving r.archiving in
    let automatic_is = flag_back n.automatic r.automatic in
    let dedicated_is = flag_back n.dedicated (one_at_most layout n.streams n.dedicated r.dedicated) in
    let same : numbers_for image ≡ n = (λ k. record n {
      zero = zero_is k;
      listed = files_size k;
      streams = rows_size k;
      archiving = archiving_is k;
      automatic = automatic_is k;
      dedicated = dedicated_is k;
    }) in
    let numbers : List ℕ = flat_map number_bytes image.files in
    let rows : List ℕ = flat_map (spelled_row layout.longest_name) image.streams in
    let numbers_size : length numbers ≡ 2 * length image.files = length-all_pieces number_bytes 2 0 image.files (λ k lt. refl) in
    let may_be = image_may_be layout bytes none (small_bases layout bytes n.streams fits) in
    let bytes_size : length rows ≡ (16 + layout.longest_name) * length image.streams =
    length-all_pieces (spelled_row layout.longest_name) (16 + layout.longest_name) (record { name = []; base = 0 }) image.streams
    (λ k lt. length-row layout.longest_name (row_in image.streams k) (may_be.rows.named k lt).few) in
    let rows_most : (16 + layout.longest_name) * n.streams ≤ (16 + layout.longest_name) * layout.most_streams =
    mul-le-mul_left (16 + layout.longest_name) r.streams in
    let products : (16 + layout.longest_name) * length image.streams ≡ (16 + layout.longest_name) * n.streams =
    ap (λ (k : ℕ). (16 + layout.longest_name) * k) rows_size in
    let second : 576 - file_place n.listed ≡ 512 - length numbers = omega (arith, numbers_size, files_size) in
    let third : 16384 - row_place layout n.streams ≡ 15808 - length rows = omega (arith, bytes_size, products) in
    let behind_rows : drop (row_place layout n.streams) bytes ≡ replicate (15808 - length rows) 0 ++ drop 16384 bytes =
    passed_zeros bytes (row_place layout n.streams) 16384 (omega (arith, rows_most, l.rows)) e.1 ∙ ap (λ (k : ℕ). replicate k 0 ++ drop 16384 bytes) third in
    let behind_files : drop (file_place n.listed) bytes ≡ replicate (512 - length numbers) 0 ++ drop 576 bytes =
    passed_zeros bytes (file_place n.listed) 576 (omega (arith, r.listed.1, r.containers.1)) d.0 ∙ ap (λ (k : ℕ). replicate k 0 ++ drop 576 bytes) second in
    let table : List ℕ = flat_map field_bytes (fields layout n) in
    record {
      image = may_be;
      spelled_is = table_taken bytes fits layout right.1
          ∙ ap (λ (x : List ℕ). table ++ x) (passed_zeros bytes 41 64 (omega arith) b.0
          ∙ ap (λ (x : List ℕ). replicate 23 0 ++ x) (files_taken bytes fits n.files_made n.listed c.0
          ∙ ap (λ (x : List ℕ). numbers ++ x) (behind_files
          ∙ ap (λ (x : List ℕ). replicate (512 - length numbers) 0 ++ x) (rows_taken layout bytes n.streams e.0 fits
          ∙ ap (λ (x : List ℕ). rows ++ x) behind_rows))))
          ∙ parts table (replicate 23 0) numbers (replicate (512 - length numbers) 0) rows (replicate (15808 - length rows) 0) (drop 16384 bytes)
          ∙ ap (λ (k : Numbers). (filled 63 (flat_map field_bytes (fields layout k)) ++ (filled 512 numbers ++ filled 15808 rows)) ++ drop 16384 bytes) (sym same);
    }
  where
    parts : (a x b y c z q : List ℕ) → a ++ (x ++ (b ++ (y ++ (c ++ (z ++ q))))) ≡ ((a ++ x) ++ ((b ++ y) ++ (c ++ z))) ++ q
    parts a x b y c z q = sym (simp append_assoc)
