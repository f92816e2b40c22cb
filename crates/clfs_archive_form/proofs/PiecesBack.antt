-- The containers of an archive are read back of their bytes, one after the other.
use Rattle.clfs_archive_form.proofs.Words.{◌≡◌, ℕ, zero, suc, ◌+◌, ◌-◌, ◌*◌, ◌%◌, ◌^◌, ◌<◌, ◌≤◌, Bool, true, cond, ◌&&◌, eqb, leb, List, [], ◌∷◌, ◌++◌}
use Rattle.clfs_archive_form.proofs.Words.{length, reverse, take, drop, get_or, Option, Some, None, Result, Ok, Err, refl, sym, ◌∙◌, ap, subst, arith, find}
use Rattle.clfs_archive_form.proofs.Words.{flat_map, range_with_len, zip, option_or, get_or-append, take-append_seam, drop-append_seam, eq-eqb, ne_eqb}
use Rattle.clfs_archive_form.proofs.Words.{le-ltb, drop-drop, length-append, length-drop, get_or-take, little_bytes, LogEntry, Shape, block_sectors}
use Rattle.clfs_archive_form.proofs.Words.{BeginsWith, Opens, total, number_at, ◌>>=◌, stored_in, Stored, piece_bytes, block_bytes, blocks_of, blocks_in}
use Rattle.clfs_archive_form.proofs.Words.{number_there, just_there, is_length, length_there, part_of, container_there, containers_there, containers_len}
use Rattle.clfs_archive_form.proofs.Words.{in_a_row, AreExact, pieces_at, is_container, last_copy}
use mathlib.Core.List.{reverse-cons}
use Rattle.std.proofs.lemmas.Bool.{le-leb}
use Rattle.std.proofs.lemmas.List.Folds.{find-append}
use Rattle.byteorder.specs.Endian.{little_number}
use Rattle.byteorder.specs.Numbers.{little_number-reads_back}
use Rattle.clfs_archive_form.proofs.Blocks.{takes_first, none_of}
use Rattle.clfs_archive_form.proofs.CutBlocks.{row_len, exact_whole}
use Rattle.clfs_archive_form.proofs.Grammar.{is_there}
use Rattle.clfs_archive_form.proofs.OpenEnds.{block_len, sectors_said}

abbrev pub Blocks : Type 0
Blocks = List (List ℕ)

-- ---- blocks one after the other

-- Each block has some sectors.
abbrev pub AreSome : Blocks → Type 0
AreSome [] = Unit {0}
AreSome (block ∷ blocks) = (1 ≤ block_sectors block) × AreSome blocks

-- a block that bytes begin with has just what it says, and that is some
begun_exact : (left : ℕ) (bytes block : List ℕ) → BeginsWith left bytes block → (length block ≡ 512 * block_sectors block) × (1 ≤ block_sectors block)
begun_exact left bytes block begins =
    let n : ℕ = block_sectors bytes in
    let byte : (k : ℕ) → k < 512 * n → get_or block k 0 ≡ get_or bytes k 0 = (λ k lt. ap (λ (l : List ℕ). get_or l k 0) begins.is ∙ get_or-take (512 * n) bytes k 0 lt) in
    let said : block_sectors block ≡ n = omega (arith, byte 2 (omega (arith, begins.some)), byte 3 (omega (arith, begins.some))) in
    (omega (arith, block_len left bytes block begins, said), omega (arith, said, begins.some))

pub open_exact : (left : ℕ) (bytes : List ℕ) (blocks : Blocks) (rest : ℕ) → Opens left bytes blocks rest → AreExact blocks × AreSome blocks
open_exact left bytes [] rest opens = (tt, tt)
open_exact left bytes (block ∷ blocks) rest opens =
    let here = begun_exact left bytes block opens.0 in
    let more = open_exact (left - block_sectors bytes) (drop (512 * block_sectors bytes) bytes) blocks rest opens.1 in
    ((here.0, more.0), (here.1, more.1))

taken_apart : (n : ℕ) (blocks : Blocks) → AreExact blocks → AreSome blocks → length (in_a_row blocks) ≤ n → blocks_of n (in_a_row blocks) ≡ blocks
taken_apart n [] exact some few = none_of n
taken_apart n (block ∷ blocks) exact some few =
    let row : List ℕ = in_a_row blocks in
    let all : List ℕ = block ++ row in
    let long : length all ≡ length block + length row = length-append block row in
    let byte : (k : ℕ) → k < length block → get_or all k 0 ≡ get_or block k 0 = (λ k lt. get_or-append block row 0 k lt) in
    let said : block_sectors all ≡ block_sectors block = omega (arith, byte 2 (omega (arith, exact.0, some.0)), byte 3 (omega (arith, exact.0, some.0))) in
    let size : block_bytes all ≡ length block = omega (arith, sectors_said all, said, exact.0, some.0) in
    let t = takes_first n all (omega (arith, long, exact.0, some.0)) few in
    t.2 ∙ ap (λ (k : ℕ). take k all ∷ blocks_of t.0 (drop k all)) size
    ∙ ap (λ (l : List ℕ). l ∷ blocks_of t.0 (drop (length block) all)) (take-append_seam block row)
    ∙ ap (λ (l : List ℕ). block ∷ blocks_of t.0 l) (drop-append_seam block row)
    ∙ ap (λ (l : Blocks). block ∷ l) (taken_apart t.0 blocks exact.1 some.1 (omega (arith, few, long, exact.0, some.0, t.1)))

-- bytes are taken apart into the blocks that stand in them
pub row_apart : (blocks : Blocks) → AreExact blocks → AreSome blocks → blocks_in (in_a_row blocks) ≡ blocks
row_apart blocks exact some = taken_apart (length (in_a_row blocks)) blocks exact some (omega arith)

-- ---- containers in pairs

-- containers with ids from one on, and their blocks
abbrev pub pieces_from : ℕ → List Blocks → List (ℕ × Blocks)
pieces_from id [] = []
pieces_from id (b ∷ bs) = (id, b) ∷ pieces_from (id + 1) bs

pub in_pairs : (id : ℕ) (bs : List Blocks) → zip (range_with_len id (length bs)) bs ≡ pieces_from id bs
in_pairs id [] = refl
in_pairs id (b ∷ bs) = ap (λ (l : List (ℕ × Blocks)). (id, b) ∷ l) (in_pairs (id + 1) bs)

pub length-pieces : (id : ℕ) (bs : List Blocks) → length (pieces_from id bs) ≡ length bs
length-pieces id [] = refl
length-pieces id (b ∷ bs) = ap suc (length-pieces (id + 1) bs)

pub drop-pieces : (n id : ℕ) (bs : List Blocks) → drop n (pieces_from id bs) ≡ pieces_from (id + n) (drop n bs)
drop-pieces zero id bs = ap (λ (k : ℕ). pieces_from k bs) (omega arith)
drop-pieces (suc n) id [] = refl
drop-pieces (suc n) id (b ∷ bs) = drop-pieces n (id + 1) bs ∙ ap (λ (k : ℕ). pieces_from k (drop n bs)) (omega arith)

-- ---- numbers

number_right : ℕ → Result ℕ ℕ
number_right n = Ok n

number_wrong : ℕ → Result ℕ ℕ
number_wrong at = Err at

module _ (bytes : List ℕ) (at n : ℕ) (rest : List ℕ) (small : n < 2 ^ 32) (there : at + 4 ≤ length bytes) (here : drop at bytes ≡ little_bytes 4 n ++ rest) where
  number_back : number_there bytes at ≡ Ok n
  unfolding number_right
  number_back =
      let number : number_at at 4 bytes ≡ n = ap (little_number 4) here ∙ little_number-reads_back 4 n rest small in
      ap (λ (b : Bool). cond b (Err (length bytes)) (Ok (number_at at 4 bytes))) (le-ltb (length bytes) (at + 4) there) ∙ ap number_right number

  pub just_back : just_there bytes at n ≡ Ok n
  unfolding number_right number_wrong
  just_back =
      ap (λ (r : Result ℕ ℕ). r >>= (λ (number : ℕ). cond (eqb number n) (number_right number) (number_wrong at))) number_back
      ∙ ap (λ (b : Bool). cond b (number_right n) (number_wrong at)) (eq-eqb n n refl)

  length_back : (shape : Shape) → n % 512 ≡ 0 → n ≤ 512 * shape.container_sectors → length_there shape bytes at ≡ Ok n
  unfolding number_right number_wrong
  length_back shape whole within =
      let fits : is_length shape n ≡ true =
      ap (λ (b : Bool). b && leb n (512 * shape.container_sectors)) (eq-eqb (n % 512) 0 whole) ∙ le-leb n (512 * shape.container_sectors) within in
      ap (λ (r : Result ℕ ℕ). r >>= (λ (len : ℕ). cond (is_length shape len) (number_right len) (number_wrong at))) number_back
      ∙ ap (λ (b : Bool). cond b (number_right n) (number_wrong at)) fits

-- ---- a container

-- Blocks of the container of this id that can be read, and which fit it.
pub record IsFine (shape : Shape) (streams id : ℕ) (blocks : Blocks) : Type 0 where
  pub small : id < 2 ^ 32
  pub exact : AreExact blocks
  pub some : AreSome blocks
  pub within : total blocks ≤ 512 * shape.container_sectors
  pub entries : List LogEntry
  pub read : stored_in shape streams id 0 blocks ≡ Ok entries

abbrev pub AreFine : Shape → ℕ → ℕ → List Blocks → Type 0
AreFine shape streams id [] = Unit {0}
AreFine shape streams id (b ∷ bs) = IsFine shape streams id b × AreFine shape streams (id + 1) bs

pub drop-fine : (shape : Shape) (streams n id : ℕ) (bs : List Blocks) → AreFine shape streams id bs → AreFine shape streams (id + n) (drop n bs)
drop-fine shape streams zero id bs fine = subst (λ (k : ℕ). AreFine shape streams k bs) (omega arith) fine
drop-fine shape streams (suc n) id [] fine = tt
drop-fine shape streams (suc n) id (b ∷ bs) fine =
    subst (λ (k : ℕ). AreFine shape streams k (drop n bs)) (omega arith) (drop-fine shape streams n (id + 1) bs fine.1)

abbrev stored_as : ℕ → ℕ → ℕ → Stored
stored_as id at len = record { container = id; at = at; len = len }

-- A container was read back, and these bytes come after it.
pub record IsBack (shape : Shape) (streams : ℕ) (bytes : List ℕ) (id at : ℕ) (blocks : Blocks) (rest : List ℕ) : Type 0 where
  pub is : container_there shape streams bytes id at ≡ Ok (record { container = id; at = at + 8; len = total blocks })
  pub part : part_of bytes (at + 8) (total blocks) ≡ in_a_row blocks
  pub behind : drop (at + 8 + total blocks) bytes ≡ rest
  pub within : at + 8 + total blocks ≤ length bytes

module _ (shape : Shape) (few : shape.container_sectors ≤ 16384) (streams : ℕ) (bytes : List ℕ) where
  pub one_back : (id at : ℕ) (blocks : Blocks) (rest : List ℕ) → IsFine shape streams id blocks → at ≤ length bytes
      → drop at bytes ≡ piece_bytes (id, blocks) ++ rest → IsBack shape streams bytes id at blocks rest
  one_back id at blocks rest fine start here =
      let t : ℕ = total blocks in
      let row : List ℕ = in_a_row blocks in
      let behind_id : List ℕ = little_bytes 4 t ++ (row ++ rest) in
      let whole : drop at bytes ≡ little_bytes 4 id ++ behind_id = here in
      let after_id : drop (at + 4) bytes ≡ behind_id = sym (drop-drop 4 at bytes) ∙ ap (drop 4) whole in
      let after_len : drop (at + 8) bytes ≡ row ++ rest = sym (drop-drop 8 at bytes) ∙ ap (drop 8) whole in
      let size : length row ≡ t = row_len blocks in
      let left : length bytes - at ≡ 8 + (t + length rest) = omega (arith, length-drop at bytes, ap length whole, length-append row rest, size) in
      let number = just_back bytes at id behind_id fine.small (omega (arith, left, start)) whole in
      let len = length_back bytes (at + 4) t (row ++ rest) (omega (arith, fine.within, few)) (omega (arith, left, start)) after_id shape (exact_whole blocks fine.exact) fine.within in
      let part : part_of bytes (at + 8) t ≡ row = ap (take t) after_len ∙ ap (λ (k : ℕ). take k (row ++ rest)) (sym size) ∙ take-append_seam row rest in
      let read : stored_in shape streams id 0 (blocks_in (part_of bytes (at + 8) t)) ≡ Ok fine.entries =
      ap (λ (l : List ℕ). stored_in shape streams id 0 (blocks_in l)) part ∙ ap (stored_in shape streams id 0) (row_apart blocks fine.exact fine.some) ∙ fine.read in
      let found = is_there shape streams bytes id at id number t len fine.entries read (omega (arith, left, start)) (omega (arith, ap length part, size)) in record {
        is = found.0;
        part = part;
        behind = sym (drop-drop t (at + 8) bytes) ∙ ap (drop t) after_len ∙ ap (λ (k : ℕ). drop k (row ++ rest)) (sym size) ∙ drop-append_seam row rest;
        within = found.1;
      }

  -- ---- all of them

  containers_right : List Stored → Result (List Stored) ℕ
  containers_right l = Ok l

  abbrev next_ones : ℕ → ℕ → ℕ → Stored → Result (List Stored) ℕ
  next_ones count id at stored =
      containers_there shape streams bytes count (id + 1) (at + 8 + stored.len) >>= (λ (others : List Stored). Ok (stored ∷ others))

  pub all_back : (bs : List Blocks) (id at : ℕ) → AreFine shape streams id bs → at ≤ length bytes → drop at bytes ≡ flat_map piece_bytes (pieces_from id bs)
      → (containers_there shape streams bytes (length bs) id at ≡ Ok (pieces_at at (pieces_from id bs)))
      × (at + containers_len (pieces_at at (pieces_from id bs)) ≡ length bytes)
  all_back [] id at fine start here =
      let none : length bytes - at ≡ 0 = sym (length-drop at bytes) ∙ ap length here in (refl, omega (arith, none, start))
  all_back (b ∷ bs) id at fine start here =
      let first = one_back id at b (flat_map piece_bytes (pieces_from (id + 1) bs)) fine.0 start here in
      let others = all_back bs (id + 1) (at + 8 + total b) fine.1 first.within first.behind in (
        ap (λ (r : Result Stored ℕ). r >>= next_ones (length bs) id at) first.is
            ∙ ap (λ (r : Result (List Stored) ℕ). r >>= (λ (others : List Stored). Ok (stored_as id (at + 8) (total b) ∷ others))) others.0,
        omega (arith, others.1),
      )

  -- ---- the last copy of one

  last_more : (stored : Stored) (others : List Stored) (id : ℕ)
      → last_copy (stored ∷ others) id ≡ option_or (last_copy others id) (cond (eqb stored.container id) (Some stored) None)
  last_more stored others id = ap (find (is_container id)) (reverse-cons stored others) ∙ find-append (is_container id) (reverse others) (stored ∷ [])

  none_below : (bs : List Blocks) (id at other : ℕ) → other < id → last_copy (pieces_at at (pieces_from id bs)) other ≡ None
  none_below [] id at other lt = refl
  none_below (b ∷ bs) id at other lt =
      last_more (stored_as id (at + 8) (total b)) (pieces_at (at + 8 + total b) (pieces_from (id + 1) bs)) other
      ∙ ap (λ (o : Option Stored). option_or o (cond (eqb id other) (Some (stored_as id (at + 8) (total b))) None))
      (none_below bs (id + 1) (at + 8 + total b) other (omega (arith, lt)))
      ∙ ap (λ (x : Bool). cond x (Some (stored_as id (at + 8) (total b))) None) (ne_eqb id other (λ (same : id ≡ other). omega (arith, same, lt)))

  -- Where the blocks of a container are found.
  pub record IsLast (containers : List Stored) (id : ℕ) (blocks : Blocks) : Type 0 where
    pub stored : Stored
    pub is : last_copy containers id ≡ Some stored
    pub blocks_are : blocks_in (part_of bytes stored.at stored.len) ≡ blocks
    pub len : stored.len ≡ total blocks

  pub last_back : (bs : List Blocks) (id at : ℕ) → AreFine shape streams id bs → at ≤ length bytes → drop at bytes ≡ flat_map piece_bytes (pieces_from id bs)
      → (i : ℕ) → i < length bs → IsLast (pieces_at at (pieces_from id bs)) (id + i) (get_or bs i [])
  last_back [] id at fine start here i lt = absurd (omega (arith, lt))
  last_back (b ∷ bs) id at fine start here zero lt =
      let first = one_back id at b (flat_map piece_bytes (pieces_from (id + 1) bs)) fine.0 start here in
      let stored : Stored = stored_as id (at + 8) (total b) in
      let same : id ≡ id + 0 = omega arith in record {
        stored = stored;
        is = subst (λ (k : ℕ). last_copy (stored ∷ pieces_at (at + 8 + total b) (pieces_from (id + 1) bs)) k ≡ Some stored) same
            (last_more stored (pieces_at (at + 8 + total b) (pieces_from (id + 1) bs)) id
            ∙ ap (λ (o : Option Stored). option_or o (cond (eqb id id) (Some stored) None)) (none_below bs (id + 1) (at + 8 + total b) id (omega arith))
            ∙ ap (λ (x : Bool). cond x (Some stored) None) (eq-eqb id id refl));
        blocks_are = ap blocks_in first.part ∙ row_apart b fine.0.exact fine.0.some;
        len = refl;
      }
  last_back (b ∷ bs) id at fine start here (suc i) lt =
      let first = one_back id at b (flat_map piece_bytes (pieces_from (id + 1) bs)) fine.0 start here in
      let later = last_back bs (id + 1) (at + 8 + total b) fine.1 first.within first.behind i (omega (arith, lt)) in
      let stored : Stored = stored_as id (at + 8) (total b) in
      let same : id + 1 + i ≡ id + suc i = omega arith in record {
        stored = later.stored;
        is = subst (λ (k : ℕ). last_copy (stored ∷ pieces_at (at + 8 + total b) (pieces_from (id + 1) bs)) k ≡ Some later.stored) same
            (last_more stored (pieces_at (at + 8 + total b) (pieces_from (id + 1) bs)) (id + 1 + i)
            ∙ ap (λ (o : Option Stored). option_or o (cond (eqb id (id + 1 + i)) (Some stored) None)) later.is);
        blocks_are = later.blocks_are;
        len = later.len;
      }
