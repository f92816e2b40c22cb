-- Bytes that are put after a front, where all after it is zeros.
use Rattle.clfs_base.proofs.Words.{◌≡◌, ℕ, zero, suc, ◌+◌, ◌-◌, ◌*◌, ◌%◌, ◌<◌, ◌≤◌, List, [], ◌∷◌, ◌++◌, length, get_or, take, drop, replicate, refl, sym}
use Rattle.clfs_base.proofs.Words.{◌∙◌, ap, subst, arith, mul-le-mul_left, length-append, length-drop, append_assoc, length-replicate, take_at, drop_at}
use Rattle.clfs_base.proofs.Words.{drop-drop, append-nil, drop_all, take_all, flat_map, little_bytes, Row, filled, row_in, spelled_row}
use Rattle.std.proofs.lemmas.List.{replicate-append-replicate, drop-replicate, take_more, flat_map_more, get_or_read}
use Rattle.std.specs.Int.{bytes_low_first}
use borrow.Rule.Slice.PartMut.{put_mid, post_of}

abbrev zeros : ℕ → List ℕ
zeros n = replicate n 0

module _ (n : ℕ) (front bytes out : List ℕ) (at gap : ℕ) (is : out ≡ filled n front) (place : at ≡ length front + gap) (fits : at + length bytes ≤ n) where
  before : List ℕ
  before = front ++ zeros gap

  length-before : length before ≡ at
  unfolding before
  length-before = omega (arith, length-append front (zeros gap), length-replicate {A = ℕ} gap 0, place)

  split : out ≡ before ++ zeros (n - at)
  unfolding before
  split =
      let room : n - length front ≡ gap + (n - at) = omega (arith, place, fits) in
      is ∙ ap (λ (k : ℕ). front ++ zeros k) room ∙ ap (λ (l : List ℕ). front ++ l) (sym (replicate-append-replicate gap (n - at) 0))
      ∙ sym (append_assoc front (zeros gap) (zeros (n - at)))

  pub put_apart : take at out ++ (bytes ++ drop (at + length bytes) out) ≡ filled n (front ++ (zeros gap ++ bytes))
  unfolding before
  put_apart =
      let w = length bytes in
      let behind : drop (at + w) out ≡ zeros (n - at - w) =
      sym (drop-drop w at out) ∙ ap (λ (l : List ℕ). drop w (drop at l)) split
      ∙ ap (λ (l : List ℕ). drop w l) (drop_at before (zeros (n - at)) at length-before) ∙ drop-replicate w (n - at) 0 in
      let whole : length (front ++ (zeros gap ++ bytes)) ≡ at + w =
      omega (arith, length-append front (zeros gap ++ bytes), length-append (zeros gap) bytes, length-replicate {A = ℕ} gap 0, place) in
      let left : n - at - w ≡ n - length (front ++ (zeros gap ++ bytes)) = omega (arith, whole) in
      ap (λ (l : List ℕ). take at l ++ (bytes ++ drop (at + w) out)) split
      ∙ ap (λ (l : List ℕ). l ++ (bytes ++ drop (at + w) out)) (take_at before (zeros (n - at)) at length-before)
      ∙ ap (λ (l : List ℕ). before ++ (bytes ++ l)) behind
      ∙ sym (append_assoc before bytes (zeros (n - at - w)))
      ∙ ap (λ (l : List ℕ). l ++ zeros (n - at - w)) (append_assoc front (zeros gap) bytes)
      ∙ ap (λ (k : ℕ). (front ++ (zeros gap ++ bytes)) ++ zeros k) left

-- at the front's end
pub put_behind : (n : ℕ) (front bytes out : List ℕ) (at : ℕ) → out ≡ filled n front → at ≡ length front → at + length bytes ≤ n
    → take at out ++ (bytes ++ drop (at + length bytes) out) ≡ filled n (front ++ bytes)
put_behind n front bytes out at is place fits = put_apart n front bytes out at 0 is (omega (arith, place)) fits

-- one piece more, of so many bytes
pub put_more : {X : Type 0} (f : X → List ℕ) (xs : List X) (x d : X) (i n at w : ℕ) (out : List ℕ) → i < length xs → x ≡ get_or xs i d → length (f x) ≡ w
    → out ≡ filled n (flat_map f (take i xs)) → at ≡ length (flat_map f (take i xs)) → at + w ≤ n
    → take at out ++ (f x ++ drop (at + w) out) ≡ filled n (flat_map f (take (i + 1) xs))
put_more f xs x d i n at w out lt here size is place fits =
    ap (λ (k : ℕ). take at out ++ (f x ++ drop (at + k) out)) (sym size)
    ∙ put_behind n (flat_map f (take i xs)) (f x) out at is place (omega (arith, fits, size))
    ∙ ap (filled n) (flat_map_more f [] (take i xs) x
    ∙ ap (flat_map f) (ap (λ y. take i xs ++ y ∷ []) here ∙ sym (take_more xs i d lt)))

pub length-low : (i n x : ℕ) → length (bytes_low_first i n x) ≡ n
length-low i zero x = refl
length-low i (suc n) x = ap suc (length-low (suc i) n x)

-- the first of the eight bytes of a number
pub take-low : (i w n x : ℕ) → w ≤ n → take w (bytes_low_first i n x) ≡ bytes_low_first i w x
take-low i zero n x le = refl
take-low i (suc w) zero x le = absurd (omega (arith, le))
take-low i (suc w) (suc n) x le = ap (λ (l : List ℕ). get_or (bytes_low_first i 1 x) 0 0 ∷ l) (take-low (suc i) w n x (omega (arith, le)))

-- pieces of one length
pub length-pieces : {X : Type 0} (f : X → List ℕ) (w : ℕ) (d : X) (xs : List X) (i : ℕ) → i ≤ length xs
    → ((k : ℕ) → k < length xs → length (f (get_or xs k d)) ≡ w) → length (flat_map f (take i xs)) ≡ w * i
length-pieces f w d xs zero le each = omega arith
length-pieces f w d [] (suc i) le each = absurd (omega (arith, le))
length-pieces f w d (x ∷ xs) (suc i) le each =
    let rest = length-pieces f w d xs i (omega (arith, le)) (λ k lt. each (suc k) (omega (arith, lt))) in
    let first = each 0 (omega arith) in
    omega (arith, length-append (f x) (flat_map f (take i xs)), rest, first)

-- the three parts of a row, put one after the other
pub row_filled : (n : ℕ) (row : Row) (none one two three : List ℕ) → 16 + length row.name ≤ n → length row.name < 256 → none ≡ replicate n 0
    → one ≡ take 0 none ++ (little_bytes 1 (length row.name) ++ drop 1 none)
    → two ≡ take 8 one ++ (little_bytes 8 row.base ++ drop 16 one)
    → three ≡ take 16 two ++ (row.name ++ drop (16 + length row.name) two)
    → three ≡ spelled_row (n - 16) row
row_filled n row none one two three fits small is_none is_one is_two is_three =
    let len = length row.name in
    let byte : len % 256 ≡ len = omega (arith, small) in
    let start : none ≡ filled n [] = is_none ∙ ap zeros (omega arith) in
    let first : one ≡ filled n (little_bytes 1 len) = is_one ∙ put_apart n [] (little_bytes 1 len) none 0 0 start refl (omega (arith, fits)) in
    let second : two ≡ filled n (little_bytes 1 len ++ (zeros 7 ++ little_bytes 8 row.base)) =
    is_two ∙ put_apart n (little_bytes 1 len) (little_bytes 8 row.base) one 8 7 first refl (omega (arith, fits)) in
    let third : three ≡ filled n ((little_bytes 1 len ++ (zeros 7 ++ little_bytes 8 row.base)) ++ row.name) =
    is_three ∙ put_behind n (little_bytes 1 len ++ (zeros 7 ++ little_bytes 8 row.base)) row.name two 16 second refl (omega (arith, fits)) in
    let left : n - (16 + len) ≡ n - 16 - len = omega arith in
    let count : n - length ((little_bytes 1 len ++ (zeros 7 ++ little_bytes 8 row.base)) ++ row.name) ≡ n - 16 - len = omega arith in
    third
    ∙ ap (λ (k : ℕ). ((little_bytes 1 len ++ (zeros 7 ++ little_bytes 8 row.base)) ++ row.name) ++ zeros k) count
    ∙ ap (λ (b : ℕ). b ∷ replicate 7 0 ++ (little_bytes 8 row.base ++ (row.name ++ zeros (n - 16 - len)))) byte

pub length-row : (room : ℕ) (row : Row) → length row.name ≤ room → length (spelled_row room row) ≡ 16 + room
length-row room row le = omega (
  arith,
  le,
  length-append row.name (replicate (room - length row.name) 0),
  length-replicate {A = ℕ} (room - length row.name) 0,
)

-- one row more
pub rows_more : (room w : ℕ) (rows : List Row) (row : Row) (i : ℕ) (out new : List ℕ) → w ≡ 16 + room → w * length rows ≤ 15808
    → ((k : ℕ) → k < length rows → length (row_in rows k).name ≤ room) → i < length rows → row ≡ get_or rows i row
    → out ≡ filled 15808 (flat_map (spelled_row room) (take i rows))
    → new ≡ take (w * i) out ++ (spelled_row (w - 16) row ++ drop (w * i + w) out)
    → new ≡ filled 15808 (flat_map (spelled_row room) (take (i + 1) rows))
rows_more room w rows row i out new w_is few names lt here is new_is =
    let none : Row = record { name = []; base = 0 } in
    let room_is : w - 16 ≡ room = omega (arith, w_is) in
    let row_is : row ≡ row_in rows i = get_or_read rows i row lt here none in
    let size : length (spelled_row room row) ≡ w =
    length-row room row (subst (λ (r : Row). length r.name ≤ room) (sym row_is) (names i lt)) ∙ sym w_is in
    let place : w * i ≡ length (flat_map (spelled_row room) (take i rows)) =
    sym (length-pieces (spelled_row room) w none rows i (omega (arith, lt)) (λ k within. length-row room (row_in rows k) (names k within) ∙ sym w_is)) in
    let up_to : w * (i + 1) ≤ w * length rows = mul-le-mul_left w (omega (arith, lt)) in
    new_is ∙ ap (λ (k : ℕ). take (w * i) out ++ (spelled_row k row ++ drop (w * i + w) out)) room_is
    ∙ put_more (spelled_row room) rows row none i 15808 (w * i) w out lt row_is size is place (omega (arith, up_to, few))

-- three parts of a list that are written one after the other are the list
pub parts_joined : (a b c out : List ℕ) → length a ≡ 63 → length b ≡ 512
    → put_mid 575 (length (put_mid 63 512 (a ++ drop 63 out) b) - 575) (put_mid 63 512 (a ++ drop 63 out) b) c ≡ a ++ (b ++ c)
parts_joined a b c out a_long b_long =
    let first : List ℕ = a ++ drop 63 out in
    let rest : List ℕ = post_of 63 512 first in
    let mid : List ℕ = put_mid 63 512 first b in
    let mid_is : mid ≡ (a ++ b) ++ rest =
    ap (λ (l : List ℕ). l ++ (b ++ rest)) (take_at a (drop 63 out) 63 a_long) ∙ sym (append_assoc a b rest) in
    let front : take 575 mid ≡ a ++ b =
    ap (λ (l : List ℕ). take 575 l) mid_is ∙ take_at (a ++ b) rest 575 (omega (arith, length-append a b, a_long, b_long)) in
    let none : post_of 575 (length mid - 575) mid ≡ [] =
    drop_all (length mid - 575) (drop 575 mid) (omega (arith, length-drop 575 mid)) in
    ap (λ (l : List ℕ). l ++ (c ++ post_of 575 (length mid - 575) mid)) front
    ∙ ap (λ (l : List ℕ). (a ++ b) ++ (c ++ l)) none ∙ ap (λ (l : List ℕ). (a ++ b) ++ l) (append-nil c) ∙ append_assoc a b c

pub length-filled : (n : ℕ) (bytes : List ℕ) → length bytes ≤ n → length (filled n bytes) ≡ n
length-filled n bytes le =
    omega (arith, le, length-append bytes (replicate (n - length bytes) 0), length-replicate {A = ℕ} (n - length bytes) 0)

-- the pieces of a whole list
pub length-all_pieces : {X : Type 0} (f : X → List ℕ) (w : ℕ) (d : X) (xs : List X)
    → ((k : ℕ) → k < length xs → length (f (get_or xs k d)) ≡ w) → length (flat_map f xs) ≡ w * length xs
length-all_pieces f w d xs each =
    ap (λ ys. length (flat_map f ys)) (sym (take_all (length xs) xs (omega arith))) ∙ length-pieces f w d xs (length xs) (omega arith) each
