-- Numbers that stand in bytes one after the other, and the bytes that spell them.
use Rattle.clfs_cells.proofs.Words.{◌≡◌, ℕ, zero, suc, ◌+◌, ◌*◌, ◌^◌, ◌<◌, ◌≤◌, List, [], ◌∷◌, ◌++◌, length, take, drop, get_or, refl, sym, ap, ◌∙◌, arith}
use Rattle.clfs_cells.proofs.Words.{inl, inr, length-drop, take-append-drop, flat_map, length-take-le, length-take, get_or-take, drop-drop, little_number}
use Rattle.clfs_cells.proofs.Words.{little_bytes, IsRead, little_number-reads_back, little_from-lt, numbers_in}
use Rattle.std.specs.Int.{w16, w32, w64, from_le_bytes}
use Rattle.std.proofs.lemmas.Nat.{le_bytes_2, le_bytes_4, le_bytes_8}
use Rattle.std.proofs.lemmas.List.{get_or-drop, get_or_past, drop-append-le}
use Rattle.std.proofs.lemmas.Bool.{cases_lt}
use Rattle.byteorder.specs.Numbers.{little_from-append}

-- bytes, and not larger numbers
abbrev pub IsBytes : List ℕ → Type 0
IsBytes bytes = (i : ℕ) → get_or bytes i 0 < 256

pub IsBytes-drop : (n : ℕ) (bytes : List ℕ) → IsBytes bytes → IsBytes (drop n bytes)
IsBytes-drop n bytes h i = rw get_or-drop (h (n + i))

IsBytes-take : (n : ℕ) (bytes : List ℕ) → IsBytes bytes → IsBytes (take n bytes)
IsBytes-take n bytes h i =
    elim (cases_lt i n) [
      | inl lt ↦ rw (get_or-take n bytes i 0 lt) (h i)
      | inr le ↦ rw (get_or_past (take n bytes) i 0 (omega (arith, length-take n bytes))) (omega arith)
    ]

pub two : (bytes : List ℕ) → 2 ≤ length bytes → IsBytes bytes → bytes ≡ little_bytes 2 (little_number 2 bytes) ++ drop 2 bytes
two bytes long fits =
    let same : little_number 2 bytes ≡ from_le_bytes w16 (take 2 bytes) =
    omega (arith, get_or-take 2 bytes 0 0 (omega arith), get_or-take 2 bytes 1 0 (omega arith)) in
    sym (ap (λ (l : List ℕ). l ++ drop 2 bytes)
    (le_bytes_2 (take 2 bytes) (little_number 2 bytes) (length-take-le 2 bytes long) (IsBytes-take 2 bytes fits) same) ∙ take-append-drop 2 bytes)

pub four : (bytes : List ℕ) → 4 ≤ length bytes → IsBytes bytes → bytes ≡ little_bytes 4 (little_number 4 bytes) ++ drop 4 bytes
four bytes long fits =
    let at = λ (i : ℕ) (lt : i < 4). get_or-take 4 bytes i 0 lt in
    let same : little_number 4 bytes ≡ from_le_bytes w32 (take 4 bytes) =
    omega (arith, at 0 (omega arith), at 1 (omega arith), at 2 (omega arith), at 3 (omega arith)) in
    sym (ap (λ (l : List ℕ). l ++ drop 4 bytes)
    (le_bytes_4 (take 4 bytes) (little_number 4 bytes) (length-take-le 4 bytes long) (IsBytes-take 4 bytes fits) same) ∙ take-append-drop 4 bytes)

pub eight : (bytes : List ℕ) → 8 ≤ length bytes → IsBytes bytes → bytes ≡ little_bytes 8 (little_number 8 bytes) ++ drop 8 bytes
eight bytes long fits =
    let at = λ (i : ℕ) (lt : i < 8). get_or-take 8 bytes i 0 lt in
    let same : little_number 8 bytes ≡ from_le_bytes w64 (take 8 bytes) =
    omega (
      arith,
      at 0 (omega arith),
      at 1 (omega arith),
      at 2 (omega arith),
      at 3 (omega arith),
      at 4 (omega arith),
      at 5 (omega arith),
      at 6 (omega arith),
      at 7 (omega arith),
    ) in
    sym (ap (λ (l : List ℕ). l ++ drop 8 bytes)
    (le_bytes_8 (take 8 bytes) (little_number 8 bytes) (length-take-le 8 bytes long) (IsBytes-take 8 bytes fits) same) ∙ take-append-drop 8 bytes)

-- the place of the next number
on_by_eight : (k : ℕ) (bytes : List ℕ) → drop (8 * suc k) bytes ≡ drop (8 * k) (drop 8 bytes)
on_by_eight k bytes = let next : 8 + 8 * k ≡ 8 * suc k = omega arith in sym (drop-drop (8 * k) 8 bytes ∙ ap (λ (n : ℕ). drop n bytes) next)

joined : (x y : ℕ) (l m : List ℕ) → x ≡ y → l ≡ m → x ∷ l ≡ y ∷ m
joined x y l m p q = cc

-- numbers that were read one by one are those that stand there
pub read_one_by_one : (dst src : List ℕ) → IsRead little_number 8 src dst → dst ≡ numbers_in (length dst) src
read_one_by_one [] src h = refl
read_one_by_one (x ∷ dst) src h =
    joined _ _ _ _ (h 0 (omega arith))
    (read_one_by_one dst (drop 8 src) (λ k lt. h (suc k) (omega (arith, lt)) ∙ ap (λ (l : List ℕ). little_number 8 l) (on_by_eight k src)))

-- only so many bytes are read
pub numbers_in_front : (n : ℕ) (front rest : List ℕ) → 8 * n ≤ length front → numbers_in n (front ++ rest) ≡ numbers_in n front
numbers_in_front zero front rest le = refl
numbers_in_front (suc n) front rest le =
    joined _ _ _ _ (little_from-append 8 front rest (omega (arith, le)))
    (ap (λ (l : List ℕ). numbers_in n l) (drop-append-le 8 front rest (omega (arith, le)))
    ∙ numbers_in_front n (drop 8 front) rest (omega (arith, le, length-drop 8 front)))

-- as many numbers as were asked for
pub length-numbers_in : (n : ℕ) (bytes : List ℕ) → length (numbers_in n bytes) ≡ n
length-numbers_in zero bytes = refl
length-numbers_in (suc n) bytes = ap suc (length-numbers_in n (drop 8 bytes))

-- each is a number of eight bytes
pub numbers_fit : (n : ℕ) (bytes : List ℕ) → IsBytes bytes → (k : ℕ) → get_or (numbers_in n bytes) k 0 < 2 ^ 64
numbers_fit zero bytes fits k = omega arith
numbers_fit (suc n) bytes fits zero = omega (arith, little_from-lt 0 8 bytes fits)
numbers_fit (suc n) bytes fits (suc k) = numbers_fit n (drop 8 bytes) (IsBytes-drop 8 bytes fits) k

-- what is spelled is read
pub spelled_is_read : (xs rest : List ℕ) → ((k : ℕ) → get_or xs k 0 < 2 ^ 64) → numbers_in (length xs) (flat_map (little_bytes 8) xs ++ rest) ≡ xs
spelled_is_read [] rest small = refl
spelled_is_read (x ∷ xs) rest small =
    let first : little_number 8 (little_bytes 8 x ++ (flat_map (little_bytes 8) xs ++ rest)) ≡ x =
    little_number-reads_back 8 x (flat_map (little_bytes 8) xs ++ rest) (omega (arith, small 0)) in
    joined _ _ _ _ first (spelled_is_read xs rest (λ k. small (suc k)))

pub length-spelled : (xs : List ℕ) → length (flat_map (little_bytes 8) xs) ≡ 8 * length xs
length-spelled [] = refl
length-spelled (x ∷ xs) = let more = length-spelled xs in omega (arith, more)

-- what is read is spelled so
pub read_is_spelled : (n : ℕ) (bytes : List ℕ) → 8 * n ≤ length bytes → IsBytes bytes → bytes ≡ flat_map (little_bytes 8) (numbers_in n bytes) ++ drop (8 * n) bytes
read_is_spelled zero bytes long fits = refl
read_is_spelled (suc n) bytes long fits =
    let rest = drop 8 bytes in
    let more : rest ≡ flat_map (little_bytes 8) (numbers_in n rest) ++ drop (8 * n) rest =
    read_is_spelled n rest (omega (arith, long, length-drop 8 bytes)) (IsBytes-drop 8 bytes fits) in
    eight bytes (omega (arith, long)) fits ∙ ap (λ (l : List ℕ). little_bytes 8 (little_number 8 bytes) ++ l)
    (more ∙ ap (λ (l : List ℕ). flat_map (little_bytes 8) (numbers_in n rest) ++ l) (sym (on_by_eight n bytes)))
