-- Files that are kept as first bytes and a length.
use Rattle.std.proofs.Common.{◌≡◌, ⊎_elim, ℕ, ◌+◌, ◌-◌, ◌<◌, ◌≤◌, List, ◌++◌, length, min, get_or, take, drop, replicate, refl, sym, ◌∙◌, ap, arith}
use Rattle.std.proofs.Common.{length-append, length-drop, append_assoc}
use Rattle.std.proofs.lemmas.Bool.{cases_lt}
use Rattle.std.proofs.lemmas.List.{length-replicate, length-take, length-take-le, take_at}
use Rattle.std.proofs.lemmas.List.{ext_get_or, get_or-take, get_or-drop, get_or_append_left, get_or-append_right, get_or-replicate}
use Rattle.clfs_disk.specs.Files.{lengthened}

pub length-lengthened : (front : List ℕ) (len : ℕ) → length front ≤ len → length (lengthened front len) ≡ len
length-lengthened front len fits =
    omega (arith, fits, length-append front (replicate (len - length front) 0), length-replicate {A = ℕ} (len - length front) 0)

-- a read of first bytes, and zeros behind what it found
pub read_lengthened : (front : List ℕ) (len at count found : ℕ) → length front ≤ len → at + count ≤ len → found ≡ min count (length front - at)
    → take found (drop at front) ++ replicate (count - found) 0 ≡ take count (drop at (lengthened front len))
read_lengthened front len at count found fits within is = ext_get_or 0 left right
    (omega (arith, size, length-take count (drop at all), length-drop at all, length-lengthened front len fits, within))
    (λ i lt.
    let inside : i < count = omega (arith, lt, size) in
    ⊎_elim
    (λ (low : i < found).
    let near : at + i < length front = omega (arith, low, least_right) in
    get_or_append_left (take found (drop at front)) zeros 0 i (omega (arith, low, got)) ∙ get_or-take found (drop at front) i 0 low ∙ get_or-drop at front i 0
    ∙ sym (rest i inside ∙ get_or_append_left front behind 0 (at + i) near))
    (λ (high : found ≤ i).
    let far : length front ≤ at + i = omega (arith, high, inside, is) in
    get_or-append_right (take found (drop at front)) zeros found i 0 got high ∙ get_or-replicate (count - found) (i - found) 0 0 (omega (arith, high, inside))
    ∙ sym (rest i inside ∙ get_or-append_right front behind (length front) (at + i) 0 refl far
    ∙ get_or-replicate (len - length front) (at + i - length front) 0 0 (omega (arith, within, inside, far))))
    (cases_lt i found))
  where
    zeros : List ℕ
    zeros = replicate (count - found) 0

    behind : List ℕ
    behind = replicate (len - length front) 0

    all : List ℕ
    all = lengthened front len

    left : List ℕ
    left = take found (drop at front) ++ zeros

    right : List ℕ
    right = take count (drop at all)

    least_right : found ≤ length front - at
    least_right = omega (arith, is)

    got : length (take found (drop at front)) ≡ found
    got = length-take-le found (drop at front) (omega (arith, least_right, length-drop at front))

    size : length left ≡ count
    size = omega (arith, length-append (take found (drop at front)) zeros, got, length-replicate {A = ℕ} (count - found) 0, is)

    rest : (i : ℕ) → i < count → get_or right i 0 ≡ get_or all (at + i) 0
    rest i lt = get_or-take count (drop at all) i 0 lt ∙ get_or-drop at all i 0

-- what a buffer holds then, whatever lies behind
pub read_in_parts : (front given filled rest : List ℕ) (len at count found : ℕ) → length front ≤ len → at + count ≤ len → found ≡ min count (length front - at)
    → found ≤ length given → take found given ≡ take found (drop at front) → filled ≡ replicate (count - found) 0
    → take count (take found given ++ (filled ++ rest)) ≡ take count (drop at (lengthened front len))
read_in_parts front given filled rest len at count found fits within is few copied zeros =
    let got : length (take found given) ≡ found = length-take-le found given few in
    let size : length (take found given ++ filled) ≡ count =
    omega (arith, length-append (take found given) filled, got, ap (λ (l : List ℕ). length l) zeros, length-replicate {A = ℕ} (count - found) 0, is) in
    ap (take count) (sym (append_assoc (take found given) filled rest))
    ∙ take_at (take found given ++ filled) rest count size
    ∙ ap (λ (l : List ℕ). l ++ filled) copied
    ∙ ap (λ (l : List ℕ). take found (drop at front) ++ l) zeros
    ∙ read_lengthened front len at count found fits within is
