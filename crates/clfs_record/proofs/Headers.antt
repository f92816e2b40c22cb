-- A header's bytes and the numbers that they stand for.
use Rattle.std.proofs.Common.{◌≡◌, inl, inr, ℕ, ◌+◌, ◌<◌, ◌≤◌, List, ◌∷◌, ◌++◌, length, get_or, take, drop, sym, ◌∙◌, ap, arith}
use Rattle.std.proofs.Common.{length-drop, take-append-drop}
use Rattle.std.specs.Int.{w16, w32, w64, from_le_bytes}
use Rattle.std.proofs.lemmas.Nat.{le_bytes_2, le_bytes_4, le_bytes_8}
use Rattle.std.proofs.lemmas.List.{length-take-le, length-take, get_or-take, get_or-drop, get_or_past, drop-drop, drop_more}
use Rattle.std.proofs.lemmas.Bool.{cases_lt}
use Rattle.byteorder.specs.Endian.{little_number, little_bytes}
use Rattle.clfs_lsn.specs.Format.{record_header}
use Rattle.clfs_lsn.specs.Spelling.{Header, header_of}

-- bytes, and not larger numbers
abbrev pub IsBytes : List ℕ → Type 0
IsBytes bytes = (i : ℕ) → get_or bytes i 0 < 256

pub IsBytes-drop : (n : ℕ) (bytes : List ℕ) → IsBytes bytes → IsBytes (drop n bytes)
IsBytes-drop n bytes h i = rw get_or-drop (h (n + i))

IsBytes-take : (n : ℕ) (bytes : List ℕ) → IsBytes bytes → IsBytes (take n bytes)
IsBytes-take n bytes h i =
    elim (cases_lt i n) [
      | inl lt ↦ rw (get_or-take n bytes i 0 lt) (h i)
      | inr le ↦ rw (get_or_past (take n bytes) i 0 (omega (arith, length-take n bytes))) (omega arith)
    ]

two : (bytes : List ℕ) → 2 ≤ length bytes → IsBytes bytes → bytes ≡ little_bytes 2 (little_number 2 bytes) ++ drop 2 bytes
two bytes long fits =
    let same : little_number 2 bytes ≡ from_le_bytes w16 (take 2 bytes) =
    omega (arith, get_or-take 2 bytes 0 0 (omega arith), get_or-take 2 bytes 1 0 (omega arith)) in
    sym (ap (λ (l : List ℕ). l ++ drop 2 bytes)
    (le_bytes_2 (take 2 bytes) (little_number 2 bytes) (length-take-le 2 bytes long) (IsBytes-take 2 bytes fits) same) ∙ take-append-drop 2 bytes)

four : (bytes : List ℕ) → 4 ≤ length bytes → IsBytes bytes → bytes ≡ little_bytes 4 (little_number 4 bytes) ++ drop 4 bytes
four bytes long fits =
    let at = λ (i : ℕ) (lt : i < 4). get_or-take 4 bytes i 0 lt in
    let same : little_number 4 bytes ≡ from_le_bytes w32 (take 4 bytes) =
    omega (arith, at 0 (omega arith), at 1 (omega arith), at 2 (omega arith), at 3 (omega arith)) in
    sym (ap (λ (l : List ℕ). l ++ drop 4 bytes)
    (le_bytes_4 (take 4 bytes) (little_number 4 bytes) (length-take-le 4 bytes long) (IsBytes-take 4 bytes fits) same) ∙ take-append-drop 4 bytes)

eight : (bytes : List ℕ) → 8 ≤ length bytes → IsBytes bytes → bytes ≡ little_bytes 8 (little_number 8 bytes) ++ drop 8 bytes
eight bytes long fits =
    let at = λ (i : ℕ) (lt : i < 8). get_or-take 8 bytes i 0 lt in
    let same : little_number 8 bytes ≡ from_le_bytes w64 (take 8 bytes) =
    omega (
      arith,
      at 0 (omega arith),
      at 1 (omega arith),
      at 2 (omega arith),
      at 3 (omega arith),
      at 4 (omega arith),
      at 5 (omega arith),
      at 6 (omega arith),
      at 7 (omega arith),
    ) in
    sym (ap (λ (l : List ℕ). l ++ drop 8 bytes)
    (le_bytes_8 (take 8 bytes) (little_number 8 bytes) (length-take-le 8 bytes long) (IsBytes-take 8 bytes fits) same) ∙ take-append-drop 8 bytes)

one : (bytes : List ℕ) (n : ℕ) → n < length bytes → drop n bytes ≡ get_or bytes n 0 ∷ drop (n + 1) bytes
one bytes n lt = drop_more bytes n 0 lt

-- the bytes of a header, and those after it
unfoldable pub header_spelled : Header → List ℕ → List ℕ
header_spelled h rest = little_bytes 4 h.len ++ (little_bytes 2 h.stream
    ++ (h.kind ∷ h.zero ∷ (little_bytes 8 h.previous ++ (little_bytes 8 h.undo_next ++ (little_bytes 8 h.new_base ++ rest)))))

-- bytes begin with the bytes of the header that they stand for
pub header_takes : (bytes : List ℕ) → record_header ≤ length bytes → IsBytes bytes → bytes ≡ header_spelled (header_of bytes) (drop record_header bytes)
unfolding header_spelled
header_takes bytes long fits =
    let from = λ (n : ℕ). IsBytes-drop n bytes fits in
    let size = λ (n : ℕ). length-drop n bytes in
    let stream = two (drop 4 bytes) (omega (arith, long, size 4)) (from 4) ∙ ap
    (λ (l : List ℕ). little_bytes 2 (little_number 2 (drop 4 bytes)) ++ l) (drop-drop 2 4 bytes) in
    let previous = eight (drop 8 bytes) (omega (arith, long, size 8)) (from 8) ∙ ap
    (λ (l : List ℕ). little_bytes 8 (little_number 8 (drop 8 bytes)) ++ l) (drop-drop 8 8 bytes) in
    let undo = eight (drop 16 bytes) (omega (arith, long, size 16)) (from 16) ∙ ap
    (λ (l : List ℕ). little_bytes 8 (little_number 8 (drop 16 bytes)) ++ l) (drop-drop 8 16 bytes) in
    let base = eight (drop 24 bytes) (omega (arith, long, size 24)) (from 24) ∙ ap
    (λ (l : List ℕ). little_bytes 8 (little_number 8 (drop 24 bytes)) ++ l) (drop-drop 8 24 bytes) in
    four bytes (omega (arith, long)) fits
    ∙ ap (λ (l : List ℕ). little_bytes 4 (little_number 4 bytes) ++ l) (stream
    ∙ ap (λ (l : List ℕ). little_bytes 2 (little_number 2 (drop 4 bytes)) ++ l) (one bytes 6 (omega (arith, long))
    ∙ ap (λ (l : List ℕ). get_or bytes 6 0 ∷ l) (one bytes 7 (omega (arith, long))
    ∙ ap (λ (l : List ℕ). get_or bytes 7 0 ∷ l) (previous
    ∙ ap (λ (l : List ℕ). little_bytes 8 (little_number 8 (drop 8 bytes)) ++ l) (undo
    ∙ ap (λ (l : List ℕ). little_bytes 8 (little_number 8 (drop 16 bytes)) ++ l) base)))))
