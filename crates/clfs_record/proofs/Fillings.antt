-- The zeros after a record's data: the high bytes of the word that ends with them.
use Rattle.std.proofs.Common.{◌≡◌, refl, sym, ◌∙◌, ap, ℕ, zero, suc, ◌+◌, ◌-◌, ◌*◌, ◌/◌, ◌^◌, ◌<◌, ◌≤◌, true, ◌&&◌, eqb, leb, List, length, take, drop, get_or, arith}
use Rattle.std.proofs.Common.{inl, inr, not, cond, Option, Some, None, length-drop}
use Rattle.std.proofs.lemmas.Bool.{ne_eqb, eq-eqb, le-ltb}
use Rattle.std.proofs.lemmas.Bool.Decides.{leb_tells}
use Rattle.std.proofs.lemmas.List.{drop_more, drop-drop}
use Rattle.std.proofs.lemmas.List.Recursion.{and_at}
use Rattle.std.proofs.lemmas.List.Sums.{position_or_len_is}
use Rattle.std.specs.List.{list_all, slice_range, position, position_or_len}
use Rattle.std.specs.Option.{option_map}
use Rattle.byteorder.specs.Endian.{little_from, little_number}
use Rattle.clfs_lsn.specs.Spelling.{filling, filling_fault}
use Rattle.clfs_record.proofs.Headers.{IsBytes, IsBytes-drop}

-- two tests of numbers that hold together
alike : (a b h : ℕ) → (a ≤ b → h ≡ 0) → (h ≡ 0 → a ≤ b) → leb a b ≡ eqb h 0
alike a b h there back =
    elim (leb_tells a b) [
      | inl holds ↦ holds.0 ∙ sym (eq-eqb h 0 (there holds.1))
      | inr fails ↦ fails.0 ∙ sym (ne_eqb h 0 (λ e. omega (arith, fails.1, back e)))
    ]

-- a byte with a number above it is 0 where both are
both_zero : (x rest : ℕ) → eqb (x + 256 * rest) 0 ≡ (eqb x 0 && eqb rest 0)
both_zero zero rest = alike_zero rest
  where
    alike_zero : (rest : ℕ) → eqb (0 + 256 * rest) 0 ≡ eqb rest 0
    alike_zero zero = refl
    alike_zero (suc n) = ne_eqb (0 + 256 * suc n) 0 (λ e. omega (arith, e)) ∙ sym (ne_eqb (suc n) 0 (λ e. omega (arith, e)))
both_zero (suc x) rest =
    ne_eqb (suc x + 256 * rest) 0 (λ e. omega (arith, e)) ∙ ap (λ other. other && eqb rest 0) (sym (ne_eqb (suc x) 0 (λ e. omega (arith, e))))

-- the next place, as lists and as sums write it
next : (n : ℕ) → suc n ≡ n + 1
next n = omega arith

-- a number of some bytes is 0 where all of them are
number_zero : (bytes : List ℕ) (from n : ℕ) → from + n ≤ length bytes
    → eqb (little_from from n bytes) 0 ≡ list_all (λ byte. eqb byte 0) (take n (drop from bytes))
number_zero bytes from zero le = refl
number_zero bytes from (suc n) le =
    both_zero (get_or bytes from 0) (little_from (suc from) n bytes)
    ∙ ap (λ rest. eqb (get_or bytes from 0) 0 && rest) (number_zero bytes (suc from) n (omega (arith, le)))
    ∙ ap (λ (l : List ℕ). eqb (get_or bytes from 0) 0 && list_all (λ byte. eqb byte 0) (take n l)) (ap (λ (k : ℕ). drop k bytes) (next from))
    ∙ sym (ap (λ (l : List ℕ). list_all (λ byte. eqb byte 0) (take (suc n) l)) (drop_more bytes from 0 (omega (arith, le))))

-- the eight bytes of a word are below 256
eight_bytes : (bytes : List ℕ) → IsBytes bytes → (get_or bytes 0 0 < 256) × (get_or bytes 1 0 < 256) × (get_or bytes 2 0 < 256) × (get_or bytes 3 0 < 256)
    × (get_or bytes 4 0 < 256) × (get_or bytes 5 0 < 256) × (get_or bytes 6 0 < 256) × (get_or bytes 7 0 < 256)
eight_bytes bytes fits = (fits 0, fits 1, fits 2, fits 3, fits 4, fits 5, fits 6, fits 7)

-- the word is small where its high bytes are 0
small : (bytes : List ℕ) → IsBytes bytes → (count : ℕ) → count < 8
    → leb (little_number 8 bytes) (18446744073709551615 / 2 ^ (8 * count)) ≡ eqb (little_from (8 - count) count bytes) 0
small bytes fits zero lt = alike _ _ _ (λ _. refl) (λ _. omega (arith, eight_bytes bytes fits))
small bytes fits (suc zero) lt = alike _ _ _ (λ le. omega (arith, le)) (λ none. omega (arith, eight_bytes bytes fits, none))
small bytes fits (suc (suc zero)) lt = alike _ _ _ (λ le. omega (arith, le)) (λ none. omega (arith, eight_bytes bytes fits, none))
small bytes fits (suc (suc (suc zero))) lt = alike _ _ _ (λ le. omega (arith, le)) (λ none. omega (arith, eight_bytes bytes fits, none))
small bytes fits (suc (suc (suc (suc zero)))) lt = alike _ _ _ (λ le. omega (arith, le)) (λ none. omega (arith, eight_bytes bytes fits, none))
small bytes fits (suc (suc (suc (suc (suc zero))))) lt = alike _ _ _ (λ le. omega (arith, le)) (λ none. omega (arith, eight_bytes bytes fits, none))
small bytes fits (suc (suc (suc (suc (suc (suc zero)))))) lt = alike _ _ _ (λ le. omega (arith, le)) (λ none. omega (arith, eight_bytes bytes fits, none))
small bytes fits (suc (suc (suc (suc (suc (suc (suc zero))))))) lt = alike _ _ _ (λ le. omega (arith, le)) (λ none. omega (arith, eight_bytes bytes fits, none))
small bytes fits (suc (suc (suc (suc (suc (suc (suc (suc n)))))))) lt = absurd (omega (arith, lt))

-- the word that ends with a range of bytes is small where these are 0
pub ends_in_zeros : (bytes : List ℕ) → IsBytes bytes → (from end word : ℕ) → 8 ≤ end → end ≤ length bytes → from ≤ end → end < from + 8
    → word ≡ little_number 8 (drop (end - 8) bytes)
    → leb word (18446744073709551615 / 2 ^ (8 * (end - from))) ≡ list_all (λ byte. eqb byte 0) (slice_range bytes from end)
ends_in_zeros bytes fits from end word eight whole range few read =
    let count : ℕ = end - from in
    let last : List ℕ = drop (end - 8) bytes in
    let start : end - 8 + (8 - count) ≡ from = omega (arith, eight, range, few) in
    ap (λ (w : ℕ). leb w (18446744073709551615 / 2 ^ (8 * count))) read
    ∙ small last (IsBytes-drop (end - 8) bytes fits) count (omega (arith, range, few))
    ∙ number_zero last (8 - count) count (omega (arith, eight, whole, range, few, length-drop (end - 8) bytes))
    ∙ ap (λ (l : List ℕ). list_all (λ byte. eqb byte 0) (take count l)) (drop-drop (8 - count) (end - 8) bytes ∙ ap (λ (k : ℕ). drop k bytes) start)

-- where all bytes are 0, none is found
pub none_is_found : (bytes : List ℕ) → list_all (λ byte. eqb byte 0) bytes ≡ true → position (λ b. not (eqb b 0)) bytes ≡ None
none_is_found bytes zeros =
    let all : position_or_len (λ b. not (eqb b 0)) bytes ≡ length bytes =
    position_or_len_is (λ b. not (eqb b 0)) bytes (length bytes) 0 (omega arith)
    (λ k lt. ap not (and_at (λ (l : List ℕ). list_all (λ byte. eqb byte 0) l) (λ byte. eqb byte 0) refl (λ _ _. refl) bytes k 0 lt zeros))
    (λ lt. absurd (omega (arith, lt))) in
    ap (λ b. cond b (Some (position_or_len (λ b. not (eqb b 0)) bytes)) None)
    (le-ltb (position_or_len (λ b. not (eqb b 0)) bytes) (length bytes) (omega (arith, all)))

-- a filling of zeros has no fault
pub no_fault : (bytes : List ℕ) (len size : ℕ) → size ≡ 32 + (len + 7) / 8 * 8
    → list_all (λ byte. eqb byte 0) (slice_range bytes (32 + len) size) ≡ true → filling_fault len bytes ≡ None
no_fault bytes len size is zeros =
    ap (λ (o : Option ℕ). option_map (λ at. 32 + len + at) o)
    (none_is_found (take (filling len) (drop (32 + len) bytes))
    (ap (λ (n : ℕ). list_all (λ byte. eqb byte 0) (take n (drop (32 + len) bytes))) (ap (λ (s : ℕ). s - (32 + len)) (sym is)) ∙ zeros))
