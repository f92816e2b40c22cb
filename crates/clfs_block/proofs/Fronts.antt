-- A block and a front of it that has all that is judged.
use Rattle.clfs_block.proofs.Words.{◌≡◌, ⊎_elim, ℕ, zero, suc, ◌+◌, ◌-◌, ◌*◌, ◌<◌, ◌≤◌, Bool, cond, eqb, ltb, not, List, length, get_or, take, drop, Option}
use Rattle.clfs_block.proofs.Words.{Some, None, Result, Ok, Err, refl, sym, ◌∙◌, ap, arith, length-take-le, get_or-take, take_all, le-ltb, ne_eqb, cases_lt}
use Rattle.clfs_block.proofs.Words.{little_number, sectors, unless_wrong, pass_guard, Shape, place_of, payload_of, address, address_in, head_of}
use Rattle.clfs_block.proofs.Words.{is_wrong_count, is_wrong_records, head_fault, first_failing, address_place, payload_place, sectors_at, frame_at, rest_at}
use Rattle.clfs_block.proofs.Words.{BlockHead, BlockRefusal, BadByte, Closed}
use Rattle.std.proofs.Common.{◌⊎◌}
use Rattle.clfs_block.specs.Checks.{IsEnough}
use Rattle.clfs_block.proofs.Frames.{length-payload_of, get_or-payload_of, payload_is, place_within}
use Rattle.clfs_block.proofs.Splices.{same_address}
use Rattle.clfs_block.proofs.Reading.{two_bytes, four_bytes, checks_held}

abbrev answered : BlockHead → Result BlockHead BlockRefusal
answered head = Ok head

abbrev refused : BlockRefusal → Result BlockHead BlockRefusal
refused refusal = Err refusal

-- tests that agree fail first at one number
same_failing : (test other : ℕ → Bool) (from n : ℕ) → ((i : ℕ) → from ≤ i → i < from + n → test i ≡ other i)
    → first_failing test from n ≡ first_failing other from n
same_failing test other from zero each = refl
same_failing test other from (suc n) each =
    ap (λ b. cond b (first_failing test (from + 1) n) (Some from)) (each from (omega arith) (omega arith))
    ∙ ap (λ (o : Option ℕ). cond (other from) o (Some from))
    (same_failing test other (from + 1) n (λ i le lt. each i (omega (arith, le)) (omega (arith, lt))))

module _ (bytes : List ℕ) (count : ℕ) where
  byte : (k : ℕ) → k < count → get_or (take count bytes) k 0 ≡ get_or bytes k 0
  byte k lt = get_or-take count bytes k 0 lt

  pub two : (at : ℕ) → at + 2 ≤ count → little_number 2 (drop at (take count bytes)) ≡ little_number 2 (drop at bytes)
  two at le = omega (arith, two_bytes (take count bytes) at, two_bytes bytes at, byte at (omega (arith, le)), byte (at + 1) (omega (arith, le)))

  four : (at : ℕ) → at + 4 ≤ count → little_number 4 (drop at (take count bytes)) ≡ little_number 4 (drop at bytes)
  four at le = omega (
    arith,
    four_bytes (take count bytes) at,
    four_bytes bytes at,
    byte at (omega (arith, le)),
    byte (at + 1) (omega (arith, le)),
    byte (at + 2) (omega (arith, le)),
    byte (at + 3) (omega (arith, le)),
  )

  pub payload_same : (head : BlockHead) → sectors head.used ≡ head.sectors → 512 * head.sectors ≤ count
      → payload_of head.used (take count bytes) ≡ payload_of head.used bytes
  payload_same head used le = payload_is head.used bytes (payload_of head.used (take count bytes)) (length-payload_of head.used (take count bytes))
      (λ p lt. get_or-payload_of head.used (take count bytes) p lt
      ∙ byte (place_of p) (omega (arith, le, place_within p head.sectors (omega (arith, lt, used)))))

  pub rest_same : (head : BlockHead) → sectors head.used ≡ head.sectors → 512 * head.sectors ≤ count → rest_at (take count bytes) head ≡ rest_at bytes head
  rest_same head used le = ap (λ (o : Option ℕ). unless_wrong BadByte (payload_place o) (answered head))
      (same_failing (λ p. eqb (get_or (take count bytes) (place_of p) 0) 0) (λ p. eqb (get_or bytes (place_of p) 0) 0) head.used
      (504 * head.sectors - head.used)
      (λ p from until. ap (λ (b : ℕ). eqb b 0)
      (byte (place_of p) (omega (arith, le, place_within p head.sectors (omega (arith, until, used)))))))

  module _ (shape : Shape) (start : ℕ) (first : 512 ≤ count) (longer : count < length bytes) where
    long : length (take count bytes) ≡ count
    long = length-take-le count bytes (omega (arith, longer))

    head_same : head_of (take count bytes) ≡ head_of bytes
    head_same =
        let a = two 2 (omega (arith, first)) in
        let b = two 4 (omega (arith, first)) in
        let c = four 8 (omega (arith, first)) in
        λ i. record { sectors = a i; records = b i; used = c i }

    fault_same : head_fault shape start (take count bytes) ≡ head_fault shape start bytes
    fault_same =
        let v = byte 1 (omega (arith, first)) in
        let a = two 6 (omega (arith, first)) in
        let b = four 12 (omega (arith, first)) in
        let by : ℕ → BlockHead → ℕ → ℕ → Option ℕ = λ version head second fourth.
        cond (not (eqb version 1)) (Some 1)
        (cond (is_wrong_count shape start head.sectors) (Some 2)
        (cond (is_wrong_records head.records) (Some 4)
        (cond (not (eqb second 0)) (Some 6)
        (cond (not (eqb (sectors head.used) head.sectors)) (Some 8)
        (cond (not (eqb fourth 0)) (Some 12) None))))) in
        λ i. by (v i) (head_same i) (a i) (b i)

    sectors_same : (head : BlockHead) → 512 * head.sectors ≤ count → sectors_at start (take count bytes) head ≡ sectors_at start bytes head
    unfolding sectors_at
    sectors_same head le =
        pass_guard _ _ _ _ (le-ltb (length (take count bytes)) (512 * head.sectors) (omega (arith, le, long)))
        (ap (λ (o : Option ℕ). unless_wrong BadByte (address_place o) (answered head))
        (same_failing (λ i. eqb (address_in (take count bytes) i) (address start i)) (λ i. eqb (address_in bytes i) (address start i)) 0 head.sectors
        (λ i from until. ap (λ (n : ℕ). eqb n (address start i))
        (same_address (take count bytes) bytes i (λ k low high. byte k (omega (arith, high, until, le)))))))
        ∙ sym (pass_guard _ _ _ _ (le-ltb (length bytes) (512 * head.sectors) (omega (arith, le, longer))) refl)

    -- where the header has no fault, its sectors are all judged
    behind : (fault : Option ℕ) → head_fault shape start bytes ≡ fault
        → (512 * (head_of bytes).sectors ≤ count) ⊎ (512 * shape.block_sectors ≤ count)
        → unless_wrong BadByte fault (sectors_at start (take count bytes) (head_of bytes))
        ≡ unless_wrong BadByte fault (sectors_at start bytes (head_of bytes))
    behind (Some at) is reach = refl
    behind None is reach = sectors_same (head_of bytes)
        (⊎_elim (λ own. own) (λ largest. omega (arith, largest, (checks_held shape start bytes is).count.1)) reach)

    enough : (512 * (head_of bytes).sectors ≤ count) ⊎ (512 * shape.block_sectors ≤ count)
        → frame_at shape start (take count bytes) ≡ frame_at shape start bytes
    unfolding frame_at
    enough reach =
        let judged : List ℕ → BlockHead → Option ℕ → Result BlockHead BlockRefusal = λ l h o. unless_wrong BadByte o (sectors_at start l h) in
        let same : judged (take count bytes) (head_of (take count bytes)) (head_fault shape start (take count bytes))
        ≡ judged bytes (head_of bytes) (head_fault shape start bytes) =
        ap (λ (h : BlockHead). judged (take count bytes) h (head_fault shape start (take count bytes))) head_same
        ∙ ap (λ (o : Option ℕ). judged (take count bytes) (head_of bytes) o) fault_same ∙ behind (head_fault shape start bytes) refl reach in
        let gate : get_or (take count bytes) 0 0 ≡ get_or bytes 0 0 = byte 0 (omega (arith, first)) in
        let rest = pass_guard (ltb (length (take count bytes)) 512) (BadByte (length (take count bytes))) _ _
        (le-ltb (length (take count bytes)) 512 (omega (arith, first, long))) same
        ∙ sym (pass_guard (ltb (length bytes) 512) (BadByte (length bytes)) (judged bytes (head_of bytes) (head_fault shape start bytes)) _
        (le-ltb (length bytes) 512 (omega (arith, first, longer))) refl) in
        pass_guard _ _ _ _ (ne_eqb (length (take count bytes)) 0 (λ e. absurd (omega (arith, e, long, first))))
        (ap (λ (g : ℕ). cond (not (eqb g 165)) (refused Closed) (cond (ltb (length (take count bytes)) 512) (refused (BadByte (length (take count bytes))))
        (judged (take count bytes) (head_of (take count bytes)) (head_fault shape start (take count bytes))))) gate
        ∙ ap (λ (r : Result BlockHead BlockRefusal). cond (not (eqb (get_or bytes 0 0) 165)) (refused Closed) r) rest)
        ∙ sym (pass_guard _ _ _ _ (ne_eqb (length bytes) 0 (λ e. absurd (omega (arith, e, longer)))) refl)

  pub frame_same : (shape : Shape) (start : ℕ) → IsEnough shape bytes count → frame_at shape start (take count bytes) ≡ frame_at shape start bytes
  frame_same shape start is = ⊎_elim
      (λ (longer : count < length bytes). enough shape start is.first longer is.all)
      (λ (le : length bytes ≤ count). ap (frame_at shape start) (take_all count bytes le))
      (cases_lt count (length bytes))
