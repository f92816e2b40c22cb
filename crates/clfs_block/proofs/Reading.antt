-- What is read is spelled so, and what is spelled so is read.
use Rattle.clfs_block.proofs.Words.{◌≡◌, ℕ, ◌+◌, ◌-◌, ◌*◌, ◌/◌, ◌%◌, ◌^◌, ◌<◌, ◌≤◌, false, cond, eqb, ltb, not, ◌||◌, List, [], ◌∷◌, ◌++◌, length, get_or}
use Rattle.clfs_block.proofs.Words.{take, drop, Option, Some, None, Result, Ok, Err, IfOk, refl, sym, ◌∙◌, ap, subst, arith, length-append, length-drop}
use Rattle.clfs_block.proofs.Words.{take-append-drop, length-take-le, get_or-take, get_or-drop, get_or_append_left, ltb-false, le-ltb, eq-eqb, ne_eqb}
use Rattle.clfs_block.proofs.Words.{nat_tests, little_number, sectors, Shape, place_of, payload_of, address, address_in, head_bytes, used_bytes, used_payload}
use Rattle.clfs_block.proofs.Words.{AreBytes, SpellsBlock, head_of, is_wrong_count, is_wrong_records, head_fault, address_place, payload_place, unless_wrong}
use Rattle.clfs_block.proofs.Words.{unless_ok, no_fault, pass_check, guard_ok, pass_guard, sectors_at, frame_at, rest_at, head_for, IsFramed, BlockHead}
use Rattle.clfs_block.proofs.Words.{BlockRefusal, BadByte, Closed}
use Rattle.std.proofs.lemmas.List.FromFn.{take-map-range_with_len}
use Rattle.std.proofs.lemmas.Bool.{eqb-true, not-false, or_parts}
use Rattle.clfs_block.specs.Checks.{left_from, wrong_sector, other_byte}
use Rattle.clfs_block.specs.Checks.{IsCount, HasFrame, IsWrongBehind}
use Rattle.clfs_block.proofs.Frames.{length-payload_of, get_or-payload_of, payload_is, place_within}
use Rattle.clfs_block.proofs.Searches.{none_fails, each_passes}
use Rattle.clfs_block.proofs.Splices.{same_address}

abbrev answered : BlockHead → Result BlockHead BlockRefusal
answered head = Ok head

-- ---- what checks that hold say

no_address : (o : Option ℕ) → address_place o ≡ None → o ≡ None
no_address None e = refl
no_address (Some i) e = absurd (cc e)

no_payload : (o : Option ℕ) → payload_place o ≡ None → o ≡ None
no_payload None e = refl
no_payload (Some i) e = absurd (cc e)

equal : (a b : ℕ) → not (eqb a b) ≡ false → a ≡ b
equal a b e = eqb-true a b (not-false (eqb a b) e)

unequal_fails : (a b : ℕ) → a ≡ b → not (eqb a b) ≡ false
unequal_fails a b e = ap not (eq-eqb a b e)

pub one_head : (a b : BlockHead) → answered a ≡ answered b → a ≡ b
one_head a b e = cc e

-- ---- the header

byte_behind : (bytes : List ℕ) (at k place : ℕ) → at + k ≡ place → get_or (drop at bytes) k 0 ≡ get_or bytes place 0
byte_behind bytes at k place is = get_or-drop at bytes k 0 ∙ ap (λ (n : ℕ). get_or bytes n 0) is

pub two_bytes : (bytes : List ℕ) (at : ℕ) → little_number 2 (drop at bytes) ≡ get_or bytes at 0 + 256 * get_or bytes (at + 1) 0
two_bytes bytes at = omega (arith, byte_behind bytes at 0 at (omega arith), byte_behind bytes at 1 (at + 1) refl)

pub four_bytes : (bytes : List ℕ) (at : ℕ) → little_number 4 (drop at bytes)
    ≡ get_or bytes at 0 + 256 * (get_or bytes (at + 1) 0 + 256 * (get_or bytes (at + 2) 0 + 256 * get_or bytes (at + 3) 0))
four_bytes bytes at = omega (
  arith,
  byte_behind bytes at 0 at (omega arith),
  byte_behind bytes at 1 (at + 1) refl,
  byte_behind bytes at 2 (at + 2) refl,
  byte_behind bytes at 3 (at + 3) refl,
)

-- the bytes of a number of two bytes, and of four
parts_2 : (a b : ℕ) → a < 256 → b < 256 → (a ≡ (a + 256 * b) % 256) × (b ≡ (a + 256 * b) / 256 % 256)
parts_2 a b p q = (omega (arith, p, q), omega (arith, p, q))

parts_4 : (a b c d n : ℕ) → a < 256 → b < 256 → c < 256 → d < 256 → n ≡ a + 256 * (b + 256 * (c + 256 * d))
    → (a ≡ n % 256) × (b ≡ n / 256 % 256) × (c ≡ n / 65536 % 256) × (d ≡ n / 16777216 % 256)
parts_4 a b c d n p q r s is = (omega (arith, p, q, r, s, is), omega (arith, p, q, r, s, is), omega (arith, p, q, r, s, is), omega (arith, p, q, r, s, is))

whole_2 : (n : ℕ) → n < 2 ^ 16 → n % 256 + 256 * (n / 256 % 256) ≡ n
whole_2 n lt = omega (arith, lt)

whole_4 : (n : ℕ) → n < 2 ^ 32 → n % 256 + 256 * (n / 256 % 256 + 256 * (n / 65536 % 256 + 256 * (n / 16777216 % 256))) ≡ n
whole_4 n lt = omega (arith, lt)

-- a header that passes is spelled by its numbers
header_is : (bytes : List ℕ) → AreBytes bytes → get_or bytes 0 0 ≡ 165 → get_or bytes 1 0 ≡ 1 → little_number 2 (drop 6 bytes) ≡ 0
    → little_number 4 (drop 12 bytes) ≡ 0
    → payload_of 16 bytes ≡ head_bytes 165 (head_of bytes).sectors (head_of bytes).records (head_of bytes).used
header_is bytes fits gate version zero_2 zero_4 =
    let b = λ (i : ℕ). get_or bytes i 0 in
    let count = parts_2 (b 2) (b 3) (fits 2) (fits 3) in
    let records = parts_2 (b 4) (b 5) (fits 4) (fits 5) in
    let used = parts_4 (b 8) (b 9) (b 10) (b 11) (head_of bytes).used (fits 8) (fits 9) (fits 10) (fits 11) (four_bytes bytes 8) in
    let n_is : (head_of bytes).sectors ≡ b 2 + 256 * b 3 = two_bytes bytes 2 in
    let r_is : (head_of bytes).records ≡ b 4 + 256 * b 5 = two_bytes bytes 4 in
    let e2 : b 2 ≡ (head_of bytes).sectors % 256 = count.0 ∙ ap (λ (n : ℕ). n % 256) (sym n_is) in
    let e3 : b 3 ≡ (head_of bytes).sectors / 256 % 256 = count.1 ∙ ap (λ (n : ℕ). n / 256 % 256) (sym n_is) in
    let e4 : b 4 ≡ (head_of bytes).records % 256 = records.0 ∙ ap (λ (n : ℕ). n % 256) (sym r_is) in
    let e5 : b 5 ≡ (head_of bytes).records / 256 % 256 = records.1 ∙ ap (λ (n : ℕ). n / 256 % 256) (sym r_is) in
    let e6 : b 6 ≡ 0 = omega (arith, zero_2, two_bytes bytes 6) in
    let e7 : b 7 ≡ 0 = omega (arith, zero_2, two_bytes bytes 6) in
    let e12 : b 12 ≡ 0 = omega (arith, zero_4, four_bytes bytes 12) in
    let e13 : b 13 ≡ 0 = omega (arith, zero_4, four_bytes bytes 12) in
    let e14 : b 14 ≡ 0 = omega (arith, zero_4, four_bytes bytes 12) in
    let e15 : b 15 ≡ 0 = omega (arith, zero_4, four_bytes bytes 12) in
    λ i. gate i ∷ version i ∷ e2 i ∷ e3 i ∷ e4 i ∷ e5 i ∷ e6 i ∷ e7 i ∷ used.0 i ∷ used.1 i ∷ used.2 i ∷ used.3 i ∷ e12 i ∷ e13 i ∷ e14 i ∷ e15 i ∷ []

nonzero : (k : ℕ) → eqb k 0 ≡ false → 1 ≤ k
nonzero k e = grind (arith, nat_tests, e)

count_held : (largest left k : ℕ) → (eqb k 0 || (ltb largest k || ltb left k)) ≡ false → (1 ≤ k) × (k ≤ largest) × (k ≤ left)
count_held largest left k e =
    let some = or_parts (eqb k 0) (ltb largest k || ltb left k) e in
    let most = or_parts (ltb largest k) (ltb left k) some.1 in
    (nonzero k some.0, ltb-false largest k most.0, ltb-false left k most.1)

records_held : (k : ℕ) → (eqb k 0 || ltb 511 k) ≡ false → (1 ≤ k) × (k ≤ 511)
records_held k e = let some = or_parts (eqb k 0) (ltb 511 k) e in (nonzero k some.0, ltb-false 511 k some.1)

-- what the checks of a header say of it
pub record HeaderHolds (shape : Shape) (start : ℕ) (bytes : List ℕ) : Type 0 where
  pub version : get_or bytes 1 0 ≡ 1
  pub count : (1 ≤ (head_of bytes).sectors) × ((head_of bytes).sectors ≤ shape.block_sectors) × ((head_of bytes).sectors ≤ left_from shape start)
  pub records : (1 ≤ (head_of bytes).records) × ((head_of bytes).records ≤ 511)
  pub zero_2 : little_number 2 (drop 6 bytes) ≡ 0
  pub used : sectors (head_of bytes).used ≡ (head_of bytes).sectors
  pub zero_4 : little_number 4 (drop 12 bytes) ≡ 0

pub checks_held : (shape : Shape) (start : ℕ) (bytes : List ℕ) → head_fault shape start bytes ≡ None → HeaderHolds shape start bytes
checks_held shape start bytes e =
    let n = (head_of bytes).sectors in
    let after_used : Option ℕ = cond (not (eqb (little_number 4 (drop 12 bytes)) 0)) (Some 12) None in
    let after_zero : Option ℕ = cond (not (eqb (sectors (head_of bytes).used) n)) (Some 8) after_used in
    let after_records : Option ℕ = cond (not (eqb (little_number 2 (drop 6 bytes)) 0)) (Some 6) after_zero in
    let after_count : Option ℕ = cond (is_wrong_records (head_of bytes).records) (Some 4) after_records in
    let after_version : Option ℕ = cond (is_wrong_count shape start n) (Some 2) after_count in
    let version = no_fault (not (eqb (get_or bytes 1 0) 1)) 1 after_version e in
    let count = no_fault (is_wrong_count shape start n) 2 after_count version.1 in
    let records = no_fault (is_wrong_records (head_of bytes).records) 4 after_records count.1 in
    let zero = no_fault (not (eqb (little_number 2 (drop 6 bytes)) 0)) 6 after_zero records.1 in
    let used = no_fault (not (eqb (sectors (head_of bytes).used) n)) 8 after_used zero.1 in
    let last = no_fault (not (eqb (little_number 4 (drop 12 bytes)) 0)) 12 None used.1 in
    record {
      version = equal _ _ version.0;
      count = count_held shape.block_sectors (left_from shape start) n count.0;
      records = records_held (head_of bytes).records records.0;
      zero_2 = equal _ _ zero.0;
      used = equal _ _ used.0;
      zero_4 = equal _ _ last.0;
    }

-- what the checks up to the addresses say of a head
pub has_frame : (shape : Shape) (start : ℕ) (bytes : List ℕ) (head : BlockHead) → frame_at shape start bytes ≡ Ok head → HasFrame shape start bytes head
unfolding frame_at sectors_at
has_frame shape start bytes head is =
    let a = guard_ok _ _ _ _ is in
    let b = guard_ok _ _ _ _ a.1 in
    let c = guard_ok _ _ _ _ b.1 in
    let d = unless_ok BadByte (head_fault shape start bytes) (sectors_at start bytes (head_of bytes)) head c.1 in
    let e : (ltb (length bytes) (512 * (head_of bytes).sectors) ≡ false)
    × (unless_wrong BadByte (address_place (wrong_sector start bytes (head_of bytes).sectors)) (answered (head_of bytes)) ≡ Ok head) =
    guard_ok (ltb (length bytes) (512 * (head_of bytes).sectors)) (BadByte (length bytes)) _ head d.1 in
    let f = unless_ok BadByte (address_place (wrong_sector start bytes (head_of bytes).sectors)) (answered (head_of bytes)) head e.1 in
    let held = checks_held shape start bytes d.0 in
    subst (λ (h : BlockHead). HasFrame shape start bytes h) (one_head _ _ f.1)
    (record {
      gate = equal (get_or bytes 0 0) 165 b.0;
      numbers = refl;
      some = held.count.0;
      largest = held.count.1;
      left = held.count.2;
      records = held.records;
      used = held.used;
      whole = ltb-false (length bytes) (512 * (head_of bytes).sectors) e.0;
    })

-- ---- what is read is spelled so

module _ (shape : Shape) (start : ℕ) (bytes : List ℕ) (head : BlockHead) (fits : AreBytes bytes) (is : frame_at shape start bytes ≡ Ok head) where
  -- what is known of a head once its checks hold, by the numbers that stand in the bytes
  by_numbers : get_or bytes 0 0 ≡ 165 → HeaderHolds shape start bytes → 512 * (head_of bytes).sectors ≤ length bytes
      → wrong_sector start bytes (head_of bytes).sectors ≡ None
      → IsFramed shape start bytes (head_of bytes) (payload_of (head_of bytes).used bytes)
  by_numbers gate held whole right = record {
    gate = gate;
    numbers = refl;
    some = held.count.0;
    count = record { largest = held.count.1; left = held.count.2; field = omega (arith, two_bytes bytes 2, fits 2, fits 3) };
    records = held.records;
    used = held.used;
    whole = whole;
    addresses = λ i lt. eqb-true _ _
        (each_passes (λ j. eqb (address_in bytes j) (address start j)) 0 (head_of bytes).sectors right i (omega arith) (omega (arith, lt)));
    filled = refl;
    long = length-payload_of (head_of bytes).used bytes;
    header = λ some. take-map-range_with_len (λ p. get_or bytes (place_of p) 0) 0 (head_of bytes).used 16 some
        ∙ header_is bytes fits gate held.version held.zero_2 held.zero_4;
  }

  pub head_is_framed : IsFramed shape start bytes head (payload_of head.used bytes)
  unfolding frame_at sectors_at
  head_is_framed =
      let a = guard_ok _ _ _ _ is in
      let b = guard_ok _ _ _ _ a.1 in
      let c = guard_ok _ _ _ _ b.1 in
      let d = unless_ok BadByte (head_fault shape start bytes) (sectors_at start bytes (head_of bytes)) head c.1 in
      let e : (ltb (length bytes) (512 * (head_of bytes).sectors) ≡ false)
      × (unless_wrong BadByte (address_place (wrong_sector start bytes (head_of bytes).sectors)) (answered (head_of bytes)) ≡ Ok head) =
      guard_ok (ltb (length bytes) (512 * (head_of bytes).sectors)) (BadByte (length bytes)) _ head d.1 in
      let f = unless_ok BadByte (address_place (wrong_sector start bytes (head_of bytes).sectors)) (answered (head_of bytes)) head e.1 in
      subst (λ (h : BlockHead). IsFramed shape start bytes h (payload_of h.used bytes)) (one_head _ _ f.1)
      (by_numbers (equal (get_or bytes 0 0) 165 b.0) (checks_held shape start bytes d.0)
      (ltb-false (length bytes) (512 * (head_of bytes).sectors) e.0)
      (no_address (wrong_sector start bytes (head_of bytes).sectors) f.0))

  module _ (rest_is : rest_at bytes head ≡ Ok head) (some : 16 ≤ head.used) where
    pub spelled_by : (used_bytes (drop 16 (payload_of head.used bytes)) ≡ head.used)
        × SpellsBlock start 165 head.records (drop 16 (payload_of head.used bytes)) (take (512 * head.sectors) bytes)
    spelled_by =
        let count : sectors head.used ≡ head.sectors = head_is_framed.used in
        let clean : other_byte bytes head.used head.sectors ≡ None = no_payload (other_byte bytes head.used head.sectors)
        (unless_ok BadByte (payload_place (other_byte bytes head.used head.sectors)) (answered head) head rest_is).0 in
        let content = drop 16 (payload_of head.used bytes) in
        let block = take (512 * head.sectors) bytes in
        let size : used_bytes content ≡ head.used = omega (arith, some, length-drop 16 (payload_of head.used bytes), length-payload_of head.used bytes) in
        let n : sectors (used_bytes content) ≡ head.sectors = ap sectors size ∙ count in
        let long : length block ≡ 512 * head.sectors = length-take-le (512 * head.sectors) bytes head_is_framed.whole in
        let front : payload_of head.used block ≡ payload_of head.used bytes =
        payload_is head.used bytes (payload_of head.used block) (length-payload_of head.used block)
        (λ p lt. get_or-payload_of head.used block p lt ∙ get_or-take (512 * head.sectors) bytes (place_of p) 0
        (place_within p head.sectors (omega (arith, lt, count)))) in
        let split : payload_of head.used bytes ≡ head_bytes 165 head.sectors head.records head.used ++ content =
        sym (take-append-drop 16 (payload_of head.used bytes)) ∙ ap (λ (l : List ℕ). l ++ content) (head_is_framed.header some) in (
          size,
          record {
            whole = long ∙ ap (λ (k : ℕ). 512 * k) (sym n);
            used = ap (λ (k : ℕ). payload_of k block) size ∙ front ∙ split
                ∙ ap (λ (k : ℕ). head_bytes 165 k head.records head.used ++ content) (sym n)
                ∙ ap (λ (k : ℕ). head_bytes 165 (sectors (used_bytes content)) head.records k ++ content) (sym size);
            zeros = λ p past until.
                let within : p < 504 * head.sectors = omega (arith, until, n) in
                get_or-take (512 * head.sectors) bytes (place_of p) 0 (place_within p head.sectors within)
                ∙ eqb-true _ 0 (each_passes (λ q. eqb (get_or bytes (place_of q) 0) 0) head.used (504 * head.sectors - head.used) clean p
                (omega (arith, past, size)) (omega (arith, within)));
            addresses = λ i lt.
                let near : i < head.sectors = omega (arith, lt, n) in
                same_address block bytes i (λ k from until. get_or-take (512 * head.sectors) bytes k 0 (omega (arith, until, near)))
                ∙ head_is_framed.addresses i near;
          },
        )

-- ---- and back

module _ (shape : Shape) (start records : ℕ) (content block more bytes : List ℕ) (spells : SpellsBlock start 165 records content block) (some : 1 ≤ records)
    (few : records ≤ 511)
    (fits : IsCount shape start (sectors (used_bytes content))) (is : bytes ≡ block ++ more) where
  in_block : (k : ℕ) → k < 512 * sectors (used_bytes content) → get_or bytes k 0 ≡ get_or block k 0
  in_block k lt = ap (λ (l : List ℕ). get_or l k 0) is ∙ get_or_append_left block more 0 k (omega (arith, lt, spells.whole))

  long : 512 * sectors (used_bytes content) ≤ length bytes
  long = omega (arith, ap (λ (l : List ℕ). length l) is, length-append block more, spells.whole)

  pub payload_read : payload_of (used_bytes content) bytes ≡ used_payload 165 records content
  payload_read = payload_is (used_bytes content) block (payload_of (used_bytes content) bytes) (length-payload_of (used_bytes content) bytes)
      (λ p lt. get_or-payload_of (used_bytes content) bytes p lt ∙ in_block (place_of p) (place_within p (sectors (used_bytes content)) (omega (arith, lt))))
      ∙ spells.used

  -- a byte of the header
  byte_is : (p : ℕ) → p < 16 → get_or bytes p 0 ≡ get_or (used_payload 165 records content) p 0
  byte_is p lt =
      let place : place_of p ≡ p = omega (arith, lt) in
      sym (ap (λ (k : ℕ). get_or bytes k 0) place) ∙ sym (get_or-payload_of (used_bytes content) bytes p (omega (arith, lt))) ∙ ap
      (λ (l : List ℕ). get_or l p 0) payload_read

  head_is : head_of bytes ≡ head_for records content
  head_is =
      let count : (head_of bytes).sectors ≡ sectors (used_bytes content) =
      two_bytes bytes 2 ∙ omega (arith, byte_is 2 (omega arith), byte_is 3 (omega arith), whole_2 (sectors (used_bytes content)) fits.field) in
      let records_is : (head_of bytes).records ≡ records =
      two_bytes bytes 4 ∙ omega (arith, byte_is 4 (omega arith), byte_is 5 (omega arith), whole_2 records (omega (arith, few))) in
      let used : (head_of bytes).used ≡ used_bytes content =
      four_bytes bytes 8 ∙ omega (
        arith,
        byte_is 8 (omega arith),
        byte_is 9 (omega arith),
        byte_is 10 (omega arith),
        byte_is 11 (omega arith),
        whole_4 (used_bytes content) (omega (arith, fits.field)),
      ) in
      λ i. record { sectors = count i; records = records_is i; used = used i }

  count_passes : is_wrong_count shape start (sectors (used_bytes content)) ≡ false
  count_passes = passes_count shape.block_sectors (left_from shape start) (sectors (used_bytes content)) (omega arith) fits.largest fits.left
    where
      passes_count : (a b k : ℕ) → 1 ≤ k → k ≤ a → k ≤ b → (eqb k 0 || (ltb a k || ltb b k)) ≡ false
      passes_count a b k p q r = grind (arith, nat_tests)

  records_pass : is_wrong_records records ≡ false
  records_pass = passes_records records some few
    where
      passes_records : (k : ℕ) → 1 ≤ k → k ≤ 511 → (eqb k 0 || ltb 511 k) ≡ false
      passes_records k p q = grind (arith, nat_tests)

  header_passes : head_fault shape start bytes ≡ None
  header_passes =
      let count = ap (λ (h : BlockHead). is_wrong_count shape start h.sectors) head_is ∙ count_passes in
      let right = ap (λ (h : BlockHead). is_wrong_records h.records) head_is ∙ records_pass in
      let same : sectors (head_of bytes).used ≡ (head_of bytes).sectors = ap (λ (h : BlockHead). sectors h.used) head_is
      ∙ sym (ap (λ (h : BlockHead). h.sectors) head_is) in
      let zero_2 : little_number 2 (drop 6 bytes) ≡ 0 = two_bytes bytes 6 ∙ omega (arith, byte_is 6 (omega arith), byte_is 7 (omega arith)) in
      let zero_4 : little_number 4 (drop 12 bytes) ≡ 0 =
      four_bytes bytes 12 ∙ omega (arith, byte_is 12 (omega arith), byte_is 13 (omega arith), byte_is 14 (omega arith), byte_is 15 (omega arith)) in
      pass_check _ 1 _ (unequal_fails _ 1 (byte_is 1 (omega arith)))
      (pass_check _ 2 _ count
      (pass_check _ 4 _ right
      (pass_check _ 6 _ (unequal_fails _ 0 zero_2)
      (pass_check _ 8 _ (unequal_fails _ _ same)
      (pass_check _ 12 _ (unequal_fails _ 0 zero_4) refl)))))

  sectors_pass : sectors_at start bytes (head_for records content) ≡ answered (head_for records content)
  unfolding sectors_at
  sectors_pass =
      pass_guard _ _ _ _ (le-ltb (length bytes) (512 * sectors (used_bytes content)) long)
      (ap (λ (o : Option ℕ). unless_wrong BadByte (address_place o) (answered (head_for records content)))
      (none_fails (λ i. eqb (address_in bytes i) (address start i)) 0 (sectors (used_bytes content))
      (λ i le lt. eq-eqb _ _ (same_address bytes block i (λ k from until. in_block k (omega (arith, until, lt)))
      ∙ spells.addresses i (omega (arith, lt))))))

  pub frame_read : frame_at shape start bytes ≡ answered (head_for records content)
  unfolding frame_at
  frame_read =
      pass_guard _ _ _ _ (ne_eqb (length bytes) 0 (λ e. absurd (omega (arith, e, long))))
      (pass_guard _ _ _ _ (unequal_fails _ 165 (byte_is 0 (omega arith)))
      (pass_guard _ _ _ _ (le-ltb (length bytes) 512 (omega (arith, long)))
      (ap (λ (o : Option ℕ). unless_wrong BadByte o (sectors_at start bytes (head_of bytes))) header_passes
      ∙ ap (λ (h : BlockHead). sectors_at start bytes h) head_is ∙ sectors_pass)))

  pub rest_read : rest_at bytes (head_for records content) ≡ answered (head_for records content)
  rest_read = ap (λ (o : Option ℕ). unless_wrong BadByte (payload_place o) (answered (head_for records content)))
      (none_fails (λ p. eqb (get_or bytes (place_of p) 0) 0) (used_bytes content) (504 * sectors (used_bytes content) - used_bytes content)
      (λ p le lt.
      let within : p < 504 * sectors (used_bytes content) = omega (arith, lt) in
      eq-eqb _ 0 (in_block (place_of p) (place_within p (sectors (used_bytes content)) within) ∙ spells.zeros p (omega (arith, le)) within)))

pub not_refused : {answer : Result BlockHead BlockRefusal} {refusal : BlockRefusal} {head : BlockHead} → answer ≡ Err refusal → answer ≡ Ok head → ⊥
not_refused p q = cc (p, q)

rest_keeps : (wrong : Option ℕ) (head other : BlockHead) → unless_wrong BadByte wrong (answered head) ≡ Ok other → other ≡ head
rest_keeps None head other e = sym (one_head _ _ e)
rest_keeps (Some at) head other e = absurd (cc e)

pub is_framed : (shape : Shape) (start : ℕ) (bytes payload : List ℕ) (head : BlockHead) → AreBytes bytes → frame_at shape start bytes ≡ Ok head
    → payload ≡ payload_of head.used bytes → IsFramed shape start bytes head payload
is_framed shape start bytes payload head fits is filled =
    subst (λ (l : List ℕ). IsFramed shape start bytes head l) (sym filled) (head_is_framed shape start bytes head fits is)

-- a block that is answered is spelled so
pub answered_is_spelled : (shape : Shape) (start : ℕ) (bytes payload : List ℕ) (head : BlockHead) (answer : Result BlockHead BlockRefusal) → AreBytes bytes
    → frame_at shape start bytes ≡ Ok head → answer ≡ rest_at bytes head → payload ≡ payload_of head.used bytes
    → IfOk answer (λ h. 16 ≤ h.used → (used_bytes (drop 16 payload) ≡ h.used)
    × SpellsBlock start 165 h.records (drop 16 payload) (take (512 * h.sectors) bytes))
answered_is_spelled shape start bytes payload head (Err refusal) fits framed is filled = tt
answered_is_spelled shape start bytes payload head (Ok h) fits framed is filled = λ some.
    let same : h ≡ head = rest_keeps (payload_place (other_byte bytes head.used head.sectors)) head h (sym is) in
    let passed : rest_at bytes head ≡ Ok head = sym is ∙ ap answered same in
    let result = spelled_by shape start bytes head fits framed passed (subst (λ (x : BlockHead). 16 ≤ x.used) same some) in
    subst (λ (l : List ℕ). (used_bytes (drop 16 l) ≡ h.used) × SpellsBlock start 165 h.records (drop 16 l) (take (512 * h.sectors) bytes)) (sym filled)
    (subst (λ (x : BlockHead). (used_bytes (drop 16 (payload_of head.used bytes)) ≡ x.used)
    × SpellsBlock start 165 x.records (drop 16 (payload_of head.used bytes)) (take (512 * x.sectors) bytes)) (sym same) result)

-- and is framed so
pub answered_is_framed : (shape : Shape) (start : ℕ) (bytes payload : List ℕ) (head : BlockHead) (answer : Result BlockHead BlockRefusal) → AreBytes bytes
    → frame_at shape start bytes ≡ Ok head → answer ≡ rest_at bytes head → payload ≡ payload_of head.used bytes
    → IfOk answer (λ h. IsFramed shape start bytes h payload)
answered_is_framed shape start bytes payload head (Err refusal) fits is rest filled = tt
answered_is_framed shape start bytes payload head (Ok h) fits is rest filled =
    let same : head ≡ h = sym (rest_keeps (payload_place (other_byte bytes head.used head.sectors)) head h (sym rest)) in
    subst (λ (x : BlockHead). IsFramed shape start bytes x payload) same (is_framed shape start bytes payload head fits is filled)

unless_bad : (wrong : Option ℕ) (head : BlockHead) (at : ℕ) → unless_wrong BadByte wrong (answered head) ≡ Err (BadByte at) → wrong ≡ Some at
unless_bad None head at e = absurd (cc e)
unless_bad (Some k) head at e = cc e

-- a byte that is wrong after the checks up to the addresses is one after the used ones
pub wrong_is_behind : (shape : Shape) (start : ℕ) (bytes payload : List ℕ) (head : BlockHead) (answer : Result BlockHead BlockRefusal) (at : ℕ)
    → AreBytes bytes → frame_at shape start bytes ≡ Ok head → answer ≡ rest_at bytes head → payload ≡ payload_of head.used bytes
    → answer ≡ Err (BadByte at) → IsWrongBehind shape start bytes payload at
wrong_is_behind shape start bytes payload head answer at fits is rest filled wrong = record {
  head = head;
  framed = is_framed shape start bytes payload head fits is filled;
  other = unless_bad (payload_place (other_byte bytes head.used head.sectors)) head at (sym rest ∙ wrong);
}

unless_open : (wrong : Option ℕ) (head : BlockHead) → unless_wrong BadByte wrong (answered head) ≡ Err Closed → ⊥
unless_open None head e = cc e
unless_open (Some k) head e = cc e

pub rest_is_open : (bytes : List ℕ) (head : BlockHead) → rest_at bytes head ≡ Err Closed → ⊥
rest_is_open bytes head e = unless_open (payload_place (other_byte bytes head.used head.sectors)) head e
