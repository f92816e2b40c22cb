-- The bytes of records in the payload of their block.
use Rattle.clfs_queue.proofs.Words.{◌≡◌, ℕ, ◌+◌, ◌-◌, ◌%◌, ◌<◌, ◌≤◌, List, [], ◌∷◌, ◌++◌, length, get_or, take, drop, refl, sym, ◌∙◌, ap, arith}
use Rattle.clfs_queue.proofs.Words.{length-append, length-drop, flat_map, length-take-le, drop_at, take-append-le, flat_map-append, size, record_bytes}
use Rattle.clfs_queue.proofs.Words.{LogEntry, place_of, payload_of, payload_from}
use Rattle.std.proofs.lemmas.List.{ext_get_or, get_or-take, get_or-drop}
use Rattle.std.proofs.lemmas.List.FromFn.{length-map-range_with_len, get_or-map-range_with_len}

-- how many bytes of the payload there are
pub length-payload : (count : ℕ) (block : List ℕ) → length (payload_of count block) ≡ count
length-payload count block = length-map-range_with_len (λ p. get_or block (place_of p) 0) 0 count

-- a part of the payload after the header is a part of the records' bytes
pub part_of_content : (used n k : ℕ) (block content : List ℕ) → drop 16 (payload_of used block) ≡ content → 16 + n + k ≤ used
    → payload_from (16 + n) k block ≡ take k (drop n content)
part_of_content used n k block content is within =
    let read : ℕ → ℕ = λ p. get_or block (place_of p) 0 in
    let long : length (payload_from (16 + n) k block) ≡ k = length-map-range_with_len read (16 + n) k in
    let size : length content ≡ used - 16 = ap (λ (l : List ℕ). length l) (sym is) ∙ omega (arith, length-drop 16 (payload_of used block), length-payload used block) in
    ext_get_or 0 (payload_from (16 + n) k block) (take k (drop n content))
    (long ∙ sym (length-take-le k (drop n content) (omega (arith, within, size, length-drop n content))))
    (λ p lt.
    let near : p < k = omega (arith, lt, long) in
    get_or-map-range_with_len read (16 + n) k p (16 + n + p) 0 near refl
    ∙ sym (get_or-take k (drop n content) p 0 near ∙ get_or-drop n content p 0
    ∙ ap (λ (l : List ℕ). get_or l (n + p) 0) (sym is) ∙ get_or-drop 16 (payload_of used block) (n + p) 0
    ∙ get_or-map-range_with_len read 0 used (16 + (n + p)) (16 + n + p) 0 (omega (arith, within, near)) (omega arith)))

-- after the bytes of some records come those of the next
pub content_behind : (before behind : List LogEntry) (entry : LogEntry)
    → drop (length (flat_map record_bytes before)) (flat_map record_bytes (before ++ entry ∷ behind)) ≡ record_bytes entry ++ flat_map record_bytes behind
content_behind before behind entry =
    ap (λ (l : List ℕ). drop (length (flat_map record_bytes before)) l) (flat_map-append record_bytes before (entry ∷ behind))
    ∙ drop_at (flat_map record_bytes before) (record_bytes entry ++ flat_map record_bytes behind) (length (flat_map record_bytes before)) refl

-- a place of the payload lies no further on than the places after it
pub place_grows : (p q : ℕ) → p ≤ q → place_of p ≤ place_of q
place_grows p q le = omega (arith, le)

-- what follows from the length of a record's bytes, which is its size
module _ (sized : (entry : LogEntry) → length (record_bytes entry) ≡ size (length entry.bytes)) where
  -- records take whole multiples of 8 bytes
  pub content_aligned : (entries : List LogEntry) → length (flat_map record_bytes entries) % 8 ≡ 0
  content_aligned [] = refl
  content_aligned (entry ∷ entries) =
      omega (arith, length-append (record_bytes entry) (flat_map record_bytes entries), sized entry, content_aligned entries)

  -- one more record takes its size more
  pub content_more : (before : List LogEntry) (entry : LogEntry)
      → length (flat_map record_bytes (before ++ entry ∷ [])) ≡ length (flat_map record_bytes before) + size (length entry.bytes)
  content_more before entry =
      ap (λ (l : List ℕ). length l) (flat_map-append record_bytes before (entry ∷ []))
      ∙ omega (arith, length-append (flat_map record_bytes before) (record_bytes entry ++ []), length-append (record_bytes entry) [], sized entry)

  module _ (used : ℕ) (block : List ℕ) (before behind : List LogEntry) (entry : LogEntry)
      (is : drop 16 (payload_of used block) ≡ flat_map record_bytes (before ++ entry ∷ behind)) where
    -- a record lies within the used payload
    pub record_within : 16 + length (flat_map record_bytes before) + size (length entry.bytes) ≤ used
    record_within =
        let content : List ℕ = flat_map record_bytes (before ++ entry ∷ behind) in
        let n = length (flat_map record_bytes before) in
        let long : length content ≡ used - 16 = ap (λ (l : List ℕ). length l) (sym is) ∙ omega (arith, length-drop 16 (payload_of used block), length-payload used block) in
        let all : length (drop n content) ≡ length (record_bytes entry) + length (flat_map record_bytes behind) =
        ap (λ (l : List ℕ). length l) (content_behind before behind entry) ∙ length-append (record_bytes entry) (flat_map record_bytes behind) in
        omega (arith, long, all, length-drop n content, sized entry)

    -- its bytes stand there where those before it end
    pub record_in_payload : (k : ℕ) → k ≤ size (length entry.bytes)
        → payload_from (16 + length (flat_map record_bytes before)) k block ≡ take k (record_bytes entry)
    record_in_payload k few =
        let content : List ℕ = flat_map record_bytes (before ++ entry ∷ behind) in
        let n = length (flat_map record_bytes before) in
        part_of_content used n k block content is (omega (arith, few, record_within))
        ∙ ap (λ (l : List ℕ). take k l) (content_behind before behind entry)
        ∙ take-append-le k (record_bytes entry) (flat_map record_bytes behind) (omega (arith, few, sized entry))
