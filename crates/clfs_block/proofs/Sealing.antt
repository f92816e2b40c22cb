-- A buffer whose payload stands at its places becomes a block once header, zeros and addresses are written.
use Rattle.clfs_block.proofs.Words.{◌≡◌, ⊎_elim, ℕ, ◌+◌, ◌-◌, ◌*◌, ◌%◌, ◌<◌, ◌≤◌, List, ◌++◌, length, get_or, drop, replicate, refl, sym, ◌∙◌, ap, arith}
use Rattle.clfs_block.proofs.Words.{length-append, length-drop, get_or-drop, get_or_append_left, get_or-append_right, drop_at, cases_lt, sectors, place_of}
use Rattle.clfs_block.proofs.Words.{payload_of, address, address_in, head_bytes, used_bytes, SpellsBlock}
use Rattle.std.proofs.lemmas.List.{get_or-replicate, get_or_past, length-replicate}
use Rattle.clfs_block.proofs.Frames.{length-payload_of, get_or-payload_of, payload_is, place_below, place_above, place_in_payload, place_within}

module _ (start gate records used count m : ℕ) (old headed bytes : List ℕ) (place : length old ≡ place_of used) (some : 16 ≤ used) (count_is : count ≡ sectors used)
    (is : headed ≡ head_bytes gate count records used ++ drop 16 (old ++ replicate m 0)) (long : length bytes ≡ 512 * count)
    (same : (k : ℕ) → k % 512 < 504 → get_or bytes k 0 ≡ get_or headed k 0) (addresses : (i : ℕ) → i < count → address_in bytes i ≡ address start i) where
  -- the records' bytes
  content : List ℕ
  content = drop 16 (payload_of used old)

  content_length : used_bytes content ≡ used
  unfolding content
  content_length = omega (arith, some, length-drop 16 (payload_of used old), length-payload_of used old)

  behind_header : (k : ℕ) → 16 ≤ k → get_or headed k 0 ≡ get_or (old ++ replicate m 0) k 0
  behind_header k le =
      let index : 16 + (k - 16) ≡ k = omega (arith, le) in
      ap (λ (l : List ℕ). get_or l k 0) is ∙ get_or-append_right (head_bytes gate count records used) (drop 16 (old ++ replicate m 0)) 16 k 0 refl le
      ∙ get_or-drop 16 (old ++ replicate m 0) (k - 16) 0 ∙ ap (λ (n : ℕ). get_or (old ++ replicate m 0) n 0) index

  in_header : (k : ℕ) → k < 16 → get_or headed k 0 ≡ get_or (head_bytes gate count records used) k 0
  in_header k lt = ap (λ (l : List ℕ). get_or l k 0) is ∙ get_or_append_left (head_bytes gate count records used) (drop 16 (old ++ replicate m 0)) 0 k lt

  pub used_is : payload_of used bytes ≡ head_bytes gate count records used ++ drop 16 (payload_of used old)
  used_is = sym (payload_is used bytes (head_bytes gate count records used ++ drop 16 (payload_of used old))
      (omega (
        arith,
        some,
        length-append (head_bytes gate count records used) (drop 16 (payload_of used old)),
        length-drop 16
            (payload_of used old),
        length-payload_of used old,
      ))
      (λ p lt. ⊎_elim
      (λ (low : p < 16).
      let here : place_of p ≡ p = omega (arith, low) in
      get_or_append_left (head_bytes gate count records used) (drop 16 (payload_of used old)) 0 p low ∙ sym (in_header p low)
      ∙ sym (ap (λ (k : ℕ). get_or bytes k 0) here ∙ same p (omega (arith, low))))
      (λ (high : 16 ≤ p).
      let index : 16 + (p - 16) ≡ p = omega (arith, high) in
      let within : place_of p < length old = omega (arith, place_below p used lt, place) in
      let past : 16 ≤ place_of p = omega (arith, high) in
      get_or-append_right (head_bytes gate count records used) (drop 16 (payload_of used old)) 16 p 0 refl high
      ∙ get_or-drop 16 (payload_of used old) (p - 16) 0 ∙ ap (λ (n : ℕ). get_or (payload_of used old) n 0) index ∙ get_or-payload_of used old p lt
      ∙ sym (same (place_of p) (place_in_payload p) ∙ behind_header (place_of p) past ∙ get_or_append_left old (replicate m 0) 0 (place_of p) within))
      (cases_lt p 16)))

  zeros_are : (p : ℕ) → used ≤ p → get_or bytes (place_of p) 0 ≡ 0
  zeros_are p le =
      let past : length old ≤ place_of p = omega (arith, place_above p used le, place) in
      same (place_of p) (place_in_payload p) ∙ behind_header (place_of p) (omega (arith, le, some))
      ∙ get_or-append_right old (replicate m 0) (length old) (place_of p) 0 refl past
      ∙ ⊎_elim
      (λ (lt : place_of p - length old < m). get_or-replicate m (place_of p - length old) 0 0 lt)
      (λ (far : m ≤ place_of p - length old). get_or_past (replicate m 0) (place_of p - length old) 0 (omega (arith, far, length-replicate {A = ℕ} m 0)))
      (cases_lt (place_of p - length old) m)

  pub spells : SpellsBlock start gate records (drop 16 (payload_of used old)) bytes
  unfolding content
  spells =
      let size : used_bytes (drop 16 (payload_of used old)) ≡ used = content_length in
      let n : sectors (used_bytes (drop 16 (payload_of used old))) ≡ count = ap sectors size ∙ sym count_is in
      record {
        whole = long ∙ ap (λ (k : ℕ). 512 * k) (sym n);
        used = ap (λ (k : ℕ). payload_of k bytes) size ∙ used_is
            ∙ ap (λ (k : ℕ). head_bytes gate k records used ++ drop 16 (payload_of used old)) (sym n)
            ∙ ap (λ (k : ℕ). head_bytes gate (sectors (used_bytes (drop 16 (payload_of used old)))) records k ++ drop 16 (payload_of used old)) (sym size);
        zeros = λ p past until. zeros_are p (omega (arith, past, size));
        addresses = λ i lt. addresses i (omega (arith, lt, n));
      }

-- the records' bytes are still there, whatever follows the block
pub content_kept : (start gate records : ℕ) (content bytes more : List ℕ) → SpellsBlock start gate records content bytes
    → drop 16 (payload_of (used_bytes content) (bytes ++ more)) ≡ content
content_kept start gate records content bytes more spelled =
    let used = used_bytes content in
    let front : payload_of used (bytes ++ more) ≡ payload_of used bytes =
    payload_is used bytes (payload_of used (bytes ++ more)) (length-payload_of used (bytes ++ more))
    (λ p lt. get_or-payload_of used (bytes ++ more) p lt
    ∙ get_or_append_left bytes more 0 (place_of p) (omega (arith, place_within p (sectors used) (omega (arith, lt)), spelled.whole))) in
    ap (λ (l : List ℕ). drop 16 l) (front ∙ spelled.used) ∙ drop_at (head_bytes gate (sectors used) records used) content 16 refl
