-- A record that a block holds, and those before it.
use Rattle.clfs_queue.proofs.Words.{◌≡◌, ℕ, ◌+◌, ◌<◌, ◌≤◌, ◌^◌, List, ◌∷◌, ◌++◌, length, get_or, take, drop, replicate, refl, sym, ◌∙◌, ap, subst, arith}
use Rattle.clfs_queue.proofs.Words.{append_assoc, take-append-drop, flat_map, length-take-le, drop_more, drop-drop, drop_at, take_at, size, header_bytes}
use Rattle.clfs_queue.proofs.Words.{filling, record_bytes, LogEntry, payload_from, AreInRow, IsHeld, payload_before}
use Rattle.clfs_queue.proofs.InRow.{row_at}
use Rattle.clfs_queue.proofs.Contents.{part_of_content, content_behind, record_within, record_in_payload}

-- a record's data are none too long for its header
pub held_small : (bytes : List ℕ) (position : ℕ) (entry : LogEntry) → IsHeld bytes position entry → length entry.bytes < 2 ^ 32
held_small bytes position entry held = (row_at held.start held.before held.behind entry held.row).bytes

-- a list with one of its front's elements written out
abbrev pub parted : (before behind : List LogEntry) (entry : LogEntry) (i : ℕ) → i < length before
    → before ++ entry ∷ behind ≡ take i before ++ get_or before i entry ∷ (drop (i + 1) before ++ entry ∷ behind)
parted before behind entry i lt =
    ap (λ (l : List LogEntry). l ++ entry ∷ behind) (sym (take-append-drop i before) ∙ ap (λ (l : List LogEntry). take i before ++ l) (drop_more before i entry lt))
    ∙ append_assoc (take i before) (get_or before i entry ∷ drop (i + 1) before) (entry ∷ behind)

-- each record before it is held as well
abbrev pub held_before : (bytes : List ℕ) (position : ℕ) (entry : LogEntry) (held : IsHeld bytes position entry) (i : ℕ) → i < position
    → IsHeld bytes i (get_or held.before i entry)
held_before bytes position entry held i lt =
    let near : i < length held.before = omega (arith, lt, held.position_is) in
    let split = parted held.before held.behind entry i near in
    record {
      before = take i held.before;
      behind = drop (i + 1) held.before ++ entry ∷ held.behind;
      position_is = length-take-le i held.before (omega (arith, near));
      start = held.start;
      row = subst (λ (l : List LogEntry). AreInRow held.start l) split held.row;
      used = held.used;
      there = held.there;
      content = held.content ∙ ap (λ (l : List LogEntry). flat_map record_bytes l) split;
    }

-- what follows from the length of a record's bytes, which is its size
module _ (sized : (entry : LogEntry) → length (record_bytes entry) ≡ size (length entry.bytes)) (bytes : List ℕ) (position : ℕ) (entry : LogEntry)
    (held : IsHeld bytes position entry) where
  -- it lies within the used payload
  pub held_within : payload_before held + size (length entry.bytes) ≤ held.used
  held_within = record_within sized held.used bytes held.before held.behind entry held.content

  -- its bytes stand in the payload
  pub held_bytes : (k : ℕ) → k ≤ size (length entry.bytes) → payload_from (payload_before held) k bytes ≡ take k (record_bytes entry)
  held_bytes k few = record_in_payload sized held.used bytes held.before held.behind entry held.content k few

  -- its data stand after its header
  pub held_data : payload_from (payload_before held + 32) (length entry.bytes) bytes ≡ entry.bytes
  held_data =
      let n = length (flat_map record_bytes held.before) in
      let content : List ℕ = flat_map record_bytes (held.before ++ entry ∷ held.behind) in
      let zeros : List ℕ = replicate (filling (length entry.bytes)) 0 in
      let rest : List ℕ = flat_map record_bytes held.behind in
      let part : drop (n + 32) content ≡ entry.bytes ++ (zeros ++ rest) =
      sym (drop-drop 32 n content) ∙ ap (λ (l : List ℕ). drop 32 l) (content_behind held.before held.behind entry
      ∙ append_assoc (header_bytes entry) (entry.bytes ++ zeros) rest)
      ∙ drop_at (header_bytes entry) (entry.bytes ++ zeros ++ rest) 32 refl ∙ append_assoc entry.bytes zeros rest in
      let index : 16 + (n + 32) ≡ payload_before held + 32 = omega arith in
      ap (λ (k : ℕ). payload_from k (length entry.bytes) bytes) (sym index)
      ∙ part_of_content held.used (n + 32) (length entry.bytes) bytes content held.content (omega (arith, held_within))
      ∙ ap (λ (l : List ℕ). take (length entry.bytes) l) part ∙ take_at entry.bytes (zeros ++ rest) (length entry.bytes) refl
