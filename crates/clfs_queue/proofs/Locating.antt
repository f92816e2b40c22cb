-- Where a record lies in the bytes of a queue, by its LSN.
use Rattle.clfs_queue.proofs.Words.{◌≡◌, inl, inr, ⊎_elim, ℕ, ◌+◌, ◌-◌, ◌*◌, ◌%◌, ◌<◌, ◌≤◌, List, [], ◌∷◌, ◌++◌, length, drop, refl, sym, ◌∙◌, ap, subst}
use Rattle.clfs_queue.proofs.Words.{arith, append_assoc, length-append, Some, IsSome, flat_map, concat, nat_tests, drop-drop, drop_at, lsn_number, offset_of}
use Rattle.clfs_queue.proofs.Words.{sequence_of, sectors, record_bytes, Shape, Place, LogEntry, used_bytes, total, Queued, data_at, AreInRow, IsBlock}
use Rattle.clfs_queue.proofs.Words.{AreBlocks, IsHeld, IsOpenPart, EndsWith, IsKept}
use Rattle.std.proofs.Common.{◌⊎◌, ◌==◌}
use Rattle.std.proofs.lemmas.Bool.{cases_Bool}
use Rattle.clfs_block.specs.Frame.{head_bytes}
use Rattle.clfs_block.specs.Judging.{AreReadAsWritten}
use Rattle.clfs_queue.proofs.InRow.{row_at}
use Rattle.clfs_queue.proofs.Blocks.{length-concat, total_whole}
use Rattle.clfs_queue.proofs.Sealing.{is_open}

-- A record with this LSN is among some, and its data are those that are found by the LSN.
pub record IsAmong (lsn : ℕ) (records : List LogEntry) : Type 0 where
  pub before : List LogEntry
  pub entry : LogEntry
  pub behind : List LogEntry
  pub split : records ≡ before ++ entry ∷ behind
  pub lsn_is : entry.lsn ≡ lsn
  pub found : data_at lsn records ≡ Some entry.bytes

-- The data that are found by an LSN are those of a record that bytes hold, from its block on, which begins so far after an offset.
pub record IsFound (first : ℕ) (bytes : List ℕ) (lsn : ℕ) (records : List LogEntry) : Type 0 where
  pub entry : LogEntry
  pub data_is : data_at lsn records ≡ Some entry.bytes
  pub low : first ≤ offset_of lsn
  pub high : offset_of lsn - first ≤ length bytes
  pub held : IsHeld (drop (offset_of lsn - first) bytes) (sequence_of lsn) entry

-- a record whose data are found is among the records
pub among : (lsn : ℕ) (records : List LogEntry) → IsSome (data_at lsn records) → IsAmong lsn records
among lsn [] some = absurd (cc some)
among lsn (entry ∷ records) some = elim (cases_Bool (entry.lsn == lsn)) [
  | inl is ↦ record {
    before = [];
    entry = entry;
    behind = records;
    split = refl;
    lsn_is = grind (arith, nat_tests);
    found = rw is refl;
  }
  | inr apart ↦
      let later = among lsn records (rw apart at some) in
      record {
        before = entry ∷ later.before;
        entry = later.entry;
        behind = later.behind;
        split = ap (λ (l : List LogEntry). entry ∷ l) later.split;
        lsn_is = later.lsn_is;
        found = rw apart later.found;
      }
]

-- a record of two lists together is one of the first or of the second
either_part : (own others before behind : List LogEntry) (entry : LogEntry) → own ++ others ≡ before ++ entry ∷ behind
    → ((rest : List LogEntry) × (own ≡ before ++ entry ∷ rest)) ⊎ ((front : List LogEntry) × (others ≡ front ++ entry ∷ behind))
either_part [] others before behind entry is = inr (before, is)
either_part (x ∷ own) others [] behind entry is =
    let same : x ≡ entry = cc in
    inl (own, ap (λ (e : LogEntry). e ∷ own) same)
either_part (x ∷ own) others (y ∷ before) behind entry is =
    let same : x ≡ y = cc in
    let rest : own ++ others ≡ before ++ entry ∷ behind = cc in
    elim (either_part own others before behind entry rest) [
      | inl here ↦ inl (here.0, ap (λ (e : LogEntry). e ∷ own) same ∙ ap (λ (l : List LogEntry). y ∷ l) here.1)
      | inr later ↦ inr later
    ]

-- no record is one of none
no_split : (before behind : List LogEntry) (entry : LogEntry) → [] ≡ before ++ entry ∷ behind → ⊥
no_split [] behind entry is = cc is
no_split (x ∷ before) behind entry is = cc is

-- the parts of an LSN in a block
parts_of : (id offset lsn n : ℕ) → offset % 512 ≡ 0 → offset ≤ 512 * 16384 → n < 511 → lsn ≡ lsn_number id offset 0 + n
    → (offset_of lsn ≡ offset) × (sequence_of lsn ≡ n)
parts_of id offset lsn n whole low few is = (omega (arith, is, whole, low, few), omega (arith, is, whole, low, few))

-- where there is a record after the waiting blocks, a block is open
some_open : (place : Place) (opened : List LogEntry) (part : List ℕ) (before behind : List LogEntry) (entry : LogEntry) → EndsWith place opened part
    → opened ≡ before ++ entry ∷ behind → IsOpenPart place opened part
some_open place opened part before behind entry (inl closed) is = absurd (no_split before behind entry (sym closed.1 ∙ is))
some_open place opened part before behind entry (inr here) is = here

-- what a reader of written blocks is told
module _ (read : AreReadAsWritten) where
  -- a record that a sealed block has is held by its bytes, whatever follows
  held_sealed : (shape : Shape) (start : ℕ) (before behind : List LogEntry) (entry : LogEntry) (block rest : List ℕ)
      → IsBlock shape start (before ++ entry ∷ behind) block → IsHeld (block ++ rest) (length before) entry
  held_sealed shape start before behind entry block rest is =
      let own : List LogEntry = before ++ entry ∷ behind in
      let content : List ℕ = flat_map record_bytes own in
      record {
        before = before;
        behind = behind;
        position_is = refl;
        start = start;
        row = is.row;
        used = used_bytes content;
        there = omega (arith, is.spelled.whole, length-append block rest);
        content = ap (λ (l : List ℕ). drop 16 l) (read.payload shape start (length own) content block rest is.spelled is.some is.few is.count)
            ∙ drop_at (head_bytes 165 (sectors (used_bytes content)) (length own) (used_bytes content)) content 16 refl;
      }

  -- a record of the waiting blocks is held by the bytes from its block on
  located_sealed : (shape : Shape) (id offset : ℕ) (starts : List ℕ) (done : List LogEntry) (blocks : List (List ℕ)) (tail : List ℕ)
      (before behind : List LogEntry) (entry : LogEntry) → AreBlocks shape id offset starts done blocks → done ≡ before ++ entry ∷ behind
      → offset % 512 ≡ 0 → offset + total blocks ≤ 512 * 16384
      → (offset ≤ offset_of entry.lsn) × (offset_of entry.lsn - offset ≤ total blocks)
      × IsHeld (drop (offset_of entry.lsn - offset) (concat blocks ++ tail)) (sequence_of entry.lsn) entry
  located_sealed shape id offset [] done [] tail before behind entry none is whole low = absurd (no_split before behind entry (sym none ∙ is))
  located_sealed shape id offset [] done (b ∷ blocks) tail before behind entry none is whole low = absurd none
  located_sealed shape id offset (s ∷ starts) done [] tail before behind entry none is whole low = absurd none
  located_sealed shape id offset (s ∷ starts) done (b ∷ blocks) tail before behind entry all is whole low =
      let own : List LogEntry = all.1.0 in
      let others : List LogEntry = all.1.1 in
      let rest : List ℕ = concat blocks ++ tail in
      let regrouped : b ++ rest ≡ b ++ concat blocks ++ tail = sym (append_assoc b (concat blocks) tail) in
      let block_whole : length b % 512 ≡ 0 = omega (arith, all.1.3.spelled.whole) in
      ⊎_elim {C = (offset ≤ offset_of entry.lsn) × (offset_of entry.lsn - offset ≤ length b + total blocks)
      × IsHeld (drop (offset_of entry.lsn - offset) (b ++ concat blocks ++ tail)) (sequence_of entry.lsn) entry}
      (λ here.
      let new : IsBlock shape s (before ++ entry ∷ here.0) b = subst (λ (l : List LogEntry). IsBlock shape s l b) here.1 all.1.3 in
      let parts = parts_of id offset entry.lsn (length before) whole (omega (arith, low))
      (omega (arith, new.few, length-append before (entry ∷ here.0)))
      ((row_at s before here.0 entry new.row).at ∙ ap (λ (n : ℕ). n + length before) all.0) in
      let none : offset_of entry.lsn - offset ≡ 0 = omega (arith, parts.0) in (
        omega (arith, parts.0),
        omega (arith, none),
        subst (λ (n : ℕ). IsHeld (drop n (b ++ concat blocks ++ tail)) (sequence_of entry.lsn) entry) (sym none)
            (subst (λ (l : List ℕ). IsHeld l (sequence_of entry.lsn) entry) regrouped
            (subst (λ (n : ℕ). IsHeld (b ++ rest) n entry) (sym parts.1) (held_sealed shape s before here.0 entry b rest new))),
      ))
      (λ later.
      let further = located_sealed shape id (offset + length b) starts others blocks tail later.0 behind entry all.1.4 later.1
      (omega (arith, whole, block_whole)) (omega (arith, low)) in
      let n = offset_of entry.lsn - (offset + length b) in
      let index : length b + n ≡ offset_of entry.lsn - offset = omega (arith, further.0) in
      let there : drop (offset_of entry.lsn - offset) (b ++ concat blocks ++ tail) ≡ drop n rest =
      ap (λ (k : ℕ). drop k (b ++ concat blocks ++ tail)) (sym index) ∙ ap (λ (l : List ℕ). drop (length b + n) l) (sym regrouped)
      ∙ sym (drop-drop n (length b) (b ++ rest)) ∙ ap (λ (l : List ℕ). drop n l) (drop_at b rest (length b) refl) in (
        omega (arith, further.0),
        omega (arith, further.1, index),
        subst (λ (l : List ℕ). IsHeld l (sequence_of entry.lsn) entry) (sym there) further.2,
      ))
      (either_part own others before behind entry (sym all.1.2 ∙ is))

  -- a record of the open block is held by its bytes
  located_open : (place : Place) (opened : List LogEntry) (part : List ℕ) (before behind : List LogEntry) (entry : LogEntry)
      → IsOpenPart place opened part → opened ≡ before ++ entry ∷ behind → place.offset % 512 ≡ 0 → place.offset ≤ 512 * 16384 → place.records ≤ 511
      → (offset_of entry.lsn ≡ place.offset) × IsHeld part (sequence_of entry.lsn) entry
  located_open place opened part before behind entry here is whole low few =
      let start = lsn_number place.container place.offset 0 in
      let row : AreInRow start (before ++ entry ∷ behind) = subst (λ (l : List LogEntry). AreInRow start l) is here.row in
      let count : length opened ≡ length before + (1 + length behind) = ap (λ (l : List LogEntry). length l) is ∙ omega (arith, length-append before (entry ∷ behind)) in
      let parts = parts_of place.container place.offset entry.lsn (length before) whole low (omega (arith, count, here.count, few)) (row_at start before behind entry row).at in (
        parts.0,
        record {
          before = before;
          behind = behind;
          position_is = sym parts.1;
          start = start;
          row = row;
          used = place.used;
          there = omega (arith, here.length_is);
          content = here.content ∙ ap (λ (l : List LogEntry). flat_map record_bytes l) is;
        },
      )

  -- Each record of a queue is held by the bytes from its block on.
  pub located : (q : Queued) (bytes : List ℕ) (sealed_bytes memory starts_memory : ℕ) (kept : IsKept q bytes sealed_bytes memory starts_memory)
      (before behind : List LogEntry) (entry : LogEntry) → q.records ≡ before ++ entry ∷ behind
      → (q.place.offset - sealed_bytes ≤ offset_of entry.lsn) × (offset_of entry.lsn - (q.place.offset - sealed_bytes) ≤ length bytes)
      × IsHeld (drop (offset_of entry.lsn - (q.place.offset - sealed_bytes)) bytes) (sequence_of entry.lsn) entry
  located q bytes sealed_bytes memory starts_memory kept before behind entry is =
      let first = q.place.offset - sealed_bytes in
      let low : q.place.offset ≤ 512 * 16384 = omega (arith, kept.place.offset, kept.place.end, kept.shape.largest_container) in
      let size : length bytes ≡ total kept.blocks + length kept.part =
      ap (λ (l : List ℕ). length l) kept.bytes_are ∙ omega (arith, length-append (concat kept.blocks) kept.part, length-concat kept.blocks) in
      ⊎_elim {C = (first ≤ offset_of entry.lsn) × (offset_of entry.lsn - first ≤ length bytes) × IsHeld (drop (offset_of entry.lsn - first) bytes) (sequence_of entry.lsn) entry}
      (λ here.
      let whole : first % 512 ≡ 0 = omega (
        arith,
        kept.place.offset,
        kept.sealed_is,
        total_whole q.shape q.place.container first q.waiting kept.done kept.blocks kept.waiting,
      ) in
      let found = located_sealed q.shape q.place.container first q.waiting kept.done kept.blocks kept.part before here.0 entry kept.waiting here.1 whole
      (omega (arith, low, kept.behind, kept.sealed_is)) in (
        found.0,
        omega (arith, found.1, size),
        subst (λ (l : List ℕ). IsHeld (drop (offset_of entry.lsn - first) l) (sequence_of entry.lsn) entry) (sym kept.bytes_are) found.2,
      ))
      (λ later.
      let here = some_open q.place kept.opened kept.part later.0 behind entry kept.end later.1 in
      let few = (is_open q.shape q.place kept.place here.some).few_records in
      let found = located_open q.place kept.opened kept.part later.0 behind entry here later.1 kept.place.offset low few in
      let index : offset_of entry.lsn - first ≡ total kept.blocks = omega (arith, found.0, kept.behind, kept.sealed_is) in
      let there : drop (offset_of entry.lsn - first) bytes ≡ kept.part =
      ap (λ (n : ℕ). drop n bytes) index ∙ ap (λ (l : List ℕ). drop (total kept.blocks) l) kept.bytes_are
      ∙ drop_at (concat kept.blocks) kept.part (total kept.blocks) (length-concat kept.blocks) in (
        omega (arith, found.0),
        omega (arith, index, size),
        subst (λ (l : List ℕ). IsHeld l (sequence_of entry.lsn) entry) (sym there) found.1,
      ))
      (either_part kept.done kept.opened before behind entry (sym kept.records ∙ is))

  -- So the data that are found by an LSN are those of a record that the bytes from its block on hold.
  pub found_at : (q : Queued) (bytes : List ℕ) (sealed_bytes memory starts_memory lsn : ℕ) → IsKept q bytes sealed_bytes memory starts_memory
      → IsSome (data_at lsn q.records) → IsFound (q.place.offset - sealed_bytes) bytes lsn q.records
  found_at q bytes sealed_bytes memory starts_memory lsn kept some =
      let here : IsAmong lsn q.records = among lsn q.records some in
      let there = located q bytes sealed_bytes memory starts_memory kept here.before here.behind here.entry here.split in
      let at = here.lsn_is in
      record {
        entry = here.entry;
        data_is = here.found;
        low = subst (λ (n : ℕ). q.place.offset - sealed_bytes ≤ offset_of n) at there.0;
        high = subst (λ (n : ℕ). offset_of n - (q.place.offset - sealed_bytes) ≤ length bytes) at there.1;
        held = subst (λ (n : ℕ). IsHeld (drop (offset_of n - (q.place.offset - sealed_bytes)) bytes) (sequence_of n) here.entry) at there.2;
      }
