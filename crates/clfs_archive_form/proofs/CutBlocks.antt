-- A block that is made short.
use Rattle.clfs_archive_form.proofs.Words.{⊎_elim, ◌≡◌, ℕ, zero, suc, ◌+◌, ◌*◌, ◌/◌, ◌%◌, ◌^◌, ◌<◌, ◌≤◌, List, [], ◌∷◌, ◌++◌, length, take, drop, Result, Ok}
use Rattle.clfs_archive_form.proofs.Words.{refl, sym, ◌∙◌, ap, subst, append-nil, arith, All, flat_map, length-append, length-take-le, All-cons, All-nil}
use Rattle.clfs_archive_form.proofs.Words.{open_gate, lsn_number, offset_of, IsShape, size, sectors, BaseFits, FitsAt, record_bytes, LogEntry, Shape}
use Rattle.clfs_archive_form.proofs.Words.{block_sectors, total, SpellsBlock, block_records, FitFrom, HasRecords, stored_in, LoadRefusal, below, in_a_row}
use Rattle.clfs_archive_form.proofs.Words.{AreExact, IsKeptEnd}
use Rattle.clfs_block.specs.Frame.{used_bytes}
use Rattle.clfs_recover.specs.Logs.{HaveRecords, all_records}
use Rattle.clfs_archive_form.specs.Kept.{AreBlocksWith}
use Rattle.clfs_archive_form.proofs.KeptEnds.{ReadBehind, one_more_read}
use Rattle.clfs_archive_form.proofs.ReadRecords.{HasRead, taken_bytes}

front_fits : (streams lsn n : ℕ) (entries : List LogEntry) → FitFrom lsn streams entries → FitFrom lsn streams (take n entries)
front_fits streams lsn zero entries fit = tt
front_fits streams lsn (suc n) [] fit = tt
front_fits streams lsn (suc n) (entry ∷ entries) fit = (fit.0, front_fits streams (lsn + 1) n entries fit.1)

own_fits : (lsn streams : ℕ) (e : LogEntry) → FitsAt lsn streams e → FitsAt e.lsn e.stream e
own_fits lsn streams e fit = record {
  at = refl;
  some_stream = fit.some_stream;
  stream = omega arith;
  bytes = fit.bytes;
  previous = omega (arith, fit.at, fit.previous);
  undo_next = omega (arith, fit.at, fit.undo_next);
  new_base = subst (λ (n : ℕ). BaseFits e.kind n e.new_base) (sym fit.at) fit.new_base;
}

all_fit : (lsn streams : ℕ) (es : List LogEntry) → FitFrom lsn streams es → All (λ (e : LogEntry). FitsAt e.lsn e.stream e) es
all_fit lsn streams [] fit = All-nil (λ (e : LogEntry). FitsAt e.lsn e.stream e)
all_fit lsn streams (e ∷ es) fit =
    All-cons (λ (e : LogEntry). FitsAt e.lsn e.stream e) e es (own_fits lsn streams e fit.0) (all_fit (lsn + 1) streams es fit.1)

abbrev HaveSizes : Type 0
HaveSizes = (entry : LogEntry) → length (record_bytes entry) ≡ size (length entry.bytes)

front_bytes : HaveSizes → (n : ℕ) (es : List LogEntry) → length (flat_map record_bytes (take n es)) ≤ taken_bytes es
front_bytes sized zero es = omega arith
front_bytes sized (suc n) [] = omega arith
front_bytes sized (suc n) (e ∷ es) =
    omega (arith, front_bytes sized n es, sized e, length-append (record_bytes e) (flat_map record_bytes (take n es)))

module _ (sized : HaveSizes) (shape : Shape) (is_shape : IsShape shape) (streams start : ℕ) (entries : List LogEntry) (bytes : List ℕ)
    (has : HasRead shape streams start entries bytes) (n : ℕ) where
  pub cut_fits : All (λ (e : LogEntry). FitsAt e.lsn e.stream e) (take n entries)
  cut_fits = all_fit start streams (take n entries) (front_fits streams start n entries has.fit)

  pub cut_sectors : sectors (16 + length (flat_map record_bytes (take n entries))) ≤ block_sectors bytes
  cut_sectors = omega (arith, front_bytes sized n entries, has.sectors_are)

  pub cut_few : sectors (16 + length (flat_map record_bytes (take n entries))) ≤ 128
  cut_few = omega (arith, cut_sectors, has.largest, is_shape.largest_block)

  pub cut_room : offset_of start / 512 + sectors (16 + length (flat_map record_bytes (take n entries))) ≤ 16384
  cut_room = omega (arith, cut_sectors, has.left, has.some_sectors, is_shape.largest_container)

  pub cut_has : (block : List ℕ) → 1 ≤ n → n ≤ length entries → SpellsBlock start open_gate n (flat_map record_bytes (take n entries)) block
      → HasRecords shape streams start (take n entries) block
  cut_has block some few spells =
      let count : length (take n entries) ≡ n = length-take-le n entries few in record {
        some = omega (arith, count, some);
        few = omega (arith, count, few, has.few);
        fit = front_fits streams start n entries has.fit;
        count = record {
          largest = omega (arith, cut_sectors, has.largest);
          left = omega (arith, cut_sectors, has.left);
          field = omega (arith, cut_few);
        };
        spelled = subst (λ (k : ℕ). SpellsBlock start open_gate k (flat_map record_bytes (take n entries)) block) (sym count) spells;
      }

-- ---- with the blocks before it

abbrev right : List LogEntry → Result (List LogEntry) LoadRefusal
right entries = Ok entries

pub row_len : (blocks : List (List ℕ)) → length (in_a_row blocks) ≡ total blocks
row_len [] = refl
row_len (block ∷ blocks) = omega (arith, length-append block (in_a_row blocks), row_len blocks)

pub exact_whole : (blocks : List (List ℕ)) → AreExact blocks → total blocks % 512 ≡ 0
exact_whole [] exact = refl
exact_whole (block ∷ blocks) exact = omega (arith, exact.0, exact_whole blocks exact.1)

abbrev SaysSectors : Type 0
SaysSectors = (start gate records : ℕ) (content block : List ℕ) → SpellsBlock start gate records content block → sectors (used_bytes content) < 2 ^ 16
    → block_sectors block ≡ sectors (used_bytes content)

abbrev ReadWritten : Type 0
ReadWritten = (shape : Shape) (streams id offset : ℕ) (groups : List (List LogEntry)) (blocks : List (List ℕ))
    → IsShape shape → streams < 2 ^ 16 → id < 2 ^ 32 → offset + total blocks ≤ 512 * shape.container_sectors
    → HaveRecords shape streams id offset groups blocks → stored_in shape streams id offset blocks ≡ Ok (all_records groups)

module _ (shape : Shape) (is_shape : IsShape shape) (streams id : ℕ) (few_streams : streams < 2 ^ 16) (small : id < 2 ^ 32) (up_to : ℕ) (bytes : List ℕ)
    (entries : List LogEntry) (whole : ℕ) where
  -- all blocks lie below the LSN or from it on
  pub keeps_whole : (records : ℕ) → records ≡ 0 → IsKeptEnd shape streams id up_to bytes entries whole records
      → AreBlocksWith shape streams id (below up_to entries) (take whole bytes)
  keeps_whole records none kept = ⊎_elim
      (λ (is : (records ≡ 0) × (below up_to entries ≡ kept.own)). subst (λ (es : List LogEntry). AreBlocksWith shape streams id es (take whole bytes)) (sym is.1) kept.blocks)
      (λ next. absurd (omega (arith, none, next.2))) kept.rest

  -- one block is made short
  pub keeps_cut : ReadBehind → SaysSectors → ReadWritten → whole ≤ 512 * shape.container_sectors
      → (records : ℕ) → (records ≡ 0 → ⊥) → IsKeptEnd shape streams id up_to bytes entries whole records → (out new : List ℕ)
      → ((next : List LogEntry) → block_records shape streams (lsn_number id whole 0) (drop whole bytes) ≡ Ok next → 1 ≤ records → records ≤ length next
      → (cut : List ℕ) × (new ≡ out ++ cut) × HasRecords shape streams (lsn_number id whole 0) (take records next) cut)
      → (cut : List ℕ) × (new ≡ out ++ cut) × AreBlocksWith shape streams id (below up_to entries) (take whole bytes ++ cut)
  keeps_cut behind says written within records some kept out new cuts = ⊎_elim
      (λ (is : (records ≡ 0) × (below up_to entries ≡ kept.own)). absurd (some is.0))
      (λ next.
      let cut = cuts next.0 next.1 next.2 next.3 in
      let front : List (List ℕ) = kept.blocks.0 in
      let stand = kept.blocks.1 in
      let size : total front ≡ whole = sym (row_len front) ∙ sym (ap length stand.is) ∙ length-take-le whole bytes kept.within in
      let even = exact_whole front stand.exact in
      let has : HasRecords shape streams (lsn_number id whole 0) (take records next.0) cut.0 = cut.2 in
      let exact : length cut.0 ≡ 512 * block_sectors cut.0 =
      has.spelled.whole ∙ ap (λ (n : ℕ). 512 * n) (sym (says _ _ _ _ cut.0 has.spelled has.count.field)) in
      let room : whole + (length cut.0 + 0) ≤ 512 * shape.container_sectors = omega (arith, has.spelled.whole, has.count.left, size, even, within, is_shape.largest_container) in
      let read : stored_in shape streams id whole (cut.0 ∷ []) ≡ Ok (take records next.0) =
      written shape streams id whole (take records next.0 ∷ []) (cut.0 ∷ []) is_shape few_streams small room (has, tt) ∙ ap right (append-nil (take records next.0)) in
      let all = one_more_read shape streams id behind kept.own (take records next.0) (take whole bytes) cut.0 front stand exact
      (subst (λ (n : ℕ). stored_in shape streams id n (cut.0 ∷ []) ≡ Ok (take records next.0)) (sym size) read) in
      (cut.0, cut.1, subst (λ (es : List LogEntry). AreBlocksWith shape streams id es (take whole bytes ++ cut.0)) (sym next.4) (front ++ cut.0 ∷ [], all)))
      kept.rest
