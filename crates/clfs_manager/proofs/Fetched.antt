-- Records that are read: those that wait are in the queue, and those on the disk are in the blocks that are read there or kept.
use Rattle.clfs_manager.proofs.Words.{◌≡◌, ℕ, ◌-◌, ◌%◌, ◌<◌, ◌≤◌, refl, sym, ap, ◌∙◌, subst, ⊎_elim, List, [], ◌∷◌, length, drop, arith, Option, Some, None}
use Rattle.clfs_manager.proofs.Words.{IsSome, find, Contains, nat_le, nat_lt, slice_get, slice_index, ◌==◌, IfOk, OnOk, OnErr, option_map, option_and_then}
use Rattle.clfs_manager.proofs.Words.{lt-ltb, le-leb, lsn_number, container_of, offset_of, sequence_of, LogEntry, Shape, Files, BlockRefusal, State, cut}
use Rattle.clfs_manager.proofs.Words.{flushed, first_or, block_start, hold, IsValid, IsWaiting, Buffered, kept_at, with_used, block_place, first_lsn}
use Rattle.clfs_manager.proofs.Words.{record_in, Gives, BlockPlace, ReadRefusal, BaseImage, Newest, Blocks, file_of, IsReadAt, shape_of, unflushed, IsStored}
use Rattle.clfs_manager.proofs.Words.{AreKept, IsNeeded}
use Rattle.std.proofs.Common.{◌⊎◌, Result, Ok, Err}
use Rattle.std.specs.Prelude.{slice_index_or}
use Rattle.std.specs.Option.{ok_or}
use Rattle.clfs_block.specs.Records.{block_records}
use Rattle.clfs_buffers.specs.Buffered.{kept_data, with_block, IsAdded}
use Rattle.clfs_buffers.specs.Reading.{record_by}
use Rattle.clfs_manager.proofs.Among.{contains_passing, found_by_lsn}

-- ---- which records are where

-- a record that waits is found in the queue by its LSN
pub waits_in_queue : (s : State) (records : List LogEntry) → IsValid s → records ≡ unflushed s → (entry : LogEntry) → Contains s.records entry → flushed s ≤ entry.lsn
    → find (λ (other : LogEntry). other.lsn == entry.lsn) records ≡ Some entry
waits_in_queue s records valid is entry has waits =
    subst (λ (rs : List LogEntry). find (λ (other : LogEntry). other.lsn == entry.lsn) rs ≡ Some entry) (sym is)
    (found_by_lsn s.records valid.records.rising (λ (e : LogEntry). nat_le (flushed s) e.lsn) entry has (le-leb (flushed s) entry.lsn waits))

-- a record that is on the disk and still needed is one of those that the files have
pub is_stored : (s : State) (newest : Newest) (blocks : Blocks) (stored : IsStored s newest blocks) (entry : LogEntry) → IsNeeded s entry → entry.lsn < flushed s
    → Contains stored.entries entry
is_stored s newest blocks stored entry needed stable =
    let low : lsn_number newest.image.first 0 0 ≤ entry.lsn = omega (arith, stored.needed, needed.from_hold) in
    subst (λ (es : List LogEntry). Contains es entry) (sym stored.records)
    (contains_passing (λ (e : LogEntry). nat_le (lsn_number newest.image.first 0 0) e.lsn) (cut s).records entry (le-leb (lsn_number newest.image.first 0 0) entry.lsn low)
    (contains_passing (λ (e : LogEntry). nat_lt e.lsn (flushed s)) s.records entry (lt-ltb entry.lsn (flushed s) stable) needed.there))

-- ---- blocks

-- what is flushed ends between blocks
pub flushed_ends_a_block : (s : State) → IsValid s → flushed s % 512 ≡ 0
flushed_ends_a_block s valid = by_waiting s.waiting refl
  where
    by_waiting : (waiting : List ℕ) → s.waiting ≡ waiting → first_or (block_start s.place) waiting % 512 ≡ 0
    by_waiting [] e = let aligned = valid.ranges.place.offset in omega (arith, aligned)
    by_waiting (start ∷ others) e =
        let first : IsWaiting s start = subst (λ (ws : List ℕ). IsWaiting s (slice_index_or ws 0 start)) e (valid.waiting.blocks 0 start (subst (λ (ws : List ℕ). 0 < length ws) (sym e) (omega arith))) in
        first.sequence

-- so with one record of a block all of it is stable
pub stable_together : (s : State) → IsValid s → (lsn other : ℕ) → block_place other ≡ block_place lsn → lsn < flushed s → other < flushed s
stable_together s valid lsn other same stable =
    let container : container_of other ≡ container_of lsn = ap (λ (p : BlockPlace). p.container) same in
    let offset : offset_of other ≡ offset_of lsn = ap (λ (p : BlockPlace). p.offset) same in
    let aligned = flushed_ends_a_block s valid in
    omega (arith, container, offset, aligned, stable)

-- and all of it is needed
pub needed_together : (s : State) (lsn : ℕ) (entry : LogEntry) → block_place entry.lsn ≡ block_place lsn → container_of (hold s) ≤ container_of lsn → Contains s.records entry
    → IsNeeded s entry
needed_together s lsn entry same from has =
    let container : container_of entry.lsn ≡ container_of lsn = ap (λ (p : BlockPlace). p.container) same in
    record { there = has; from_hold = omega (arith, container, from) }

-- a block begins at or below each of its records
pub begins_below : (lsn : ℕ) → first_lsn (block_place lsn) ≤ lsn
begins_below lsn = omega arith

-- ---- what is read

-- a record's block gives it
pub found_in : (lsn : ℕ) (records : List LogEntry) (entry : LogEntry) → entry.lsn ≡ lsn → slice_get records (sequence_of entry.lsn) ≡ Some entry
    → record_in lsn records ≡ Ok entry
found_in lsn records entry at is =
    let there : slice_get records (sequence_of lsn) ≡ Some entry = subst (λ (n : ℕ). slice_get records (sequence_of n) ≡ Some entry) at is in
    ap (λ (o : Option LogEntry). ok_or {E = ℕ} o 4) there

-- a block that is kept gives the state's record
pub kept_gives : (s : State) (kept : Buffered) → AreKept s kept → (lsn : ℕ) (records : List LogEntry) → kept_at (block_place lsn) kept ≡ Some records
    → (entry : LogEntry) → Contains s.records entry → entry.lsn ≡ lsn → record_in lsn records ≡ Ok entry
kept_gives s kept are lsn records is entry has at = found_in lsn records entry at (are.records (block_place lsn) records is entry has (ap block_place at))

-- the data that are kept of a record are its own
pub kept_bytes : (s : State) (kept : Buffered) → AreKept s kept → (lsn : ℕ) (bytes : List ℕ) → kept_data lsn kept ≡ Some bytes
    → (entry : LogEntry) → Contains s.records entry → entry.lsn ≡ lsn → entry.bytes ≡ bytes
kept_bytes s kept are lsn bytes is entry has at = by_kept (kept_at (block_place lsn) kept) refl
  where
    data_in : Option LogEntry → Option (List ℕ)
    data_in found = option_map (λ (e : LogEntry). e.bytes) found

    by_kept : (o : Option (List LogEntry)) → kept_at (block_place lsn) kept ≡ o → entry.bytes ≡ bytes
    by_kept None none =
        let clash : None ≡ Some bytes =
        ap (λ (o : Option (List LogEntry)). data_in (option_and_then (λ (rs : List LogEntry). slice_get rs (sequence_of lsn)) o)) (sym none) ∙ is in
        absurd (cc clash)
    by_kept (Some records) some =
        let there = are.records (block_place lsn) records some entry has (ap block_place at) in
        let here : slice_get records (sequence_of lsn) ≡ Some entry = subst (λ (n : ℕ). slice_get records (sequence_of n) ≡ Some entry) at there in
        let same : Some entry.bytes ≡ Some bytes =
        sym (ap data_in here)
        ∙ ap (λ (o : Option (List LogEntry)). data_in (option_and_then (λ (rs : List LogEntry). slice_get rs (sequence_of lsn)) o)) (sym some) ∙ is in
        cc same

-- and so does one that is read
pub read_gives : (shape : Shape) (streams : ℕ) (bytes : List ℕ) (lsn : ℕ) (entry : LogEntry) → entry.lsn ≡ lsn → IsReadAt shape streams bytes entry
    → record_by shape streams lsn (drop (offset_of lsn) bytes) ≡ Ok entry
read_gives shape streams bytes lsn entry at is =
    let read : block_records shape streams (first_lsn (block_place lsn)) (drop (offset_of lsn) bytes) ≡ Ok is.records =
    subst (λ (n : ℕ). block_records shape streams (lsn_number (container_of n) (offset_of n) 0) (drop (offset_of n) bytes) ≡ Ok is.records) at is.read in
    rw read (found_in lsn is.records entry at is.at)

-- an answer that reading gives is that for which it stands
pub gives_as : (result : Result LogEntry ReadRefusal) (read : Result LogEntry ℕ) (entry : LogEntry) → read ≡ Ok entry → Gives result read → Gives result (Ok entry)
gives_as result read entry is gives = subst (Gives {A = LogEntry} result) is gives

-- ---- what is kept after it

-- blocks that show the same at each place
pub kept_alike : (s : State) (old new : Buffered) → ((place : BlockPlace) → kept_at place new ≡ kept_at place old) → AreKept s old → AreKept s new
kept_alike s old new same are = record {
  stable = λ place records is. are.stable place records (sym (same place) ∙ is);
  records = λ place records is. are.records place records (sym (same place) ∙ is);
}

-- they are the state's after one was used
pub kept_used : (s : State) (old new : Buffered) (lsn : ℕ) → new ≡ with_used (block_place lsn) old
    → ((place : BlockPlace) → kept_at place (with_used (block_place lsn) old) ≡ kept_at place old) → AreKept s old → AreKept s new
kept_used s old new lsn is same are = subst (AreKept s) (sym is) (kept_alike s old (with_used (block_place lsn) old) same are)

-- a block that was read of the log's files is one that may be kept
pub kept_with_one_more : (s : State) (image : BaseImage) (files : Files) (entries : List LogEntry) (old : Buffered) (lsn : ℕ) (records : List LogEntry)
    → IsValid s → lsn < flushed s → container_of (hold s) ≤ container_of lsn
    → ((entry : LogEntry) → IsNeeded s entry → entry.lsn < flushed s → Contains entries entry)
    → ((entry : LogEntry) → Contains entries entry → IsReadAt (shape_of image) (length image.streams) (files (file_of image entry.lsn)) entry)
    → block_records (shape_of image) (length image.streams) (first_lsn (block_place lsn)) (drop (offset_of lsn) (files (file_of image lsn))) ≡ Ok records
    → ((place : BlockPlace) (found : List LogEntry) → kept_at place (with_block (block_place lsn) records old) ≡ Some found
    → ((place ≡ block_place lsn) × (found ≡ records)) ⊎ (kept_at place old ≡ Some found))
    → AreKept s old → AreKept s (with_block (block_place lsn) records old)
kept_with_one_more s image files entries old lsn records valid stable from stored reads there joined are = record {
  stable = λ place found is. ⊎_elim
      (λ (at : (place ≡ block_place lsn) × (found ≡ records)). let begins = begins_below lsn in let first = ap first_lsn at.0 in omega (arith, begins, first, stable))
      (λ (before : kept_at place old ≡ Some found). are.stable place found before) (joined place found is);
  records = λ place found is entry has of_place. ⊎_elim
      (λ (at : (place ≡ block_place lsn) × (found ≡ records)). rw at.1 (among entry has (of_place ∙ at.0)))
      (λ (before : kept_at place old ≡ Some found). are.records place found before entry has of_place) (joined place found is);
}
  where
    as_read : List LogEntry → Result (List LogEntry) BlockRefusal
    as_read found = Ok found

    among : (entry : LogEntry) → Contains s.records entry → block_place entry.lsn ≡ block_place lsn → slice_get records (sequence_of entry.lsn) ≡ Some entry
    among entry has same =
        let read = reads entry (stored entry (needed_together s lsn entry same from has) (stable_together s valid lsn entry.lsn same stable)) in
        let container : container_of entry.lsn ≡ container_of lsn = ap (λ (p : BlockPlace). p.container) same in
        let file : file_of image entry.lsn ≡ file_of image lsn = ap (λ (c : ℕ). slice_index image.files (c - image.first)) container in
        let at : as_read read.records ≡ as_read records =
        sym read.read ∙ subst (λ (p : BlockPlace). block_records (shape_of image) (length image.streams) (first_lsn p) (drop p.offset (files (file_of image entry.lsn)))
        ≡ block_records (shape_of image) (length image.streams) (first_lsn p) (drop p.offset (files (file_of image lsn))))
        (sym same) (ap (λ (f : ℕ). block_records (shape_of image) (length image.streams) (first_lsn (block_place lsn)) (drop (offset_of lsn) (files f))) file)
        ∙ subst (λ (p : BlockPlace). block_records (shape_of image) (length image.streams) (first_lsn p) (drop p.offset (files (file_of image lsn))) ≡ Ok records) (sym same) there in
        let one : read.records ≡ records = cc at in
        subst (λ (rs : List LogEntry). slice_get rs (sequence_of entry.lsn) ≡ Some entry) one read.at

-- where a log's file is read with the copy's shape and its number of streams, as a call has them
module _ (image : BaseImage) (files : Files) (shape : Shape) (streams file lsn : ℕ)
    (of_shape : shape ≡ shape_of image) (of_streams : streams ≡ length image.streams) (of_file : file ≡ file_of image lsn) where
  -- the state's record is read
  pub file_gives : (result : Result LogEntry ReadRefusal) (entry : LogEntry) → entry.lsn ≡ lsn
      → IsReadAt (shape_of image) (length image.streams) (files (file_of image entry.lsn)) entry
      → Gives result (record_by shape streams lsn (drop (offset_of lsn) (files file))) → Gives result (Ok entry)
  file_gives result entry at is gives =
      let file_is : file ≡ file_of image entry.lsn = of_file ∙ ap (file_of image) (sym at) in
      let in_file : IsReadAt (shape_of image) (length image.streams) (files file) entry =
      subst (λ (f : ℕ). IsReadAt (shape_of image) (length image.streams) (files f) entry) (sym file_is) is in
      let of_count : IsReadAt (shape_of image) streams (files file) entry = subst (λ (n : ℕ). IsReadAt (shape_of image) n (files file) entry) (sym of_streams) in_file in
      let whole : IsReadAt shape streams (files file) entry = subst (λ (sh : Shape). IsReadAt sh streams (files file) entry) (sym of_shape) of_count in
      gives_as result (record_by shape streams lsn (drop (offset_of lsn) (files file))) entry (read_gives shape streams (files file) lsn entry at whole) gives

  -- and what is kept afterwards is the state's
  pub kept_after : (s : State) (entries : List LogEntry) (old new : Buffered) (told : Type 0) (result : Result LogEntry ReadRefusal) → told
      → IsValid s → lsn < flushed s → container_of (hold s) ≤ container_of lsn
      → ((entry : LogEntry) → IsNeeded s entry → entry.lsn < flushed s → Contains entries entry)
      → ((entry : LogEntry) → Contains entries entry → IsReadAt (shape_of image) (length image.streams) (files (file_of image entry.lsn)) entry)
      → ((place : BlockPlace) → kept_at place (with_used (block_place lsn) old) ≡ kept_at place old)
      → ((records : List LogEntry) (place : BlockPlace) (found : List LogEntry) → kept_at place (with_block (block_place lsn) records old) ≡ Some found
      → ((place ≡ block_place lsn) × (found ≡ records)) ⊎ (kept_at place old ≡ Some found))
      → (IsSome (kept_at (block_place lsn) old) → OnOk result (new ≡ with_used (block_place lsn) old))
      → (kept_at (block_place lsn) old ≡ None → IfOk result (λ entry. IsAdded shape streams lsn told (drop (offset_of lsn) (files file)) entry old new))
      → OnErr result (new ≡ old) → AreKept s old → AreKept s new
  kept_after s entries old new told (Err refusal) tells valid stable from stored reads used_same joined used joins refused are = subst (AreKept s) (sym refused) are
  kept_after s entries old new told (Ok entry) tells valid stable from stored reads used_same joined used joins refused are = by_kept (kept_at (block_place lsn) old) refl
    where
      by_kept : (o : Option (List LogEntry)) → kept_at (block_place lsn) old ≡ o → AreKept s new
      by_kept (Some records) is = subst (AreKept s) (sym (used (rw is refl))) (kept_alike s old (with_used (block_place lsn) old) used_same are)
      by_kept None is =
          let added = joins is in
          let there = subst (λ (f : ℕ). block_records (shape_of image) (length image.streams) (first_lsn (block_place lsn)) (drop (offset_of lsn) (files f)) ≡ Ok added.records) of_file
          (subst (λ (n : ℕ). block_records (shape_of image) n (first_lsn (block_place lsn)) (drop (offset_of lsn) (files file)) ≡ Ok added.records) of_streams
          (subst (λ (sh : Shape). block_records sh streams (first_lsn (block_place lsn)) (drop (offset_of lsn) (files file)) ≡ Ok added.records) of_shape (added.same tells))) in
          subst (AreKept s) (sym added.kept)
          (kept_with_one_more s image files entries old lsn added.records valid stable from stored reads there (joined added.records) are)
