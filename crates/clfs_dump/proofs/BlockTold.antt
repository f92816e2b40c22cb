-- What is told of a block, by the answers of its checks, and that it is told of a front of what begins with it.
use Rattle.clfs_dump.proofs.Words.{◌≡◌, inr, ⊎_elim, ℕ, ◌+◌, ◌*◌, ◌/◌, ◌-◌, ◌%◌, ◌^◌, ◌<◌, ◌≤◌, List, ◌++◌, length, take, Option, Some, None, Result, Ok, Err}
use Rattle.clfs_dump.proofs.Words.{refl, sym, ◌∙◌, ap, arith, append_assoc, flat_map, lsn_number, IsShape, LogEntry, Shape, Row, payload_of, frame_at}
use Rattle.clfs_dump.proofs.Words.{rest_at, AreJudgedAlone, AreReadAsWritten, block_records, records_from, block_same, BlockHead, BlockRefusal, IsFrontOf}
use Rattle.clfs_dump.proofs.Words.{LoadRefusal, Damaged, first_wrong, Told, only, records_met, record_text, block_end, framed_told, block_told, Selection}
use Rattle.clfs_block.specs.Checks.{left_from, IsEnough}
use Rattle.clfs_block.specs.RecordLaws.{records_refused, rest_refused, block_read}
use Rattle.clfs_block.specs.declared.head.BlockRefusal.TheVariants as blocks
use Rattle.clfs_dump.specs.Telling.{block_text}

-- what was read where no byte is wrong, and where one is
pub none_wrong : {T : Type 0} (r : Result T ℕ) → first_wrong r ≡ None → (value : T) × (r ≡ Ok value)
none_wrong (Ok value) e = (value, refl)
none_wrong (Err at) e = absurd (cc e)

pub one_wrong : {T : Type 0} (r : Result T ℕ) (at : ℕ) → first_wrong r ≡ Some at → r ≡ Err at
one_wrong (Ok value) at e = absurd (cc e)
one_wrong (Err other) at e = (let same : other ≡ at = cc e in ap (λ (n : ℕ). Err n) same)

module _ (selection : Selection) (rows : List Row) (shape : Shape) (container offset : ℕ) (bytes : List ℕ) where
  abbrev start : ℕ
  start = lsn_number container offset 0

  abbrev told : Told (Option ℕ)
  told = block_told selection rows shape container offset bytes

  -- a frame that is refused
  pub told_refused : (refusal : BlockRefusal) → frame_at shape start bytes ≡ Err refusal → told ≡ only (block_end container offset 0 (Err refusal))
  told_refused refusal is = ap (λ (r : Result BlockHead BlockRefusal). framed_told selection rows shape container offset bytes r) is

  module _ (head : BlockHead) (is : frame_at shape start bytes ≡ Ok head) where
    -- the text of a block whose frame is right, as it was added to a text in two parts
    pub told_text : (out front new payload : List ℕ) → front ≡ out ++ block_text selection start head → payload ≡ payload_of head.used bytes
        → new ≡ front ++ flat_map (record_text selection rows) (records_met (length rows) payload head.records start 16) → new ≡ out ++ told.text
    told_text out front new payload first filled added =
        let lines : List ℕ → List ℕ = λ (p : List ℕ). flat_map (record_text selection rows) (records_met (length rows) p head.records start 16) in
        added ∙ ap (λ (p : List ℕ). front ++ flat_map (record_text selection rows) (records_met (length rows) p head.records start 16)) filled
        ∙ ap (λ (l : List ℕ). l ++ flat_map (record_text selection rows) (records_met (length rows) (payload_of head.used bytes) head.records start 16)) first
        ∙ append_assoc out (block_text selection start head)
        (flat_map (record_text selection rows) (records_met (length rows) (payload_of head.used bytes) head.records start 16))
        ∙ sym (ap (λ (r : Result BlockHead BlockRefusal). out ++ (framed_told selection rows shape container offset bytes r).text) is)

    found_by : told.found ≡ block_end container offset head.sectors (block_records shape (length rows) start bytes)
    found_by = ap (λ (r : Result BlockHead BlockRefusal). (framed_told selection rows shape container offset bytes r).found) is

    abbrev ends : Result (List LogEntry) BlockRefusal → Result (Option ℕ) LoadRefusal
    ends read = block_end container offset head.sectors read

    -- a record is wrong
    pub found_wrong : (at : ℕ) → records_from (length rows) (payload_of head.used bytes) head.records start 16 ≡ Err at
        → told.found ≡ Err (Damaged container offset at)
    found_wrong at wrong = found_by ∙ ap (λ (r : Result (List LogEntry) BlockRefusal). ends r) (records_refused shape (length rows) start bytes head is at wrong)

    module _ (entries : List LogEntry) (right : records_from (length rows) (payload_of head.used bytes) head.records start 16 ≡ Ok entries) where
      -- a byte after the records is wrong
      pub found_rest : (refusal : BlockRefusal) → rest_at bytes head ≡ Err refusal → told.found ≡ block_end container offset head.sectors (Err refusal)
      found_rest refusal wrong =
          found_by ∙ ap (λ (r : Result (List LogEntry) BlockRefusal). ends r)
          (rest_refused shape (length rows) start bytes head is entries right refusal wrong)

      -- nothing is wrong
      pub found_whole : (other : BlockHead) → rest_at bytes head ≡ Ok other → told.found ≡ Ok (Some head.sectors)
      found_whole other clean =
          found_by ∙ ap (λ (r : Result (List LogEntry) BlockRefusal). ends r) (block_read shape (length rows) start bytes head is entries right other clean)

  -- a block that ends after sectors has a frame that says them
  pub sectors_of_frame : (sectors : ℕ) → told.found ≡ Ok (Some sectors)
      → (head : BlockHead) × (frame_at shape start bytes ≡ Ok head) × (head.sectors ≡ sectors)
  sectors_of_frame sectors is = by_frame (frame_at shape start bytes) refl is
    where
      refused_none : (refusal : BlockRefusal) → block_end container offset 0 (Err refusal) ≡ Ok (Some sectors) → ⊥
      refused_none blocks.Closed e = cc e
      refused_none (blocks.BadByte at) e = cc e
      refused_none blocks.NoMemory e = cc e

      read_some : (n : ℕ) (r : Result (List LogEntry) BlockRefusal) → block_end container offset n r ≡ Ok (Some sectors) → n ≡ sectors
      read_some n (Ok entries) e = cc e
      read_some n (Err blocks.Closed) e = absurd (cc e)
      read_some n (Err (blocks.BadByte at)) e = absurd (cc e)
      read_some n (Err blocks.NoMemory) e = absurd (cc e)

      by_frame : (r : Result BlockHead BlockRefusal) → frame_at shape start bytes ≡ r
          → (framed_told selection rows shape container offset bytes r).found ≡ Ok (Some sectors)
          → (head : BlockHead) × (frame_at shape start bytes ≡ Ok head) × (head.sectors ≡ sectors)
      by_frame (Ok head) e found = (head, e, read_some head.sectors (block_records shape (length rows) start bytes) found)
      by_frame (Err refusal) e found = absurd (refused_none refusal found)

-- What is told of a block is told of its own bytes: any front of what begins with it that is long enough for the largest.
module _ (judged : AreJudgedAlone) (written : AreReadAsWritten) (selection : Selection) (rows : List Row) (shape : Shape) (some : 1 ≤ shape.block_sectors)
    (container offset : ℕ) (all front : List ℕ) (is : IsFrontOf (512 * shape.block_sectors) all front) where
  abbrev at : ℕ
  at = lsn_number container offset 0

  abbrev of_bytes : List ℕ → Told (Option ℕ)
  of_bytes bytes = block_told selection rows shape container offset bytes

  long_front : 512 * shape.block_sectors ≤ length front → of_bytes front ≡ of_bytes all
  long_front long = ap (λ (l : List ℕ). of_bytes l) is.is ∙ by_frame (frame_at shape at all) refl
    where
      enough : IsEnough shape all (length front)
      enough = record { first = omega (arith, long, some); all = inr long }

      cut : List ℕ
      cut = take (length front) all

      same : frame_at shape at (take (length front) all) ≡ frame_at shape at all
      same = judged.frame shape at all (length front) enough

      read : block_records shape (length rows) at (take (length front) all) ≡ block_records shape (length rows) at all
      read = block_same judged written.holds shape (length rows) at all (length front) enough

      by_frame : (r : Result BlockHead BlockRefusal) → frame_at shape at all ≡ r → of_bytes (take (length front) all) ≡ of_bytes all
      by_frame (Err refusal) e =
          told_refused selection rows shape container offset (take (length front) all) refusal (same ∙ e)
          ∙ sym (told_refused selection rows shape container offset all refusal e)
      by_frame (Ok head) e =
          let frame = written.holds shape at all head e in
          let filled : payload_of head.used (take (length front) all) ≡ payload_of head.used all =
          judged.payload all head (length front) frame.used (omega (arith, long, frame.largest)) in
          ap (λ (r : Result BlockHead BlockRefusal). framed_told selection rows shape container offset (take (length front) all) r) (same ∙ e)
          ∙ (λ i. record {
            text = block_text selection at head ++ flat_map (record_text selection rows) (records_met (length rows) (filled i) head.records at 16);
            records = records_met (length rows) (filled i) head.records at 16;
            found = block_end container offset head.sectors (read i);
          })
          ∙ sym (ap (λ (r : Result BlockHead BlockRefusal). framed_told selection rows shape container offset all r) e)

  pub told_of_front : of_bytes front ≡ of_bytes all
  told_of_front = ⊎_elim (λ (e : front ≡ all). ap (λ (l : List ℕ). of_bytes l) e) long_front is.long

-- ---- a block in its container

-- the sectors that are left from an offset on
left_here : (shape : Shape) (id offset : ℕ) → offset % 512 ≡ 0 → offset < 2 ^ 32 → left_from shape (lsn_number id offset 0) ≡ shape.container_sectors - offset / 512
left_here shape id offset whole small =
    let e : (id * 2 ^ 32 + offset + 0) % 2 ^ 32 / 512 * 512 / 512 ≡ offset / 512 = omega (arith, whole, small) in
    ap (λ (n : ℕ). shape.container_sectors - n) e

-- a block whose frame is right ends within its container
pub block_ends : AreReadAsWritten → (shape : Shape) (id offset : ℕ) (bytes : List ℕ) (head : BlockHead) → IsShape shape → offset % 512 ≡ 0
    → offset < 512 * shape.container_sectors → frame_at shape (lsn_number id offset 0) bytes ≡ Ok head
    → (1 ≤ head.sectors) × (offset + 512 * head.sectors ≤ 512 * shape.container_sectors)
block_ends written shape id offset bytes head good whole near is =
    let frame = written.holds shape (lsn_number id offset 0) bytes head is in
    let left = left_here shape id offset whole (omega (arith, near, good.largest_container)) in
    (frame.some, omega (arith, frame.left, left, whole, near))
