use Rattle.clfs_buffers.proofs.Words.{◌≡◌, ℕ, ◌+◌, List, Result, Ok, Err, sym, ◌∙◌, ap, subst, arith, err_from_is_err_and, LogEntry, Shape, frame_at, told_as}
use Rattle.clfs_buffers.proofs.Words.{records_from, block_records, block_refused, BlockHead, BlockRefusal, Closed, BadByte, NoMemory, first_lsn, RefusesAs}
use Rattle.clfs_buffers.proofs.Words.{records_at}
use Rattle.clfs_block.specs.Frame.{payload_of}
use Rattle.clfs_block.specs.RecordLaws.{records_refused, rest_refused, block_read}
use Rattle.clfs_buffers.proofs.Positions.{have_lsns}
use Rattle.clfs_buffers.proofs.kept.KeptBlock.refill.Goals as goal

abbrev found : List LogEntry → Result (List LogEntry) BlockRefusal
found records = Ok records

-- a refusal that reading tells
refuses : (refusal : BlockRefusal) (read : Result (List LogEntry) BlockRefusal) → read ≡ Err refusal → RefusesAs refusal read
refuses Closed read is = is
refuses (BadByte at) read is = is
refuses NoMemory read is = tt

-- records that are told are those
told_ok : (read : Result (List LogEntry) ℕ) (records : List LogEntry) → told_as BadByte read ≡ Ok records → read ≡ Ok records
told_ok (Ok entries) records e = cc e
told_ok (Err at) records e = absurd (cc e)

-- the refusal of a record is that of its block
refused_record : (shape : Shape) (streams start : ℕ) (bytes payload : List ℕ) (head : BlockHead) (refusal : BlockRefusal) → frame_at shape start bytes ≡ Ok head
    → payload ≡ payload_of head.used bytes → RefusesAs refusal (told_as BadByte (records_from streams payload head.records start 16))
    → RefusesAs refusal (block_records shape streams start bytes)
refused_record shape streams start bytes payload head refusal frame filled refused = by_case refusal refused
  where
    by_read : (read : Result (List LogEntry) ℕ) (at : ℕ) → told_as BadByte read ≡ Err (BadByte at) → read ≡ Err at
    by_read (Ok entries) at e = absurd (cc e)
    by_read (Err k) at e = cc e

    not_closed : (read : Result (List LogEntry) ℕ) → told_as BadByte read ≡ Err Closed → ⊥
    not_closed (Ok entries) e = cc e
    not_closed (Err k) e = cc e

    by_case : (r : BlockRefusal) → RefusesAs r (told_as BadByte (records_from streams payload head.records start 16)) → RefusesAs r (block_records shape streams start bytes)
    by_case Closed is = absurd (not_closed (records_from streams payload head.records start 16) is)
    by_case (BadByte at) is = records_refused shape streams start bytes head frame at
        (subst (λ (l : List ℕ). records_from streams l head.records start 16 ≡ Err at) filled (by_read (records_from streams payload head.records start 16) at is))
    by_case NoMemory is = tt

-- the head of a block's frame is that at the LSN of its first record
framed_at : (shape : Shape) (lsn start : ℕ) (bytes : List ℕ) (answer : Result BlockHead BlockRefusal) → lsn ≡ start + 0 → answer ≡ frame_at shape lsn bytes
    → frame_at shape start bytes ≡ answer
framed_at shape lsn start bytes answer first is =
    let same : start ≡ lsn = omega (arith, first) in ap (λ (n : ℕ). frame_at shape n bytes) same ∙ sym is

-- records that begin at these places of a payload are those of the block
right_records : (streams start : ℕ) (bytes payload : List ℕ) (head : BlockHead) (starts : List ℕ) → payload ≡ payload_of head.used bytes
    → told_as BadByte (records_from streams payload head.records start 16) ≡ Ok (records_at payload start starts)
    → records_from streams (payload_of head.used bytes) head.records start 16 ≡ Ok (records_at payload start starts)
right_records streams start bytes payload head starts filled right = subst (λ (l : List ℕ). records_from streams l head.records start 16
    ≡ Ok (records_at payload start starts)) filled (told_ok (records_from streams payload head.records start 16) (records_at payload start starts) right)

pub returns-in_err-head-clause-exact : goal.returns-in_err-head-clause-exact
returns-in_err-head-clause-exact c =
    let p = err_from_is_err_and c.from_residual.result c.from_residual.ensures.1 in
    let frame = framed_at c.args.shape.now c.lsn.result (first_lsn c.args.place) c.args.bytes.now _ c.lsn.ensures c.in_err-head.ensures.exact in
    rw (p.1, p.2) (refuses c.in_err-head.field-0.0 _
    (block_refused c.args.shape.now c.args.streams (first_lsn c.args.place) c.args.bytes.now c.in_err-head.field-0.0 frame))

pub returns-in_err-find_starts-clause-exact : goal.returns-in_err-find_starts-clause-exact
returns-in_err-find_starts-clause-exact c =
    let p = err_from_is_err_and c.from_residual-in_err-find_starts.result c.from_residual-in_err-find_starts.ensures.1 in
    let frame = framed_at c.args.shape.now c.lsn.result (first_lsn c.args.place) c.args.bytes.now _ c.lsn.ensures c.in_ok-head.ensures.exact in
    rw (p.1, p.2) (refused_record c.args.shape.now c.args.streams (first_lsn c.args.place) c.args.bytes.now c.as_slice.result.now c.in_ok-head.head
    c.in_err-find_starts.field-0.0 frame (c.as_slice.ensures ∙ c.in_ok-fill_payload.ensures.ok) c.in_err-find_starts.ensures.found)

pub returns-in_err-check_rest-clause-exact : goal.returns-in_err-check_rest-clause-exact
returns-in_err-check_rest-clause-exact c =
    let p = err_from_is_err_and c.from_residual-in_err-check_rest.result c.from_residual-in_err-check_rest.ensures.1 in
    let frame = framed_at c.args.shape.now c.lsn.result (first_lsn c.args.place) c.args.bytes.now _ c.lsn.ensures c.in_ok-head.ensures.exact in
    let read = right_records c.args.streams (first_lsn c.args.place) c.args.bytes.now c.as_slice.result.now c.in_ok-head.head c.find_starts.new.starts.items
    (c.as_slice.ensures ∙ c.in_ok-fill_payload.ensures.ok) c.in_ok-find_starts.ensures.found.0 in
    rw (p.1, p.2) (refuses c.in_err-check_rest.field-0.0 _
    (rest_refused c.args.shape.now c.args.streams (first_lsn c.args.place) c.args.bytes.now c.in_ok-head.head frame
    (records_at c.as_slice.result.now (first_lsn c.args.place) c.find_starts.new.starts.items) read c.in_err-check_rest.field-0.0
    (sym c.in_err-check_rest.ensures)))

pub returns-clause-exact : goal.returns-clause-exact
returns-clause-exact c =
    let frame = framed_at c.args.shape.now c.lsn.result (first_lsn c.args.place) c.args.bytes.now _ c.lsn.ensures c.in_ok-head.ensures.exact in
    let read = right_records c.args.streams (first_lsn c.args.place) c.args.bytes.now c.as_slice.result.now c.in_ok-head.head c.find_starts.new.starts.items
    (c.as_slice.ensures ∙ c.in_ok-fill_payload.ensures.ok) c.in_ok-find_starts.ensures.found.0 in
    block_read c.args.shape.now c.args.streams (first_lsn c.args.place) c.args.bytes.now c.in_ok-head.head frame
    (records_at c.as_slice.result.now (first_lsn c.args.place) c.find_starts.new.starts.items) read c.in_ok-check_rest.field-0 (sym c.in_ok-check_rest.ensures)
    ∙ ap (λ (l : List ℕ). found (records_at l (first_lsn c.args.place) c.find_starts.new.starts.items)) c.as_slice.ensures

pub returns-clause-lsns : goal.returns-clause-lsns
returns-clause-lsns c = have_lsns c.fill_payload.new.payload (first_lsn c.args.place) c.find_starts.new.starts.items
