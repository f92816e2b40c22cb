use Rattle.clfs_queue.proofs.Words.{◌≡◌, ◌+◌, ◌<◌, ◌≤◌, ◌^◌, ◌++◌, ℕ, List, length, take, ◌∙◌, ap, arith, size, record_bytes, LogEntry, place_of}
use Rattle.clfs_queue.proofs.Words.{payload_from, IsHeld, payload_before}
use Rattle.clfs_queue.proofs.Contents.{content_aligned, place_grows}
use Rattle.clfs_queue.proofs.Holding.{held_small, held_within, held_bytes, held_data}
use Rattle.clfs_queue.proofs.reading.read_record.Goals as goal

-- a record that is held ends within the bytes
held_ends : (sized : (entry : LogEntry) → length (record_bytes entry) ≡ size (length entry.bytes)) (bytes : List ℕ) (position : ℕ) (entry : LogEntry)
    (held : IsHeld bytes position entry) → place_of (payload_before held + size (length entry.bytes)) ≤ length bytes
held_ends sized bytes position entry held =
    omega (arith, held.there, place_grows (payload_before held + size (length entry.bytes)) held.used (held_within sized bytes position entry held))

-- the length that is read in its header is that of its data
len_is : (sized : (entry : LogEntry) → length (record_bytes entry) ≡ size (length entry.bytes)) (bytes : List ℕ) (position : ℕ) (entry : LogEntry)
    (held : IsHeld bytes position entry) (at len : ℕ) → at ≡ payload_before held
    → ((other : LogEntry) → length other.bytes < 2 ^ 32 → payload_from at 4 bytes ≡ take 4 (record_bytes other) → len ≡ length other.bytes)
    → len ≡ length entry.bytes
len_is sized bytes position entry held at len here told = told entry (held_small bytes position entry held)
    (ap (λ (n : ℕ). payload_from n 4 bytes) here ∙ held_bytes sized bytes position entry held 4 (omega arith))

pub len_at-len-requires-clause-place : goal.len_at-len-requires-clause-place
len_at-len-requires-clause-place c =
    let held = c.requires.1 in
    omega (arith, c.place_of_record-at.ensures c.requires.0 held, content_aligned c.records_are_read_as_written.ensures.length held.before)

pub len_at-len-requires-clause-there : goal.len_at-len-requires-clause-there
len_at-len-requires-clause-there c =
    omega (
      arith,
      c.place_of_record-at.ensures c.requires.0 c.requires.1,
      held_ends c.records_are_read_as_written.ensures.length c.args.block.now c.args.position c.requires.0 c.requires.1,
    )

pub overflow_add-at : goal.overflow_add-at
overflow_add-at c =
    omega (
      arith,
      c.place_of_record-at.ensures c.requires.0 c.requires.1,
      held_ends c.records_are_read_as_written.ensures.length c.args.block.now c.args.position c.requires.0 c.requires.1,
    )

pub copy_payload-requires-clause-place : goal.copy_payload-requires-clause-place
copy_payload-requires-clause-place c =
    let sized = c.records_are_read_as_written.ensures.length in
    let here = c.place_of_record-at.ensures c.requires.0 c.requires.1 in
    let long = len_is sized c.args.block.now c.args.position c.requires.0 c.requires.1 c.place_of_record-at.result c.len_at-len.result here c.len_at-len.ensures in
    omega (arith, here, long, held_ends sized c.args.block.now c.args.position c.requires.0 c.requires.1)

pub returns : goal.returns
returns c = λ entry held.
    let sized = c.records_are_read_as_written.ensures.length in
    let here = c.place_of_record-at.ensures entry held in
    let long = len_is sized c.args.block.now c.args.position entry held c.place_of_record-at.result c.len_at-len.result here c.len_at-len.ensures in
    c.from_vec.ensures ∙ c.copy_payload.ensures
    ∙ ap (λ (l : List ℕ). l ++ payload_from (c.place_of_record-at.result + 32) c.len_at-len.result c.args.block.now) c.in_ok-out.ensures.items
    ∙ ap (λ (n : ℕ). payload_from (n + 32) c.len_at-len.result c.args.block.now) here
    ∙ ap (λ (n : ℕ). payload_from (payload_before held + 32) n c.args.block.now) long
    ∙ held_data sized c.args.block.now c.args.position entry held
