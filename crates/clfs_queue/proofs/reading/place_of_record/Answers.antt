use Rattle.clfs_queue.proofs.Words.{◌≡◌, ◌+◌, ◌<◌, ◌≤◌, ◌^◌, ◌++◌, ◌∷◌, [], ℕ, List, length, get_or, take, ◌∙◌, ap, arith, flat_map, take_all, record_bytes}
use Rattle.clfs_queue.proofs.Words.{size, LogEntry, place_of, payload_from, IsHeld}
use Rattle.std.proofs.lemmas.List.{take_more}
use Rattle.clfs_queue.proofs.Contents.{content_aligned, content_more, place_grows}
use Rattle.clfs_queue.proofs.Holding.{held_small, held_before, held_within, held_bytes}
use Rattle.clfs_queue.proofs.reading.place_of_record.Goals as goal

-- a record that is gone over begins at the place, has this length, and ends within the bytes
module _ (sized : (entry : LogEntry) → length (record_bytes entry) ≡ size (length entry.bytes)) (bytes : List ℕ) (position : ℕ) (entry : LogEntry)
    (held : IsHeld bytes position entry) (at i : ℕ) (lt : i < position) (here : at ≡ 16 + length (flat_map record_bytes (take i held.before))) where
  pub next_within : place_of (at + size (length (get_or held.before i entry).bytes)) ≤ length bytes
  next_within =
      let other = held_before bytes position entry held i lt in
      omega (arith, held.there, place_grows (at + size (length (get_or held.before i entry).bytes)) held.used (omega (arith, here, held_within sized bytes i (get_or held.before i entry) other)))

-- what a reader of lengths tells of it
len_is : (bytes : List ℕ) (position : ℕ) (entry : LogEntry) (held : IsHeld bytes position entry) (at i len : ℕ)
    (sized : (entry : LogEntry) → length (record_bytes entry) ≡ size (length entry.bytes)) (lt : i < position)
    → at ≡ 16 + length (flat_map record_bytes (take i held.before))
    → ((other : LogEntry) → length other.bytes < 2 ^ 32 → payload_from at 4 bytes ≡ take 4 (record_bytes other) → len ≡ length other.bytes)
    → len ≡ length (get_or held.before i entry).bytes
len_is bytes position entry held at i len sized lt here told =
    let own = get_or held.before i entry in
    let other = held_before bytes position entry held i lt in
    told own (held_small bytes i own other)
    (ap (λ (n : ℕ). payload_from n 4 bytes) here ∙ held_bytes sized bytes i own other 4 (omega arith))

pub len_at-requires-clause-place : goal.len_at-requires-clause-place
len_at-requires-clause-place c =
    let held = c.requires.1 in
    omega (arith, c.loop-skipped.invariant c.requires.0 held, content_aligned c.records_are_read_as_written.ensures.length (take c.loop-skipped.skipped held.before))

pub len_at-requires-clause-there : goal.len_at-requires-clause-there
len_at-requires-clause-there c =
    let held = c.requires.1 in
    omega (
      arith,
      next_within c.records_are_read_as_written.ensures.length c.args.block.now c.args.position c.requires.0 held c.loop-skipped.at c.loop-skipped.skipped
          c.loop-skipped-test.true (c.loop-skipped.invariant c.requires.0 held),
    )

pub overflow_add-at : goal.overflow_add-at
overflow_add-at c =
    let held = c.requires.1 in
    let i = c.loop-skipped.skipped in
    let own = get_or held.before i c.requires.0 in
    let here = c.loop-skipped.invariant c.requires.0 held in
    let sized = c.records_are_read_as_written.ensures.length in
    let long : c.len_at.result ≡ length own.bytes =
    len_is c.args.block.now c.args.position c.requires.0 held c.loop-skipped.at i c.len_at.result sized c.loop-skipped-test.true here c.len_at.ensures in
    let within : place_of (c.loop-skipped.at + size (length own.bytes)) ≤ length c.args.block.now =
    next_within sized c.args.block.now c.args.position c.requires.0 held c.loop-skipped.at i c.loop-skipped-test.true here in
    omega (arith, within, long, c.size_of_record.ensures)

pub loop-skipped-preserved : goal.loop-skipped-preserved
loop-skipped-preserved c = λ entry held.
    let i = c.loop-skipped.skipped in
    let own = get_or held.before i entry in
    let here = c.loop-skipped.invariant entry held in
    let sized = c.records_are_read_as_written.ensures.length in
    let long : c.len_at.result ≡ length own.bytes =
    len_is c.args.block.now c.args.position entry held c.loop-skipped.at i c.len_at.result sized c.loop-skipped-test.true here c.len_at.ensures in
    let near : i < length held.before = omega (arith, c.loop-skipped-test.true, held.position_is) in
    let more : take (i + 1) held.before ≡ take i held.before ++ own ∷ [] = take_more held.before i entry near in
    omega (
      arith,
      here,
      c.size_of_record.ensures,
      ap size long,
      content_more sized (take i held.before) own,
      ap (λ (l : List LogEntry). length (flat_map record_bytes l)) more,
    )

pub returns : goal.returns
returns c = λ entry held.
    let last : c.args.position ≤ c.loop-skipped.skipped = c.loop-skipped-test.false in
    c.loop-skipped.invariant entry held ∙ ap (λ (l : List LogEntry). 16 + length (flat_map record_bytes l))
    (take_all c.loop-skipped.skipped held.before (omega (arith, held.position_is, last)))
