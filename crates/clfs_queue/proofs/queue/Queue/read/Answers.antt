use Rattle.clfs_queue.proofs.Words.{◌≡◌, ◌-◌, ℕ, List, length, take, drop, ap, sym, ◌∙◌, subst, arith, IsSome, Some, offset_of, sequence_of, LogEntry, Queued}
use Rattle.clfs_queue.proofs.Words.{data_at, IsHeld}
use Rattle.std.specs.Prelude.{IfOk, Option, Result, Ok, Err}
use Rattle.std.proofs.lemmas.List.{take_rest}
use Rattle.std.specs.declared.alloc.AllocError.{AllocError}
use Rattle.clfs_queue.proofs.Shown.{shown}
use Rattle.clfs_queue.proofs.Locating.{IsFound, found_at}
use Rattle.clfs_queue.proofs.queue.Queue.read.Goals as goal

pub overflow_sub-block : goal.overflow_sub-block
overflow_sub-block c =
    let i = c.self.inside in
    let q : Queued = shown i in
    let found = found_at c.blocks_are_read_as_written.ensures q i.buffer.items i.sealed_len _ _ c.args.lsn c.self.invariant
    (subst (λ (v : Queued). IsSome (data_at c.args.lsn v.records)) (sym c.self.view_is) c.requires) in
    omega (arith, found.low, c.offset.ensures.value)

pub slice_bounds-block-count : goal.slice_bounds-block-count
slice_bounds-block-count c =
    let i = c.self.inside in
    let q : Queued = shown i in
    let found = found_at c.blocks_are_read_as_written.ensures q i.buffer.items i.sealed_len _ _ c.args.lsn c.self.invariant
    (subst (λ (v : Queued). IsSome (data_at c.args.lsn v.records)) (sym c.self.view_is) c.requires) in
    omega (arith, found.high, c.offset.ensures.value, c.deref.ensures.len)

pub slice_bounds-block-start : goal.slice_bounds-block-start
slice_bounds-block-start c =
    let i = c.self.inside in
    let q : Queued = shown i in
    let found = found_at c.blocks_are_read_as_written.ensures q i.buffer.items i.sealed_len _ _ c.args.lsn c.self.invariant
    (subst (λ (v : Queued). IsSome (data_at c.args.lsn v.records)) (sym c.self.view_is) c.requires) in
    omega (arith, found.high, c.offset.ensures.value, c.deref.ensures.len)

-- the bytes that are passed on hold the record that was found
passed : (first at lsn position : ℕ) (bytes all : List ℕ) (records : List LogEntry) (found : IsFound first bytes lsn records) → at ≡ offset_of lsn → all ≡ bytes
    → position ≡ sequence_of lsn → IsHeld (take (length all - (at - first)) (drop (at - first) all)) position found.entry
passed first at lsn position bytes all records found at_is is position_is =
    let same : take (length all - (at - first)) (drop (at - first) all) ≡ drop (offset_of lsn - first) bytes =
    take_rest all (at - first) ∙ ap (λ (n : ℕ). drop (n - first) all) at_is ∙ ap (λ (l : List ℕ). drop (offset_of lsn - first) l) is in
    subst (λ (n : ℕ). IsHeld (take (length all - (at - first)) (drop (at - first) all)) n found.entry) (sym position_is)
    (subst (λ (l : List ℕ). IsHeld l (sequence_of lsn) found.entry) (sym same) found.held)

pub read_record-requires : goal.read_record-requires
read_record-requires c =
    let i = c.self.inside in
    let q : Queued = shown i in
    let found = found_at c.blocks_are_read_as_written.ensures q i.buffer.items i.sealed_len _ _ c.args.lsn c.self.invariant
    (subst (λ (v : Queued). IsSome (data_at c.args.lsn v.records)) (sym c.self.view_is) c.requires) in (
      found.entry,
      passed (i.place.offset - i.sealed_len) c.offset.result c.args.lsn c.sequence.result i.buffer.items c.deref.result.now q.records found
          c.offset.ensures.value c.deref.ensures.value c.sequence.ensures.value,
    )

-- the data of that record are those that are found
told : (result : Result (List ℕ) AllocError) (here : List ℕ) (found : Option (List ℕ)) → found ≡ Some here → IfOk result (λ bytes. bytes ≡ here)
    → IfOk result (λ bytes. found ≡ Some bytes)
told (Ok bytes) here found is same = is ∙ ap (λ (l : List ℕ). Some l) (sym same)
told (Err e) here found is same = tt

pub returns : goal.returns
returns c =
    let i = c.self.inside in
    let q : Queued = shown i in
    let found = found_at c.blocks_are_read_as_written.ensures q i.buffer.items i.sealed_len _ _ c.args.lsn c.self.invariant
    (subst (λ (v : Queued). IsSome (data_at c.args.lsn v.records)) (sym c.self.view_is) c.requires) in
    let held = passed (i.place.offset - i.sealed_len) c.offset.result c.args.lsn c.sequence.result i.buffer.items c.deref.result.now q.records found
    c.offset.ensures.value c.deref.ensures.value c.sequence.ensures.value in
    let is : data_at c.args.lsn c.args.self.now.records ≡ Some found.entry.bytes =
    ap (λ (v : Queued). data_at c.args.lsn v.records) (sym c.self.view_is) ∙ found.data_is in
    told c.read_record.result found.entry.bytes (data_at c.args.lsn c.args.self.now.records) is (c.read_record.ensures found.entry held)
