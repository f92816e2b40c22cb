use Rattle.clfs_buffers.proofs.Words.{◌≡◌, ℕ, ◌+◌, List, length, Option, Some, Result, Ok, Err, get_or, drop, sym, ◌∙◌, ap, arith, length-drop, length-take}
use Rattle.clfs_buffers.proofs.Words.{ok_or, slice_get, record_at, entry_of, header_of, LogEntry, first_lsn, IsStart}
use Rattle.clfs_buffers.proofs.Positions.{record_there, none_there}
use Rattle.clfs_buffers.proofs.kept.KeptBlock.entry.Goals as goal

-- what is found at a position of a list, or else byte 4
abbrev found : Option LogEntry → Result LogEntry ℕ
found o = ok_or o 4

abbrev answer : LogEntry × ℕ → Result (LogEntry × ℕ) ℕ
answer x = Ok x

abbrev wrong : ℕ → Result (LogEntry × ℕ) ℕ
wrong at = Err at

one_record : (x y : LogEntry × ℕ) → answer x ≡ answer y → x.0 ≡ y.0
one_record x y e = let same : x ≡ y = cc e in ap (λ (z : LogEntry × ℕ). z.0) same

-- where a record begins, bytes from there on are read as it and not refused
module _ (streams lsn at other : ℕ) (payload bytes : List ℕ) (start : IsStart streams payload lsn at) (same : other ≡ lsn) (from : bytes ≡ drop at payload) where
  same_read : record_at other streams bytes ≡ Ok (entry_of lsn (drop at payload), start.size)
  same_read = (λ i. record_at (same i) streams (from i)) ∙ start.is

  read_there : (x : LogEntry × ℕ) → record_at other streams bytes ≡ answer x → entry_of lsn (drop at payload) ≡ x.0
  read_there x is = one_record (entry_of lsn (drop at payload), start.size) x (sym same_read ∙ is)

  not_wrong : (k : ℕ) → record_at other streams bytes ≡ wrong k → ⊥
  not_wrong k is = let e : answer (entry_of lsn (drop at payload), start.size) ≡ wrong k = sym same_read ∙ is in cc e

pub returns-then-len-sequence-clause-exact : goal.returns-then-len-sequence-clause-exact
returns-then-len-sequence-clause-exact c = ap (λ (l : List LogEntry). found (slice_get l c.args.sequence)) (sym c.self.view_is)
    ∙ ap found (none_there c.self.inside.payload (first_lsn c.self.inside.place) c.self.inside.starts.items c.args.sequence
    (omega (arith, c.if-len-sequence.true, c.len.ensures)))

pub split_at-requires : goal.split_at-requires
split_at-requires c =
    let there = record_there c.self.inside.payload c.self.inside.streams (first_lsn c.self.inside.place) c.self.inside.starts.items c.args.sequence
    c.index.result.now c.self.invariant.records (omega (arith, c.if-len-sequence.false, c.len.ensures)) in
    let within = there.0.within in
    let size = ap length c.as_slice.ensures in
    omega (arith, within, size, c.index.ensures)

pub stream_of-requires : goal.stream_of-requires
stream_of-requires c =
    let there = record_there c.self.inside.payload c.self.inside.streams (first_lsn c.self.inside.place) c.self.inside.starts.items c.args.sequence
    c.index.result.now c.self.invariant.records (omega (arith, c.if-len-sequence.false, c.len.ensures)) in
    let within = there.0.within in
    let size = ap length c.as_slice.ensures in
    let rest = ap length c.split_at.ensures.back in
    omega (arith, within, size, rest, c.index.ensures, length-drop c.index.result.now c.as_slice.result.now)

pub returns-in-Ok-clause-exact : goal.returns-in-Ok-clause-exact
returns-in-Ok-clause-exact c =
    let lsn = first_lsn c.self.inside.place + c.args.sequence in
    let there = record_there c.self.inside.payload c.self.inside.streams (first_lsn c.self.inside.place) c.self.inside.starts.items c.args.sequence
    c.index.result.now c.self.invariant.records (omega (arith, c.if-len-sequence.false, c.len.ensures)) in
    let from = c.split_at.ensures.back ∙ (λ i. drop (c.index.ensures i) (c.as_slice.ensures i)) in
    ap (λ (l : List LogEntry). found (slice_get l c.args.sequence)) (sym c.self.view_is) ∙ ap found there.1
    ∙ ap (λ (e : LogEntry). found (Some e)) (read_there c.self.inside.streams lsn
    (get_or c.self.inside.starts.items c.args.sequence c.index.result.now) c.lsn.result c.self.inside.payload c.split_at.result.1.now there.0 c.lsn.ensures from
    (c.in-Ok.entry, c.in-Ok.field-0-1) c.in-Ok.ensures.exact)

pub returns-in-Err-BadByte-clause-exact : goal.returns-in-Err-BadByte-clause-exact
returns-in-Err-BadByte-clause-exact c =
    let lsn = first_lsn c.self.inside.place + c.args.sequence in
    let there = record_there c.self.inside.payload c.self.inside.streams (first_lsn c.self.inside.place) c.self.inside.starts.items c.args.sequence
    c.index.result.now c.self.invariant.records (omega (arith, c.if-len-sequence.false, c.len.ensures)) in
    let from = c.split_at.ensures.back ∙ (λ i. drop (c.index.ensures i) (c.as_slice.ensures i)) in
    absurd (not_wrong c.self.inside.streams lsn
    (get_or c.self.inside.starts.items c.args.sequence c.index.result.now) c.lsn.result c.self.inside.payload c.split_at.result.1.now there.0 c.lsn.ensures from
    _ (rw c.in-Err-BadByte.field-0-is at c.in-Err-BadByte.ensures.exact))

pub returns-in-Ok-clause-small : goal.returns-in-Ok-clause-small
returns-in-Ok-clause-small c =
    let lsn = first_lsn c.self.inside.place + c.args.sequence in
    let at = get_or c.self.inside.starts.items c.args.sequence c.index.result.now in
    let there = record_there c.self.inside.payload c.self.inside.streams (first_lsn c.self.inside.place) c.self.inside.starts.items c.args.sequence
    c.index.result.now c.self.invariant.records (omega (arith, c.if-len-sequence.false, c.len.ensures)) in
    let start = there.0 in
    let from = c.split_at.ensures.back ∙ (λ i. drop (c.index.ensures i) (c.as_slice.ensures i)) in
    let is = ap (λ (e : LogEntry). length e.bytes) (read_there c.self.inside.streams lsn at c.lsn.result c.self.inside.payload c.split_at.result.1.now start
    c.lsn.ensures from (c.in-Ok.entry, c.in-Ok.field-0-1) c.in-Ok.ensures.exact) in
    let rest = drop at c.self.inside.payload in
    let few = length-take (header_of rest).len (drop 32 rest) in
    omega (arith, is, few, length-drop 32 rest, length-drop at c.self.inside.payload, start.behind, c.self.invariant.long)
