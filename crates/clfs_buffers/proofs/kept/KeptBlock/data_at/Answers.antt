use Rattle.clfs_buffers.proofs.Words.{◌≡◌, ℕ, ◌+◌, ◌≤◌, List, length, Option, Some, get_or, take, drop, sym, ◌∙◌, ap, subst, arith, ◌-◌, length-drop}
use Rattle.clfs_buffers.proofs.Words.{length-take, option_map, slice_get, size, header_of, entry_of, LogEntry, first_lsn, IsStart}
use Rattle.clfs_buffers.proofs.Positions.{record_there, none_there, read_whole}
use Rattle.clfs_buffers.proofs.kept.KeptBlock.data_at.Goals as goal

-- the data of a record that is found
abbrev bytes_in : Option LogEntry → Option (List ℕ)
bytes_in found = option_map (λ (e : LogEntry). e.bytes) found

abbrev some_bytes : List ℕ → Option (List ℕ)
some_bytes l = Some l

-- where a record begins it lies whole
start_whole : (streams lsn at : ℕ) (payload : List ℕ) → IsStart streams payload lsn at → size (header_of (drop at payload)).len ≤ length (drop at payload)
start_whole streams lsn at payload start = read_whole lsn streams (drop at payload) (entry_of lsn (drop at payload), start.size) start.is

pub returns-then-len-sequence-clause-exact : goal.returns-then-len-sequence-clause-exact
returns-then-len-sequence-clause-exact c =
    sym (ap (λ (l : List LogEntry). bytes_in (slice_get l c.args.sequence)) (sym c.self.view_is)
    ∙ ap bytes_in (none_there c.self.inside.payload (first_lsn c.self.inside.place) c.self.inside.starts.items c.args.sequence
    (omega (arith, c.if-len-sequence.true, c.len.ensures))))

pub split_at-requires : goal.split_at-requires
split_at-requires c =
    let there = record_there c.self.inside.payload c.self.inside.streams (first_lsn c.self.inside.place) c.self.inside.starts.items c.args.sequence
    c.index.result.now c.self.invariant.records (omega (arith, c.if-len-sequence.false, c.len.ensures)) in
    let within = there.0.within in
    let size = ap length c.as_slice.ensures in
    omega (arith, within, size, c.index.ensures)

pub len_of-len-requires : goal.len_of-len-requires
len_of-len-requires c =
    let there = record_there c.self.inside.payload c.self.inside.streams (first_lsn c.self.inside.place) c.self.inside.starts.items c.args.sequence
    c.index.result.now c.self.invariant.records (omega (arith, c.if-len-sequence.false, c.len.ensures)) in
    let within = there.0.within in
    let size = ap length c.as_slice.ensures in
    let rest = ap length c.split_at.ensures.back in
    omega (arith, within, size, rest, c.index.ensures, length-drop c.index.result.now c.as_slice.result.now)

pub slice_bounds-from_slice-end : goal.slice_bounds-from_slice-end
slice_bounds-from_slice-end c =
    let there = record_there c.self.inside.payload c.self.inside.streams (first_lsn c.self.inside.place) c.self.inside.starts.items c.args.sequence
    c.index.result.now c.self.invariant.records (omega (arith, c.if-len-sequence.false, c.len.ensures)) in
    let from = c.split_at.ensures.back ∙ (λ i. drop (c.index.ensures i) (c.as_slice.ensures i)) in
    let whole = start_whole c.self.inside.streams (first_lsn c.self.inside.place + c.args.sequence)
    (get_or c.self.inside.starts.items c.args.sequence c.index.result.now) c.self.inside.payload there.0 in
    let here : size (header_of c.split_at.result.1.now).len ≤ length c.split_at.result.1.now =
    subst (λ (l : List ℕ). size (header_of l).len ≤ length l) (sym from) whole in
    let is = ap size c.len_of-len.ensures.value in
    omega (arith, here, is)

pub returns-clause-exact : goal.returns-clause-exact
returns-clause-exact c =
    let lsn = first_lsn c.self.inside.place + c.args.sequence in
    let there = record_there c.self.inside.payload c.self.inside.streams (first_lsn c.self.inside.place) c.self.inside.starts.items c.args.sequence
    c.index.result.now c.self.invariant.records (omega (arith, c.if-len-sequence.false, c.len.ensures)) in
    let from = c.split_at.ensures.back ∙ (λ i. drop (c.index.ensures i) (c.as_slice.ensures i)) in
    let same : 32 + c.len_of-len.result - 32 ≡ c.len_of-len.result = omega arith in
    let copied : c.from_vec.result ≡ take (header_of c.split_at.result.1.now).len (drop 32 c.split_at.result.1.now) =
    c.from_vec.ensures ∙ c.in_ok-copied.ensures.items ∙ ap (λ (n : ℕ). take n (drop 32 c.split_at.result.1.now)) (same ∙ c.len_of-len.ensures.value) in
    ap (λ (l : List ℕ). some_bytes l) (copied ∙ ap (λ (l : List ℕ). take (header_of l).len (drop 32 l)) from)
    ∙ sym (ap (λ (l : List LogEntry). bytes_in (slice_get l c.args.sequence)) (sym c.self.view_is) ∙ ap bytes_in there.1)

pub returns-clause-small : goal.returns-clause-small
returns-clause-small c =
    let there = record_there c.self.inside.payload c.self.inside.streams (first_lsn c.self.inside.place) c.self.inside.starts.items c.args.sequence
    c.index.result.now c.self.invariant.records (omega (arith, c.if-len-sequence.false, c.len.ensures)) in
    let start = there.0 in
    let at = get_or c.self.inside.starts.items c.args.sequence c.index.result.now in
    let copied = ap length (c.from_vec.ensures ∙ c.in_ok-copied.ensures.items) in
    let few = length-take (32 + c.len_of-len.result - 32) (drop 32 c.split_at.result.1.now) in
    let rest = ap length (c.split_at.ensures.back ∙ (λ i. drop (c.index.ensures i) (c.as_slice.ensures i))) in
    omega (arith, copied, few, rest, length-drop 32 c.split_at.result.1.now, length-drop at c.self.inside.payload, start.behind, c.self.invariant.long)
