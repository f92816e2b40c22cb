use Rattle.clfs_buffers.proofs.Words.{◌≡◌, ℕ, suc, ◌+◌, ◌-◌, List, [], ◌∷◌, ◌++◌, length, drop, Result, Ok, Err, sym, ◌∙◌, ap, subst, arith, length-drop}
use Rattle.clfs_buffers.proofs.Words.{record_at, entry_of, LogEntry, told_as, records_from, behind, BlockRefusal, BadByte, first_lsn, records_at, IsStart}
use Rattle.clfs_buffers.proofs.Words.{AreStarts, wrong_in}
use Rattle.std.proofs.Common.{length-append}
use Rattle.clfs_block.specs.Frame.{place_of}
use Rattle.clfs_block.specs.RecordLaws.{behind-nil, no_header, record_wrong, records_step, records_stop, records_done, records_uneven}
use Rattle.clfs_buffers.proofs.Positions.{records_at-append, AreStarts-append, read_entry, refused_head}
use Rattle.clfs_buffers.proofs.starts.find_starts.Goals as goal

abbrev told : Result (List LogEntry) ℕ → Result (List LogEntry) BlockRefusal
told read = told_as BadByte read

abbrev refused : ℕ → Result (List LogEntry) BlockRefusal
refused at = Err (BadByte at)

abbrev answer : LogEntry → ℕ → Result (LogEntry × ℕ) ℕ
answer entry size = Ok (entry, size)

same_read : (streams : ℕ) {lsn other : ℕ} {bytes rest : List ℕ} → lsn ≡ other → bytes ≡ rest → record_at lsn streams bytes ≡ record_at other streams rest
same_read streams p q = λ i. record_at (p i) streams (q i)

pub returns-then-payload-at-clause-found : goal.returns-then-payload-at-clause-found
returns-then-payload-at-clause-found c =
    let payload = c.args.payload.now in
    let start = first_lsn c.args.place in
    let n : c.args.count ≡ suc (c.args.count - 1) = omega (arith, c.requires.count.0) in
    ap told (ap (λ (k : ℕ). records_from c.args.streams payload k start 16) n
    ∙ record_wrong c.args.streams payload (c.args.count - 1) start 16 0
    (no_header start c.args.streams (drop 16 payload) (omega (arith, length-drop 16 payload, c.if-payload-at.true))))

pub loop-sequence-init : goal.loop-sequence-init
loop-sequence-init c =
    let payload = c.args.payload.now in
    let start = first_lsn c.args.place in
    let none : c.reserve.new.self.items ≡ [] = c.in_ok-reserve.ensures.items ∙ c.clear.ensures.items in
    let n : c.args.count - 0 ≡ c.args.count = omega arith in
    let lsn : start + 0 ≡ start = omega arith in record {
      low = omega arith;
      high = omega (arith, c.if-payload-at.false);
      found = ap length none;
      room = omega (arith, c.in_ok-reserve.ensures.ok, c.in_ok-reserve.ensures.len, c.clear.ensures.len);
      starts = subst (λ (l : List ℕ). AreStarts c.args.streams payload start l) (sym none) tt;
      so_far = ap (λ (l : List ℕ). behind (records_at payload start l) (records_from c.args.streams payload (c.args.count - 0) (start + 0) 16)) none
          ∙ behind-nil (records_from c.args.streams payload (c.args.count - 0) (start + 0) 16)
          ∙ ap (λ (k : ℕ). records_from c.args.streams payload k (start + 0) 16) n
          ∙ ap (λ (k : ℕ). records_from c.args.streams payload c.args.count k 16) lsn;
    }

pub split_at-requires : goal.split_at-requires
split_at-requires c = c.loop-sequence.invariant.high

pub push_reserved-requires : goal.push_reserved-requires
push_reserved-requires c =
    let found = c.loop-sequence.invariant.found in omega (arith, c.loop-sequence.invariant.room, found, c.loop-sequence-test.true)

pub returns-in-Err-clause-found : goal.returns-in-Err-clause-found
returns-in-Err-clause-found c =
    let start = first_lsn c.args.place in
    let payload = c.args.payload.now in
    let is : record_at (start + c.loop-sequence.sequence) c.args.streams (drop c.loop-sequence.at payload) ≡ Err (wrong_in c.in-Err.refusal) =
    same_read c.args.streams (sym c.lsn.ensures) (sym c.split_at.ensures.back)
    ∙ refused_head c.in-Err.refusal _ (sym c.in-Err.is ∙ c.decode_head.ensures.exact) in
    ap told (records_stop c.args.streams payload c.args.count start c.loop-sequence.sequence c.loop-sequence.at (wrong_in c.in-Err.refusal)
    (records_at payload start c.loop-sequence.starts.items) _ c.loop-sequence-test.true c.loop-sequence.invariant.so_far is)
    ∙ ap refused (ap (λ (k : ℕ). place_of (c.loop-sequence.at + k)) (sym c.wrong_byte.ensures) ∙ sym c.byte_of-byte.ensures)

pub loop-sequence-preserved : goal.loop-sequence-preserved
loop-sequence-preserved c =
    let start = first_lsn c.args.place in
    let payload = c.args.payload.now in
    let starts = c.loop-sequence.starts.items in
    let at = c.loop-sequence.at in
    let lsn = start + c.loop-sequence.sequence in
    let head = c.in-Ok.ensures.found in
    let read : record_at lsn c.args.streams (drop at payload) ≡ answer head.entry c.in-Ok.size =
    same_read c.args.streams (sym c.lsn.ensures) (sym c.split_at.ensures.back) ∙ head.there in
    let entry = read_entry lsn c.args.streams (drop at payload) (head.entry, c.in-Ok.size) read in
    let first : record_at lsn c.args.streams (drop at payload) ≡ answer (entry_of lsn (drop at payload)) c.in-Ok.size =
    read ∙ ap (λ (e : LogEntry). answer e c.in-Ok.size) (sym entry.0) in
    let found : length starts ≡ c.loop-sequence.sequence = c.loop-sequence.invariant.found in
    let here : start + length starts ≡ lsn = ap (λ (n : ℕ). start + n) found in
    let long = length-drop at payload in
    let end = head.end in
    let rest = ap length c.split_at.ensures.back in
    let one : IsStart c.args.streams payload lsn at = record { size = c.in-Ok.size; is = first; behind = c.loop-sequence.invariant.low; within = omega (arith, long, entry.1) } in
    let items : c.push_reserved.new.self.items ≡ starts ++ at ∷ [] = c.push_reserved.ensures.items in record {
      low = omega (arith, c.loop-sequence.invariant.low);
      high = omega (arith, c.loop-sequence.invariant.high, end, rest, long);
      found = ap length items ∙ length-append starts (at ∷ []) ∙ ap (λ (n : ℕ). n + 1) found;
      room = omega (arith, c.loop-sequence.invariant.room, c.push_reserved.ensures.capacity);
      starts = subst (λ (l : List ℕ). AreStarts c.args.streams payload start l) (sym items)
          (AreStarts-append payload c.args.streams start starts at c.loop-sequence.invariant.starts
          (subst (λ (n : ℕ). IsStart c.args.streams payload n at) (sym here) one));
      so_far = ap (λ (l : List LogEntry). behind l (records_from c.args.streams payload (c.args.count - (c.loop-sequence.sequence + 1))
          (start + (c.loop-sequence.sequence + 1)) (at + c.in-Ok.size)))
          (ap (records_at payload start) items ∙ records_at-append payload start starts at
          ∙ ap (λ (n : ℕ). records_at payload start starts ++ entry_of n (drop at payload) ∷ []) here)
          ∙ records_step c.args.streams payload c.args.count start c.loop-sequence.sequence at c.in-Ok.size (entry_of lsn (drop at payload))
          (records_at payload start starts) _ c.loop-sequence-test.true c.loop-sequence.invariant.so_far first;
    }

pub returns-then-at-payload-clause-found : goal.returns-then-at-payload-clause-found
returns-then-at-payload-clause-found c =
    ap told (records_uneven c.args.streams c.args.payload.now c.args.count (first_lsn c.args.place) c.loop-sequence.sequence c.loop-sequence.at
    (records_at c.args.payload.now (first_lsn c.args.place) c.loop-sequence.starts.items) _ (omega (arith, c.loop-sequence-test.false))
    c.loop-sequence.invariant.so_far c.if-at-payload.true)

pub returns-clause-found : goal.returns-clause-found
returns-clause-found c = (
  ap told (records_done c.args.streams c.args.payload.now c.args.count (first_lsn c.args.place) c.loop-sequence.sequence c.loop-sequence.at
      (records_at c.args.payload.now (first_lsn c.args.place) c.loop-sequence.starts.items) _ (omega (arith, c.loop-sequence-test.false))
      c.loop-sequence.invariant.so_far c.if-at-payload.false),
  c.loop-sequence.invariant.starts,
)

pub returns-clause-few : goal.returns-clause-few
returns-clause-few c = let found = c.loop-sequence.invariant.found in omega (arith, found, c.loop-sequence-test.false, c.loop-sequence.auto.sequence-end)
