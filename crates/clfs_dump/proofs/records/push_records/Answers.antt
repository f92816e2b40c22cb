use Rattle.clfs_dump.proofs.Words.{◌≡◌, ℕ, suc, ◌+◌, ◌-◌, List, [], ◌∷◌, ◌++◌, length, drop, Some, Ok, Err, refl, sym, ◌∙◌, ap, arith, flat_map, lsn_number}
use Rattle.clfs_dump.proofs.Words.{record_at, LogEntry, records_from, first_wrong, record_text, records_met}
use Rattle.std.proofs.lemmas.List.{length-drop}
use Rattle.std.specs.Prelude.{Result, Option}
use Rattle.clfs_block.specs.RecordLaws.{behind-nil, no_header, record_wrong, records_step, records_stop, records_done, records_uneven}
use Rattle.clfs_dump.proofs.RecordsMet.{met_taken, met_wrong, met_end, met_all, text_more, text_end}
use Rattle.clfs_dump.proofs.records.push_records.Goals as goal

abbrev wrong_at : Result (List LogEntry) ℕ → Option ℕ
wrong_at read = first_wrong read

same_read : {lsn other : ℕ} {bytes rest : List ℕ} (streams : ℕ) → lsn ≡ other → bytes ≡ rest → record_at lsn streams bytes ≡ record_at other streams rest
same_read streams p q = λ i. record_at (p i) streams (q i)

abbrev some_byte : ℕ → Option ℕ
some_byte at = Some at

pub returns-then-payload-at-clause-text : goal.returns-then-payload-at-clause-text
returns-then-payload-at-clause-text c =
    let payload = c.args.payload.now in
    let start = lsn_number c.args.place.now.container c.args.place.now.offset 0 in
    let streams = length c.args.rows.now in
    let zero : start + 0 ≡ start = omega arith in
    let none : records_met streams payload c.args.count start 16 ≡ [] =
    sym (met_all streams payload c.args.count start 16)
    ∙ met_wrong streams payload c.args.count start 0 16 0 (omega (arith, c.requires.count.0))
    (no_header (start + 0) streams (drop 16 payload) (omega (arith, length-drop 16 payload, c.if-payload-at.true))) in
    text_end (record_text c.args.selection.now c.args.rows.now) c.args.out.now _ (records_met streams payload c.args.count start 16) refl none

pub returns-then-payload-at-clause-wrong : goal.returns-then-payload-at-clause-wrong
returns-then-payload-at-clause-wrong c =
    let payload = c.args.payload.now in
    let start = lsn_number c.args.place.now.container c.args.place.now.offset 0 in
    let streams = length c.args.rows.now in
    let n : c.args.count ≡ suc (c.args.count - 1) = omega (arith, c.requires.count.0) in
    sym (ap wrong_at (ap (λ (k : ℕ). records_from streams payload k start 16) n
    ∙ record_wrong streams payload (c.args.count - 1) start 16 0
    (no_header start streams (drop 16 payload) (omega (arith, length-drop 16 payload, c.if-payload-at.true)))))

pub loop-sequence-init : goal.loop-sequence-init
loop-sequence-init c =
    let payload = c.args.payload.now in
    let start = lsn_number c.args.place.now.container c.args.place.now.offset 0 in
    let streams = length c.args.rows.now in record {
      low = omega arith;
      high = omega (arith, c.if-payload-at.false);
      text = ap (λ (l : List LogEntry). c.args.out.now ++ flat_map (record_text c.args.selection.now c.args.rows.now) l)
          (met_all streams payload c.args.count start 16);
      read =
          let n : c.args.count - 0 ≡ c.args.count = omega arith in
          let lsn : start + 0 ≡ start = omega arith in (
            [],
            behind-nil (records_from streams payload (c.args.count - 0) (start + 0) 16)
                ∙ ap (λ (k : ℕ). records_from streams payload k (start + 0) 16) n ∙ ap (λ (k : ℕ). records_from streams payload c.args.count k 16) lsn,
          );
    }

pub split_at-requires : goal.split_at-requires
split_at-requires c = c.loop-sequence.invariant.high

pub loop-sequence-preserved : goal.loop-sequence-preserved
loop-sequence-preserved c =
    let payload = c.args.payload.now in
    let start = lsn_number c.args.place.now.container c.args.place.now.offset 0 in
    let streams = length c.args.rows.now in
    let one = rw c.in-Ok.is at c.in_ok-size.ensures.told in
    let near = rw c.in-Ok.is at c.in_ok-size.ensures.near in
    let is : record_at (start + c.loop-sequence.sequence) streams (drop c.loop-sequence.at payload) ≡ Ok (one.0, c.in-Ok.size) =
    same_read streams (sym c.lsn.ensures) (sym c.split_at.ensures.back) ∙ one.1 in record {
      low = omega (arith, c.loop-sequence.invariant.low);
      high = omega (arith, near, c.loop-sequence.invariant.high, ap length c.split_at.ensures.back, length-drop c.loop-sequence.at payload);
      text = text_more (record_text c.args.selection.now c.args.rows.now) c.loop-sequence.out c.push_next.new.out _ one.0 _ _ c.loop-sequence.invariant.text
          (met_taken streams payload c.args.count start c.loop-sequence.sequence c.loop-sequence.at c.in-Ok.size one.0 c.loop-sequence-test.true is) one.2;
      read = (
        c.loop-sequence.invariant.read.0 ++ one.0 ∷ [],
        records_step streams payload c.args.count start c.loop-sequence.sequence c.loop-sequence.at c.in-Ok.size one.0 c.loop-sequence.invariant.read.0 _
            c.loop-sequence-test.true c.loop-sequence.invariant.read.1 is,
      );
    }

pub returns-in-Err-clause-text : goal.returns-in-Err-clause-text
returns-in-Err-clause-text c =
    let payload = c.args.payload.now in
    let start = lsn_number c.args.place.now.container c.args.place.now.offset 0 in
    let streams = length c.args.rows.now in
    let one = rw c.in-Err.is at c.in_ok-size.ensures.told in
    let is : record_at (start + c.loop-sequence.sequence) streams (drop c.loop-sequence.at payload) ≡ Err c.in-Err.wrong =
    same_read streams (sym c.lsn.ensures) (sym c.split_at.ensures.back) ∙ one.0 in
    one.1 ∙ text_end (record_text c.args.selection.now c.args.rows.now) c.loop-sequence.out _ _ c.loop-sequence.invariant.text
    (met_wrong streams payload c.args.count start c.loop-sequence.sequence c.loop-sequence.at c.in-Err.wrong c.loop-sequence-test.true is)

pub returns-in-Err-clause-wrong : goal.returns-in-Err-clause-wrong
returns-in-Err-clause-wrong c =
    let payload = c.args.payload.now in
    let start = lsn_number c.args.place.now.container c.args.place.now.offset 0 in
    let streams = length c.args.rows.now in
    let one = rw c.in-Err.is at c.in_ok-size.ensures.told in
    let is : record_at (start + c.loop-sequence.sequence) streams (drop c.loop-sequence.at payload) ≡ Err c.in-Err.wrong =
    same_read streams (sym c.lsn.ensures) (sym c.split_at.ensures.back) ∙ one.0 in
    ap some_byte c.byte_of.ensures
    ∙ sym (ap wrong_at (records_stop streams payload c.args.count start c.loop-sequence.sequence c.loop-sequence.at c.in-Err.wrong
    c.loop-sequence.invariant.read.0 _ c.loop-sequence-test.true c.loop-sequence.invariant.read.1 is))

pub returns-then-at-payload-clause-text : goal.returns-then-at-payload-clause-text
returns-then-at-payload-clause-text c =
    let start = lsn_number c.args.place.now.container c.args.place.now.offset 0 in
    text_end (record_text c.args.selection.now c.args.rows.now) c.loop-sequence.out _ _ c.loop-sequence.invariant.text
    (met_end (length c.args.rows.now) c.args.payload.now c.args.count start c.loop-sequence.sequence c.loop-sequence.at (omega (arith, c.loop-sequence-test.false)))

pub returns-then-at-payload-clause-wrong : goal.returns-then-at-payload-clause-wrong
returns-then-at-payload-clause-wrong c =
    let start = lsn_number c.args.place.now.container c.args.place.now.offset 0 in
    sym (ap wrong_at (records_uneven (length c.args.rows.now) c.args.payload.now c.args.count start c.loop-sequence.sequence c.loop-sequence.at
    c.loop-sequence.invariant.read.0 _ (omega (arith, c.loop-sequence-test.false)) c.loop-sequence.invariant.read.1 c.if-at-payload.true))

pub returns-clause-text : goal.returns-clause-text
returns-clause-text c =
    let start = lsn_number c.args.place.now.container c.args.place.now.offset 0 in
    text_end (record_text c.args.selection.now c.args.rows.now) c.loop-sequence.out _ _ c.loop-sequence.invariant.text
    (met_end (length c.args.rows.now) c.args.payload.now c.args.count start c.loop-sequence.sequence c.loop-sequence.at (omega (arith, c.loop-sequence-test.false)))

pub returns-clause-wrong : goal.returns-clause-wrong
returns-clause-wrong c =
    let start = lsn_number c.args.place.now.container c.args.place.now.offset 0 in
    sym (ap wrong_at (records_done (length c.args.rows.now) c.args.payload.now c.args.count start c.loop-sequence.sequence c.loop-sequence.at
    c.loop-sequence.invariant.read.0 _ (omega (arith, c.loop-sequence-test.false)) c.loop-sequence.invariant.read.1 c.if-at-payload.false))
