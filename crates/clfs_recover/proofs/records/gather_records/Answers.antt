use Rattle.clfs_recover.proofs.Words.{◌≡◌, ◌+◌, ◌-◌, ℕ, suc, List, [], ◌∷◌, ◌++◌, length, drop, vec_len, Result, Ok, Err, refl, sym, ◌∙◌, ap, subst, arith}
use Rattle.clfs_recover.proofs.Words.{append_assoc, append-nil, lsn_number, record_at, LogEntry, place_of, told_as, records_from, HasTaken, RefusesAs}
use Rattle.clfs_recover.proofs.Words.{LoadRefusal, Damaged}
use Rattle.std.proofs.lemmas.List.{length-drop}
use Rattle.clfs_block.specs.RecordLaws.{behind-nil, no_header, record_wrong, records_step, records_stop, records_done, records_uneven}
use Rattle.clfs_recover.proofs.records.gather_records.Goals as goal

abbrev told : ℕ → ℕ → Result (List LogEntry) ℕ → Result (List LogEntry) LoadRefusal
told container offset read = told_as (λ at. Damaged container offset at) read

-- what is told is damage at the byte that reading names
refuses : (refusal : LoadRefusal) (container offset at : ℕ) (read : Result (List LogEntry) ℕ) → refusal ≡ Damaged container offset at → read ≡ Err at
    → RefusesAs refusal (told container offset read)
refuses refusal container offset at read is wrong =
    subst (λ (r : LoadRefusal). RefusesAs r (told container offset read)) (sym is) (ap (told container offset) wrong)

abbrev damaged : ℕ → ℕ → ℕ → LoadRefusal
damaged container offset at = Damaged container offset at

same_read : {lsn other streams others : ℕ} {bytes rest : List ℕ} → lsn ≡ other → streams ≡ others → bytes ≡ rest
    → record_at lsn streams bytes ≡ record_at other others rest
same_read p q r = λ i. record_at (p i) (q i) (r i)

pub returns-then-payload-at-clause-exact : goal.returns-then-payload-at-clause-exact
returns-then-payload-at-clause-exact g c rows before taken =
    let payload = c.args.payload.now in
    let start = lsn_number c.args.place.now.container c.args.place.now.offset 0 in
    let streams = vec_len c.args.bases.now in
    let n : c.args.count ≡ suc (c.args.count - 1) = omega (arith, c.requires.count.0) in
    refuses _ c.args.place.now.container c.args.place.now.offset 16 (records_from streams payload c.args.count start 16) c.damaged.ensures
    (ap (λ (k : ℕ). records_from streams payload k start 16) n
    ∙ record_wrong streams payload (c.args.count - 1) start 16 0
    (no_header start streams (drop 16 payload) (omega (arith, length-drop 16 payload, c.if-payload-at.true))))

pub loop-sequence-init : goal.loop-sequence-init
loop-sequence-init g c = record {
  low = omega arith;
  high = omega (arith, c.if-payload-at.false);
  same_streams = refl;
  taken = λ rows before taken.
      let payload = c.args.payload.now in
      let start = lsn_number c.args.place.now.container c.args.place.now.offset 0 in
      let streams = vec_len c.args.bases.now in
      let n : c.args.count - 0 ≡ c.args.count = omega arith in
      let lsn : start + 0 ≡ start = omega arith in (
        [],
        behind-nil (records_from streams payload (c.args.count - 0) (start + 0) 16)
            ∙ ap (λ (k : ℕ). records_from streams payload k (start + 0) 16) n ∙ ap (λ (k : ℕ). records_from streams payload c.args.count k 16) lsn,
        subst (λ (l : List LogEntry). HasTaken (g.G.Gatherer.has c.args.gatherer.now) rows c.args.bases.now.items l) (sym (append-nil before)) taken,
      );
}

pub split_at-requires : goal.split_at-requires
split_at-requires g c = c.loop-sequence.invariant.high

pub returns-in-Err-BadByte-clause-exact : goal.returns-in-Err-BadByte-clause-exact
returns-in-Err-BadByte-clause-exact g c rows before taken =
    let payload = c.args.payload.now in
    let start = lsn_number c.args.place.now.container c.args.place.now.offset 0 in
    let streams = vec_len c.args.bases.now in
    let so_far = c.loop-sequence.invariant.taken rows before taken in
    let wrong = rw c.in-Err-BadByte.field-0-is at (c.in-Err-BadByte.ensures.exact rows (before ++ so_far.0) so_far.2) in
    let is : record_at (start + c.loop-sequence.sequence) streams (drop c.loop-sequence.at payload) ≡ Err c.in-Err-BadByte.wrong =
    same_read (sym c.lsn.ensures) (sym c.loop-sequence.invariant.same_streams) (sym c.split_at.ensures.back) ∙ wrong in
    refuses _ c.args.place.now.container c.args.place.now.offset (place_of (c.loop-sequence.at + c.in-Err-BadByte.wrong))
    (records_from streams payload c.args.count start 16)
    (c.damaged-in-Err-BadByte.ensures ∙ ap (λ (n : ℕ). damaged c.args.place.now.container c.args.place.now.offset n) c.byte_of.ensures
    ∙ ap (λ (n : ℕ). damaged c.args.place.now.container c.args.place.now.offset (place_of (c.loop-sequence.at + n))) c.in-Err-BadByte.wrong-is)
    (records_stop streams payload c.args.count start c.loop-sequence.sequence c.loop-sequence.at c.in-Err-BadByte.wrong so_far.0 _
    c.loop-sequence-test.true so_far.1 is)

pub loop-sequence-preserved : goal.loop-sequence-preserved
loop-sequence-preserved g c = record {
  low = omega (arith, c.loop-sequence.invariant.low);
  high = omega (arith, c.in-Ok.ensures.end, c.loop-sequence.invariant.high, ap length c.split_at.ensures.back, length-drop c.loop-sequence.at c.args.payload.now);
  same_streams = omega (arith, c.in-Ok.ensures.streams, c.loop-sequence.invariant.same_streams);
  taken = λ rows before taken.
      let so_far = c.loop-sequence.invariant.taken rows before taken in
      let one = c.in-Ok.ensures.exact rows (before ++ so_far.0) so_far.2 in
      let payload = c.args.payload.now in
      let start = lsn_number c.args.place.now.container c.args.place.now.offset 0 in
      let streams = vec_len c.args.bases.now in
      let is : record_at (start + c.loop-sequence.sequence) streams (drop c.loop-sequence.at payload) ≡ Ok (one.0, c.in-Ok.size) =
      same_read (sym c.lsn.ensures) (sym c.loop-sequence.invariant.same_streams) (sym c.split_at.ensures.back) ∙ one.1 in (
        so_far.0 ++ one.0 ∷ [],
        records_step streams payload c.args.count start c.loop-sequence.sequence c.loop-sequence.at c.in-Ok.size one.0 so_far.0 _
            c.loop-sequence-test.true so_far.1 is,
        subst (λ (l : List LogEntry). HasTaken (g.G.Gatherer.has c.gather_record.new.gatherer) rows c.gather_record.new.bases.items l)
            (append_assoc before so_far.0 (one.0 ∷ [])) one.2,
      );
}

pub returns-then-at-payload-clause-exact : goal.returns-then-at-payload-clause-exact
returns-then-at-payload-clause-exact g c rows before taken =
    let payload = c.args.payload.now in
    let start = lsn_number c.args.place.now.container c.args.place.now.offset 0 in
    let streams = vec_len c.args.bases.now in
    let so_far = c.loop-sequence.invariant.taken rows before taken in
    refuses _ c.args.place.now.container c.args.place.now.offset 8 (records_from streams payload c.args.count start 16) c.damaged-then-at-payload.ensures
    (records_uneven streams payload c.args.count start c.loop-sequence.sequence c.loop-sequence.at so_far.0 _ (omega (arith, c.loop-sequence-test.false))
    so_far.1 c.if-at-payload.true)

pub returns-clause-exact : goal.returns-clause-exact
returns-clause-exact g c rows before taken =
    let payload = c.args.payload.now in
    let start = lsn_number c.args.place.now.container c.args.place.now.offset 0 in
    let streams = vec_len c.args.bases.now in
    let so_far = c.loop-sequence.invariant.taken rows before taken in (
      so_far.0,
      ap (told c.args.place.now.container c.args.place.now.offset)
          (records_done streams payload c.args.count start c.loop-sequence.sequence c.loop-sequence.at so_far.0 _ (omega (arith, c.loop-sequence-test.false))
          so_far.1 c.if-at-payload.false),
      so_far.2,
    )
