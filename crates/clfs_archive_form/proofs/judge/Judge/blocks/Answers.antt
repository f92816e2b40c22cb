use Rattle.clfs_archive_form.proofs.Words.{ℕ, ◌+◌, ◌*◌, Option, Result, Ok, Err, List, drop, refl, sym, ◌∙◌, ap, subst, arith, err_from_is_err_and}
use Rattle.clfs_archive_form.proofs.Words.{lsn_number, frame_at, block_records, stored_in, LoadRefusal, blocks_in, Judging, JudgesBlock}
use Rattle.clfs_block.specs.declared.head.BlockRefusal.TheVariants.{Closed}
use Rattle.clfs_archive_form.proofs.Blocks.{AreRightTo, starts, goes_on, goes_within, is_refused, all_right, refuses}
use Rattle.clfs_archive_form.proofs.judge.Judge.blocks.Goals as goal

abbrev refused : LoadRefusal → Result (Option ℕ) LoadRefusal
refused refusal = Err refusal

abbrev found : Option ℕ → Result (Option ℕ) LoadRefusal
found sectors = Ok sectors

pub loop-offset-init : goal.loop-offset-init
loop-offset-init c = record {
  same = refl;
  within = omega arith;
  right = starts c.records_are_read_of_their_block.ensures.alone c.blocks_are_read_as_written.ensures c.args.self.now.shape c.args.self.now.streams c.args.id c.args.bytes.now;
}

pub overflow_mul-offset : goal.overflow_mul-offset
overflow_mul-offset c =
    let L = c.loop-offset in
    let bytes = c.args.bytes.now in
    let start = lsn_number c.args.id L.offset 0 in
    let framed = c.block.ensures.framed c.in-Some.sectors (c.in_ok-sectors.was ∙ ap found c.in-Some.is) in
    let there = ap (λ (l : List ℕ). frame_at L.self.shape start l) (sym c.split_at.ensures.back) ∙ framed.1 in
    let end = goes_within c.blocks_are_read_as_written.ensures L.self.shape start bytes L.offset framed.0 there c.loop-offset-test.true in
    omega (arith, end.0, end.1, framed.2)

pub overflow_add-offset : goal.overflow_add-offset
overflow_add-offset c =
    let L = c.loop-offset in
    let bytes = c.args.bytes.now in
    let start = lsn_number c.args.id L.offset 0 in
    let framed = c.block.ensures.framed c.in-Some.sectors (c.in_ok-sectors.was ∙ ap found c.in-Some.is) in
    let there = ap (λ (l : List ℕ). frame_at L.self.shape start l) (sym c.split_at.ensures.back) ∙ framed.1 in
    let end = goes_within c.blocks_are_read_as_written.ensures L.self.shape start bytes L.offset framed.0 there c.loop-offset-test.true in
    omega (arith, end.0, end.1, framed.2)

pub loop-offset-smaller : goal.loop-offset-smaller
loop-offset-smaller c =
    let L = c.loop-offset in
    let bytes = c.args.bytes.now in
    let start = lsn_number c.args.id L.offset 0 in
    let framed = c.block.ensures.framed c.in-Some.sectors (c.in_ok-sectors.was ∙ ap found c.in-Some.is) in
    let there = ap (λ (l : List ℕ). frame_at L.self.shape start l) (sym c.split_at.ensures.back) ∙ framed.1 in
    let end = goes_within c.blocks_are_read_as_written.ensures L.self.shape start bytes L.offset framed.0 there c.loop-offset-test.true in
    omega (arith, end.0, end.1, framed.2)

pub loop-offset-preserved : goal.loop-offset-preserved
loop-offset-preserved c =
    let L = c.loop-offset in
    let bytes = c.args.bytes.now in
    let start = lsn_number c.args.id L.offset 0 in
    let framed = c.block.ensures.framed c.in-Some.sectors (c.in_ok-sectors.was ∙ ap found c.in-Some.is) in
    let there = ap (λ (l : List ℕ). frame_at L.self.shape start l) (sym c.split_at.ensures.back) ∙ framed.1 in
    let end = goes_within c.blocks_are_read_as_written.ensures L.self.shape start bytes L.offset framed.0 there c.loop-offset-test.true in
    let same = c.loop-offset.invariant.same in
    let judged = rw c.in-Some.is at c.in_ok-sectors.ensures.exact in
    let read = ap (λ (s : Judging). block_records s.shape s.streams start (drop L.offset bytes)) (sym same)
    ∙ ap (λ (l : List ℕ). block_records L.self.shape L.self.streams start l) (sym c.split_at.ensures.back) ∙ judged.1 in
    let head = ap (λ (s : Judging). frame_at s.shape start (drop L.offset bytes)) (sym same) ∙ there in record {
      same = c.block.ensures.same ∙ same;
      within = omega (arith, end.1, framed.2);
      right = subst (λ (n : ℕ). AreRightTo c.args.self.now.shape c.args.self.now.streams c.args.id bytes (L.offset + 512 * n)) framed.2
          (goes_on c.records_are_read_of_their_block.ensures.alone c.blocks_are_read_as_written.ensures c.args.self.now.shape c.args.self.now.streams c.args.id bytes L.offset
          c.loop-offset.invariant.right c.loop-offset-test.true framed.0 judged.0 head read);
    }

pub returns-in_err-sectors-clause-exact : goal.returns-in_err-sectors-clause-exact
returns-in_err-sectors-clause-exact c =
    let p = err_from_is_err_and c.from_residual.result c.from_residual.ensures.1 in
    let L = c.loop-offset in
    let bytes = c.args.bytes.now in
    let start = lsn_number c.args.id L.offset 0 in
    let j = c.args.self.now in
    let same = c.loop-offset.invariant.same in
    let judged = subst (λ (s : Judging). JudgesBlock c.args.id L.offset (refused c.in_err-sectors.field-0.0) (block_records s.shape s.streams start (drop L.offset bytes))) same
    (subst (λ (l : List ℕ). JudgesBlock c.args.id L.offset (refused c.in_err-sectors.field-0.0) (block_records L.self.shape L.self.streams start l)) c.split_at.ensures.back
    c.in_err-sectors.ensures.exact) in
    rw (p.1, p.2) (refuses c.args.id L.offset c.in_err-sectors.field-0.0 (block_records j.shape j.streams start (drop L.offset bytes))
    (stored_in j.shape j.streams c.args.id 0 (blocks_in bytes)) judged
    (is_refused c.records_are_read_of_their_block.ensures.alone c.blocks_are_read_as_written.ensures j.shape j.streams c.args.id bytes L.offset
    c.loop-offset.invariant.right c.loop-offset-test.true))

pub returns-in-None-clause-exact : goal.returns-in-None-clause-exact
returns-in-None-clause-exact c =
    let L = c.loop-offset in
    let bytes = c.args.bytes.now in
    let start = lsn_number c.args.id L.offset 0 in
    let j = c.args.self.now in
    let same = c.loop-offset.invariant.same in
    let judged = rw c.in-None.is at c.in_ok-sectors.ensures.exact in
    let read = ap (λ (s : Judging). block_records s.shape s.streams start (drop L.offset bytes)) (sym same)
    ∙ ap (λ (l : List ℕ). block_records L.self.shape L.self.streams start l) (sym c.split_at.ensures.back) ∙ judged in
    rw c.damaged.ensures (is_refused c.records_are_read_of_their_block.ensures.alone c.blocks_are_read_as_written.ensures j.shape j.streams c.args.id bytes L.offset
    c.loop-offset.invariant.right c.loop-offset-test.true Closed read)

pub returns-clause-exact : goal.returns-clause-exact
returns-clause-exact c =
    all_right c.records_are_read_of_their_block.ensures.alone c.blocks_are_read_as_written.ensures c.args.self.now.shape c.args.self.now.streams c.args.id c.args.bytes.now
    c.loop-offset.offset c.loop-offset.invariant.right (omega (arith, c.loop-offset-test.false))
