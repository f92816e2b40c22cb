use Rattle.clfs_archive_form.proofs.Words.{◌≡◌, ℕ, ◌+◌, ◌*◌, Option, Result, Ok, Err, List, drop, refl, sym, ◌∙◌, ap, subst, arith, err_from_is_err_and}
use Rattle.clfs_archive_form.proofs.Words.{lsn_number, total, frame_at, block_records, LoadRefusal, DiskFault, Judging, JudgesBlock}
use Rattle.clfs_archive_form.proofs.OpenEnds.{AreLeft, begin_left, left_none, on_closed, on_wrong, on_block, ends_within, refused_end}
use Rattle.clfs_archive_form.proofs.judge.Judge.open_end.Goals as goal

abbrev found : Option ℕ → Result (Option ℕ) LoadRefusal
found sectors = Ok sectors

abbrev refused : LoadRefusal → Result (Option ℕ) LoadRefusal
refused refusal = Err refusal

pub loop-offset-init : goal.loop-offset-init
loop-offset-init c = record {
  same = refl;
  whole = refl;
  within = omega arith;
  left = λ here entries whole read. begin_left c.args.self.now.shape c.args.self.now.streams c.args.id c.args.bytes.now here entries whole read;
}

pub returns-in_err-sectors-clause-found : goal.returns-in_err-sectors-clause-found
returns-in_err-sectors-clause-found c here entries whole read =
    let p = err_from_is_err_and c.from_residual.result c.from_residual.ensures.1 in
    let L = c.loop-offset in
    let bytes = c.args.bytes.now in
    let j = c.args.self.now in
    let start = lsn_number c.args.id L.offset 0 in
    let refusal = c.in_err-sectors.field-0.0 in
    let same = L.invariant.same in
    let size = ap (λ (s : Judging). s.shape.container_sectors) c.self.view_is in
    let judged = subst (λ (s : Judging). JudgesBlock c.args.id L.offset (refused refusal) (block_records s.shape s.streams start (drop L.offset bytes))) same
    (subst (λ (l : List ℕ). JudgesBlock c.args.id L.offset (refused refusal) (block_records L.self.shape L.self.streams start l)) c.split_at.ensures.back
    c.in_err-sectors.ensures.exact) in
    let left = L.invariant.left here entries whole read in
    rw (p.1, p.2) (refused_end c.args.id L.offset (total here) refusal (block_records j.shape j.streams start (drop L.offset bytes)) judged
    (λ (fault : refusal ≡ DiskFault). c.in_err-sectors.ensures.no_fault (ap refused fault))
    (on_wrong j.shape j.streams c.args.id bytes L.offset (total here) left c.records_are_read_of_their_block.ensures.alone L.invariant.whole
    (omega (arith, c.loop-offset-test.true, size))))

pub overflow_mul-offset : goal.overflow_mul-offset
overflow_mul-offset c =
    let L = c.loop-offset in
    let start = lsn_number c.args.id L.offset 0 in
    let framed = c.block.ensures.framed c.in-Some.sectors (c.in_ok-sectors.was ∙ ap found c.in-Some.is) in
    let there = ap (λ (l : List ℕ). frame_at L.self.shape start l) (sym c.split_at.ensures.back) ∙ framed.1 in
    let end = ends_within c.blocks_are_read_as_written.ensures L.self.shape start c.args.bytes.now L.offset framed.0 there in
    omega (arith, end.0, end.1, framed.2, c.requires)

pub overflow_add-offset : goal.overflow_add-offset
overflow_add-offset c =
    let L = c.loop-offset in
    let start = lsn_number c.args.id L.offset 0 in
    let framed = c.block.ensures.framed c.in-Some.sectors (c.in_ok-sectors.was ∙ ap found c.in-Some.is) in
    let there = ap (λ (l : List ℕ). frame_at L.self.shape start l) (sym c.split_at.ensures.back) ∙ framed.1 in
    let end = ends_within c.blocks_are_read_as_written.ensures L.self.shape start c.args.bytes.now L.offset framed.0 there in
    omega (arith, end.0, end.1, framed.2, c.requires)

pub loop-offset-smaller : goal.loop-offset-smaller
loop-offset-smaller c =
    let L = c.loop-offset in
    let start = lsn_number c.args.id L.offset 0 in
    let framed = c.block.ensures.framed c.in-Some.sectors (c.in_ok-sectors.was ∙ ap found c.in-Some.is) in
    let there = ap (λ (l : List ℕ). frame_at L.self.shape start l) (sym c.split_at.ensures.back) ∙ framed.1 in
    let end = ends_within c.blocks_are_read_as_written.ensures L.self.shape start c.args.bytes.now L.offset framed.0 there in
    omega (arith, end.0, end.1, framed.2, c.loop-offset-test.true)

pub loop-offset-preserved : goal.loop-offset-preserved
loop-offset-preserved c =
    let L = c.loop-offset in
    let bytes = c.args.bytes.now in
    let j = c.args.self.now in
    let start = lsn_number c.args.id L.offset 0 in
    let same = L.invariant.same in
    let size = ap (λ (s : Judging). s.shape.container_sectors) c.self.view_is in
    let framed = c.block.ensures.framed c.in-Some.sectors (c.in_ok-sectors.was ∙ ap found c.in-Some.is) in
    let there = ap (λ (l : List ℕ). frame_at L.self.shape start l) (sym c.split_at.ensures.back) ∙ framed.1 in
    let end = ends_within c.blocks_are_read_as_written.ensures L.self.shape start bytes L.offset framed.0 there in
    let head = ap (λ (s : Judging). frame_at s.shape start (drop L.offset bytes)) (sym same) ∙ there in record {
      same = c.block.ensures.same ∙ same;
      whole = omega (arith, L.invariant.whole);
      within = omega (arith, end.1, framed.2);
      left = λ here entries whole read.
          subst (λ (n : ℕ). AreLeft j.shape j.streams c.args.id bytes (L.offset + 512 * n) (total here)) framed.2
          (on_block j.shape j.streams c.args.id bytes L.offset (total here) (L.invariant.left here entries whole read) c.records_are_read_of_their_block.ensures.alone L.invariant.whole
          (omega (arith, c.loop-offset-test.true, size)) c.blocks_are_read_as_written.ensures framed.0 head);
    }

pub returns-after-loop-offset-clause-found : goal.returns-after-loop-offset-clause-found
returns-after-loop-offset-clause-found c here entries whole read =
    let L = c.loop-offset in
    let j = c.args.self.now in
    let size = ap (λ (s : Judging). s.shape.container_sectors) c.self.view_is in
    left_none j.shape j.streams c.args.id c.args.bytes.now L.offset (total here) (L.invariant.left here entries whole read)
    (omega (arith, c.loop-offset-test.false, size))

pub returns-in-None-clause-found : goal.returns-in-None-clause-found
returns-in-None-clause-found c here entries whole read =
    let L = c.loop-offset in
    let bytes = c.args.bytes.now in
    let j = c.args.self.now in
    let start = lsn_number c.args.id L.offset 0 in
    let size = ap (λ (s : Judging). s.shape.container_sectors) c.self.view_is in
    let judged = rw c.in-None.is at c.in_ok-sectors.ensures.exact in
    let closed = ap (λ (s : Judging). block_records s.shape s.streams start (drop L.offset bytes)) (sym L.invariant.same)
    ∙ ap (λ (l : List ℕ). block_records L.self.shape L.self.streams start l) (sym c.split_at.ensures.back) ∙ judged in
    on_closed j.shape j.streams c.args.id bytes L.offset (total here) (L.invariant.left here entries whole read) c.records_are_read_of_their_block.ensures.alone L.invariant.whole
    (omega (arith, c.loop-offset-test.true, size)) closed
