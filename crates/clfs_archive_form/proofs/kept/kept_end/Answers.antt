use Rattle.clfs_archive_form.proofs.Words.{ℕ, List, drop, sym, ◌∙◌, ap, arith, frame_at}
use Rattle.clfs_archive_form.proofs.KeptEnds.{begins, ends, goes_on, stops, no_refusal}
use Rattle.clfs_archive_form.proofs.OpenEnds.{ends_within}
use Rattle.clfs_archive_form.proofs.kept.kept_end.Goals as goal

pub loop-offset-init : goal.loop-offset-init
loop-offset-init c = record {
  within = omega arith;
  kept = λ streams entries read.
      begins c.records_are_read_of_their_block.ensures.alone c.blocks_are_read_as_written.ensures c.records_are_read_as_written.ensures.fits c.args.shape.now
      c.requires.shape.largest_block streams c.args.id c.args.up_to c.args.blocks.now entries read;
}

pub returns-in_default-clause-kept : goal.returns-in_default-clause-kept
returns-in_default-clause-kept c streams entries read =
    let offset = c.loop-offset.offset in
    let framed = ap (λ (n : ℕ). frame_at c.args.shape.now n (drop offset c.args.blocks.now)) (sym c.from_parts-start.ensures)
    ∙ ap (λ (l : List ℕ). frame_at c.args.shape.now c.from_parts-start.result l) (sym c.split_at.ensures.back) ∙ sym c.check_frame.ensures.exact ∙ c.in_default.is in
    absurd (no_refusal c.records_are_read_of_their_block.ensures.alone c.blocks_are_read_as_written.ensures c.records_are_read_as_written.ensures.fits c.args.shape.now
    c.requires.shape.largest_block streams c.args.id c.args.up_to c.args.blocks.now entries offset (c.loop-offset.invariant.kept streams entries read) c.loop-offset-test.true
    c.in_default.field-0 framed)

pub returns-then-records-head-clause-kept : goal.returns-then-records-head-clause-kept
returns-then-records-head-clause-kept c streams entries read =
    let offset = c.loop-offset.offset in
    let framed = ap (λ (n : ℕ). frame_at c.args.shape.now n (drop offset c.args.blocks.now)) (sym c.from_parts-start.ensures)
    ∙ ap (λ (l : List ℕ). frame_at c.args.shape.now c.from_parts-start.result l) (sym c.split_at.ensures.back) ∙ sym c.check_frame.ensures.exact ∙ c.in-Ok.is in
    stops c.records_are_read_of_their_block.ensures.alone c.blocks_are_read_as_written.ensures c.records_are_read_as_written.ensures.fits c.args.shape.now
    c.requires.shape.largest_block streams c.args.id c.args.up_to c.args.blocks.now entries c.blocks_are_read_in_order.ensures.behind offset
    (c.loop-offset.invariant.kept streams entries read) c.loop-offset-test.true c.in-Ok.head framed c.records_below-records.result
    (omega (arith, c.records_below-records.ensures, c.if-records-head.true, c.from_parts-start.ensures)) c.if-records-head.true

pub loop-offset-smaller : goal.loop-offset-smaller
loop-offset-smaller c =
    let offset = c.loop-offset.offset in
    let framed = ap (λ (l : List ℕ). frame_at c.args.shape.now c.from_parts-start.result l) (sym c.split_at.ensures.back) ∙ sym c.check_frame.ensures.exact ∙ c.in-Ok.is in
    let end = ends_within c.blocks_are_read_as_written.ensures c.args.shape.now c.from_parts-start.result c.args.blocks.now offset c.in-Ok.head framed in
    omega (arith, end.0, end.1, c.loop-offset-test.true)

pub loop-offset-preserved : goal.loop-offset-preserved
loop-offset-preserved c =
    let offset = c.loop-offset.offset in
    let placed = ap (λ (l : List ℕ). frame_at c.args.shape.now c.from_parts-start.result l) (sym c.split_at.ensures.back) ∙ sym c.check_frame.ensures.exact ∙ c.in-Ok.is in
    let framed = ap (λ (n : ℕ). frame_at c.args.shape.now n (drop offset c.args.blocks.now)) (sym c.from_parts-start.ensures) ∙ placed in
    let end = ends_within c.blocks_are_read_as_written.ensures c.args.shape.now c.from_parts-start.result c.args.blocks.now offset c.in-Ok.head placed in record {
      within = omega (arith, end.1);
      kept = λ streams entries read.
          goes_on c.records_are_read_of_their_block.ensures.alone c.blocks_are_read_as_written.ensures c.records_are_read_as_written.ensures.fits c.args.shape.now
          c.requires.shape.largest_block streams c.args.id c.args.up_to c.args.blocks.now entries c.blocks_are_read_in_order.ensures.behind offset
          (c.loop-offset.invariant.kept streams entries read) c.loop-offset-test.true c.in-Ok.head framed
          (omega (arith, c.records_below-records.ensures, c.if-records-head.false, c.from_parts-start.ensures));
    }

pub returns-clause-kept : goal.returns-clause-kept
returns-clause-kept c streams entries read =
    ends c.records_are_read_of_their_block.ensures.alone c.blocks_are_read_as_written.ensures c.records_are_read_as_written.ensures.fits c.args.shape.now
    c.requires.shape.largest_block streams c.args.id c.args.up_to c.args.blocks.now entries c.loop-offset.offset (c.loop-offset.invariant.kept streams entries read)
    c.loop-offset.invariant.within (omega (arith, c.loop-offset-test.false))
