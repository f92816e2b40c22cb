use Rattle.clfs_archive_form.proofs.Words.{ℕ, ◌++◌, List, take, ◌∙◌, ap, append_assoc, arith, on_ok_weaker, lsn_number, block_records}
use Rattle.clfs_archive_form.proofs.CutBlocks.{keeps_whole, keeps_cut}
use Rattle.clfs_archive_form.proofs.kept.put_blocks_below.Goals as goal

pub returns-then-kept-eq0 : goal.returns-then-kept-eq0
returns-then-kept-eq0 c =
    let k = c.kept_end-kept.result in record {
      kept = λ entries read. (
        take k.whole c.args.blocks.now,
        c.in_ok-extend_from_slice.ensures.items ∙ ap (λ (l : List ℕ). c.args.out.now.items ++ l) c.split_at.ensures.front,
        keeps_whole c.args.shape.now c.requires.shape c.args.streams c.args.id (omega (arith, c.ranges.streams.fits)) (omega (arith, c.ranges.id.fits)) c.args.up_to
            c.args.blocks.now entries k.whole k.records c.if-kept-eq0.true (c.kept_end-kept.ensures.kept c.args.streams entries read),
      );
    }

pub returns : goal.returns
returns c =
    let k = c.kept_end-kept.result in
    let front : List ℕ = take k.whole c.args.blocks.now in
    let before = c.in_ok-extend_from_slice.ensures.items ∙ ap (λ (l : List ℕ). c.args.out.now.items ++ l) c.split_at.ensures.front in record {
      kept = on_ok_weaker c.cut_block.result
          (λ cuts entries read.
          let cut = keeps_cut c.args.shape.now c.requires.shape c.args.streams c.args.id (omega (arith, c.ranges.streams.fits)) (omega (arith, c.ranges.id.fits)) c.args.up_to
          c.args.blocks.now entries k.whole c.blocks_are_read_in_order.ensures.behind c.blocks_say_their_sectors.ensures.sectors c.blocks_are_read_in_order.ensures.written
          (omega (arith, c.kept_end-kept.ensures.within, c.requires.length)) k.records c.if-kept-eq0.false (c.kept_end-kept.ensures.kept c.args.streams entries read)
          c.extend_from_slice.new.self.items c.cut_block.new.out.items
          (λ next is some few. cuts next (ap (λ (l : List ℕ). block_records c.args.shape.now c.args.streams (lsn_number c.args.id k.whole 0) l) c.split_at.ensures.back ∙ is) some few) in
          (front ++ cut.0, cut.1 ∙ ap (λ (l : List ℕ). l ++ cut.0) before ∙ append_assoc c.args.out.now.items front cut.0, cut.2))
          c.cut_block.ensures;
    }
