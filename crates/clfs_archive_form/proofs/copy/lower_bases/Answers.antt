use Rattle.clfs_archive_form.proofs.Words.{arith}
use Rattle.clfs_archive_form.proofs.RestoredCopies.{row_written}
use Rattle.clfs_archive_form.proofs.copy.lower_bases.Goals as goal

pub loop-i-preserved : goal.loop-i-preserved
loop-i-preserved c = record {
  rows = row_written c.args.end c.loop-i.i c.lowered.result c.args.rows.items c.loop-i.rows.items c.index.result.now c.index_mut.result.now
      (omega (arith, c.loop-i-test.true, c.len-i-end.ensures)) c.loop-i.invariant.rows c.index.ensures c.index_mut.ensures.value c.lowered.ensures;
}
