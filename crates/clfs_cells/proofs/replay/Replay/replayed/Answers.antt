use Rattle.clfs_cells.proofs.Replaying.{brought_up, number_up}
use Rattle.clfs_cells.proofs.replay.Replay.replayed.Goals as goal

pub loop-row-preserved : goal.loop-row-preserved
loop-row-preserved c = (
  brought_up _ _ _ _ _ _ _ c.loop-row-test.true c.loop-row.invariant.0 c.with_row-table.ensures.cells,
  number_up _ _ _ _ _ _ c.loop-row-test.true c.loop-row.invariant.1 c.with_row-table.ensures.last,
)
