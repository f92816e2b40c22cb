use Rattle.clfs_cells.proofs.Words.{◌≡◌, filter, take, TxnRecord, last_number, changed, is_committed}
use Rattle.clfs_cells.proofs.replay.Replay.replayed.Given as goal

abbrev pub invariant-loop-row : goal.invariant-loop-row
invariant-loop-row l =
    (l.table.cells ≡ changed l.fn.checkpoint.cells (filter (λ (r : TxnRecord). is_committed l.fn.self r.txn) (take l.row-index l.row-items)))
    × (l.table.last ≡ last_number l.fn.checkpoint.last (take l.row-index l.row-items))
