use Rattle.clfs_txn.proofs.Words.{◌≡◌, ◌<◌, ℕ, List, false, length, Unchanged, Passes, WritesDisk, TxnRecord, Loaded, read_records, Memory, LeadsTo}
use Rattle.clfs_txn.proofs.Words.{GoesForward, to_come}
use Rattle.clfs_txn.proofs.table.TableLog.read_all.Given as goal

-- The plan was carried out up to a rest that reads on, by as many records at least as come.
abbrev pub invariant-loop : goal.invariant-loop
invariant-loop g l = record {
  step : (more : ℕ) (all : List TxnRecord → Memory) → length (to_come l.fn.self.0.log l.fn.self.0.memory.client l.fn.self.0.memory.area l.cursor) < more
      → (less : ℕ) × (length (to_come l.self.0.log l.fn.self.0.memory.client l.fn.self.0.memory.area l.cursor) < less)
      × LeadsTo Loaded (g.D.Disk.state l.fn.self.1).nature.tells_contents l.fn.self.0.memory.client l.fn.self.0.log
      (read_records more l.fn.self.0.memory.area l.cursor l.fn.replay all) l.self.0.log (read_records less l.fn.self.0.memory.area l.cursor l.replay all);
  time : Passes Unchanged (g.D.Disk.state l.fn.self.1) (g.D.Disk.state l.self.1);
  writes : WritesDisk ⊥ (g.D.Disk.state l.fn.self.1) (g.D.Disk.state l.self.1);
  memory : l.self.0.memory ≡ l.fn.self.0.memory;
  whole : l.self.0.log.broken ≡ false;
  forward : GoesForward l.self.0.log l.fn.self.0.memory.client l.fn.self.0.memory.area l.cursor;
}

abbrev pub decreases-loop : goal.decreases-loop
decreases-loop g l = length (to_come l.self.0.log l.fn.self.0.memory.client l.fn.self.0.memory.area l.cursor)
