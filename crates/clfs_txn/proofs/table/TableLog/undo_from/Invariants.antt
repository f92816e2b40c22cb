use Rattle.clfs_txn.proofs.Words.{◌≡◌, ◌-◌, false, UndoNext, WritesDisk, Answered, undo_from, Plan, Memory, HasSameArea, Leads, Meanwhile, UnderWay, IsAt}
use Rattle.clfs_txn.proofs.Words.{IsSet}
use Rattle.clfs_txn.proofs.table.TableLog.undo_from.Given as goal

-- So many sets fewer are left, from the one at which the cursor is.
abbrev pub invariant-loop : goal.invariant-loop
invariant-loop g l = record {
  step : (rest : Memory → Plan Answered) → Leads (g.D.Disk.state l.fn.self.1).nature.tells_contents l.fn.self.0.memory.client l.fn.self.0.log
      (undo_from l.more l.fn.self.0.memory l.number l.cursor l.fn.first rest) l.self.0.log
      (undo_from (l.more - l.counter) l.self.0.memory l.number l.cursor l.lsn rest);
  moments : (under : UnderWay) (rest : Memory → Plan Answered) → Meanwhile under (g.D.Disk.state l.fn.self.1).nature.tells_contents l.fn.self.0.memory.client
      l.fn.self.0.log (undo_from l.more l.fn.self.0.memory l.number l.cursor l.fn.first rest) (g.D.Disk.state l.fn.self.1) (g.D.Disk.state l.self.1);
  writes : WritesDisk ⊥ (g.D.Disk.state l.fn.self.1) (g.D.Disk.state l.self.1);
  area : HasSameArea l.fn.self.0.memory l.self.0.memory;
  whole : l.self.0.log.broken ≡ false;
  set : IsSet l.self.0.memory l.number l.lsn;
  at : IsAt l.self.0.log l.fn.self.0.memory.client l.fn.self.0.memory.area l.cursor UndoNext l.lsn;
}
