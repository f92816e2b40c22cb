use Rattle.clfs_txn.proofs.Words.{refl, transaction_of}
use Rattle.clfs_cells.specs.declared.asked.TxnCall.TheVariants as asked
use Rattle.clfs_txn.proofs.Carried.{step_is}
use Rattle.clfs_txn.proofs.Sets.{goes_on, not_found}
use Rattle.clfs_txn.proofs.Written as written
use Rattle.clfs_txn.proofs.Moments.{meanwhile_as}
use Rattle.clfs_txn.proofs.table.TableLog.commit.Goals as goal

pub returns-in-Ok : goal.returns-in-Ok
returns-in-Ok g c = record {
  step = λ told.
      step_is told c.args.self.now.0 (asked.Commit c.args.txn) _ c.end.new.self.0 _
      (goes_on c.args.self.now.0 (asked.Commit c.args.txn) c.args.txn (transaction_of c.in-Ok.t) _ refl c.in-Ok.ensures) (c.end.ensures.step told);
  moments = λ under.
      meanwhile_as under _ _ _ _ _ _ _ (goes_on c.args.self.now.0 (asked.Commit c.args.txn) c.args.txn (transaction_of c.in-Ok.t) _ refl c.in-Ok.ensures)
      (c.end.ensures.moments under);
  kept = c.end.ensures.kept;
  writes = c.end.ensures.writes;
  stopped = λ e. let whole = c.in-Ok.ensures.whole in absurd (cc (e, whole));
}

pub returns-in-Err : goal.returns-in-Err
returns-in-Err g c = record {
  step = λ told. not_found told c.args.self.now.0 (asked.Commit c.args.txn) c.args.txn c.in-Err.refusal _ refl c.in-Err.ensures;
  moments = λ under along present. present;
  kept = λ _. refl;
  writes = written.at_once _ _ (written.not_found c.args.self.now.0 c.args.txn c.in-Err.refusal c.in-Err.ensures);
  stopped = λ _. refl;
}
