use Rattle.clfs_txn.proofs.Words.{refl}
use Rattle.clfs_cells.specs.declared.asked.TxnCall.TheVariants as asked
use Rattle.clfs_txn.proofs.Sets.{not_found}
use Rattle.clfs_txn.proofs.Written as written
use Rattle.clfs_txn.proofs.table.TableLog.set.Goals as goal

pub returns-in-Err : goal.returns-in-Err
returns-in-Err g c = record {
  step = λ told.
      not_found told c.args.self.now.0 (asked.Set c.args.txn c.args.cell c.args.value) c.args.txn c.in-Err.refusal _ refl c.in-Err.ensures;
  moments = λ under along present. present;
  writes = written.at_once _ _ (written.not_found c.args.self.now.0 c.args.txn c.in-Err.refusal c.in-Err.ensures);
  kept = λ _. refl;
  stopped = λ _. refl;
}

pub returns-in-Ok : goal.returns-in-Ok
returns-in-Ok g c = record { step = c.set_open.ensures.step; moments = c.set_open.ensures.moments; writes = c.set_open.ensures.writes; kept = c.set_open.ensures.kept; stopped = λ e. let whole = c.in-Ok.ensures.whole in absurd (cc (e, whole)) }
