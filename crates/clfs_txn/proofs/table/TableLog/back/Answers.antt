use Rattle.clfs_txn.proofs.Words.{refl}
use Rattle.clfs_cells.specs.declared.asked.TxnCall.TheVariants as asked
use Rattle.clfs_txn.proofs.Sets.{not_found}
use Rattle.clfs_txn.proofs.table.TableLog.back.Goals as goal

pub returns-in-Err-clause-step : goal.returns-in-Err-clause-step
returns-in-Err-clause-step g c = not_found _ c.args.self.now.0 (asked.Back c.args.txn c.args.kept) c.args.txn c.in-Err.refusal _ refl c.in-Err.ensures

pub returns-in-Err-clause-moments : goal.returns-in-Err-clause-moments
returns-in-Err-clause-moments g c = λ under along present. present
