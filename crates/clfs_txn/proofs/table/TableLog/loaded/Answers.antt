use Rattle.clfs_txn.proofs.Words.{ap, Err, TxnLoadRefusal}
use Rattle.clfs_txn.proofs.Leads.{by_client, leads_on}
use Rattle.clfs_txn.proofs.LoadWhole.{writes_loaded, writes_refused}
use Rattle.clfs_txn.proofs.table.TableLog.loaded.Goals as goal

pub returns-in-Err-clause-step : goal.returns-in-Err-clause-step
returns-in-Err-clause-step g c =
    rw c.close-manager.ensures.log (leads_on _ _ _ _ _ _ _ _ c.in-Err.ensures.step
    (by_client _ _ _ _ _ _ _ c.in-Err.ensures.area.client (c.delete_area.ensures.step _ c.in-Err.cause)))

pub returns-in-Ok-clause-writes : goal.returns-in-Ok-clause-writes
returns-in-Ok-clause-writes g c = writes_loaded _ _ _ c.in-Ok.ensures.writes

pub returns-in-Err-clause-writes : goal.returns-in-Err-clause-writes
returns-in-Err-clause-writes g c = rw (c.close-manager.ensures.disk, c.delete_area.ensures.disk) (writes_refused _ _ c.in-Err.cause c.in-Err.ensures.writes)

pub returns-in-Err-clause-damage : goal.returns-in-Err-clause-damage
returns-in-Err-clause-damage g c = λ tells container offset at is. c.in-Err.ensures.damage tells container offset at (ap (λ (r : TxnLoadRefusal). Err r) is)

pub returns-in-Ok-clause-moments : goal.returns-in-Ok-clause-moments
returns-in-Ok-clause-moments g c = c.in-Ok.ensures.moments

pub returns-in-Err-clause-moments : goal.returns-in-Err-clause-moments
returns-in-Err-clause-moments g c = rw (c.close-manager.ensures.disk, c.delete_area.ensures.disk) c.in-Err.ensures.moments
