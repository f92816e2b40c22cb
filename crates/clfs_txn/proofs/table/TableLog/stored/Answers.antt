use Rattle.clfs_txn.proofs.Words.{subst, bad_line, CrashSurvives}
use Rattle.clfs_txn.proofs.table.TableLog.stored.Goals as goal

pub returns : goal.returns
returns g c = record {
  survives = subst (λ v. CrashSurvives (bad_line 0) v.0.log (g.D.Disk.state v.1) (g.D.Disk.state v.1)) c.self.view_is (c.stored.ensures.survives_nothing 0);
}
