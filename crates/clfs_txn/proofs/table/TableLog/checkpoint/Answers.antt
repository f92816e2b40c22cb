use Rattle.clfs_txn.proofs.Words.{ap, ◌∙◌, sym, refl, length}
use Rattle.clfs_txn.proofs.Restarts.{broken, some_open}
use Rattle.clfs_txn.proofs.Written.{at_once}
use Rattle.clfs_txn.proofs.table.TableLog.checkpoint.Goals as goal

pub returns-then-self : goal.returns-then-self
returns-then-self g c = record {
  step = λ told. broken told c.args.self.now.0 (sym (ap (λ v. v.0.log.broken) c.self.view_is) ∙ (sym c.self.invariant.knows ∙ c.if-self.true));
  moments = λ under along present. present;
  writes = at_once _ _ refl;
  kept = λ _. refl;
  stopped = λ _. refl;
}

pub returns-then-open_now-gt0-clause-step : goal.returns-then-open_now-gt0-clause-step
returns-then-open_now-gt0-clause-step g c = λ told.
    some_open told c.args.self.now.0 c.open_now-open_now.result (sym (ap (λ v. v.0.log.broken) c.self.view_is) ∙ (sym c.self.invariant.knows ∙ c.if-self.false))
    (c.open_now-open_now.ensures.count ∙ ap (λ v. length v.0.memory.transactions) c.self.view_is) c.if-open_now-gt0.true

pub returns-then-open_now-gt0-clause-moments : goal.returns-then-open_now-gt0-clause-moments
returns-then-open_now-gt0-clause-moments g c = λ under along present. present
