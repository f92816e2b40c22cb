use Rattle.clfs_txn.proofs.Words.{ap, false, refl, end_plan, over_transaction, RolledBack, transaction_of, Nature}
use Rattle.clfs_txn.proofs.Backs.{roll_meanwhile, rolled_meanwhile, rolls_ended, rolls_refused}
use Rattle.clfs_txn.proofs.Joined.{then_ok, writes_then}
use Rattle.clfs_txn.proofs.Written.{nothing, of_log}
use Rattle.clfs_txn.proofs.Damage.{of_the_log}
use Rattle.clfs_txn.proofs.Moments.{meanwhile_by}
use Rattle.clfs_txn.proofs.table.TableLog.roll_back_open.Goals as goal

pub returns-in-Err-clause-step : goal.returns-in-Err-clause-step
returns-in-Err-clause-step g c =
    rolls_refused _ c.args.self.now.0 c.undo_sets.new.self.0 c.args.txn c.standing.result (transaction_of c.args.t.now) c.in-Err.refusal c.requires c.standing.ensures.standing
    (c.in-Err.ensures.step (λ now. over_transaction now c.args.txn (λ t. end_plan now t RolledBack false)))

pub returns-in-Err-clause-writes : goal.returns-in-Err-clause-writes
returns-in-Err-clause-writes g c = of_log _ _ c.in-Err.refusal c.in-Err.ensures.writes

pub returns-in-Ok-clause-step : goal.returns-in-Ok-clause-step
returns-in-Ok-clause-step g c =
    let told = (g.D.Disk.state c.args.self.now.1).nature.tells_contents in
    rolls_ended told c.args.self.now.0 c.undo_sets.new.self.0 c.end.new.self.0 c.args.txn c.standing.result (transaction_of c.args.t.now) (transaction_of c.in-Ok.now) c.end.result
    c.requires c.standing.ensures.standing (c.in_default.ensures.step (λ now. over_transaction now c.args.txn (λ t. end_plan now t RolledBack false)))
    c.in-Ok.ensures c.in_default.ensures.area.client (c.end.ensures.step told)

pub returns-in-Ok-clause-writes : goal.returns-in-Ok-clause-writes
returns-in-Ok-clause-writes g c =
    writes_then ⊥ _ _ _ _ (λ f. f) (then_ok _ _ _ c.in_default.field-0 (nothing ⊥ _ (λ f. f)) c.in_default.ensures.writes) c.end.ensures.writes

pub returns-in-Ok-clause-kept : goal.returns-in-Ok-clause-kept
returns-in-Ok-clause-kept g c = c.end.ensures.log

pub returns-in-Err-clause-damage : goal.returns-in-Err-clause-damage
returns-in-Err-clause-damage g c = λ tells container offset at is. c.in-Err.ensures.damage tells container offset at (of_the_log _ _ is)

pub returns-in-Ok-clause-damage : goal.returns-in-Ok-clause-damage
returns-in-Ok-clause-damage g c = λ tells. c.end.ensures.no_damage

pub returns-in-Err-clause-moments : goal.returns-in-Err-clause-moments
returns-in-Err-clause-moments g c = λ under.
    roll_meanwhile under _ c.args.self.now.0 c.args.txn c.standing.result (transaction_of c.args.t.now) _ _ c.requires c.standing.ensures.standing
    (c.in-Err.ensures.moments under (λ now. over_transaction now c.args.txn (λ t. end_plan now t RolledBack false)))

pub returns-in-Ok-clause-moments : goal.returns-in-Ok-clause-moments
returns-in-Ok-clause-moments g c =
    let told = (g.D.Disk.state c.args.self.now.1).nature.tells_contents in
    let nature = c.in_default.ensures.writes.time.nature in λ under.
    rolled_meanwhile under told c.args.self.now.0 c.undo_sets.new.self.0 c.args.txn c.standing.result (transaction_of c.args.t.now) (transaction_of c.in-Ok.now)
    _ _ _ c.requires c.standing.ensures.standing (c.in_default.ensures.step (λ now. over_transaction now c.args.txn (λ t. end_plan now t RolledBack false)))
    c.in-Ok.ensures c.in_default.ensures.area.client nature
    (c.in_default.ensures.moments under (λ now. over_transaction now c.args.txn (λ t. end_plan now t RolledBack false)))
    (meanwhile_by under (g.D.Disk.state c.undo_sets.new.self.1).nature.tells_contents told c.undo_sets.new.self.0.memory.client c.undo_sets.new.self.0.memory.client
    c.undo_sets.new.self.0.log (end_plan c.undo_sets.new.self.0.memory (transaction_of c.in-Ok.now) RolledBack false) _ _ (ap (λ (n : Nature). n.tells_contents) nature) refl (c.end.ensures.moments under))
