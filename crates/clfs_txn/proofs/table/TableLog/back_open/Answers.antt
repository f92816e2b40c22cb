use Rattle.clfs_txn.proofs.Words.{answers, transaction_of}
use Rattle.clfs_cells.specs.declared.told.TxnReply.TheVariants as replies
use Rattle.clfs_txn.proofs.Backs.{back_meanwhile, backs_done, backs_refused, too_many}
use Rattle.clfs_txn.proofs.Written.{of_log}
use Rattle.clfs_txn.proofs.Damage.{of_the_log}
use Rattle.clfs_txn.proofs.table.TableLog.back_open.Goals as goal

pub returns-then-have-kept-clause-step : goal.returns-then-have-kept-clause-step
returns-then-have-kept-clause-step g c =
    too_many _ c.args.self.now.0 c.args.txn c.args.kept c.standing-have.result (transaction_of c.args.t.now) c.requires c.standing-have.ensures.standing c.if-have-kept.true

pub returns-in-Ok-clause-step : goal.returns-in-Ok-clause-step
returns-in-Ok-clause-step g c =
    backs_done _ c.args.self.now.0 c.undo_sets.new.self.0 c.args.txn c.args.kept c.standing-have.result (transaction_of c.args.t.now) c.requires c.standing-have.ensures.standing
    c.if-have-kept.false (c.in-Ok.ensures.step (λ now. answers replies.Done now))

pub returns-in-Err-clause-step : goal.returns-in-Err-clause-step
returns-in-Err-clause-step g c =
    backs_refused _ c.args.self.now.0 c.undo_sets.new.self.0 c.args.txn c.args.kept c.standing-have.result (transaction_of c.args.t.now) c.in-Err.refusal c.requires
    c.standing-have.ensures.standing c.if-have-kept.false (c.in-Err.ensures.step (λ now. answers replies.Done now))

pub returns-in-Err-clause-writes : goal.returns-in-Err-clause-writes
returns-in-Err-clause-writes g c = of_log _ _ c.in-Err.refusal c.in-Err.ensures.writes

pub returns-in-Err-clause-damage : goal.returns-in-Err-clause-damage
returns-in-Err-clause-damage g c = λ tells container offset at is. c.in-Err.ensures.damage tells container offset at (of_the_log _ _ is)

pub returns-then-have-kept-clause-moments : goal.returns-then-have-kept-clause-moments
returns-then-have-kept-clause-moments g c = λ under along present. present

pub returns-in-Ok-clause-moments : goal.returns-in-Ok-clause-moments
returns-in-Ok-clause-moments g c = λ under.
    back_meanwhile under _ c.args.self.now.0 c.args.txn c.args.kept c.standing-have.result (transaction_of c.args.t.now) _ _ c.requires c.standing-have.ensures.standing
    c.if-have-kept.false (c.in-Ok.ensures.moments under (λ now. answers replies.Done now))

pub returns-in-Err-clause-moments : goal.returns-in-Err-clause-moments
returns-in-Err-clause-moments g c = λ under.
    back_meanwhile under _ c.args.self.now.0 c.args.txn c.args.kept c.standing-have.result (transaction_of c.args.t.now) _ _ c.requires c.standing-have.ensures.standing
    c.if-have-kept.false (c.in-Err.ensures.moments under (λ now. answers replies.Done now))
