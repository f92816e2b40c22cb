use Rattle.clfs_txn.proofs.Words.{refl, true, Err}
use Rattle.clfs_model.specs.declared.reply.Reply.TheVariants as log_replies
use Rattle.clfs_txn.proofs.Asked.{base_is, same_call}
use Rattle.clfs_txn.proofs.LoadParts.{first_refused, first_written, no_damage, of_load, refused_as}
use Rattle.clfs_txn.proofs.Moments.{by_call}
use Rattle.clfs_txn.proofs.LoadMoments.{first_meanwhile}
use Rattle.clfs_txn.proofs.table.TableLog.write_first.Goals as goal

pub returns-in-Ok-clause-step : goal.returns-in-Ok-clause-step
returns-in-Ok-clause-step g c = λ told.
    first_written told _ _ c.args.self.now.0.memory c.write_restart.new.self.0.memory c.in-Ok.field-0 c.requires.unread c.in-Ok.ensures.memory
    (same_call told _ _ _ _ _ _ _ (base_is _ _ _ _ c.null.ensures) (c.in-Ok.ensures.step told))

pub returns-in-Err-clause-step : goal.returns-in-Err-clause-step
returns-in-Err-clause-step g c = λ told.
    first_refused told _ _ c.args.self.now.0.memory c.write_restart.new.self.0.memory c.in-Err.refusal c.requires.unread c.in-Err.ensures.memory
    (same_call told _ _ _ _ _ _ _ (base_is _ _ _ _ c.null.ensures) (c.in-Err.ensures.step told))

pub returns-in-Err-clause-writes : goal.returns-in-Err-clause-writes
returns-in-Err-clause-writes g c = of_load _ _ c.in-Err.refusal c.in-Err.ensures.writes

pub returns-in-Err-clause-damage : goal.returns-in-Err-clause-damage
returns-in-Err-clause-damage g c = λ tells container offset at is.
    no_damage true _ _ _ log_replies.Placed (Err c.in-Err.refusal) _ container offset at refl (c.in-Err.ensures.step true) (refused_as _ _ is)

pub returns-in-Ok-clause-moments : goal.returns-in-Ok-clause-moments
returns-in-Ok-clause-moments g c = λ under.
    first_meanwhile under _ _ c.args.self.now.0.memory _ _ c.requires.unread c.requires.whole
    (by_call under _ _ _ _ _ _ (base_is _ _ _ _ c.null.ensures) (c.in-Ok.ensures.moments under))

pub returns-in-Err-clause-moments : goal.returns-in-Err-clause-moments
returns-in-Err-clause-moments g c = λ under.
    first_meanwhile under _ _ c.args.self.now.0.memory _ _ c.requires.unread c.requires.whole
    (by_call under _ _ _ _ _ _ (base_is _ _ _ _ c.null.ensures) (c.in-Err.ensures.moments under))
