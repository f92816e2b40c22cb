use Rattle.clfs_txn.proofs.Words.{◌+◌, ap, ◌∙◌}
use Rattle.clfs_txn.proofs.Asked.{same_call, base_is}
use Rattle.clfs_txn.proofs.Breaking.{same_store}
use Rattle.clfs_txn.proofs.Restarts.{checkpoint_meanwhile, unknown, refused, done}
use Rattle.clfs_txn.proofs.Written.{nothing, of_log}
use Rattle.clfs_txn.proofs.Moments.{by_call}
use Rattle.clfs_txn.proofs.table.TableLog.write_checkpoint.Goals as goal

pub returns-in-Err-clause-step : goal.returns-in-Err-clause-step
returns-in-Err-clause-step g c = λ told. unknown told c.args.self.now.0 c.in-Err.refusal c.requires.whole c.requires.none (c.in-Err.ensures.step told)

pub returns-in-Ok-write_restart-clause-step : goal.returns-in-Ok-write_restart-clause-step
returns-in-Ok-write_restart-clause-step g c = λ told.
    done told c.args.self.now.0 c.write_restart.new.self.0 c.in-Ok.info c.in-Ok-write_restart.field-0 c.requires.whole c.requires.none (c.in-Ok.ensures.step told)
    (same_call told _ _ _ _ _ _ _ (base_is _ _ _ _ (c.of_number.ensures ∙ ap (λ n. n + 1) c.number.ensures)) (c.in-Ok-write_restart.ensures.step told))
    c.in-Ok-write_restart.ensures.memory

pub returns-in-Err-write_restart-clause-step : goal.returns-in-Err-write_restart-clause-step
returns-in-Err-write_restart-clause-step g c = λ told.
    refused told c.args.self.now.0 c.write_restart.new.self.0 c.in-Ok.info c.in-Err-write_restart.refusal c.requires.whole c.requires.none (c.in-Ok.ensures.step told)
    (same_call told _ _ _ _ _ _ _ (base_is _ _ _ _ (c.of_number.ensures ∙ ap (λ n. n + 1) c.number.ensures)) (c.in-Err-write_restart.ensures.step told))
    c.in-Err-write_restart.ensures.memory

pub returns-in-Err-write_restart-clause-kept : goal.returns-in-Err-write_restart-clause-kept
returns-in-Err-write_restart-clause-kept g c = λ fine. same_store _ _ (c.in-Err-write_restart.ensures.kept fine) c.in-Err-write_restart.ensures.memory

pub returns-in-Err-clause-writes : goal.returns-in-Err-clause-writes
returns-in-Err-clause-writes g c = nothing _ _ (λ f. c.in-Err.ensures.calm (cc f))

pub returns-in-Err-write_restart-clause-writes : goal.returns-in-Err-write_restart-clause-writes
returns-in-Err-write_restart-clause-writes g c = of_log _ _ c.in-Err-write_restart.refusal c.in-Err-write_restart.ensures.writes

pub returns-in-Err-clause-moments : goal.returns-in-Err-clause-moments
returns-in-Err-clause-moments g c = λ under along present. present

pub returns-in-Ok-write_restart-clause-moments : goal.returns-in-Ok-write_restart-clause-moments
returns-in-Ok-write_restart-clause-moments g c = λ under.
    checkpoint_meanwhile under _ c.args.self.now.0 c.in-Ok.info _ _ c.requires.whole c.requires.none (c.in-Ok.ensures.step _)
    (by_call under _ _ _ _ _ _ (base_is _ _ _ _ (c.of_number.ensures ∙ ap (λ n. n + 1) c.number.ensures)) (c.in-Ok-write_restart.ensures.moments under))

pub returns-in-Err-write_restart-clause-moments : goal.returns-in-Err-write_restart-clause-moments
returns-in-Err-write_restart-clause-moments g c = λ under.
    checkpoint_meanwhile under _ c.args.self.now.0 c.in-Ok.info _ _ c.requires.whole c.requires.none (c.in-Ok.ensures.step _)
    (by_call under _ _ _ _ _ _ (base_is _ _ _ _ (c.of_number.ensures ∙ ap (λ n. n + 1) c.number.ensures)) (c.in-Err-write_restart.ensures.moments under))
