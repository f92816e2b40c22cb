use Rattle.clfs_txn.proofs.Words.{refl, ap}
use Rattle.clfs_model.specs.declared.call.Call.TheVariants as log_calls
use Rattle.clfs_txn.proofs.Moments.{call_leaves, none_leaves}
use Rattle.clfs_txn.proofs.loading.open_stream.Goals as goal

pub returns-clause-moments : goal.returns-clause-moments
returns-clause-moments g c = λ under whole.
    call_leaves g.D.Disk.state under _ _ _ _ _ _ _ _ _ refl (ap (λ n. log_calls.OpenStream n) c.in_ok-name.ensures.name) refl refl whole
    c.open_stream.ensures.call.moments

pub returns-in_err-name-clause-moments : goal.returns-in_err-name-clause-moments
returns-in_err-name-clause-moments g c = λ under whole.
    none_leaves g.D.Disk.state under _ _ _ _ _ _ refl refl whole c.stored.ensures.survives

pub returns-then-is_broken-clause-moments : goal.returns-then-is_broken-clause-moments
returns-then-is_broken-clause-moments g c = λ under whole.
    none_leaves g.D.Disk.state under _ _ _ _ _ _ refl refl whole c.stored.ensures.survives
