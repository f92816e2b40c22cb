use Rattle.clfs_txn.proofs.Words.{Bool, false, ap, refl, sym, subst, Ok, Nature, IsKeptStore, LoadStep}
use Rattle.clfs_txn.proofs.Tables.{loaded_kept, so_safe}
use Rattle.clfs_txn.proofs.LoadMoments.{loads_meanwhile}
use Rattle.clfs_txn.proofs.store.TxnStore.load.Goals as goal

pub invariant_of-result : goal.invariant_of-result
invariant_of-result g c =
    let keeps = c.calls_keep_a_store.ensures in
    let t = c.in-Ok.table.0 in
    let valid = c.stored.ensures.valid in
    subst (λ (b : Bool). IsKeptStore b t.log t.memory) (ap (λ (n : Nature). n.tells_contents) (sym c.in-Ok.ensures.writes.time.nature))
    (loaded_kept (g.D.Disk.state c.args.manager.1).nature.tells_contents c.args.manager.0 c.args.client t.memory t.log
    (λ step. keeps.loaded false c.args.manager.0 c.args.client t.memory t.log valid c.requires.area step)
    (λ step. keeps.loaded_table c.args.manager.0 c.args.client t.memory t.log valid c.requires.area step c.numbers.ensures) c.in-Ok.ensures.step)

pub returns-in-Ok-clause-moments : goal.returns-in-Ok-clause-moments
returns-in-Ok-clause-moments g c = λ whole safe.
    let m = c.args.manager in
    let valid = c.stored.ensures.valid in
    loads_meanwhile _ c.args.client m.0 (g.D.Disk.state m.1) _ c.the_same_log_has_the_same_table.ensures refl whole
    (c.crashes_leave_the_table.ensures.loading m.0 c.args.client valid whole c.requires.area safe)
    (λ x left. c.crashes_leave_the_table.ensures.unloaded m.0 0 x valid safe left) (c.stored.ensures.survives_nothing 0) (c.in-Ok.ensures.moments _ whole)

pub returns-in-Err-clause-moments : goal.returns-in-Err-clause-moments
returns-in-Err-clause-moments g c = λ whole safe.
    let m = c.args.manager in
    let valid = c.stored.ensures.valid in
    loads_meanwhile _ c.args.client m.0 (g.D.Disk.state m.1) _ c.the_same_log_has_the_same_table.ensures refl whole
    (c.crashes_leave_the_table.ensures.loading m.0 c.args.client valid whole c.requires.area safe)
    (λ x left. c.crashes_leave_the_table.ensures.unloaded m.0 0 x valid safe left) (c.stored.ensures.survives_nothing 0) (c.in-Err.ensures.moments _ whole)

pub returns-in-Ok-clause-safe : goal.returns-in-Ok-clause-safe
returns-in-Ok-clause-safe g c = λ tells whole safe.
    let m = c.args.manager in
    let t = c.in-Ok.table.0 in
    so_safe t.log t.memory.stream c.in-Ok.ensures.loaded.whole
    (c.crashes_leave_the_table.ensures.loaded m.0 c.args.client t.memory t.log c.stored.ensures.valid whole c.requires.area safe
    (subst (λ (b : Bool). LoadStep b m.0 c.args.client (Ok t.memory) t.log) tells c.in-Ok.ensures.step))
