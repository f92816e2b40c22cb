use Rattle.clfs_txn.proofs.Words.{ap, ◌∙◌, sym, List, err_from_is_err_and, TxnRecord, memory_of, read_records, Memory}
use Rattle.clfs_txn.proofs.Leads.{leads_from}
use Rattle.clfs_txn.proofs.LoadParts.{ended_at, given_up, records_read, table_set}
use Rattle.clfs_txn.proofs.table.TableLog.read_records.Goals as goal

pub returns-in_err-read_all-clause-step : goal.returns-in_err-read_all-clause-step
returns-in_err-read_all-clause-step g c =
    let m : Memory = c.args.self.now.0.memory in
    let all : List TxnRecord → Memory = memory_of m.client m.area m.stream c.args.restart.now in
    let p = err_from_is_err_and c.from_residual.result c.from_residual.ensures.1 in
    rw (p.1, p.2) (λ more few. given_up _ _ _ _ _ m c.read_all.new.self.0.memory _ c.in_err-read_all.ensures.memory
    (leads_from _ _ _ _ _ _ _ (ap (λ (l : List TxnRecord). read_records more m.area c.args.cursor l all) (sym c.new-replay.ensures)) (c.in_err-read_all.ensures.step more all few)))

pub returns-clause-step : goal.returns-clause-step
returns-clause-step g c =
    let m : Memory = c.args.self.now.0.memory in
    let all : List TxnRecord → Memory = memory_of m.client m.area m.stream c.args.restart.now in
    λ more few. records_read _ _ _ _ m c.read_all.new.self.0.memory c.args.cursor more c.args.restart.now c.read_all.new.replay _ c.in_ok-read_all.ensures.memory
    (leads_from _ _ _ _ _ _ _ (ap (λ (l : List TxnRecord). read_records more m.area c.args.cursor l all) (sym c.new-replay.ensures)) (c.in_ok-read_all.ensures.step more all few))
    (ended_at _ _ _ c.self-2.inside.manager.0 _ _ _ (ap (λ v. v.0.log) c.self-2.view_is) (c.end_read.ensures.ended _))
    (c.set_table.ensures ∙ table_set c.self-2.inside.memory m c.args.restart.now c.replayed.result c.read_all.new.replay
    (ap (λ v. v.0.memory) c.self-2.view_is ∙ c.end_read.ensures.memory ∙ c.in_ok-read_all.ensures.memory) c.requires.none c.replayed.ensures)

pub returns-clause-time : goal.returns-clause-time
returns-clause-time g c = rw (ap (λ v. v.1) c.self-2.view_is, c.end_read.ensures.disk) c.in_ok-read_all.ensures.time
