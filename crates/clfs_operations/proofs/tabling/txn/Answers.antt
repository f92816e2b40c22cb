use Rattle.std.proofs.Common.{ap, refl, sym}
use Rattle.clfs_model.specs.declared.state.State.{State}
use Rattle.clfs_operations.specs.Loaded.{IsLoaded, IsKeptOn}
use Rattle.clfs_operations.proofs.Through.{AreOne}
use Rattle.clfs_operations.proofs.TxnEnds.{answering_ends, log_refusal_ends, refuses_table, table_answered, table_answered_in_part, table_refusal_ends, writes_as}
use Rattle.clfs_operations.proofs.TxnLines.{table_lines, table_part}
use Rattle.clfs_operations.proofs.TxnThrough.{table_comes_through}
use Rattle.clfs_operations.proofs.tabling.txn.Goals as goal

pub returns-in-Err-clause-ends : goal.returns-in-Err-clause-ends
returns-in-Err-clause-ends g c =
    let load = c.in-Err.ensures in
    log_refusal_ends c.refused-status.result c.in-Err.field-0.cause (g.D.Disk.state c.args.disk) (g.D.Disk.state c.in-Err.field-0.disk) _ _ _ _ _ _
    (record {
      is = load.refused;
      cause = load.cause;
      steady = load.steady;
      same = load.same_refused.0;
      time = load.same_refused.1;
    })
    load.place c.refused-status.ensures

pub returns-in-Ok-load-clause-ends : goal.returns-in-Ok-load-clause-ends
returns-in-Ok-load-clause-ends g c =
    let old = g.D.Disk.state c.args.disk in
    let mid = g.D.Disk.state c.in-Ok.manager.1 in
    let first = c.in-Ok.manager.0 in
    let open_log = c.in-Ok.ensures in
    let opened : IsLoaded 4 old mid first = record {
      stands = open_log.loaded;
      buffers_are = open_log.buffers;
      valid = open_log.valid;
      storable = open_log.storable;
      stable = open_log.stable;
      same = open_log.same.0;
      time = open_log.same.1;
      left = c.stored.ensures.survives_nothing 0;
    } in
    let load = c.in-Ok-load.ensures in
    let store = c.in-Ok-load.store.0 in
    let disk = g.D.Disk.state c.in-Ok-load.store.1 in
    let last = c.answered-status.new.answering.store.0 in
    let new = g.D.Disk.state c.answered-status.new.answering.store.1 in
    let only = c.only_faults_break_a_store.ensures.whole in
    let writes = writes_as _ ⊥ mid disk (λ f. absurd (cc f.1)) (λ f. absurd f) load.writes in
    let closed : IsKeptOn c.close-manager.result.0 (g.D.Disk.state c.close-manager.result.1) = record {
      files = c.stored-in-Ok-load.ensures.files;
      settled = c.stored-in-Ok-load.ensures.settled;
    } in
    let kept : IsKeptOn last.log new = rw (c.close-manager.ensures.log, c.close-manager.ensures.disk) at closed in
    let begins = sym (ap (λ (s : State). s.broken) open_log.stable) in
    let counts = c.crashes_leave_the_table.ensures.opened first open_log.stable in
    rw (c.close.ensures, c.close-manager.ensures.disk) (answering_ends _ _ c.answered-status.result old new _ _ _ _ _ _ _ _
    (λ lines text is. table_answered old mid disk new first store last opened load.step load.loaded writes kept (load.moments begins counts) (λ tells. load.safe tells begins counts) lines text
    (table_lines _ (λ it. it.store.0) (λ it. g.D.Disk.state it.store.1) only _ _ lines text is))
    (λ torn lines text is. table_answered_in_part old mid disk new first store last opened load.step load.loaded writes kept (load.moments begins counts) (λ tells. load.safe tells begins counts) torn lines text
    (table_part _ (λ it. it.store.0) (λ it. g.D.Disk.state it.store.1) only _ _ torn lines text is))
    c.answered-status.ensures)

pub returns-in-Err-load-clause-ends : goal.returns-in-Err-load-clause-ends
returns-in-Err-load-clause-ends g c =
    let old = g.D.Disk.state c.args.disk in
    let mid = g.D.Disk.state c.in-Ok.manager.1 in
    let first = c.in-Ok.manager.0 in
    let open_log = c.in-Ok.ensures in
    let opened : IsLoaded 4 old mid first = record {
      stands = open_log.loaded;
      buffers_are = open_log.buffers;
      valid = open_log.valid;
      storable = open_log.storable;
      stable = open_log.stable;
      same = open_log.same.0;
      time = open_log.same.1;
      left = c.stored.ensures.survives_nothing 0;
    } in
    let load = c.in-Err-load.ensures in
    let last = c.in-Err-load.field-0.manager.0 in
    let new = g.D.Disk.state c.in-Err-load.field-0.manager.1 in
    let cause = c.in-Err-load.field-0.cause in
    let kept : IsKeptOn last new = record { files = c.stored-in-Err-load.ensures.files; settled = c.stored-in-Err-load.ensures.settled } in
    rw c.close-in-Err-load.ensures (table_refusal_ends c.refused_table.result cause old new _ _ _ _ _ _
    (refuses_table cause old mid new first last opened load.step load.refused
    (c.only_faults_break_a_store.ensures.loading _ _ _ _ _ (sym (ap (λ (s : State). s.broken) open_log.stable)) load.step)
    (writes_as _ _ mid new (λ f. f.0) (λ f. (f, refl)) load.writes) load.damage kept
    (load.moments (sym (ap (λ (s : State). s.broken) open_log.stable)) (c.crashes_leave_the_table.ensures.opened first open_log.stable)))
    c.refused_table.ensures)

pub returns-in-Err-clause-complete : goal.returns-in-Err-clause-complete
returns-in-Err-clause-complete g c =
    let one : AreOne = record { no_damage = c.files_have_one_meaning.ensures.no_damage; no_base = c.files_have_one_meaning.ensures.no_base } in
    table_comes_through one _ _ _ _ _ _ _ _ _ _ _ (returns-in-Err-clause-ends g c)

pub returns-in-Ok-load-clause-complete : goal.returns-in-Ok-load-clause-complete
returns-in-Ok-load-clause-complete g c =
    let one : AreOne = record { no_damage = c.files_have_one_meaning.ensures.no_damage; no_base = c.files_have_one_meaning.ensures.no_base } in
    table_comes_through one _ _ _ _ _ _ _ _ _ _ _ (returns-in-Ok-load-clause-ends g c)

pub returns-in-Err-load-clause-complete : goal.returns-in-Err-load-clause-complete
returns-in-Err-load-clause-complete g c =
    let one : AreOne = record { no_damage = c.files_have_one_meaning.ensures.no_damage; no_base = c.files_have_one_meaning.ensures.no_base } in
    table_comes_through one _ _ _ _ _ _ _ _ _ _ _ (returns-in-Err-load-clause-ends g c)
