use Rattle.clfs_txn.proofs.Words.{◌≡◌, true, ap, sym, subst, Bool, Refusal, for_room_or_outside, Nature, IsKeptStore}
use Rattle.clfs_cells.specs.declared.asked.TxnCall.TheVariants as asked
use Rattle.clfs_cells.specs.declared.told.TxnReply.TheVariants as replies
use Rattle.clfs_txn.proofs.Between.{if_done, if_refused, went}
use Rattle.clfs_txn.proofs.Tables.{Crashes, keeps, moments}
use Rattle.clfs_txn.proofs.store.TxnStore.begin.Goals as goal

pub invariant_of-self : goal.invariant_of-self
invariant_of-self g c =
    let tells = (g.D.Disk.state c.self.inside.table.1).nature.tells_contents in
    let so = went tells true c.self.inside.table c.args.self.now (asked.Begin c.args.changes) replies.Begun c.begin.result c.begin.new.self.0 c.self.view_is c.self.invariant (c.begin.ensures.step true) in
    subst (λ (b : Bool). IsKeptStore b c.begin.new.self.0.log c.begin.new.self.0.memory) (ap (λ (n : Nature). n.tells_contents) (sym c.begin.ensures.writes.time.nature))
    (c.calls_keep_a_store.ensures.kept tells true c.args.self.now.0 c.begin.new.self.0 (asked.Begin c.args.changes) _ tt so.kept so.step)

pub returns-clause-reason : goal.returns-clause-reason
returns-clause-reason g c =
    let tells = (g.D.Disk.state c.self.inside.table.1).nature.tells_contents in
    let so = went tells true c.self.inside.table c.args.self.now (asked.Begin c.args.changes) replies.Begun c.begin.result c.begin.new.self.0 c.self.view_is c.self.invariant (c.begin.ensures.step true) in
    c.calls_are_refused_for_the_first_reason.ensures.reason tells true c.args.self.now.0 c.begin.new.self.0 (asked.Begin c.args.changes) _ tt so.kept so.step

pub returns-clause-begun : goal.returns-clause-begun
returns-clause-begun g c =
    let tells = (g.D.Disk.state c.self.inside.table.1).nature.tells_contents in
    let so = went tells true c.self.inside.table c.args.self.now (asked.Begin c.args.changes) replies.Begun c.begin.result c.begin.new.self.0 c.self.view_is c.self.invariant (c.begin.ensures.step true) in
    if_done true c.args.self.now.0 c.begin.new.self.0 (asked.Begin c.args.changes) replies.Begun c.begin.result
    (λ value step. c.calls_leave_the_cells_so.ensures.begin tells true c.args.self.now.0 c.begin.new.self.0 c.args.changes value so.kept step) so.step

pub returns-clause-refused : goal.returns-clause-refused
returns-clause-refused g c =
    let tells = (g.D.Disk.state c.self.inside.table.1).nature.tells_contents in
    let so = went tells true c.self.inside.table c.args.self.now (asked.Begin c.args.changes) replies.Begun c.begin.result c.begin.new.self.0 c.self.view_is c.self.invariant (c.begin.ensures.step true) in
    if_refused (λ (given : Refusal). for_room_or_outside given ≡ true) true c.args.self.now.0 c.begin.new.self.0 (asked.Begin c.args.changes) replies.Begun c.begin.result
    (λ given step. c.a_transaction_has_its_room.ensures.begin tells true c.args.self.now.0 c.begin.new.self.0 c.args.changes given so.kept step) so.step

pub returns-clause-moments : goal.returns-clause-moments
returns-clause-moments g c =
    let laws : Crashes = record { left = c.crashes_leave_the_table.ensures.left; ends = c.crashes_leave_the_table.ensures.ends; at_rest = c.crashes_leave_the_table.ensures.at_rest; same = c.the_same_log_has_the_same_table.ensures } in
    moments g.D.Disk.state c.self.inside.table c.args.self.now (asked.Begin c.args.changes) _ laws c.self.view_is tt c.self.invariant c.stored.ensures.survives (c.begin.ensures.moments _)

pub returns-clause-table : goal.returns-clause-table
returns-clause-table g c =
    let laws : Crashes = record { left = c.crashes_leave_the_table.ensures.left; ends = c.crashes_leave_the_table.ensures.ends; at_rest = c.crashes_leave_the_table.ensures.at_rest; same = c.the_same_log_has_the_same_table.ensures } in
    keeps g.D.Disk.state c.self.inside.table c.args.self.now (asked.Begin c.args.changes) replies.Begun c.begin.result c.begin.new.self.0 laws c.self.view_is tt c.self.invariant (c.begin.ensures.step (g.D.Disk.state c.self.inside.table.1).nature.tells_contents)
