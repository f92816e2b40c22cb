use Rattle.clfs_txn.proofs.Words.{arith, ◌<◌, ◌^◌, ◌≡◌, true, refl, ap, sym, subst, Bool, Refusal, from_outside, Nature, IsKeptStore}
use Rattle.clfs_cells.specs.declared.asked.TxnCall.TheVariants as asked
use Rattle.clfs_cells.specs.declared.told.TxnReply.TheVariants as replies
use Rattle.clfs_txn.proofs.Between.{if_done, if_refused, went}
use Rattle.clfs_txn.proofs.Tables.{Crashes, keeps, moments}
use Rattle.clfs_txn.proofs.store.TxnStore.set.Goals as goal

pub invariant_of-self : goal.invariant_of-self
invariant_of-self g c =
    let fits : c.args.value < 2 ^ 64 = omega arith in
    let tells = (g.D.Disk.state c.self.inside.table.1).nature.tells_contents in
    let so = went tells true c.self.inside.table c.args.self.now (asked.Set c.args.txn c.args.cell c.args.value) (λ _. replies.Done) c.set.result c.set.new.self.0 c.self.view_is c.self.invariant (c.set.ensures.step true) in
    subst (λ (b : Bool). IsKeptStore b c.set.new.self.0.log c.set.new.self.0.memory) (ap (λ (n : Nature). n.tells_contents) (sym c.set.ensures.writes.time.nature))
    (c.calls_keep_a_store.ensures.kept tells true c.args.self.now.0 c.set.new.self.0 (asked.Set c.args.txn c.args.cell c.args.value) _ (c.requires, fits) so.kept so.step)

pub returns-clause-reason : goal.returns-clause-reason
returns-clause-reason g c =
    let fits : c.args.value < 2 ^ 64 = omega arith in
    let tells = (g.D.Disk.state c.self.inside.table.1).nature.tells_contents in
    let so = went tells true c.self.inside.table c.args.self.now (asked.Set c.args.txn c.args.cell c.args.value) (λ _. replies.Done) c.set.result c.set.new.self.0 c.self.view_is c.self.invariant (c.set.ensures.step true) in
    c.calls_are_refused_for_the_first_reason.ensures.reason tells true c.args.self.now.0 c.set.new.self.0 (asked.Set c.args.txn c.args.cell c.args.value) _ (c.requires, fits) so.kept so.step

pub returns-clause-set : goal.returns-clause-set
returns-clause-set g c =
    let fits : c.args.value < 2 ^ 64 = omega arith in
    let tells = (g.D.Disk.state c.self.inside.table.1).nature.tells_contents in
    let so = went tells true c.self.inside.table c.args.self.now (asked.Set c.args.txn c.args.cell c.args.value) (λ _. replies.Done) c.set.result c.set.new.self.0 c.self.view_is c.self.invariant (c.set.ensures.step true) in
    if_done true c.args.self.now.0 c.set.new.self.0 (asked.Set c.args.txn c.args.cell c.args.value) (λ _. replies.Done) c.set.result
    (λ _ step. c.calls_leave_the_cells_so.ensures.set tells true c.args.self.now.0 c.set.new.self.0 c.args.txn c.args.cell c.args.value c.requires fits so.kept step) so.step

pub returns-clause-room : goal.returns-clause-room
returns-clause-room g c =
    let fits : c.args.value < 2 ^ 64 = omega arith in
    let tells = (g.D.Disk.state c.self.inside.table.1).nature.tells_contents in
    let so = went tells true c.self.inside.table c.args.self.now (asked.Set c.args.txn c.args.cell c.args.value) (λ _. replies.Done) c.set.result c.set.new.self.0 c.self.view_is c.self.invariant (c.set.ensures.step true) in
    if_refused (λ (given : Refusal). from_outside given ≡ true) true c.args.self.now.0 c.set.new.self.0 (asked.Set c.args.txn c.args.cell c.args.value) (λ _. replies.Done) c.set.result
    (λ given step. c.a_transaction_has_its_room.ensures.within tells true c.args.self.now.0 c.set.new.self.0 (asked.Set c.args.txn c.args.cell c.args.value) given (c.requires, fits) refl so.kept step) so.step

pub returns-clause-moments : goal.returns-clause-moments
returns-clause-moments g c =
    let fits : c.args.value < 2 ^ 64 = omega arith in
    let laws : Crashes = record { left = c.crashes_leave_the_table.ensures.left; ends = c.crashes_leave_the_table.ensures.ends; at_rest = c.crashes_leave_the_table.ensures.at_rest; same = c.the_same_log_has_the_same_table.ensures } in
    moments g.D.Disk.state c.self.inside.table c.args.self.now (asked.Set c.args.txn c.args.cell c.args.value) _ laws c.self.view_is (c.requires, fits) c.self.invariant c.stored.ensures.survives (c.set.ensures.moments _)

pub returns-clause-table : goal.returns-clause-table
returns-clause-table g c =
    let fits : c.args.value < 2 ^ 64 = omega arith in
    let laws : Crashes = record { left = c.crashes_leave_the_table.ensures.left; ends = c.crashes_leave_the_table.ensures.ends; at_rest = c.crashes_leave_the_table.ensures.at_rest; same = c.the_same_log_has_the_same_table.ensures } in
    keeps g.D.Disk.state c.self.inside.table c.args.self.now (asked.Set c.args.txn c.args.cell c.args.value) (λ _. replies.Done) c.set.result c.set.new.self.0 laws c.self.view_is (c.requires, fits) c.self.invariant (c.set.ensures.step (g.D.Disk.state c.self.inside.table.1).nature.tells_contents)
