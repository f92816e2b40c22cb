use Rattle.clfs_txn.proofs.Words.{◌≡◌, true, refl, ap, sym, subst, Bool, Refusal, from_outside, Nature, IsKeptStore}
use Rattle.clfs_cells.specs.declared.asked.TxnCall.TheVariants as asked
use Rattle.clfs_cells.specs.declared.told.TxnReply.TheVariants as replies
use Rattle.clfs_txn.proofs.Between.{if_done, if_refused, went}
use Rattle.clfs_txn.proofs.Tables.{Crashes, keeps, lasts, moments}
use Rattle.clfs_txn.proofs.store.TxnStore.commit.Goals as goal

pub invariant_of-self : goal.invariant_of-self
invariant_of-self g c =
    let tells = (g.D.Disk.state c.self.inside.table.1).nature.tells_contents in
    let so = went tells true c.self.inside.table c.args.self.now (asked.Commit c.args.txn) (λ _. replies.Done) c.commit-answer.result c.commit-answer.new.self.0 c.self.view_is c.self.invariant (c.commit-answer.ensures.step true) in
    subst (λ (b : Bool). IsKeptStore b c.commit-answer.new.self.0.log c.commit-answer.new.self.0.memory) (ap (λ (n : Nature). n.tells_contents) (sym c.commit-answer.ensures.writes.time.nature))
    (c.calls_keep_a_store.ensures.kept tells true c.args.self.now.0 c.commit-answer.new.self.0 (asked.Commit c.args.txn) _ tt so.kept so.step)

pub returns-clause-reason : goal.returns-clause-reason
returns-clause-reason g c =
    let tells = (g.D.Disk.state c.self.inside.table.1).nature.tells_contents in
    let so = went tells true c.self.inside.table c.args.self.now (asked.Commit c.args.txn) (λ _. replies.Done) c.commit-answer.result c.commit-answer.new.self.0 c.self.view_is c.self.invariant (c.commit-answer.ensures.step true) in
    c.calls_are_refused_for_the_first_reason.ensures.reason tells true c.args.self.now.0 c.commit-answer.new.self.0 (asked.Commit c.args.txn) _ tt so.kept so.step

pub returns-clause-ended : goal.returns-clause-ended
returns-clause-ended g c =
    let tells = (g.D.Disk.state c.self.inside.table.1).nature.tells_contents in
    let so = went tells true c.self.inside.table c.args.self.now (asked.Commit c.args.txn) (λ _. replies.Done) c.commit-answer.result c.commit-answer.new.self.0 c.self.view_is c.self.invariant (c.commit-answer.ensures.step true) in
    if_done true c.args.self.now.0 c.commit-answer.new.self.0 (asked.Commit c.args.txn) (λ _. replies.Done) c.commit-answer.result
    (λ _ step. c.calls_leave_the_cells_so.ensures.commit tells true c.args.self.now.0 c.commit-answer.new.self.0 c.args.txn so.kept step) so.step

pub returns-clause-room : goal.returns-clause-room
returns-clause-room g c =
    let tells = (g.D.Disk.state c.self.inside.table.1).nature.tells_contents in
    let so = went tells true c.self.inside.table c.args.self.now (asked.Commit c.args.txn) (λ _. replies.Done) c.commit-answer.result c.commit-answer.new.self.0 c.self.view_is c.self.invariant (c.commit-answer.ensures.step true) in
    if_refused (λ (given : Refusal). from_outside given ≡ true) true c.args.self.now.0 c.commit-answer.new.self.0 (asked.Commit c.args.txn) (λ _. replies.Done) c.commit-answer.result
    (λ given step. c.a_transaction_has_its_room.ensures.within tells true c.args.self.now.0 c.commit-answer.new.self.0 (asked.Commit c.args.txn) given tt refl so.kept step) so.step

pub returns-clause-moments : goal.returns-clause-moments
returns-clause-moments g c =
    let laws : Crashes = record { left = c.crashes_leave_the_table.ensures.left; ends = c.crashes_leave_the_table.ensures.ends; at_rest = c.crashes_leave_the_table.ensures.at_rest; same = c.the_same_log_has_the_same_table.ensures } in
    moments g.D.Disk.state c.self.inside.table c.args.self.now (asked.Commit c.args.txn) _ laws c.self.view_is tt c.self.invariant c.stored.ensures.survives (c.commit-answer.ensures.moments _)

pub returns-clause-table : goal.returns-clause-table
returns-clause-table g c =
    let laws : Crashes = record { left = c.crashes_leave_the_table.ensures.left; ends = c.crashes_leave_the_table.ensures.ends; at_rest = c.crashes_leave_the_table.ensures.at_rest; same = c.the_same_log_has_the_same_table.ensures } in
    keeps g.D.Disk.state c.self.inside.table c.args.self.now (asked.Commit c.args.txn) (λ _. replies.Done) c.commit-answer.result c.commit-answer.new.self.0 laws c.self.view_is tt c.self.invariant (c.commit-answer.ensures.step (g.D.Disk.state c.self.inside.table.1).nature.tells_contents)

pub returns-clause-lasts : goal.returns-clause-lasts
returns-clause-lasts g c =
    let laws : Crashes = record { left = c.crashes_leave_the_table.ensures.left; ends = c.crashes_leave_the_table.ensures.ends; at_rest = c.crashes_leave_the_table.ensures.at_rest; same = c.the_same_log_has_the_same_table.ensures } in
    let tells = (g.D.Disk.state c.self.inside.table.1).nature.tells_contents in
    let so = went tells true c.self.inside.table c.args.self.now (asked.Commit c.args.txn) (λ _. replies.Done) c.commit-answer.result c.commit-answer.new.self.0 c.self.view_is c.self.invariant (c.commit-answer.ensures.step true) in
    if_done true c.args.self.now.0 c.commit-answer.new.self.0 (asked.Commit c.args.txn) (λ _. replies.Done) c.commit-answer.result
    (λ _ step whole safe. lasts tells c.args.self.now.0 c.commit-answer.new.self.0 c.args.txn (g.D.Disk.state c.commit-answer.new.self.1) laws
    (ap (λ (n : Nature). n.tells_contents) (sym c.commit-answer.ensures.writes.time.nature)) whole
    (c.only_faults_break_a_store.ensures.whole true c.args.self.now.0 (asked.Commit c.args.txn) replies.Done c.commit-answer.new.self.0 whole step refl).0
    so.kept (c.calls_keep_a_store.ensures.kept tells true c.args.self.now.0 c.commit-answer.new.self.0 (asked.Commit c.args.txn) _ tt so.kept step) c.stored-2.ensures.survives safe step) so.step
