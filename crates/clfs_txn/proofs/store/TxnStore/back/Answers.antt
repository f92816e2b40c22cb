use Rattle.clfs_txn.proofs.Words.{◌≡◌, true, refl, ap, sym, subst, Bool, Refusal, from_outside, Nature, IsKeptStore}
use Rattle.clfs_cells.specs.declared.asked.TxnCall.TheVariants as asked
use Rattle.clfs_cells.specs.declared.told.TxnReply.TheVariants as replies
use Rattle.clfs_txn.proofs.Between.{if_done, if_refused, went}
use Rattle.clfs_txn.proofs.Tables.{Crashes, keeps, moments}
use Rattle.clfs_txn.proofs.store.TxnStore.back.Goals as goal

pub invariant_of-self : goal.invariant_of-self
invariant_of-self g c =
    let tells = (g.D.Disk.state c.self.inside.table.1).nature.tells_contents in
    let so = went tells tells c.self.inside.table c.args.self.now (asked.Back c.args.txn c.args.kept) (λ _. replies.Done) c.back.result c.back.new.self.0 c.self.view_is c.self.invariant c.back.ensures.step in
    subst (λ (b : Bool). IsKeptStore b c.back.new.self.0.log c.back.new.self.0.memory) (ap (λ (n : Nature). n.tells_contents) (sym c.back.ensures.writes.time.nature))
    (c.calls_keep_a_store.ensures.kept tells tells c.args.self.now.0 c.back.new.self.0 (asked.Back c.args.txn c.args.kept) _ tt so.kept so.step)

pub returns-clause-reason : goal.returns-clause-reason
returns-clause-reason g c =
    let tells = (g.D.Disk.state c.self.inside.table.1).nature.tells_contents in
    let so = went tells tells c.self.inside.table c.args.self.now (asked.Back c.args.txn c.args.kept) (λ _. replies.Done) c.back.result c.back.new.self.0 c.self.view_is c.self.invariant c.back.ensures.step in
    c.calls_are_refused_for_the_first_reason.ensures.reason tells tells c.args.self.now.0 c.back.new.self.0 (asked.Back c.args.txn c.args.kept) _ tt so.kept so.step

pub returns-clause-values : goal.returns-clause-values
returns-clause-values g c =
    let tells = (g.D.Disk.state c.self.inside.table.1).nature.tells_contents in
    let so = went tells tells c.self.inside.table c.args.self.now (asked.Back c.args.txn c.args.kept) (λ _. replies.Done) c.back.result c.back.new.self.0 c.self.view_is c.self.invariant c.back.ensures.step in
    if_done tells c.args.self.now.0 c.back.new.self.0 (asked.Back c.args.txn c.args.kept) (λ _. replies.Done) c.back.result
    (λ _ step. c.calls_leave_the_cells_so.ensures.back tells tells c.args.self.now.0 c.back.new.self.0 c.args.txn c.args.kept so.kept step) so.step

pub returns-clause-room : goal.returns-clause-room
returns-clause-room g c =
    let tells = (g.D.Disk.state c.self.inside.table.1).nature.tells_contents in
    let so = went tells tells c.self.inside.table c.args.self.now (asked.Back c.args.txn c.args.kept) (λ _. replies.Done) c.back.result c.back.new.self.0 c.self.view_is c.self.invariant c.back.ensures.step in
    if_refused (λ (given : Refusal). from_outside given ≡ true) tells c.args.self.now.0 c.back.new.self.0 (asked.Back c.args.txn c.args.kept) (λ _. replies.Done) c.back.result
    (λ given step. c.a_transaction_has_its_room.ensures.within tells tells c.args.self.now.0 c.back.new.self.0 (asked.Back c.args.txn c.args.kept) given tt refl so.kept step) so.step

pub returns-clause-moments : goal.returns-clause-moments
returns-clause-moments g c =
    let laws : Crashes = record { left = c.crashes_leave_the_table.ensures.left; ends = c.crashes_leave_the_table.ensures.ends; at_rest = c.crashes_leave_the_table.ensures.at_rest; same = c.the_same_log_has_the_same_table.ensures } in
    moments g.D.Disk.state c.self.inside.table c.args.self.now (asked.Back c.args.txn c.args.kept) _ laws c.self.view_is tt c.self.invariant c.stored.ensures.survives (c.back.ensures.moments _)

pub returns-clause-table : goal.returns-clause-table
returns-clause-table g c =
    let laws : Crashes = record { left = c.crashes_leave_the_table.ensures.left; ends = c.crashes_leave_the_table.ensures.ends; at_rest = c.crashes_leave_the_table.ensures.at_rest; same = c.the_same_log_has_the_same_table.ensures } in
    keeps g.D.Disk.state c.self.inside.table c.args.self.now (asked.Back c.args.txn c.args.kept) (λ _. replies.Done) c.back.result c.back.new.self.0 laws c.self.view_is tt c.self.invariant (c.back.ensures.step)
