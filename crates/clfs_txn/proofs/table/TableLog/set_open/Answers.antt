use Rattle.clfs_txn.proofs.Words.{◌∙◌, ap, sym, subst, ℕ, option_map, Set, Change, TxnStep, change_to, transaction_of, Memory, Transaction, holder, with_set}
use Rattle.clfs_txn.proofs.Words.{store_of, newest_standing, transaction, HasLink}
use Rattle.clfs_cells.specs.declared.asked.TxnCall.TheVariants as asked
use Rattle.clfs_cells.specs.declared.told.TxnRefusal.TheVariants as refusals
use Rattle.clfs_cells.specs.declared.told.TxnReply.TheVariants as replies
use Rattle.clfs_txn.proofs.Asked.{same_call, same_end, append_call_is}
use Rattle.clfs_txn.proofs.Breaking.{same_store}
use Rattle.clfs_txn.proofs.Sets.{held, spent, refused, done, set_meanwhile}
use Rattle.clfs_txn.proofs.Written.{of_log}
use Rattle.clfs_txn.proofs.Logged.{set_logged}
use Rattle.clfs_txn.proofs.Moments.{by_call}
use Rattle.clfs_txn.proofs.table.TableLog.set_open.Goals as goal

pub returns-in-Some-clause-step : goal.returns-in-Some-clause-step
returns-in-Some-clause-step g c = λ told.
    held told c.args.self.now.0 c.args.txn c.args.cell c.args.value (transaction_of c.args.t.now) c.in-Some.other c.requires.found
    (c.in-Some.ensures ∙ ap (λ v. option_map (λ (t : Transaction). t.number) (holder v.0.memory c.args.txn c.args.cell)) c.self.view_is)

pub returns-then-is_spent-clause-step : goal.returns-then-is_spent-clause-step
returns-then-is_spent-clause-step g c = λ told.
    subst (λ (n : ℕ). TxnStep told c.args.self.now.0 (asked.Set c.args.txn c.args.cell c.args.value) (replies.Refused (refusals.ChangesSpent n)) c.args.self.now.0)
    (sym c.changes.ensures.changes)
    (spent told c.args.self.now.0 c.args.txn c.args.cell c.args.value (transaction_of c.args.t.now) c.requires.found
    (c.in_default.ensures ∙ ap (λ v. option_map (λ (t : Transaction). t.number) (holder v.0.memory c.args.txn c.args.cell)) c.self.view_is)
    (sym c.is_spent.ensures ∙ c.if-is_spent.true))

pub returns-in-Ok-clause-step : goal.returns-in-Ok-clause-step
returns-in-Ok-clause-step g c =
    let t = transaction_of c.args.t.now in
    let free = c.in_default.ensures ∙ ap (λ v. option_map (λ (t : Transaction). t.number) (holder v.0.memory c.args.txn c.args.cell)) c.self.view_is in
    let some = sym c.is_spent.ensures ∙ c.if-is_spent.false in
    let call = append_call_is c.args.self.now.0.memory t _ _ _ _ _ (ap (λ (x : Change). Set x) c.change_to-change.ensures) c.newest_standing.ensures in
    let same = ap (λ v. v.0.memory) c.self-2.view_is ∙ c.in-Ok.ensures.memory in λ told.
    done told c.args.self.now.0 c.args.txn c.args.cell c.args.value t c.in-Ok.lsn (store_of c.self-2.inside.manager.0 c.set.new.self) c.requires.found free some
    (same_end told _ _ _ _ _ _ _ (sym (ap (λ v. v.0.log) c.self-2.view_is)) (same_call told _ _ _ _ _ _ _ call (c.in-Ok.ensures.step told)))
    (c.set.ensures ∙ ap (λ (x : Change). with_set t x c.in-Ok.lsn c.self-2.inside.memory) c.change_to-change.ensures
    ∙ ap (λ (m : Memory). with_set t (change_to c.args.self.now.0.memory c.args.cell c.args.value) c.in-Ok.lsn m) same)

pub returns-in-Err-clause-step : goal.returns-in-Err-clause-step
returns-in-Err-clause-step g c =
    let t = transaction_of c.args.t.now in
    let free = c.in_default.ensures ∙ ap (λ v. option_map (λ (t : Transaction). t.number) (holder v.0.memory c.args.txn c.args.cell)) c.self.view_is in
    let some = sym c.is_spent.ensures ∙ c.if-is_spent.false in
    let call = append_call_is c.args.self.now.0.memory t _ _ _ _ _ (ap (λ (x : Change). Set x) c.change_to-change.ensures) c.newest_standing.ensures in λ told.
    refused told c.args.self.now.0 c.args.txn c.args.cell c.args.value t c.in-Err.refusal c.append.new.self.0 c.requires.found free some
    (same_call told _ _ _ _ _ _ _ call (c.in-Err.ensures.step told)) c.in-Err.ensures.memory

pub returns-in-Err-clause-kept : goal.returns-in-Err-clause-kept
returns-in-Err-clause-kept g c = λ fine. same_store _ _ (c.in-Err.ensures.kept fine) c.in-Err.ensures.memory

pub returns-in-Err-clause-writes : goal.returns-in-Err-clause-writes
returns-in-Err-clause-writes g c = of_log _ _ c.in-Err.refusal c.in-Err.ensures.writes

pub invariant_of-self : goal.invariant_of-self
invariant_of-self g c =
    let t = transaction_of c.args.t.now in
    let same = ap (λ v. v.0.memory) c.self-2.view_is ∙ c.in-Ok.ensures.memory in
    let there = ap (λ (m : Memory). transaction m t.number) same ∙ ap (λ (n : ℕ). transaction c.args.self.now.0.memory n) c.requires.found.numbered ∙ c.requires.found.there in
    let linked : HasLink c.self-2.inside.manager.0 c.in-Ok.lsn (newest_standing t) = rw (ap (λ v. v.0.log) c.self-2.view_is) (subst (λ (n : ℕ). HasLink c.append.new.self.0.log c.in-Ok.lsn n) c.newest_standing.ensures c.in-Ok.ensures.linked) in
    record {
      knows = c.self-2.invariant.knows;
      client = rw c.set.ensures c.self-2.invariant.client;
      logged = rw c.set.ensures (set_logged c.self-2.inside.manager.0 c.self-2.inside.memory t c.change_to-change.result c.in-Ok.lsn there linked c.self-2.invariant.logged);
    }

pub returns-in-Some-clause-moments : goal.returns-in-Some-clause-moments
returns-in-Some-clause-moments g c = λ under along present. present

pub returns-then-is_spent-clause-moments : goal.returns-then-is_spent-clause-moments
returns-then-is_spent-clause-moments g c = λ under along present. present

pub returns-in-Ok-clause-moments : goal.returns-in-Ok-clause-moments
returns-in-Ok-clause-moments g c =
    let t = transaction_of c.args.t.now in
    let free = c.in_default.ensures ∙ ap (λ v. option_map (λ (t : Transaction). t.number) (holder v.0.memory c.args.txn c.args.cell)) c.self.view_is in
    let some = sym c.is_spent.ensures ∙ c.if-is_spent.false in
    let call = append_call_is c.args.self.now.0.memory t _ _ _ _ _ (ap (λ (x : Change). Set x) c.change_to-change.ensures) c.newest_standing.ensures in λ under.
    rw (ap (λ v. v.1) c.self-2.view_is) (set_meanwhile under _ c.args.self.now.0 c.args.txn c.args.cell c.args.value t _ _ c.requires.found free some
    (by_call under _ _ _ _ _ _ call (c.in-Ok.ensures.moments under)))

pub returns-in-Err-clause-moments : goal.returns-in-Err-clause-moments
returns-in-Err-clause-moments g c =
    let t = transaction_of c.args.t.now in
    let free = c.in_default.ensures ∙ ap (λ v. option_map (λ (t : Transaction). t.number) (holder v.0.memory c.args.txn c.args.cell)) c.self.view_is in
    let some = sym c.is_spent.ensures ∙ c.if-is_spent.false in
    let call = append_call_is c.args.self.now.0.memory t _ _ _ _ _ (ap (λ (x : Change). Set x) c.change_to-change.ensures) c.newest_standing.ensures in λ under.
    set_meanwhile under _ c.args.self.now.0 c.args.txn c.args.cell c.args.value t _ _ c.requires.found free some
    (by_call under _ _ _ _ _ _ call (c.in-Err.ensures.moments under))
