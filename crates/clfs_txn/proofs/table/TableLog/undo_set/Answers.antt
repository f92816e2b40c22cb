use Rattle.clfs_txn.proofs.Words.{ap, ◌∙◌, refl, sym, subst, transaction_of, Memory, with_undone, IsSet}
use Rattle.clfs_txn.proofs.Asked.{same_call, same_end, append_call_is}
use Rattle.clfs_txn.proofs.Logged.{undone_is_set, undone_logged}
use Rattle.clfs_txn.proofs.Undone.{set_undone, set_refused, undo_meanwhile}
use Rattle.clfs_txn.proofs.Written.{of_same}
use Rattle.clfs_txn.proofs.Damage.{handed_on}
use Rattle.clfs_txn.proofs.Moments.{by_call}
use Rattle.clfs_txn.proofs.table.TableLog.undo_set.Goals as goal

pub invariant_of-self : goal.invariant_of-self
invariant_of-self g c = record {
  knows = c.self.invariant.knows;
  client = rw c.undo.ensures c.self.invariant.client;
  logged = rw c.undo.ensures (undone_logged c.self.inside.manager.0 c.self.inside.memory (transaction_of c.set_at.result.0) c.set_at.result.1 c.in-Ok.at c.self.invariant.logged);
}

pub returns-in-Ok-clause-step : goal.returns-in-Ok-clause-step
returns-in-Ok-clause-step g c =
    let t = transaction_of c.set_at.result.0 in
    let call = append_call_is c.args.self.now.0.memory t _ _ _ c.set_at.result.1.undo_next _ c.compensation.ensures refl in
    let same = ap (λ v. v.0.memory) c.self.view_is ∙ c.in-Ok.ensures.memory in λ told cursor rest.
    set_undone told _ _ _ c.args.self.now.0.memory c.undo.new.self c.args.number cursor c.args.lsn c.in-Ok.at t c.set_at.result.1 rest c.set_at.ensures
    (same_end told _ _ _ _ _ _ _ (sym (ap (λ v. v.0.log) c.self.view_is)) (same_call told _ _ _ _ _ _ _ call (c.in-Ok.ensures.step told)))
    (c.undo.ensures ∙ ap (λ (m : Memory). with_undone t c.set_at.result.1 c.in-Ok.at m) same)

pub returns-in-Ok-clause-set : goal.returns-in-Ok-clause-set
returns-in-Ok-clause-set g c =
    let t = transaction_of c.set_at.result.0 in
    let is = c.set_at.ensures in
    let same = ap (λ v. v.0.memory) c.self.view_is ∙ c.in-Ok.ensures.memory in
    subst (λ (m : Memory). IsSet m c.args.number c.args.lsn) (sym (c.undo.ensures ∙ ap (λ (m : Memory). with_undone t c.set_at.result.1 c.in-Ok.at m) same))
    (undone_is_set c.args.self.now.0.memory c.args.number c.args.lsn c.in-Ok.at t c.set_at.result.1 is.open_one is.numbered is.there is.at)

pub returns-in-Err-clause-step : goal.returns-in-Err-clause-step
returns-in-Err-clause-step g c =
    let t = transaction_of c.set_at.result.0 in
    let call = append_call_is c.args.self.now.0.memory t _ _ _ c.set_at.result.1.undo_next _ c.compensation.ensures refl in λ told cursor rest.
    set_refused told _ _ _ c.args.self.now.0.memory c.append.new.self.0.memory c.args.number cursor c.args.lsn t c.set_at.result.1 rest c.in-Err.refusal c.set_at.ensures
    (same_call told _ _ _ _ _ _ _ call (c.in-Err.ensures.step told)) c.in-Err.ensures.memory

pub returns-in-Err-clause-writes : goal.returns-in-Err-clause-writes
returns-in-Err-clause-writes g c = of_same _ _ c.in-Err.refusal c.in-Err.ensures.writes

pub returns-in-Err-clause-no_damage : goal.returns-in-Err-clause-no_damage
returns-in-Err-clause-no_damage g c = λ container offset at is. c.in-Err.ensures.no_damage container offset at (handed_on _ _ is)

pub returns-in-Ok-clause-moments : goal.returns-in-Ok-clause-moments
returns-in-Ok-clause-moments g c =
    let t = transaction_of c.set_at.result.0 in
    let call = append_call_is c.args.self.now.0.memory t _ _ _ c.set_at.result.1.undo_next _ c.compensation.ensures refl in λ under cursor rest.
    rw (ap (λ v. v.1) c.self.view_is) (undo_meanwhile under _ _ _ c.args.self.now.0.memory c.args.number cursor c.args.lsn t c.set_at.result.1 rest _ _ c.set_at.ensures
    c.requires.whole (by_call under _ _ _ _ _ _ call (c.in-Ok.ensures.moments under)))

pub returns-in-Err-clause-moments : goal.returns-in-Err-clause-moments
returns-in-Err-clause-moments g c =
    let t = transaction_of c.set_at.result.0 in
    let call = append_call_is c.args.self.now.0.memory t _ _ _ c.set_at.result.1.undo_next _ c.compensation.ensures refl in λ under cursor rest.
    undo_meanwhile under _ _ _ c.args.self.now.0.memory c.args.number cursor c.args.lsn t c.set_at.result.1 rest _ _ c.set_at.ensures
    c.requires.whole (by_call under _ _ _ _ _ _ call (c.in-Err.ensures.moments under))
