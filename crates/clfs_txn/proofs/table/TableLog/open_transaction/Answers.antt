use Rattle.clfs_txn.proofs.Words.{◌≡◌, ap, ◌∙◌, sym, Some, transaction_of, transaction}
use Rattle.clfs_txn.proofs.Asked.{numbered}
use Rattle.clfs_txn.proofs.table.TableLog.open_transaction.Goals as goal

pub returns-in-Some : goal.returns-in-Some
returns-in-Some g c =
    let there : transaction c.args.self.now.0.memory c.args.txn ≡ Some (transaction_of c.in-Some.t)
    = sym (c.in-Some.ensures ∙ ap (λ v. transaction v.0.memory c.args.txn) c.self.view_is) in
    record {
      whole = sym (ap (λ v. v.0.log.broken) c.self.view_is) ∙ (sym c.self.invariant.knows ∙ c.if-self.false);
      there = there;
      numbered = numbered c.args.self.now.0.memory c.args.txn (transaction_of c.in-Some.t) there;
    }
