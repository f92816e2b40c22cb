use Rattle.clfs_txn.proofs.Words.{◌≡◌, ap, ◌∙◌, sym, Some, option_map, eqb-true, transaction_of, is_at, transaction}
use Rattle.std.proofs.Common.{find}
use Rattle.clfs_txn.proofs.Asked.{numbered}
use Rattle.clfs_txn.proofs.Cursors.{found_passes}
use Rattle.clfs_txn.proofs.table.TableLog.set_at.Goals as goal

pub returns : goal.returns
returns g c =
    let t = transaction_of c.unwrap-t.result in
    let found : transaction c.args.self.now.0.memory c.args.number ≡ Some t
    = sym (c.transaction.ensures ∙ ap (λ v. transaction v.0.memory c.args.number) c.self.view_is) ∙ ap (λ o. option_map transaction_of o) c.unwrap-t.ensures in
    let there : find (is_at c.args.lsn) t.made ≡ Some c.unwrap-made.result = sym c.made_at.ensures ∙ c.unwrap-made.ensures in
    record {
      open_one = found;
      numbered = numbered c.args.self.now.0.memory c.args.number t found;
      there = there;
      at = eqb-true c.unwrap-made.result.lsn c.args.lsn (found_passes (is_at c.args.lsn) t.made c.unwrap-made.result there);
    }
