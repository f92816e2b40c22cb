use Rattle.clfs_txn.proofs.Words.{◌≡◌, ap, ◌∙◌, sym, ℕ, true, ◌==◌, null_lsn}
use Rattle.clfs_txn.proofs.Leads.{leads_from}
use Rattle.clfs_txn.proofs.LoadParts.{is_new}
use Rattle.clfs_txn.proofs.Moments.{meanwhile_as, reads_leave}
use Rattle.clfs_txn.proofs.table.TableLog.load_of.Goals as goal

pub returns-then-eq-clause-step : goal.returns-then-eq-clause-step
returns-then-eq-clause-step g c =
    let is : (c.args.info.now.last == null_lsn) ≡ true = ap (λ (n : ℕ). c.args.info.now.last == n) (sym c.null.ensures) ∙ sym c.eq.ensures ∙ c.if-eq.true in
    leads_from _ _ _ _ _ _ _ (is_new _ _ _ _ c.args.info.now is) (c.write_first.ensures.step _)

pub returns-then-eq-clause-moments : goal.returns-then-eq-clause-moments
returns-then-eq-clause-moments g c =
    let is : (c.args.info.now.last == null_lsn) ≡ true = ap (λ (n : ℕ). c.args.info.now.last == n) (sym c.null.ensures) ∙ sym c.eq.ensures ∙ c.if-eq.true in λ under.
    meanwhile_as under _ _ _ _ _ _ _ (is_new _ _ _ _ c.args.info.now is) (c.write_first.ensures.moments under)

pub returns-clause-moments : goal.returns-clause-moments
returns-clause-moments g c = λ under along present. reads_leave under _ _ c.load_table.ensures.time present
