use Rattle.clfs_txn.proofs.Words.{◌≡◌, ap, ◌+◌, ◌∙◌, sym, refl, false, length, with_begun, store_of}
use Rattle.clfs_txn.proofs.Breaking.{same_store}
use Rattle.clfs_txn.proofs.Begun.{begin_meanwhile, broken, limit_of, spent, refused, done, some_room, is_last, is_not_last}
use Rattle.clfs_txn.proofs.Written.{at_once, of_log, of_ok}
use Rattle.clfs_txn.proofs.table.TableLog.begin.Goals as goal

pub returns-then-self : goal.returns-then-self
returns-then-self g c = record {
  step = λ told. broken told c.args.self.now.0 c.args.changes (sym (ap (λ v. v.0.log.broken) c.self.view_is) ∙ (sym c.self.invariant.knows ∙ c.if-self.true));
  moments = λ under along present. present;
  writes = at_once _ _ refl;
  kept = λ _. refl;
  stopped = λ _. refl;
}

pub returns-then-open_now-eq-MOST_TRANSACTIONS : goal.returns-then-open_now-eq-MOST_TRANSACTIONS
returns-then-open_now-eq-MOST_TRANSACTIONS g c =
    let whole : c.args.self.now.0.log.broken ≡ false = sym (ap (λ v. v.0.log.broken) c.self.view_is) ∙ (sym c.self.invariant.knows ∙ c.if-self.false) in
    let count = c.open_now-open_now.ensures.count ∙ ap (λ v. length v.0.memory.transactions) c.self.view_is in
    record { step = λ told. limit_of told c.args.self.now.0 c.args.changes c.open_now-open_now.result whole count c.if-open_now-eq-MOST_TRANSACTIONS.true; moments = λ under along present. present; writes = at_once _ _ refl; kept = λ _. refl; stopped = λ e. absurd (cc (e, whole)) }

pub returns-then-last : goal.returns-then-last
returns-then-last g c =
    let whole : c.args.self.now.0.log.broken ≡ false = sym (ap (λ v. v.0.log.broken) c.self.view_is) ∙ (sym c.self.invariant.knows ∙ c.if-self.false) in
    let count = c.open_now-open_now.ensures.count ∙ ap (λ v. length v.0.memory.transactions) c.self.view_is in
    let room = some_room c.open_now-open_now.result _ count c.open_now-open_now.ensures.few c.if-open_now-eq-MOST_TRANSACTIONS.false in
    let last = is_last c.last.result _ (c.last.ensures ∙ ap (λ v. v.0.memory.last) c.self.view_is) c.if-last.true in
    record { step = λ told. spent told c.args.self.now.0 c.args.changes whole room last; moments = λ under along present. present; writes = at_once _ _ refl; kept = λ _. refl; stopped = λ e. absurd (cc (e, whole)) }

pub returns-in-Ok : goal.returns-in-Ok
returns-in-Ok g c =
    let whole : c.args.self.now.0.log.broken ≡ false = sym (ap (λ v. v.0.log.broken) c.self.view_is) ∙ (sym c.self.invariant.knows ∙ c.if-self.false) in
    let count = c.open_now-open_now.ensures.count ∙ ap (λ v. length v.0.memory.transactions) c.self.view_is in
    let room = some_room c.open_now-open_now.result _ count c.open_now-open_now.ensures.few c.if-open_now-eq-MOST_TRANSACTIONS.false in
    let last = is_not_last c.last.result _ (c.last.ensures ∙ ap (λ v. v.0.memory.last) c.self.view_is) c.if-last.false in
    let same = ap (λ v. v.0.memory) c.self-2.view_is ∙ c.in-Ok.ensures.memory in
    let log = ap (λ v. v.0.log) c.self-2.view_is in
    record {
      step = λ told.
          done told c.args.self.now.0 c.args.changes c.in-Ok.field-0 c.begin.result (store_of c.self-2.inside.manager.0 c.begin.new.self) whole room last
          (rw log (c.in-Ok.ensures.step told)) (c.begin.ensures.number ∙ ap (λ m. m.last + 1) same) (c.begin.ensures.begun ∙ ap (with_begun c.args.changes) same);
      moments = λ under.
          rw (ap (λ v. v.1) c.self-2.view_is) (begin_meanwhile under _ c.args.self.now.0 c.args.changes _ _ whole room last (c.in-Ok.ensures.moments under));
      writes = of_ok _ _ _ c.in-Ok.field-0 (λ f. absurd (cc f)) (rw (ap (λ v. v.1) c.self-2.view_is) c.in-Ok.ensures.writes);
      kept = tt;
      stopped = λ e. absurd (cc (e, whole));
    }

pub returns-in-Err : goal.returns-in-Err
returns-in-Err g c =
    let whole : c.args.self.now.0.log.broken ≡ false = sym (ap (λ v. v.0.log.broken) c.self.view_is) ∙ (sym c.self.invariant.knows ∙ c.if-self.false) in
    let count = c.open_now-open_now.ensures.count ∙ ap (λ v. length v.0.memory.transactions) c.self.view_is in
    let room = some_room c.open_now-open_now.result _ count c.open_now-open_now.ensures.few c.if-open_now-eq-MOST_TRANSACTIONS.false in
    let last = is_not_last c.last.result _ (c.last.ensures ∙ ap (λ v. v.0.memory.last) c.self.view_is) c.if-last.false in
    record {
      step = λ told.
          refused told c.args.self.now.0 c.args.changes c.in-Err.refusal c.reserve.new.self.0 whole room last (c.in-Err.ensures.step told) c.in-Err.ensures.memory;
      moments = λ under. begin_meanwhile under _ c.args.self.now.0 c.args.changes _ _ whole room last (c.in-Err.ensures.moments under);
      writes = of_log _ _ c.in-Err.refusal c.in-Err.ensures.writes;
      kept = λ fine. same_store _ _ (c.in-Err.ensures.kept fine) c.in-Err.ensures.memory;
      stopped = λ e. absurd (cc (e, whole));
    }
