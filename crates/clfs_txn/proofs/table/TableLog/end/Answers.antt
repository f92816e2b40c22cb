use Rattle.clfs_txn.proofs.Words.{◌≡◌, ◌-◌, ◌∙◌, ap, arith, refl, ℕ, transaction_of, Memory, most_records, records_made, without_transaction, is_break}
use Rattle.std.proofs.Common.{◌*◌}
use Rattle.clfs_txn.proofs.Asked.{same_call, same_step, append_call_is, release_is}
use Rattle.clfs_txn.proofs.Ends.{refused, done, stopped}
use Rattle.clfs_model.specs.declared.refusal.Refusal.TheVariants as log_refusals
use Rattle.clfs_txn.proofs.Breaking.{same_store}
use Rattle.clfs_txn.proofs.Written.{of_log, of_ok}
use Rattle.clfs_txn.proofs.Logged.{ended_logged}
use Rattle.clfs_txn.proofs.Damage.{of_the_log}
use Rattle.clfs_txn.proofs.Moments.{by_call, first_call}
use Rattle.clfs_txn.proofs.table.TableLog.end.Goals as goal

pub returns-in-Err-clause-step : goal.returns-in-Err-clause-step
returns-in-Err-clause-step g c =
    let t = transaction_of c.args.t.now in
    let call = append_call_is c.args.self.now.0.memory t c.args.action c.args.action _ _ c.args.flush refl c.null.ensures in λ told.
    refused told c.args.self.now.0 c.append.new.self.0 t c.args.action c.args.flush c.in-Err.refusal
    (same_call told _ _ _ _ _ _ _ call (c.in-Err.ensures.step told)) c.in-Err.ensures.memory

pub returns-in-Ok-clause-step : goal.returns-in-Ok-clause-step
returns-in-Ok-clause-step g c =
    let t = transaction_of c.args.t.now in
    let call = append_call_is c.args.self.now.0.memory t c.args.action c.args.action _ _ c.args.flush refl c.null.ensures in
    let before = ap (λ v. v.0.memory) c.self.view_is ∙ c.in_default.ensures.memory in
    let left : 2 * c.changes.result - c.records_made.result ≡ most_records t.changes - records_made t - 1
    = omega (arith, c.changes.ensures.changes, c.records_made.ensures.records) in
    let release = release_is _ _ _ _ (ap (λ (m : Memory). m.area) c.end.ensures ∙ ap (λ (m : Memory). m.area) before) left in
    let client = ap (λ (m : Memory). m.client) c.end.ensures ∙ ap (λ (m : Memory). m.client) before in
    let memory = c.in-Ok.ensures.memory ∙ c.end.ensures ∙ ap (λ (n : ℕ). without_transaction n c.self.inside.memory) c.number.ensures
    ∙ ap (λ (m : Memory). without_transaction t.number m) before in λ told.
    done told c.args.self.now.0 c.release.new.self.0 c.append.new.self.0.log t c.args.action c.args.flush c.in_default.field-0 c.in-Ok.field-0
    (same_call told _ _ _ _ _ _ _ call (c.in_default.ensures.step told))
    (same_step told _ _ _ _ _ _ _ _ _ (ap (λ v. v.0.log) c.self.view_is) client release (c.in-Ok.ensures.step told)) memory

pub returns-in-Err-release-clause-step : goal.returns-in-Err-release-clause-step
returns-in-Err-release-clause-step g c =
    let t = transaction_of c.args.t.now in
    let call = append_call_is c.args.self.now.0.memory t c.args.action c.args.action _ _ c.args.flush refl c.null.ensures in
    let before = ap (λ v. v.0.memory) c.self.view_is ∙ c.in_default.ensures.memory in
    let left : 2 * c.changes.result - c.records_made.result ≡ most_records t.changes - records_made t - 1
    = omega (arith, c.changes.ensures.changes, c.records_made.ensures.records) in
    let release = release_is _ _ _ _ (ap (λ (m : Memory). m.area) c.end.ensures ∙ ap (λ (m : Memory). m.area) before) left in
    let client = ap (λ (m : Memory). m.client) c.end.ensures ∙ ap (λ (m : Memory). m.client) before in
    let memory = c.in-Err-release.ensures.memory ∙ c.end.ensures ∙ ap (λ (n : ℕ). without_transaction n c.self.inside.memory) c.number.ensures
    ∙ ap (λ (m : Memory). without_transaction t.number m) before in λ told.
    stopped told c.args.self.now.0 c.release.new.self.0 c.append.new.self.0.log t c.args.action c.args.flush c.in_default.field-0 c.in-Err-release.refusal
    (same_call told _ _ _ _ _ _ _ call (c.in_default.ensures.step told))
    (same_step told _ _ _ _ _ _ _ _ _ (ap (λ v. v.0.log) c.self.view_is) client release (c.in-Err-release.ensures.step told)) memory

pub returns-in-Err-clause-writes : goal.returns-in-Err-clause-writes
returns-in-Err-clause-writes g c = of_log _ _ c.in-Err.refusal c.in-Err.ensures.writes

pub returns-in-Ok-clause-writes : goal.returns-in-Ok-clause-writes
returns-in-Ok-clause-writes g c =
    of_ok _ _ _ c.in_default.field-0 (λ f. absurd (cc f)) (rw (c.in-Ok.ensures.disk, ap (λ v. v.1) c.self.view_is) c.in_default.ensures.writes)

pub returns-in-Err-release-clause-writes : goal.returns-in-Err-release-clause-writes
returns-in-Err-release-clause-writes g c =
    of_ok _ _ _ c.in_default.field-0 (λ f. c.in-Err-release.ensures.calm (cc f)) (rw (c.in-Err-release.ensures.disk, ap (λ v. v.1) c.self.view_is) c.in_default.ensures.writes)

pub returns-in-Err-clause-kept : goal.returns-in-Err-clause-kept
returns-in-Err-clause-kept g c = λ f.
    let want : c.in-Err.refusal ≡ log_refusals.NoMemory = cc f in
    same_store _ _ (c.in-Err.ensures.kept (ap is_break want)) c.in-Err.ensures.memory

pub returns-in-Ok-clause-kept : goal.returns-in-Ok-clause-kept
returns-in-Ok-clause-kept g c = λ f. absurd (cc f)

pub returns-in-Err-release-clause-kept : goal.returns-in-Err-release-clause-kept
returns-in-Err-release-clause-kept g c = λ f. absurd (c.in-Err-release.ensures.fed (cc f))

pub invariant_of-self : goal.invariant_of-self
invariant_of-self g c = record {
  knows = c.self.invariant.knows;
  client = rw c.end.ensures c.self.invariant.client;
  logged = rw c.end.ensures (ended_logged c.self.inside.manager.0 c.number.result c.self.inside.memory c.self.invariant.logged);
}

pub returns-in-Err-clause-no_damage : goal.returns-in-Err-clause-no_damage
returns-in-Err-clause-no_damage g c = λ container offset at is. c.in-Err.ensures.no_damage container offset at (of_the_log _ _ is)

pub returns-in-Err-release-clause-no_damage : goal.returns-in-Err-release-clause-no_damage
returns-in-Err-release-clause-no_damage g c = λ container offset at is. c.in-Err-release.ensures.no_damage container offset at (of_the_log _ _ is)

pub returns-in-Err-clause-moments : goal.returns-in-Err-clause-moments
returns-in-Err-clause-moments g c =
    let t = transaction_of c.args.t.now in
    let call = append_call_is c.args.self.now.0.memory t c.args.action c.args.action _ _ c.args.flush refl c.null.ensures in λ under.
    first_call under _ _ _ _ _ _ _ c.requires (by_call under _ _ _ _ _ _ call (c.in-Err.ensures.moments under))

pub returns-in-Ok-clause-moments : goal.returns-in-Ok-clause-moments
returns-in-Ok-clause-moments g c =
    let t = transaction_of c.args.t.now in
    let call = append_call_is c.args.self.now.0.memory t c.args.action c.args.action _ _ c.args.flush refl c.null.ensures in λ under.
    rw (c.in-Ok.ensures.disk, ap (λ v. v.1) c.self.view_is)
    (first_call under _ _ _ _ _ _ _ c.requires (by_call under _ _ _ _ _ _ call (c.in_default.ensures.moments under)))

pub returns-in-Err-release-clause-moments : goal.returns-in-Err-release-clause-moments
returns-in-Err-release-clause-moments g c =
    let t = transaction_of c.args.t.now in
    let call = append_call_is c.args.self.now.0.memory t c.args.action c.args.action _ _ c.args.flush refl c.null.ensures in λ under.
    rw (c.in-Err-release.ensures.disk, ap (λ v. v.1) c.self.view_is)
    (first_call under _ _ _ _ _ _ _ c.requires (by_call under _ _ _ _ _ _ call (c.in_default.ensures.moments under)))
