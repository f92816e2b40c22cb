use Rattle.clfs_txn.proofs.Words.{◌≡◌, ap, ◌∙◌, refl, sym, false, ℕ, LogEntry}
use Rattle.clfs_model.specs.declared.reply.Reply.TheVariants as replies
use Rattle.clfs_txn.proofs.Asked.{same_steps, read_is}
use Rattle.clfs_txn.proofs.Breaking.{Laws, kept_by, broken_then, whole_then}
use Rattle.clfs_txn.proofs.Cursors.{read_reply, at_reply, there_reply}
use Rattle.clfs_txn.proofs.Joined.{reads_only}
use Rattle.clfs_txn.proofs.Moments.{call_leaves}
use Rattle.clfs_txn.proofs.table.TableLog.read.Goals as goal

pub invariant_of-self : goal.invariant_of-self
invariant_of-self g c =
    let laws : Laws = record { fault = c.faults_break.ensures.fault; damage = c.faults_break.ensures.damage; unbroken = c.unbroken_stays.ensures.calls; adds = c.steps_only_add_records.ensures } in
    let whole : c.self.inside.manager.0.broken ≡ false = ap (λ v. v.0.log.broken) c.self.view_is ∙ c.requires in
    kept_by laws _ _ _ _ (λ (found : ℕ × LogEntry). replies.Found found.0 found.1) c.read-reply.result _ c.self.inside.memory c.self.inside.broken _
    c.stored.ensures.valid c.self.invariant (λ _. refl) whole c.read-reply.ensures.step c.breaks-self-inside.ensures

pub returns-clause-step : goal.returns-clause-step
returns-clause-step g c =
    rw (sym c.self.view_is) (same_steps _ _ _ _ _ _ _ (λ (found : ℕ × LogEntry). replies.Found found.0 found.1) c.read-reply.result _ refl c.client.ensures
    (read_is _ _ _ _ c.area.ensures) c.read-reply.ensures.step)

pub returns-clause-writes : goal.returns-clause-writes
returns-clause-writes g c =
    let read = c.read-reply.ensures in rw (sym c.self.view_is) (reads_only _ _ _ read.same read.time read.cause read.steady)

pub returns-clause-whole : goal.returns-clause-whole
returns-clause-whole g c =
    let laws : Laws = record { fault = c.faults_break.ensures.fault; damage = c.faults_break.ensures.damage; unbroken = c.unbroken_stays.ensures.calls; adds = c.steps_only_add_records.ensures } in
    let whole : c.self.inside.manager.0.broken ≡ false = ap (λ v. v.0.log.broken) c.self.view_is ∙ c.requires in
    whole_then c.read-reply.result _
    (broken_then laws _ _ _ _ (λ (found : ℕ × LogEntry). replies.Found found.0 found.1) c.read-reply.result _ (λ _. refl) whole c.read-reply.ensures.step)

pub returns-clause-at : goal.returns-clause-at
returns-clause-at g c =
    at_reply c.args.self.now.0.log _ _ _ _ _ c.read-reply.result
    (read_reply _ _ _ _ _ _ c.read-reply.result _ c.requires (c.steps_keep_a_state_valid.ensures.step _ _ _ _ _ _ _ c.stored.ensures.valid c.read-reply.ensures.step) (returns-clause-step g c))

pub returns-clause-there : goal.returns-clause-there
returns-clause-there g c =
    there_reply c.args.self.now.0.log _ _ _ _ _ c.read-reply.result
    (read_reply _ _ _ _ _ _ c.read-reply.result _ c.requires (c.steps_keep_a_state_valid.ensures.step _ _ _ _ _ _ _ c.stored.ensures.valid c.read-reply.ensures.step) (returns-clause-step g c))

pub returns-clause-moments : goal.returns-clause-moments
returns-clause-moments g c = λ under.
    call_leaves g.D.Disk.state under _ _ _ _ _ _ _ _ _ (c.client.ensures ∙ ap (λ v. v.0.memory.client) c.self.view_is)
    (read_is _ _ _ _ (c.area.ensures ∙ ap (λ v. v.0.memory.area) c.self.view_is))
    (ap (λ v. v.0.log) c.self.view_is) (ap (λ v. v.1) c.self.view_is) c.requires c.read-reply.ensures.moments

pub returns-clause-time : goal.returns-clause-time
returns-clause-time g c = rw (sym c.self.view_is) c.read-reply.ensures.time
