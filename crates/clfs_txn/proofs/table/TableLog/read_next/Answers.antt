use Rattle.clfs_txn.proofs.Words.{◌≡◌, ap, ◌∙◌, refl, sym, false}
use Rattle.clfs_model.specs.declared.reply.Reply.TheVariants as replies
use Rattle.clfs_txn.proofs.Asked.{same_steps, read_next_is}
use Rattle.clfs_txn.proofs.Breaking.{Laws, kept_by, broken_then, whole_then}
use Rattle.clfs_txn.proofs.Cursors.{next_at_reply}
use Rattle.clfs_txn.proofs.Joined.{reads_only}
use Rattle.clfs_txn.proofs.Logged.{next_set_reply}
use Rattle.clfs_txn.proofs.Moments.{call_leaves}
use Rattle.clfs_txn.proofs.table.TableLog.read_next.Goals as goal

pub invariant_of-self : goal.invariant_of-self
invariant_of-self g c =
    let laws : Laws = record { fault = c.faults_break.ensures.fault; damage = c.faults_break.ensures.damage; unbroken = c.unbroken_stays.ensures.calls; adds = c.steps_only_add_records.ensures } in
    let whole : c.self.inside.manager.0.broken ≡ false = ap (λ v. v.0.log.broken) c.self.view_is ∙ c.requires in
    kept_by laws _ _ _ _ replies.Next c.read_next-reply.result _ c.self.inside.memory c.self.inside.broken _
    c.stored.ensures.valid c.self.invariant (λ _. refl) whole c.read_next-reply.ensures.step c.breaks-self-inside.ensures

pub returns-clause-step : goal.returns-clause-step
returns-clause-step g c =
    rw (sym c.self.view_is) (same_steps _ _ _ _ _ _ _ replies.Next c.read_next-reply.result _ refl c.client.ensures
    (read_next_is _ _ _ c.area.ensures) c.read_next-reply.ensures.step)

pub returns-clause-writes : goal.returns-clause-writes
returns-clause-writes g c =
    let read = c.read_next-reply.ensures in rw (sym c.self.view_is) (reads_only _ _ _ read.same read.time read.cause read.steady)

pub returns-clause-whole : goal.returns-clause-whole
returns-clause-whole g c =
    let laws : Laws = record { fault = c.faults_break.ensures.fault; damage = c.faults_break.ensures.damage; unbroken = c.unbroken_stays.ensures.calls; adds = c.steps_only_add_records.ensures } in
    let whole : c.self.inside.manager.0.broken ≡ false = ap (λ v. v.0.log.broken) c.self.view_is ∙ c.requires in
    whole_then c.read_next-reply.result _ (broken_then laws _ _ _ _ replies.Next c.read_next-reply.result _ (λ _. refl) whole c.read_next-reply.ensures.step)

pub returns-clause-at : goal.returns-clause-at
returns-clause-at g c = next_at_reply _ _ _ _ _ c.read_next-reply.result _ c.requires (returns-clause-step g c)

pub returns-clause-set : goal.returns-clause-set
returns-clause-set g c =
    let whole : c.self.inside.manager.0.broken ≡ false = ap (λ v. v.0.log.broken) c.self.view_is ∙ c.requires in
    rw (sym c.self.view_is) (next_set_reply _ _ _ _ _ _ c.read_next-reply.result _ whole c.stored.ensures.valid c.self.invariant.logged
    (same_steps _ _ _ _ _ _ _ replies.Next c.read_next-reply.result _ refl c.client.ensures (read_next_is _ _ _ c.area.ensures) c.read_next-reply.ensures.step))

pub returns-clause-moments : goal.returns-clause-moments
returns-clause-moments g c = λ under.
    call_leaves g.D.Disk.state under _ _ _ _ _ _ _ _ _ (c.client.ensures ∙ ap (λ v. v.0.memory.client) c.self.view_is)
    (read_next_is _ _ _ (c.area.ensures ∙ ap (λ v. v.0.memory.area) c.self.view_is))
    (ap (λ v. v.0.log) c.self.view_is) (ap (λ v. v.1) c.self.view_is) c.requires c.read_next-reply.ensures.moments

pub returns-clause-time : goal.returns-clause-time
returns-clause-time g c = rw (sym c.self.view_is) c.read_next-reply.ensures.time
