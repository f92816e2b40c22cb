use Rattle.clfs_model.specs.declared.call.Call.TheVariants as calls
use Rattle.clfs_model.specs.declared.reply.Reply.TheVariants as replies
use Rattle.clfs_manager.proofs.WritingCalls.{call_of_log, call_stopped, managed_by_log}
use Rattle.clfs_manager.proofs.manager.Manager.append.Goals as goal

pub invariant_of-self : goal.invariant_of-self
invariant_of-self g c = managed_by_log g.D.Disk.state c.self.inside.log c.append.new.self c.self.inside.disk c.append.new.disk c.args.client
    (calls.Append c.args.area c.args.draft.now c.args.reserved c.args.sizes.now) replies.Placed c.append.result
    c.calls_follow_laws.ensures.valid c.calls_follow_laws.ensures.storable (record { is_client = c.requires.client; arguments = c.requires.len })
    c.self.invariant (record { step = c.append.ensures.step; left = c.append.ensures.left; writes = c.append.ensures.writes; moments = c.append.ensures.moments; no_memory = c.append.ensures.no_memory; refused = c.append.ensures.refused; files = c.append.ensures.files })

pub returns-then-self-clause-call : goal.returns-then-self-clause-call
returns-then-self-clause-call g c = call_stopped c.calls_follow_laws.ensures.ways g.D.Disk.state c.self.inside.log c.self.inside.disk c.args.self.now c.self.view_is c.self.invariant c.if-self.true c.args.client
    (calls.Append c.args.area c.args.draft.now c.args.reserved c.args.sizes.now) replies.Placed

pub returns-clause-call : goal.returns-clause-call
returns-clause-call g c = call_of_log g.D.Disk.state c.self.inside.log c.append.new.self c.self.inside.disk c.append.new.disk c.args.self.now c.self.view_is c.self.invariant c.if-self.false c.args.client
    (calls.Append c.args.area c.args.draft.now c.args.reserved c.args.sizes.now) replies.Placed c.append.result (record { step = c.append.ensures.step; left = c.append.ensures.left; writes = c.append.ensures.writes; moments = c.append.ensures.moments; no_memory = c.append.ensures.no_memory; refused = c.append.ensures.refused; files = c.append.ensures.files })
