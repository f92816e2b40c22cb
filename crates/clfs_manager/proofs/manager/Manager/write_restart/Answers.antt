use Rattle.clfs_model.specs.declared.call.Call.TheVariants as calls
use Rattle.clfs_model.specs.declared.reply.Reply.TheVariants as replies
use Rattle.clfs_manager.proofs.WritingCalls.{call_of_log, call_stopped, managed_by_log}
use Rattle.clfs_manager.proofs.manager.Manager.write_restart.Goals as goal

pub invariant_of-self : goal.invariant_of-self
invariant_of-self g c = managed_by_log g.D.Disk.state c.self.inside.log c.write_restart.new.self c.self.inside.disk c.write_restart.new.disk c.args.client
    (calls.WriteRestart c.args.area c.args.bytes.now c.args.base c.args.reserved) replies.Placed c.write_restart.result
    c.calls_follow_laws.ensures.valid c.calls_follow_laws.ensures.storable (record { is_client = c.requires.client; arguments = c.requires.len })
    c.self.invariant (record { step = c.write_restart.ensures.step; left = c.write_restart.ensures.left; writes = c.write_restart.ensures.writes; moments = c.write_restart.ensures.moments; no_memory = c.write_restart.ensures.no_memory; refused = c.write_restart.ensures.refused; files = c.write_restart.ensures.files })

pub returns-then-self : goal.returns-then-self
returns-then-self g c = record {
  call = call_stopped c.calls_follow_laws.ensures.ways g.D.Disk.state c.self.inside.log c.self.inside.disk c.args.self.now c.self.view_is c.self.invariant c.if-self.true c.args.client
      (calls.WriteRestart c.args.area c.args.bytes.now c.args.base c.args.reserved) replies.Placed;
}

pub returns : goal.returns
returns g c = record {
  call = call_of_log g.D.Disk.state c.self.inside.log c.write_restart.new.self c.self.inside.disk c.write_restart.new.disk c.args.self.now c.self.view_is c.self.invariant c.if-self.false c.args.client
      (calls.WriteRestart c.args.area c.args.bytes.now c.args.base c.args.reserved) replies.Placed c.write_restart.result (record { step = c.write_restart.ensures.step; left = c.write_restart.ensures.left; writes = c.write_restart.ensures.writes; moments = c.write_restart.ensures.moments; no_memory = c.write_restart.ensures.no_memory; refused = c.write_restart.ensures.refused; files = c.write_restart.ensures.files });
}
