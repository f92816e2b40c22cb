use Rattle.clfs_planned.specs.Calls.{call_of}
use Rattle.clfs_planned.specs.Moments.{noted}
use Rattle.clfs_planned.proofs.plan.with_call.Given as goal

abbrev pub ghost-next : goal.ghost-next
ghost-next a = noted (call_of a.with.now) a.self.now.value
