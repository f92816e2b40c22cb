use Rattle.clfs_group.proofs.Refused.{some_area}
use Rattle.clfs_group.proofs.group.Group.stable.Goals as goal

pub returns-clause-behind : goal.returns-clause-behind
returns-clause-behind g c = some_area c.args.session.now.seen c.stable.new.session.seen g.N.GroupName.session.client c.deref_mut.result.now.area c.args.lsn c.stable.result c.stable.ensures.behind
