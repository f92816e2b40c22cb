use Rattle.clfs_engine.proofs.Commits.{one_more}
use Rattle.clfs_engine.proofs.members.members_of.Goals as goal

pub loop-session-preserved : goal.loop-session-preserved
loop-session-preserved g c =
    let all = one_more c.args.log.now c.loop-session.members.items c.push.new.self.items c.in_ok-new.field-0 c.loop-session.yielded c.in-Some.session c.in_ok-push.ensures.items
    c.loop-session.invariant.members c.in_ok-new.ensures.member c.in_ok-new.ensures.made c.loop-session.invariant.clients c.in_ok-new.ensures.client in
    record { members = all.0; clients = all.1 }
