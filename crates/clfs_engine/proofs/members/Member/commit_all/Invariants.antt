use Rattle.std.proofs.Common.{◌≡◌, ◌≤◌}
use Rattle.clfs_engine.specs.Commits.{IsMember, client_of_member, has_made}
use Rattle.clfs_engine.proofs.members.Member.commit_all.Given as goal

abbrev pub invariant-loop : goal.invariant-loop
invariant-loop g l = record {
  member : IsMember l.log l.self;
  made : has_made l.self ≤ l.counter;
  client : client_of_member l.self ≡ client_of_member l.fn.self;
}
