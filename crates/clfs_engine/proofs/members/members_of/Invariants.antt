use Rattle.std.proofs.Common.{◌≡◌, map}
use Rattle.std.specs.Prelude.{All}
use Rattle.clfs_shared.specs.Sessions.{SessionState}
use Rattle.clfs_engine.specs.Commits.{IsMember, MemberState, client_of_member, has_made}
use Rattle.clfs_engine.proofs.members.members_of.Given as goal

abbrev pub invariant-loop-session : goal.invariant-loop-session
invariant-loop-session g l = record {
  members : All (λ (m : MemberState). IsMember l.log m × (has_made m ≡ 0)) l.members.items;
  clients : map client_of_member l.members.items ≡ map (λ (s : SessionState). s.client) l.yielded;
}
