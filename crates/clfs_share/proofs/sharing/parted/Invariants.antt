use Rattle.std.proofs.Common.{◌≡◌, ◌+◌, ◌≤◌, ◌++◌, length, map, reverse}
use Rattle.std.specs.Prelude.{vec_capacity}
use Rattle.clfs_share.specs.Heard.{service_of}
use Rattle.clfs_share.proofs.sharing.parted.Given as goal

abbrev pub invariant-loop-client : goal.invariant-loop-client
invariant-loop-client g l = record {
  sessions_are : l.sessions.items ++ map (λ c. c.session) (reverse l.clients.items) ≡ map (λ c. c.session) (reverse l.fn.clients.items);
  ended_are : l.ended.items ++ map service_of (reverse l.clients.items) ≡ map service_of (reverse l.fn.clients.items);
  sessions_room : length l.sessions.items + length l.clients.items ≤ vec_capacity l.sessions;
  ended_room : length l.ended.items + length l.clients.items ≤ vec_capacity l.ended;
}

abbrev pub decreases-loop-client : goal.decreases-loop-client
decreases-loop-client g l = goal.left-loop-client g l
