use Rattle.std.proofs.Common.{◌≡◌, ◌+◌, ◌≤◌, ◌++◌, length, map, reverse}
use Rattle.std.specs.Prelude.{vec_capacity}
use Rattle.clfs_share.proofs.sharing.joined.Given as goal

abbrev pub invariant-loop-session : goal.invariant-loop-session
invariant-loop-session g l = record {
  sessions_are : l.sessions.items ++ map (λ c. c.session) (reverse l.clients.items) ≡ l.fn.sessions.items;
  openers_are : l.all_openers.items ++ map (λ c. g.C.Begins.begun_by c.service) (reverse l.clients.items) ≡ l.fn.openers.items;
  many : length l.sessions.items ≡ length l.all_openers.items;
  room : length l.clients.items + length l.all_openers.items ≤ vec_capacity l.clients;
}

abbrev pub decreases-loop-session : goal.decreases-loop-session
decreases-loop-session g l = length l.sessions.items
