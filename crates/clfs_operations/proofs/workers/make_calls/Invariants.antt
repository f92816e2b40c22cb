use Rattle.std.proofs.Common.{◌≡◌, ◌++◌, take}
use Rattle.clfs_shared.specs.Sessions.{own_entries}
use Rattle.clfs_turn.specs.Seats.{IsSameSeat}
use Rattle.clfs_operations.specs.Made.{calls_of}
use Rattle.clfs_operations.proofs.workers.make_calls.Given as goal

abbrev pub invariant-loop-i : goal.invariant-loop-i
invariant-loop-i g l = record {
  same : IsSameSeat l.fn.session l.session;
  calls_are : calls_of (own_entries l.session) ≡ calls_of (own_entries l.fn.session) ++ take l.i l.calls;
}
