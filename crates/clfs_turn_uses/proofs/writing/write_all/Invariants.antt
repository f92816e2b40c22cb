use Rattle.std.proofs.Common.{◌≡◌}
use Rattle.clfs_turn.specs.Seats.{IsSameSeat}
use Rattle.clfs_turn_uses.specs.Notes.{HasWritten}
use Rattle.clfs_turn_uses.proofs.writing.write_all.Given as goal

abbrev pub invariant-loop-number : goal.invariant-loop-number
invariant-loop-number g l = record {
  same : IsSameSeat l.fn.seat l.seat;
  client : l.client ≡ l.fn.seat.client;
  written : HasWritten l.number l.fn.seat l.seat;
}
