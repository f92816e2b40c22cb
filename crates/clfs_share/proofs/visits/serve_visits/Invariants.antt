use Rattle.std.specs.Prelude.{◌≡◌}
use Rattle.clfs_turn.specs.Seats.{IsSameSeat}
use Rattle.clfs_share.specs.Visits.{HaveCome}
use Rattle.clfs_share.proofs.visits.serve_visits.Given as goal

abbrev pub invariant-loop : goal.invariant-loop
invariant-loop g l = record {
  count : l.visits ≡ l.counter;
  same : IsSameSeat l.fn.session l.session;
  come : HaveCome g.P.Visitors g.S.Source.left g.S.Source.faults g.K.Sink.written g.K.Sink.faults l.visits l.fn.visitors l.visitors l.fn.session l.session;
}
