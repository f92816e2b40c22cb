use Rattle.std.proofs.Common.{◌≡◌, [], List, ◌++◌, All, None}
use Rattle.clfs_turn.specs.Seats.{SeatState}
use Rattle.clfs_turn.specs.Steps.{AllGathered}
use Rattle.clfs_turn.proofs.closing.gather.Given as goal

abbrev pub invariant-loop-seat : goal.invariant-loop-seat
invariant-loop-seat g l = record {
  table : l.place.table_id ≡ l.table.table_id;
  empty : l.place.me.1 ≡ [];
  idle : l.place.me.0.turn ≡ None;
  locks : All (λ s. s.lock ≡ l.table.table_id) l.seats.items;
  done : (joined : List (SeatState g.row.E.Denot g.row.O.Denot)) × (l.initial.seats.items ≡ l.seats.items ++ joined) × AllGathered l.place.me.0 joined;
}

abbrev pub decreases-loop-seat : goal.decreases-loop-seat
decreases-loop-seat g l = goal.left-loop-seat g l
