use Rattle.std.proofs.Common.{◌≡◌, [], map, take, drop, vec_len, vec_capacity, All}
use Rattle.clfs_turn.specs.Views.{at_rest, IsDealt}
use Rattle.clfs_turn.proofs.dealing.deal.Given as goal

abbrev pub invariant-loop-client : goal.invariant-loop-client
invariant-loop-client g l = record {
  table : l.dealer.table_id ≡ l.initial.dealer.table_id;
  dealer : l.dealer.me ≡ (at_rest l.initial.dealer.me.0.opening (drop l.client-index l.clients) [], []);
  room : vec_capacity l.seats ≡ vec_capacity l.initial.seats;
  count : vec_len l.seats ≡ l.client-index;
  clients : map (λ s. s.client) l.seats.items ≡ take l.client-index l.clients;
  dealt : All (λ s. IsDealt l.initial.dealer.table_id l.initial.dealer.me.0.opening s) l.seats.items;
}
