use Rattle.std.proofs.Common.{◌≡◌, length}
use Rattle.clfs_model.specs.Space.{own_sum}
use Rattle.clfs_engine.proofs.crewing.sizes_of.Given as goal

abbrev pub invariant-loop : goal.invariant-loop
invariant-loop l = record {
  many : length l.lengths.items ≡ l.counter;
  need : own_sum l.lengths.items ≡ l.counter;
}
