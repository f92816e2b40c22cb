use Rattle.clfs_model.proofs.Heads.{
  live_as_heads,
  live_at_as_heads,
  entry_at_as_heads,
  last_live_as_heads,
  next_as_heads,
  restarts_as_heads,
  newest_as_heads,
  restart_below_as_heads,
  hold_as_heads,
  extents_as_heads,
}
use Rattle.clfs_model.proofs.laws.records_are_as_their_heads.Goals as goal

pub returns : goal.returns
returns c = record {
  live = live_as_heads;
  live_at = live_at_as_heads;
  entry_at = entry_at_as_heads;
  last = last_live_as_heads;
  next = next_as_heads;
  restarts = restarts_as_heads;
  newest = newest_as_heads;
  below = restart_below_as_heads;
  hold = hold_as_heads;
  extents = extents_as_heads;
}
