use Rattle.clfs_block.proofs.Words.{◌≡◌, ◌-◌, ◌≤◌, ◌++◌, drop, payload_from}
use Rattle.clfs_block.proofs.gathering.gather_payload.Given as goal

-- the payload so far stands over the first bytes
abbrev pub invariant-loop-at : goal.invariant-loop-at
invariant-loop-at l = record {
  high : l.at ≤ l.fn.count;
  so_far : l.out ≡ payload_from 0 l.at l.block ++ drop l.at l.fn.out;
}

abbrev pub decreases-loop-at : goal.decreases-loop-at
decreases-loop-at l = l.fn.count - l.at
