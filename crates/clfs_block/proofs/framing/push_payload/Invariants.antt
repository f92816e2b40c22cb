use Rattle.clfs_block.proofs.Words.{◌≡◌, ◌+◌, ◌≤◌, ◌++◌, length, take, drop, vec_capacity, place_of, payload_of}
use Rattle.clfs_block.proofs.framing.push_payload.Given as goal

-- what was pushed and what is left to push are all, and what stands before the block is as it was
abbrev pub invariant-loop-rest : goal.invariant-loop-rest
invariant-loop-rest l = record {
  count : l.at + length l.rest ≡ l.fn.used + length l.fn.more;
  place : length l.buffer.items ≡ l.fn.from + place_of l.at;
  before : take l.fn.from l.buffer.items ≡ take l.fn.from l.fn.buffer.items;
  all : payload_of l.at (drop l.fn.from l.buffer.items) ++ l.rest ≡ payload_of l.fn.used (drop l.fn.from l.fn.buffer.items) ++ l.fn.more;
  capacity : vec_capacity l.fn.buffer ≤ vec_capacity l.buffer;
}

abbrev pub decreases-loop-rest : goal.decreases-loop-rest
decreases-loop-rest l = length l.rest
