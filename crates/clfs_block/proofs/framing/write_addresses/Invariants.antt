use Rattle.clfs_block.proofs.Words.{◌≡◌, ◌+◌, ◌*◌, ◌%◌, ◌<◌, ℕ, length, get_or, take, drop, vec_capacity, address, address_in}
use Rattle.clfs_block.proofs.framing.write_addresses.Given as goal

abbrev pub invariant-loop-sector : goal.invariant-loop-sector
invariant-loop-sector l = record {
  size : length l.buffer.items ≡ l.fn.from + 512 * l.count;
  before : take l.fn.from l.buffer.items ≡ take l.fn.from l.fn.buffer.items;
  payload : (k : ℕ) → k % 512 < 504 → get_or (drop l.fn.from l.buffer.items) k 0 ≡ get_or (drop l.fn.from l.fn.buffer.items) k 0;
  done : (i : ℕ) → i < l.sector → address_in (drop l.fn.from l.buffer.items) i ≡ address l.fn.start i;
  capacity : vec_capacity l.buffer ≡ vec_capacity l.fn.buffer;
}
