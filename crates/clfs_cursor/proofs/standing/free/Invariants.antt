use Rattle.clfs_cursor.proofs.Words.{◌≡◌, ℕ, ◌+◌, ◌≤◌, take, None, count_by, get, slab_len, has_key}
use Rattle.clfs_cursor.proofs.standing.free.Given as goal

-- the keys so far are gone, and no other has changed
abbrev pub invariant-loop-numbered : goal.invariant-loop-numbered
invariant-loop-numbered l = record {
  others : (key : ℕ) → count_by (has_key key) (take l.numbered-index l.keys) ≡ 0 → get l.slots key ≡ get l.initial.slots key;
  gone : (key : ℕ) → 1 ≤ count_by (has_key key) (take l.numbered-index l.keys) → get l.slots key ≡ None;
  len : slab_len l.slots + l.numbered-index ≡ slab_len l.initial.slots;
  capacity : l.slots.capacity ≡ l.initial.slots.capacity;
}
