use Rattle.clfs_queue.proofs.Words.{◌≡◌, ◌+◌, ◌≤◌, ◌∙◌, [], ◌∷◌, ◌++◌, ℕ, List, length, take, ap, arith, length-append}
use Rattle.std.proofs.Common.{length-take-le}
use Rattle.clfs_queue.proofs.Sealing.{open_length, sealed_room, kept_sealed}
use Rattle.clfs_queue.proofs.queue.Queue.seal.Goals as goal

pub seal_block-requires-clause-place : goal.seal_block-requires-clause-place
seal_block-requires-clause-place c = open_length _ _ _ _ _ c.self.invariant (omega (arith, c.if-self-eq0.false))

pub seal_block-requires-clause-room : goal.seal_block-requires-clause-room
seal_block-requires-clause-room c = omega (arith, sealed_room _ _ _ _ _ c.self.invariant (omega (arith, c.if-self-eq0.false)))

pub push_zeros-requires : goal.push_zeros-requires
push_zeros-requires c =
    omega (arith, sealed_room _ _ _ _ _ c.self.invariant (omega (arith, c.if-self-eq0.false)), c.seal_block.ensures.length, c.seal_block.ensures.capacity)

pub invariant_of-self : goal.invariant_of-self
invariant_of-self c =
    let i = c.self.inside in
    let some : 1 ≤ i.place.records = omega (arith, c.if-self-eq0.false) in
    let s = c.seal_block.ensures.sealed in
    let front : length (take i.sealed_len i.buffer.items) ≡ i.sealed_len =
    length-take-le i.sealed_len i.buffer.items (omega (arith, open_length _ _ _ _ _ c.self.invariant some)) in
    let size : c.len-self-inside.result ≡ i.sealed_len + length s.0 =
    omega (arith, c.len-self-inside.ensures, front, length-append (take i.sealed_len i.buffer.items) s.0, ap (λ (l : List ℕ). length l) s.1) in
    rw (size, c.sealed-self-inside.ensures, c.push_reserved.ensures.items)
    (kept_sealed _ _ _ _ _ c.self.invariant some c.block_start-start.result s.0 c.push_zeros.new.out.items _ _ c.block_start-start.ensures s.2
    (c.push_zeros.ensures.items ∙ ap (λ (l : List ℕ). l ++ 0 ∷ []) s.1)
    (omega (arith, c.seal_block.ensures.capacity, c.push_zeros.ensures.capacity)) (omega (arith, c.push_reserved.ensures.capacity)))
