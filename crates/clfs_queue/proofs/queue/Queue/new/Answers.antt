use Rattle.clfs_queue.proofs.Words.{◌∙◌, [], ◌∷◌, ◌++◌, ℕ, List, ap, arith}
use Rattle.clfs_queue.proofs.Keeping.{kept_empty}
use Rattle.clfs_queue.proofs.queue.Queue.new.Goals as goal

pub invariant_of-result : goal.invariant_of-result
invariant_of-result c =
    kept_empty _ c.push_zeros.new.out.items _ _ c.requires.shape c.requires.buffers.0 c.requires.buffers.1 c.requires.place c.requires.closed
    (omega (arith, c.room_of.ensures, c.in_ok-buffer.ensures.capacity, c.push_zeros.ensures.capacity)) (omega (arith, c.in_ok-waiting.ensures.capacity))
    c.in_ok-waiting.ensures.items c.pick.ensures
    (c.push_zeros.ensures.items ∙ ap (λ (l : List ℕ). l ++ 0 ∷ []) c.in_ok-buffer.ensures.items)
