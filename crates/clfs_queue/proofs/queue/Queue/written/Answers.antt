use Rattle.clfs_queue.proofs.Words.{◌∙◌, [], ◌∷◌, ◌++◌, ℕ, List, ap, arith, sym, subst, IsClosed, Queued}
use Rattle.clfs_queue.proofs.Keeping.{kept_empty}
use Rattle.clfs_queue.proofs.queue.Queue.written.Goals as goal

pub invariant_of-self : goal.invariant_of-self
invariant_of-self c =
    let kept = c.self.invariant in
    kept_empty _ c.push_zeros.new.out.items _ _ kept.shape kept.some_buffers kept.few_buffers kept.place
    (subst (λ (q : Queued). IsClosed q.place) (sym c.self.view_is) c.requires)
    (omega (arith, kept.memory_is, c.clear.ensures.capacity, c.push_zeros.ensures.capacity)) (omega (arith, kept.starts_memory_is, c.clear-2.ensures.capacity))
    c.clear-2.ensures.items c.next-self-inside.ensures
    (c.push_zeros.ensures.items ∙ ap (λ (l : List ℕ). l ++ 0 ∷ []) c.clear.ensures.items)
