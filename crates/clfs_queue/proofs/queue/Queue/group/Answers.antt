use Rattle.clfs_queue.proofs.Words.{◌+◌, ◌-◌, ℕ, List, [], take, drop, sym, subst, arith, refl, IsClosed, Queued, IsGroupOf}
use Rattle.clfs_queue.proofs.Shown.{shown}
use Rattle.clfs_queue.proofs.Grouping.{no_group, closed_length, last_group, shut_group}
use Rattle.clfs_queue.proofs.queue.Queue.group.Goals as goal

pub returns-then-self-eq0 : goal.returns-then-self-eq0
returns-then-self-eq0 c =
    let i = c.self.inside in
    let q : Queued = shown i in
    let closed : IsClosed q.place = subst (λ (v : Queued). IsClosed v.place) (sym c.self.view_is) c.requires in
    subst (λ (v : Queued). IsGroupOf v (i.place.offset - i.sealed_len) []) c.self.view_is
    (no_group c.blocks_say_their_sectors.ensures.gate c.blocks_say_their_sectors.ensures.sectors q i.buffer.items i.sealed_len _ _ c.self.invariant closed c.if-self-eq0.true)

pub slice_bounds-result-end-then-self : goal.slice_bounds-result-end-then-self
slice_bounds-result-end-then-self c =
    let i = c.self.inside in
    let q : Queued = shown i in
    let closed : IsClosed q.place = subst (λ (v : Queued). IsClosed v.place) (sym c.self.view_is) c.requires in
    omega (arith, c.deref.ensures.len, closed_length c.blocks_say_their_sectors.ensures.gate c.blocks_say_their_sectors.ensures.sectors q i.buffer.items i.sealed_len _ _ c.self.invariant closed)

pub returns-then-self : goal.returns-then-self
returns-then-self c =
    let i = c.self.inside in
    let q : Queued = shown i in
    let closed : IsClosed q.place = subst (λ (v : Queued). IsClosed v.place) (sym c.self.view_is) c.requires in
    let body : List ℕ = take (i.sealed_len - 1) (drop 1 c.deref.result.now) in
    subst (λ (v : Queued). IsGroupOf v (i.place.offset - i.sealed_len) body) c.self.view_is
    (subst (λ (l : List ℕ). IsGroupOf q (i.place.offset - i.sealed_len) (take (i.sealed_len - 1) (drop 1 l))) (sym c.deref.ensures.value)
    (last_group c.blocks_say_their_sectors.ensures.gate c.blocks_say_their_sectors.ensures.sectors q i.buffer.items i.sealed_len _ _ c.self.invariant closed
    (omega (arith, c.if-self-eq0.false)) c.if-self.true _ refl))

pub slice_bounds-result-end-2 : goal.slice_bounds-result-end-2
slice_bounds-result-end-2 c =
    let i = c.self.inside in
    let q : Queued = shown i in
    let closed : IsClosed q.place = subst (λ (v : Queued). IsClosed v.place) (sym c.self.view_is) c.requires in
    omega (arith, c.deref-2.ensures.len, closed_length c.blocks_say_their_sectors.ensures.gate c.blocks_say_their_sectors.ensures.sectors q i.buffer.items i.sealed_len _ _ c.self.invariant closed)

pub returns : goal.returns
returns c =
    let i = c.self.inside in
    let q : Queued = shown i in
    let closed : IsClosed q.place = subst (λ (v : Queued). IsClosed v.place) (sym c.self.view_is) c.requires in
    subst (λ (v : Queued). IsGroupOf v (i.place.offset - i.sealed_len) (take (i.sealed_len + 1 - 1) (drop 1 c.deref-2.result.now))) c.self.view_is
    (subst (λ (l : List ℕ). IsGroupOf q (i.place.offset - i.sealed_len) (take (i.sealed_len + 1 - 1) (drop 1 l))) (sym c.deref-2.ensures.value)
    (shut_group c.blocks_say_their_sectors.ensures.gate c.blocks_say_their_sectors.ensures.sectors q i.buffer.items i.sealed_len _ _ c.self.invariant closed
    (omega (arith, c.if-self-eq0.false)) c.if-self.false _ (omega arith)))
