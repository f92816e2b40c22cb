use Rattle.clfs_recover.proofs.Words.{◌≡◌, ◌-◌, ◌≤◌, List, length, take, drop, sym, ◌∙◌, ap, arith, length-drop, length-take, found_count, Piece}
use Rattle.clfs_recover.proofs.Slides.{kept_front, slid_within}
use Rattle.clfs_recover.proofs.piece.Ahead.slide.Goals as goal

pub returns-clause-shows : goal.returns-clause-shows
returns-clause-shows g c tells shows =
    let file = (g.D.Disk.state c.args.disk.now).files c.args.file in
    let k = c.keep_from-kept.result in
    let all = c.deref_mut.result.now in
    let kept = c.keep_from-kept.new.self.bytes in
    let items = c.self.inside.buffer.items in
    let bytes_are : take c.self.inside.count items ≡ kept = ap (λ (p : Piece). p.bytes) c.self.view_is in
    let count : k ≡ length kept = c.keep_from-kept.ensures.count in
    let within = c.self.invariant.0 in
    let long : k ≡ c.self.inside.count = omega (arith, count, sym (ap length bytes_are), length-take c.self.inside.count items, within, c.deref_mut.ensures.len, ap length c.deref_mut.ensures.value) in
    let first : take k all ≡ kept = ap (take k) c.deref_mut.ensures.value ∙ (ap (λ n. take n items) long ∙ bytes_are) in
    let front : kept ≡ take (length kept) (drop c.args.at file) =
    c.keep_from-kept.ensures.bytes ∙ kept_front file c.args.self.now c.args.at shows
    ∙ ap (λ (l : List _). take (length l) (drop c.args.at file)) (sym c.keep_from-kept.ensures.bytes) in
    let found = c.in_ok-count.ensures.found tells in
    let size = length-take (length all - k) (drop k all) in
    let room = c.self.inside.buffer.len in
    let out = c.read_block.new.out in
    let few : c.in_ok-count.count ≤ room - k = omega (arith, found.0, size, length-drop k all, c.deref_mut.ensures.len) in
    let part : length out ≡ room - k = omega (arith, c.read_block.auto.out, size, length-drop k all, c.deref_mut.ensures.len) in
    let inside : k ≤ room = omega (arith, long, within) in
    slid_within file (take k all) out _ c.args.at c.in-Some.next k c.in_ok-count.count room c.self.inside.from _
    (ap (λ (p : Piece). p.from) c.self.view_is ∙ c.keep_from-kept.ensures.place)
    (omega (arith, ap length first, count)) inside part c.in-Some.ensures (first ∙ front ∙ ap (λ n. take n (drop c.args.at file)) (sym count))
    (found.0 ∙ ap (λ n. found_count file c.in-Some.next n) (omega (arith, size, length-drop k all, c.deref_mut.ensures.len))) found.1
