use Rattle.clfs_block.proofs.Words.{◌≡◌, ◌+◌, ◌-◌, ◌%◌, ◌≤◌, ◌++◌, ℕ, List, length, take, drop, ◌∙◌, ap, arith, append_assoc, length-append, length-take}
use Rattle.clfs_block.proofs.Words.{place_of, payload_from}
use Rattle.clfs_block.proofs.Frames.{length-payload_from, payload_more}
use Rattle.clfs_block.proofs.framing.copy_payload.Goals as goal

-- bytes of one sector, taken at their place, are the next bytes of the payload
more_at : (first count part place : ℕ) (block : List ℕ) → place ≡ place_of (first + count) → (first + count) % 504 + part ≤ 504
    → place + part ≤ length block
    → payload_from first count block ++ take (place + part - place) (drop place block) ≡ payload_from first (count + part) block
more_at first count part place block at few room =
    let front = payload_from first count block in
    let part_is : place + part - place ≡ part = omega arith in
    ap (λ (k : ℕ). front ++ take k (drop place block)) part_is
    ∙ ap (λ (k : ℕ). front ++ take part (drop k block)) at
    ∙ payload_more first count part block few (omega (arith, at, room))

pub push_reserved-requires : goal.push_reserved-requires
push_reserved-requires c =
    let first = c.args.from in
    let done = c.args.count - c.loop-part.rest in
    let kept = c.loop-part.invariant in
    let place = c.loop-part.place in
    omega (
      arith,
      kept.some,
      kept.room,
      c.loop-part-test.true,
      ap (λ (l : List ℕ). length l) kept.so_far,
      length-append c.args.out.now.items (payload_from first done c.args.block.now),
      length-payload_from first done c.args.block.now,
      length-take (place + c.loop-part.part - place) (drop place c.args.block.now),
    )

pub loop-part-preserved : goal.loop-part-preserved
loop-part-preserved c =
    let first = c.args.from in
    let rest = c.loop-part.rest in
    let part = c.loop-part.part in
    let place = c.loop-part.place in
    let done = c.args.count - rest in
    let block = c.args.block.now in
    let kept = c.loop-part.invariant in
    let until = c.loop-part-test.true in
    let next : done + part ≡ c.args.count - (rest - part) = omega (arith, kept.some, until) in
    record {
      some = omega (arith, kept.some);
      place = omega (arith, kept.place, kept.sector, kept.some, until);
      sector = omega (arith, kept.sector, kept.some, until);
      so_far = c.push_reserved.ensures.items
          ∙ ap (λ (l : List ℕ). l ++ take (place + part - place) (drop place block)) kept.so_far
          ∙ append_assoc c.args.out.now.items (payload_from first done block) (take (place + part - place) (drop place block))
          ∙ ap (λ (l : List ℕ). c.args.out.now.items ++ l)
          (more_at first done part place block kept.place (omega (arith, kept.sector)) (omega (arith, kept.place, kept.sector, kept.some, until, c.requires.place)))
          ∙ ap (λ (k : ℕ). c.args.out.now.items ++ payload_from first k block) next;
      room = omega (arith, kept.room, c.push_reserved.ensures.capacity);
    }

pub push_reserved-requires-2 : goal.push_reserved-requires-2
push_reserved-requires-2 c =
    let first = c.args.from in
    let done = c.args.count - c.loop-part.rest in
    let kept = c.loop-part.invariant in
    let place = c.loop-part.place in
    omega (
      arith,
      kept.some,
      kept.room,
      ap (λ (l : List ℕ). length l) kept.so_far,
      length-append c.args.out.now.items (payload_from first done c.args.block.now),
      length-payload_from first done c.args.block.now,
      length-take (place + c.loop-part.rest - place) (drop place c.args.block.now),
    )

pub returns : goal.returns
returns c =
    let first = c.args.from in
    let rest = c.loop-part.rest in
    let place = c.loop-part.place in
    let done = c.args.count - rest in
    let block = c.args.block.now in
    let kept = c.loop-part.invariant in
    let last = c.loop-part-test.false in
    let all : done + rest ≡ c.args.count = omega (arith, kept.some) in
    c.push_reserved-2.ensures.items
    ∙ ap (λ (l : List ℕ). l ++ take (place + rest - place) (drop place block)) kept.so_far
    ∙ append_assoc c.args.out.now.items (payload_from first done block) (take (place + rest - place) (drop place block))
    ∙ ap (λ (l : List ℕ). c.args.out.now.items ++ l)
    (more_at first done rest place block kept.place (omega (arith, kept.sector, last)) (omega (arith, kept.place, all, c.requires.place)))
    ∙ ap (λ (k : ℕ). c.args.out.now.items ++ payload_from first k block) all
