use Rattle.std.proofs.Common.{◌≡◌, ◌*◌, ◌+◌, arith, length, get_or, subst}
use Rattle.clfs_text.proofs.Pairs.{IsRead, first_two, two_behind, good_pair, bad_pair, all_read}
use Rattle.clfs_text.proofs.bytes.decode_into.Goals as goal

pub loop-i-preserved : goal.loop-i-preserved
loop-i-preserved c =
    let text = c.args.text.now in
    let i = c.loop-i.i in
    let even : length text ≡ 2 * length c.loop-i.out = omega (arith, c.requires) in
    let two = first_two text c.loop-i.rest.now c.split_at.result.0.now i c.loop-i.invariant.rest c.split_at.ensures.front (omega arith) in
    let first : IsRead (get_or c.split_at.result.0.now 0 0) c.nibble-high.result = (c.nibble-high.ensures.digit, c.nibble-high.ensures.other) in
    let second : IsRead (get_or c.split_at.result.0.now 1 0) c.nibble-low.result = (c.nibble-low.ensures.digit, c.nibble-low.ensures.other) in
    let high : IsRead (get_or text (2 * i) 0) c.nibble-high.result = subst (λ b. IsRead b c.nibble-high.result) two.0 first in
    let low : IsRead (get_or text (2 * i + 1) 0) c.nibble-low.result = subst (λ b. IsRead b c.nibble-low.result) two.1 second in
    record {
      rest = two_behind text c.loop-i.rest.now c.split_at.result.1.now i c.loop-i.invariant.rest c.split_at.ensures.back;
      good = λ small. good_pair text c.loop-i.out i c.nibble-high.result c.nibble-low.result c.loop-i.greatest even (omega arith) high low
          c.loop-i.invariant.good (omega (arith, small));
      bad = λ large. bad_pair text c.loop-i.out i c.nibble-high.result c.nibble-low.result c.loop-i.greatest even (omega arith) high low
          c.loop-i.invariant.good c.loop-i.invariant.bad (omega (arith, large));
    }

pub returns : goal.returns
returns c =
    all_read c.args.text.now c.loop-i.out c.loop-i.i c.loop-i.greatest (omega (arith, c.requires)) (omega arith) c.loop-i.invariant.good
    c.loop-i.invariant.bad
