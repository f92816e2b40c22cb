use Rattle.clfs_race.proofs.Words.{◌≡◌, ◌+◌, ◌<◌, List, ℕ, ◌∷◌, ◌++◌, length, drop, true, sym, ap, refl, ◌∙◌, arith, nat_le, le-leb}
use Rattle.std.proofs.Common.{length-append}
use Rattle.clfs_race.proofs.FirstLines.{long_is_past, counted_more, cut_within}
use Rattle.clfs_race.proofs.lines.is_within_limits.Goals as goal

pub returns-then-line-gt-LONGEST_LINE : goal.returns-then-line-gt-LONGEST_LINE
returns-then-line-gt-LONGEST_LINE c =
    sym (long_is_past c.args.bytes.now c.loop-line.rest.now c.in-Some.line.now _ c.loop-line.count c.loop-line.invariant c.in-Some.ensures c.if-line-gt-LONGEST_LINE.true)

pub loop-line-preserved : goal.loop-line-preserved
loop-line-preserved c =
    let line : List ℕ = c.in-Some.line.now in
    let rest : List ℕ = c.loop-line.rest.now in
    let after = drop (length line + 1) rest in
    let sum : length rest ≡ length (line ++ 10 ∷ after) = ap length c.in-Some.ensures.1 in
    let smaller : length after < length rest = omega (arith, sum, length-append line (10 ∷ after)) in
    rw c.split_at.ensures.back (counted_more c.args.bytes.now rest line after c.loop-line.count c.loop-line.invariant c.in-Some.ensures c.if-line-gt-LONGEST_LINE.false smaller)

pub returns-then-count-lt-MOST_LINES : goal.returns-then-count-lt-MOST_LINES
returns-then-count-lt-MOST_LINES c =
    let rest : List ℕ = c.loop-line.rest.now in
    let some : 0 < length rest = grind (arith, c.is_empty.ensures, c.if-is_empty.false) in
    let few : nat_le (c.loop-line.count + 1) 10000 ≡ true = le-leb (c.loop-line.count + 1) 10000 (omega (arith, c.if-count-lt-MOST_LINES.true)) in
    sym (cut_within c.args.bytes.now rest c.loop-line.count c.loop-line.invariant c.if-bytes-gt-MOST_BYTES.false c.in_default.ensures some ∙ rw few refl)
