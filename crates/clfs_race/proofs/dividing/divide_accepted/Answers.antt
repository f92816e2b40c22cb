use Rattle.clfs_race.proofs.Words.{◌≡◌, ◌∙◌, ◌+◌, ◌-◌, ap, List, ℕ, length, take, drop, arith, race_limits, accepted, ended_lines}
use Rattle.clfs_race.proofs.FirstLines.{first_short}
use Rattle.clfs_race.proofs.SoFar.{none_yet, one_more, all_done, front_is, short_left, none_after_long, none_unended}
use Rattle.clfs_race.proofs.dividing.divide_accepted.Goals as goal

pub loop-left-init : goal.loop-left-init
loop-left-init c =
    let bytes : List ℕ = c.args.bytes.now in
    let front : c.split_at.result.0.now ≡ take race_limits.bytes bytes =
    c.split_at.ensures.front ∙ ap (λ (n : ℕ). take n bytes) c.min.ensures ∙ front_is bytes in
    rw front (none_yet (accepted race_limits bytes) c.new-division.result c.new-division.ensures)

pub returns-in_default : goal.returns-in_default
returns-in_default c =
    all_done (accepted race_limits c.args.bytes.now) (first_short c.loop-left.left (ended_lines c.loop-left.rest.now)) c.loop-left.division c.loop-left.invariant
    (none_unended c.loop-left.left c.loop-left.rest.now c.in_default.ensures)

pub returns-then-line-gt-LONGEST_LINE : goal.returns-then-line-gt-LONGEST_LINE
returns-then-line-gt-LONGEST_LINE c =
    all_done (accepted race_limits c.args.bytes.now) (first_short c.loop-left.left (ended_lines c.loop-left.rest.now)) c.loop-left.division c.loop-left.invariant
    (none_after_long c.loop-left.left c.loop-left.rest.now c.in-Some.line.now _ c.in-Some.ensures c.if-line-gt-LONGEST_LINE.true)

pub loop-left-preserved : goal.loop-left-preserved
loop-left-preserved c =
    let line : List ℕ = c.in-Some.line.now in
    let rest : List ℕ = c.loop-left.rest.now in
    let after = drop (length line + 1) rest in
    rw c.split_at-in-loop-left.ensures.back
    (one_more (accepted race_limits c.args.bytes.now) (first_short c.loop-left.left (ended_lines rest)) (first_short (c.loop-left.left - 1) (ended_lines after)) line
    c.loop-left.division c.add_line.new.self c.loop-left.invariant
    (short_left c.loop-left.left rest line after c.loop-left-test.true c.in-Some.ensures c.if-line-gt-LONGEST_LINE.false) c.in_ok-add_line.ensures)

pub returns : goal.returns
returns c =
    let lines = ended_lines c.loop-left.rest.now in
    let none : c.loop-left.left ≡ 0 = omega (arith, c.loop-left-test.false) in
    all_done (accepted race_limits c.args.bytes.now) (first_short c.loop-left.left lines) c.loop-left.division c.loop-left.invariant
    (ap (λ (n : ℕ). first_short n lines) {x = c.loop-left.left} {y = 0} none)
