use Rattle.clfs_race.proofs.Words.{◌≡◌, ◌+◌, ◌<◌, List, ℕ, [], length, drop, refl, arith, lines_of}
use Rattle.clfs_race.proofs.FirstLines.{first_line, last_line, no_line}
use Rattle.clfs_race.proofs.SoFar.{one_more, all_done, first_is_short}
use Rattle.clfs_race.proofs.dividing.divide_whole.Goals as goal
use Rattle.clfs_race.proofs.dividing.divide_whole.Goals.{then-not-is_empty+in_ok-add_line-2, else-not-is_empty}

pub add_line-requires : goal.add_line-requires
add_line-requires c =
    let line : List ℕ = c.in-Some.line.now in
    let rest : List ℕ = c.loop-line.rest.now in
    (first_is_short (lines_of rest) _ line c.loop-line.invariant.short (first_line rest line _ c.in-Some.ensures)).0

pub loop-line-preserved : goal.loop-line-preserved
loop-line-preserved c =
    let line : List ℕ = c.in-Some.line.now in
    let rest : List ℕ = c.loop-line.rest.now in
    let after = drop (length line + 1) rest in
    let first = first_line rest line after c.in-Some.ensures in
    rw c.split_at.ensures.back (record {
      so_far = one_more (lines_of c.args.bytes.now) (lines_of rest) (lines_of after) line c.loop-line.division c.add_line.new.self c.loop-line.invariant.so_far first
          c.in_ok-add_line.ensures;
      short = (first_is_short (lines_of rest) (lines_of after) line c.loop-line.invariant.short first).1;
    })

pub add_line-requires-then-not-is_empty : goal.add_line-requires-then-not-is_empty
add_line-requires-then-not-is_empty c =
    let rest : List ℕ = c.loop-line.rest.now in
    let some : 0 < length rest = grind (arith, c.is_empty.ensures, c.if-not-is_empty.true) in
    (first_is_short (lines_of rest) [] rest c.loop-line.invariant.short (last_line rest c.in_default.ensures some)).0

pub returns : goal.returns
returns c =
    let all = lines_of c.args.bytes.now in
    let rest : List ℕ = c.loop-line.rest.now in
    elim c.if-not-is_empty.branch [
      | then-not-is_empty+in_ok-add_line-2 w ↦
          let some : 0 < length rest = grind (arith, c.is_empty.ensures, w.if-not-is_empty.true) in
          let new = w.add_line-then-not-is_empty.new.self in
          rw w.division-is (all_done all [] new
          (one_more all (lines_of rest) [] rest c.loop-line.division new c.loop-line.invariant.so_far (last_line rest c.in_default.ensures some) w.in_ok-add_line-2.ensures) refl)
      | else-not-is_empty w ↦
          let none : length rest ≡ 0 = grind (arith, c.is_empty.ensures, w.if-not-is_empty.false) in
          rw w.division-is (all_done all (lines_of rest) c.loop-line.division c.loop-line.invariant.so_far (no_line rest none))
    ]
