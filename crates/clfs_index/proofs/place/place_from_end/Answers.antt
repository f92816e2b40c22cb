use Rattle.std.proofs.Common.{◌≡◌, ◌+◌, ◌-◌, ap, arith, get_or}
use Rattle.std.proofs.lemmas.List.{get_or_default}
use Rattle.clfs_lsn.specs.declared.entry.Head.{Head}
use Rattle.clfs_index.proofs.Places.{between_neighbours}
use Rattle.clfs_index.proofs.Rows.{is_less, is_not_less}
use Rattle.clfs_index.proofs.place.place_from_end.Goals as goal

pub loop-place-init : goal.loop-place-init
loop-place-init c = λ d inside. absurd (omega (arith, inside))

pub returns-then-lt : goal.returns-then-lt
returns-then-lt c =
    let heads = c.args.heads.now in
    let place = c.loop-place.place - 1 in
    let found = c.index-heads-place.result in
    let less = is_less (get_or heads place found).lsn c.args.lsn c.lt.result c.lt.ensures c.if-lt.true in
    let next : place + 1 ≡ c.loop-place.place = omega (arith, c.loop-place-test.true) in
    rw next (between_neighbours heads c.args.lsn c.loop-place.place c.requires c.loop-place.auto.place c.loop-place.invariant
    (λ d some.
    let same = ap (λ (head : Head). head.lsn) (get_or_default heads place d found (omega (arith, some, c.loop-place.auto.place))) in
    omega (arith, same, less)))

pub loop-place-preserved : goal.loop-place-preserved
loop-place-preserved c = λ d inside.
    let heads = c.args.heads.now in
    let place = c.loop-place.place - 1 in
    let found = c.index-heads-place.result in
    let up = is_not_less (get_or heads place found).lsn c.args.lsn c.lt.result c.lt.ensures c.if-lt.false in
    let same = ap (λ (head : Head). head.lsn) (get_or_default heads place d found inside) in
    omega (arith, same, up)

pub returns : goal.returns
returns c =
    let place : c.loop-place.place ≡ 0 = omega (arith, c.loop-place-test.false) in
    between_neighbours c.args.heads.now c.args.lsn 0 c.requires (omega arith) (rw place at c.loop-place.invariant) (λ d some. absurd (omega (arith, some)))
