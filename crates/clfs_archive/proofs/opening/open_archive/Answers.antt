use Rattle.std.proofs.Common.{◌+◌, sym, ap, ◌∙◌, arith, length}
use Rattle.clfs_archive.proofs.Found.{found_joined, found_behind, found_ended, end_fits, found_all, payload_fits, before_next, last_below}
use Rattle.clfs_archive.proofs.opening.open_archive.Goals.{then-has, else-has+in_ok-reserve}
use Rattle.clfs_archive.proofs.opening.open_archive.Goals as goal

pub add-requires : goal.add-requires
add-requires c =
    payload_fits c.loop-head.found.last c.loop-head.found.payload
    (end_fits c.args.heads.now (c.loop-head.head-index + 1) _ _ _ c.loop-head.invariant.0 c.requires.fit)

pub end-requires : goal.end-requires
end-requires c = end_fits c.args.heads.now (c.loop-head.head-index + 1) _ _ _ c.loop-head.invariant.0 c.requires.fit

pub loop-head-preserved : goal.loop-head-preserved
loop-head-preserved c =
    let next = before_next c.args.heads.now c.in-Some.others.now c.in-Some.first.now c.head-item.result c.loop-head.head-index c.in-Some.ensures.cases.0 c.requires.rising
    c.loop-head-test.true c.head-item.is in
    elim c.if-has.branch [
      | then-has w ↦
          rw (w.archive-is, w.found-is, next.1, w.add.ensures.last, w.add.ensures.payload)
          (found_joined _ _ _ _ c.head-item.result c.loop-head.invariant.0 (sym c.has.ensures ∙ w.if-has.true) next.0, c.loop-head.invariant.1)
      | else-has+in_ok-reserve w ↦
          rw (w.archive-is, w.found-is, next.1, w.of-found-else-has.ensures.last, w.of-found-else-has.ensures.payload, w.push.ensures.blocks, w.push.ensures.tail, w.reserve.ensures.blocks, w.reserve.ensures.tail) (
            found_behind _ _ _ _ w.end.result c.head-item.result c.loop-head.invariant.0 w.end.ensures.last w.end.ensures.end (sym c.has.ensures ∙ w.if-has.false) next.0,
            c.loop-head.invariant.1,
          )
    ]

pub returns-clause-blocks : goal.returns-clause-blocks
returns-clause-blocks c =
    let long = ap length c.in-Some.ensures.cases.0 in
    let found = found_all c.args.heads.now (c.loop-head.head-index + 1) _ _ _ c.loop-head.invariant.0 (omega (arith, long, c.loop-head-test.false)) in
    rw (c.push-2.ensures.blocks, c.reserve-2.ensures.blocks)
    (found_ended c.args.heads.now _ _ _ c.args.next c.end-2.result found c.end-2.ensures.last c.end-2.ensures.end (last_below c.args.heads.now _ _ _ c.args.next found c.requires.below) c.requires.start)
