use Rattle.std.proofs.Common.{codes}
use Rattle.clfs_script.proofs.Appends.{skip_is, append_is, append_stops}
use Rattle.clfs_script.proofs.calls.append_line.Goals as goal

pub returns-in_err-sizes : goal.returns-in_err-sizes
returns-in_err-sizes c =
    let so_far = append_is c.in_ok-area.area c.in_ok-previous.previous c.in_ok-undo_next.undo_next c.in_ok-bytes.bytes
    c.skip-reserved.result c.skip-seal.result c.skip-flush.result
    c.args.words.now c.area.new.words c.data.new.words c.link.new.words c.link-2.new.words c.skip-reserved.new.self c.skip-seal.new.self
    c.skip-flush.new.self
    c.in_ok-area.ensures c.in_ok-bytes.ensures c.in_ok-previous.ensures c.in_ok-undo_next.ensures
    (skip_is (codes "reserved") c.link-2.new.words c.skip-reserved.new.self c.skip-reserved.result c.skip-reserved.ensures.found
    c.skip-reserved.ensures.left)
    (skip_is (codes "seal") c.skip-reserved.new.self c.skip-seal.new.self c.skip-seal.result c.skip-seal.ensures.found c.skip-seal.ensures.left)
    (skip_is (codes "flush") c.skip-seal.new.self c.skip-flush.new.self c.skip-flush.result c.skip-flush.ensures.found c.skip-flush.ensures.left) in
    append_stops c.args.client c.from_residual-in_err-sizes.result c.held_sizes.result c.in_err-sizes.field-0.0 _ _ _ c.from_residual-in_err-sizes.ensures.1
    c.in_err-sizes.was c.held_sizes.ensures so_far

pub returns : goal.returns
returns c =
    let so_far = append_is c.in_ok-area.area c.in_ok-previous.previous c.in_ok-undo_next.undo_next c.in_ok-bytes.bytes
    c.skip-reserved.result c.skip-seal.result c.skip-flush.result
    c.args.words.now c.area.new.words c.data.new.words c.link.new.words c.link-2.new.words c.skip-reserved.new.self c.skip-seal.new.self
    c.skip-flush.new.self
    c.in_ok-area.ensures c.in_ok-bytes.ensures c.in_ok-previous.ensures c.in_ok-undo_next.ensures
    (skip_is (codes "reserved") c.link-2.new.words c.skip-reserved.new.self c.skip-reserved.result c.skip-reserved.ensures.found
    c.skip-reserved.ensures.left)
    (skip_is (codes "seal") c.skip-reserved.new.self c.skip-seal.new.self c.skip-seal.result c.skip-seal.ensures.found c.skip-seal.ensures.left)
    (skip_is (codes "flush") c.skip-seal.new.self c.skip-flush.new.self c.skip-flush.result c.skip-flush.ensures.found c.skip-flush.ensures.left) in
    let read = rw c.in_ok-sizes.ensures at so_far in rw read c.asks.ensures
