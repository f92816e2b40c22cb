use Rattle.std.proofs.Common.{sym, ◌∙◌}
use Rattle.std.proofs.lemmas.Result.{IfOk-weaker}
use Rattle.clfs_check.proofs.Readings.{unread, read_on, reads_then, tells_still}
use Rattle.clfs_check.proofs.Lengths.{long_still, base_short, base_long}
use Rattle.clfs_check.proofs.length.are_whole.Goals as goal

pub returns-then-not-branch-clause-exact : goal.returns-then-not-branch-clause-exact
returns-then-not-branch-clause-exact g c slot tells =
    let first = g.D.Disk.state c.args.disk.now in
    sym (base_short first.files slot c.args.image.now (sym (c.in_ok-is_long.ensures.exact tells) ∙ c.if-not-branch.true))

pub returns-clause-exact : goal.returns-clause-exact
returns-clause-exact g c slot =
    let first = g.D.Disk.state c.args.disk.now in
    let now = g.D.Disk.state c.is_long.new.disk in
    let reads = c.in_ok-is_long.ensures.reads in
    IfOk-weaker c.are_all_long.result _ _
    (λ others found tells. base_long first.files slot c.args.image.now others (sym (c.in_ok-is_long.ensures.exact tells) ∙ c.if-not-branch.false)
    (found (tells_still first now reads.time tells) ∙ long_still first.files now.files _ _ reads.same))
    c.are_all_long.ensures.exact

pub returns-clause-reads : goal.returns-clause-reads
returns-clause-reads g c =
    let first = g.D.Disk.state c.args.disk.now in
    let reads = c.in_ok-is_long.ensures.reads in
    reads_then g.D.Disk.state c.calls_join.ensures c.are_all_long.result c.args.disk.now c.is_long.new.disk c.are_all_long.new.disk
    (read_on g.D.Disk.state c.calls_join.ensures c.args.disk.now c.args.disk.now c.is_long.new.disk (unread first) reads.same reads.time (λ s. (reads.steady s).1))
    c.are_all_long.ensures.reads
