use Rattle.std.proofs.Common.{◌+◌, ◌∙◌, ap, arith, refl}
use Rattle.clfs_lsn.specs.Streams.{set_base}
use Rattle.clfs_tables.proofs.Tabling.{bases_all, bases_more, next_has_none, so_far_long}
use Rattle.clfs_tables.proofs.opening.set_bases.Goals as goal

pub loop-i-init : goal.loop-i-init
loop-i-init c = (c.requires.streams, refl, refl)

pub set_base-requires-clause-there : goal.set_base-requires-clause-there
set_base-requires-clause-there c =
    let long = so_far_long c.args.rows.now c.args.bases.now c.loop-i.i in
    (omega arith, rw (c.loop-i.invariant.0) (omega (arith, long, c.loop-i-test.true, c.requires.long)))

pub set_base-requires-clause-up : goal.set_base-requires-clause-up
set_base-requires-clause-up c = rw (c.loop-i.invariant.0, next_has_none c.args.rows.now c.args.bases.now c.loop-i.i) (omega arith)

pub loop-i-preserved : goal.loop-i-preserved
loop-i-preserved c = (
  c.set_base.ensures.streams ∙ ap (set_base (c.loop-i.i + 1) c.index-bases-i.result) (c.loop-i.invariant.0)
      ∙ bases_more c.args.rows.now c.args.bases.now c.loop-i.i c.index-bases-i.result c.requires.long c.loop-i-test.true c.index-bases-i.is,
  c.set_base.ensures.heads ∙ c.loop-i.invariant.1,
  c.set_base.ensures.low ∙ c.loop-i.invariant.2,
)

pub returns-clause-streams : goal.returns-clause-streams
returns-clause-streams c = c.loop-i.invariant.0 ∙ bases_all c.args.rows.now c.args.bases.now c.loop-i.i c.requires.long c.loop-i-test.false
