use Rattle.std.proofs.Common.{sym, subst}
use Rattle.std.specs.Prelude.{IsTrue}
use Rattle.clfs_disk.specs.State.{Nature}
use Rattle.clfs_format.specs.Making.{first_image}
use Rattle.clfs_format.proofs.Made.{none_open, made_by, made_at_once, first_fits}
use Rattle.clfs_format.proofs.making.fill_disk.Goals as goal

pub returns-clause-made : goal.returns-clause-made
returns-clause-made g c tells =
    let gates = c.in_ok-prepare.ensures.none tells in
    made_by c.args.shape.now c.args.dedicated c.args.containers _ _ gates
    (c.in_ok-write_first_copy.ensures.written (subst (λ (n : Nature). IsTrue n.tells_contents) (sym c.prepare.ensures.time.nature) tells)
    (first_image c.args.shape.now c.args.dedicated c.args.containers)
    (first_fits c.args.shape.now c.args.dedicated c.args.containers c.requires.shape c.requires.some c.requires.few) c.requires.body (none_open _ gates))

pub returns-clause-moments : goal.returns-clause-moments
returns-clause-moments g c honest =
    let gates = c.in_ok-prepare.ensures.none honest.0 in
    let settled = c.in_ok-prepare.ensures.settled honest in
    made_at_once c.args.shape.now c.args.dedicated c.args.containers _ _ _ c.prepare.ensures.time settled gates
    (c.write_first_copy.ensures.moments settled (first_image c.args.shape.now c.args.dedicated c.args.containers)
    (first_fits c.args.shape.now c.args.dedicated c.args.containers c.requires.shape c.requires.some c.requires.few) c.requires.body (none_open _ gates))
