use Rattle.clfs_engine.proofs.Crews.{made_works}
use Rattle.clfs_engine.proofs.crewing.made_area.Goals as goal

pub returns-in-Ok-clause-area : goal.returns-in-Ok-clause-area
returns-in-Ok-clause-area g c =
    made_works c.args.log.now c.args.session c.in-Ok.made.0 c.args.stream 1 c.requires.of c.requires.entries c.in-Ok.ensures.same c.in-Ok.ensures.asked c.in-Ok.ensures.area
