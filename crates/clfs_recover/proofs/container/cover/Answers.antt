use Rattle.clfs_recover.proofs.Words.{arith}
use Rattle.clfs_recover.proofs.Pieces.{read_reaches}
use Rattle.clfs_recover.proofs.container.cover.Goals as goal

pub returns-clause-reach : goal.returns-clause-reach
returns-clause-reach g c = read_reaches c.slide.result c.args.at c.args.least c.slide.new.self c.slide.ensures.place c.slide.ensures.few
    (omega (arith, c.slide.ensures.room, c.requires.room.0))
