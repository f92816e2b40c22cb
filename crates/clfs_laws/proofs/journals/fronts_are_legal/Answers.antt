use Rattle.std.specs.Prelude.{[]}
use Rattle.clfs_laws.proofs.JournalChains.{cut_in_two}
use Rattle.clfs_laws.proofs.journals.fronts_are_legal.Goals as goal

pub returns : goal.returns
returns c = λ told s t front rest legal. cut_in_two told [] s t front rest legal
