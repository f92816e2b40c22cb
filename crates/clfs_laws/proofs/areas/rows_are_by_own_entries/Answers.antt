use Rattle.std.specs.Prelude.{[]}
use Rattle.clfs_laws.proofs.MadeAreas.{made_area}
use Rattle.clfs_laws.proofs.RowRuns.{rows_through}
use Rattle.clfs_laws.proofs.areas.rows_are_by_own_entries.Goals as goal

pub returns-clause-rows : goal.returns-clause-rows
returns-clause-rows c = λ told s t journal client number legal. rows_through told [] s t journal client number legal

pub returns-clause-made : goal.returns-clause-made
returns-clause-made c = made_area
