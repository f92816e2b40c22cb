use Rattle.clfs_laws.proofs.RunParts.{run_joined, run_parted}
use Rattle.clfs_laws.proofs.runs.runs_join.Goals as goal

pub returns-clause-joined : goal.returns-clause-joined
returns-clause-joined c = run_joined

pub returns-clause-parted : goal.returns-clause-parted
returns-clause-parted c = run_parted
