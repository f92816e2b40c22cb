use Rattle.clfs_race.proofs.CallsAlone.{lines_ask_calls}
use Rattle.clfs_race.proofs.LineConditions.{line_meets}
use Rattle.clfs_race.proofs.laws.lines_meet_their_conditions.Goals as goal

pub returns-clause-meets : goal.returns-clause-meets
returns-clause-meets c = line_meets

pub returns-clause-calls : goal.returns-clause-calls
returns-clause-calls c = lines_ask_calls
