use Rattle.clfs_laws.proofs.Words.{Option, IsSome, sym, subst, refl, Area}
use Rattle.std.specs.Prelude.{length}
use Rattle.clfs_laws.proofs.Room.{never_full, never_short, never_few}
use Rattle.clfs_laws.proofs.RoomOfSteps.{covered_step}
use Rattle.clfs_laws.proofs.ValidRuns.{valid_journal, holds_enough}
use Rattle.clfs_laws.proofs.areas.own_entries_cover_an_append.Goals as goal

pub returns-clause-there : goal.returns-clause-there
returns-clause-there c = λ told s t journal client number draft legal enough.
    let has = holds_enough told s t journal client number (length draft.bytes) legal enough in
    let F : Option Area → Type 0 = IsSome in
    subst F (sym has.there) refl

pub returns-clause-space : goal.returns-clause-space
returns-clause-space c = λ told s t journal client number draft of_free of_reserved need valid legal enough refused.
    let has = holds_enough told s t journal client number (length draft.bytes) legal enough in
    never_full t client number has.area draft of_free of_reserved need (valid_journal c.space_laws.ensures told s t journal legal valid) has.there has.enough refused

pub returns-clause-held : goal.returns-clause-held
returns-clause-held c = λ told s t journal client number draft of_held need valid legal enough refused.
    let has = holds_enough told s t journal client number (length draft.bytes) legal enough in
    never_short t client number has.area draft of_held need (valid_journal c.space_laws.ensures told s t journal legal valid) has.there has.enough refused

pub returns-clause-containers : goal.returns-clause-containers
returns-clause-containers c = λ told s t journal client number draft have valid legal enough refused.
    let has = holds_enough told s t journal client number (length draft.bytes) legal enough in
    never_few t client number has.area draft have (valid_journal c.space_laws.ensures told s t journal legal valid) has.there has.enough refused

pub returns-clause-step : goal.returns-clause-step
returns-clause-step c = λ told s t u journal client number draft happened given valid legal enough step.
    let has = holds_enough told s t journal client number (length draft.bytes) legal enough in
    covered_step told t client number has.area draft happened given u (valid_journal c.space_laws.ensures told s t journal legal valid) has.there has.enough step
