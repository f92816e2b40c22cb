use Rattle.clfs_cells_laws.proofs.Breaking.{LogLaws, stays_whole, is_broken, tells_none}
use Rattle.clfs_cells_laws.proofs.LoadBreaking.{loads_whole}
use Rattle.clfs_cells_laws.proofs.only_faults_break_a_store.Goals as goal

pub returns-clause-whole : goal.returns-clause-whole
returns-clause-whole c =
    let laws : LogLaws = record {
      stays = c.unbroken_stays.ensures.calls;
      fault = c.faults_break.ensures.fault;
      damage = c.faults_break.ensures.damage;
      broken = c.broken_stays.ensures.calls;
      kind = c.replies_are_of_their_calls.ensures.kind;
    } in
    stays_whole laws

pub returns-clause-broken : goal.returns-clause-broken
returns-clause-broken c =
    let laws : LogLaws = record {
      stays = c.unbroken_stays.ensures.calls;
      fault = c.faults_break.ensures.fault;
      damage = c.faults_break.ensures.damage;
      broken = c.broken_stays.ensures.calls;
      kind = c.replies_are_of_their_calls.ensures.kind;
    } in
    is_broken laws

pub returns-clause-quiet : goal.returns-clause-quiet
returns-clause-quiet c =
    let laws : LogLaws = record {
      stays = c.unbroken_stays.ensures.calls;
      fault = c.faults_break.ensures.fault;
      damage = c.faults_break.ensures.damage;
      broken = c.broken_stays.ensures.calls;
      kind = c.replies_are_of_their_calls.ensures.kind;
    } in
    tells_none laws

pub returns-clause-loading : goal.returns-clause-loading
returns-clause-loading c =
    let laws : LogLaws = record {
      stays = c.unbroken_stays.ensures.calls;
      fault = c.faults_break.ensures.fault;
      damage = c.faults_break.ensures.damage;
      broken = c.broken_stays.ensures.calls;
      kind = c.replies_are_of_their_calls.ensures.kind;
    } in
    loads_whole laws
