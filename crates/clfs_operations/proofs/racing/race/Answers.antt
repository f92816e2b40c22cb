use Rattle.std.proofs.Common.{◌++◌, List, ℕ, subst}
use Rattle.std.specs.List.{flat_map}
use Rattle.clfs_model.specs.Journals.{ClientScript}
use Rattle.clfs_race.specs.Scripts.{bad_line_text, journal_text}
use Rattle.clfs_shared.specs.Reached.{opening_of}
use Rattle.clfs_operations.specs.Ran.{HasRun, TellsRace}
use Rattle.clfs_operations.specs.Loaded.{IsLoaded, IsKeptOn}
use Rattle.clfs_operations.proofs.RaceEnds.{race_ends, race_refused}
use Rattle.clfs_operations.proofs.RaceThrough.{race_comes_through}
use Rattle.clfs_operations.proofs.TakenCalls.{JournalLaws, has_taken}
use Rattle.clfs_operations.proofs.Through.{AreOne}
use Rattle.clfs_operations.proofs.racing.race.Goals as goal

pub returns-in-Ok-load-clause-ends : goal.returns-in-Ok-load-clause-ends
returns-in-Ok-load-clause-ends g c =
    let old = g.D.Disk.state c.args.disk in
    let mid = g.D.Disk.state c.in-Ok-load.manager.1 in
    let raced = c.race_over-raced.result in
    let new = g.D.Disk.state raced.manager.1 in
    let s = c.in-Ok-load.manager.0 in
    let t = raced.manager.0 in
    let division = c.in-Ok-divide.division in
    let load = c.in-Ok-load.ensures in
    let loaded : IsLoaded c.args.write_buffers old mid s = record {
      stands = load.loaded;
      buffers_are = load.buffers;
      valid = load.valid;
      storable = load.storable;
      stable = load.stable;
      same = load.same.0;
      time = load.same.1;
      left = c.stored.ensures.survives_nothing 0;
    } in
    let kept : IsKeptOn t new = record { files = c.stored-in-Ok-load.ensures.files; settled = c.stored-in-Ok-load.ensures.settled } in
    let laws : JournalLaws = record {
      part = c.unbroken_stays.ensures.part;
      passes = c.whole_files_pass_the_test.ensures.passes;
      tells = c.whole_files_pass_the_test.ensures.tells;
    } in
    let run : HasRun (opening_of s mid) division.scripts.items new t raced.journal raced.whole =
    subst (λ (scripts : List ClientScript). HasRun (opening_of s mid) scripts new t raced.journal raced.whole) c.deref.ensures.value c.race_over-raced.ensures.ran in
    let written = g.K.Sink.written c.args.sink.now in
    let written' = g.K.Sink.written c.told-status.new.sink in
    let sink = g.K.Sink.faults c.args.sink.now in
    let sink' = g.K.Sink.faults c.told-status.new.sink in
    let tells : TellsRace c.told-status.result raced.whole c.in-Ok.script.end (flat_map bad_line_text division.bad.items ++ journal_text raced.journal) written written' sink sink' =
    subst (λ (places : List ℕ). TellsRace c.told-status.result raced.whole c.in-Ok.script.end (flat_map bad_line_text places ++ journal_text raced.journal) written written' sink sink')
    c.deref-in-Ok-load.ensures.value c.told-status.ensures in
    rw c.close.ensures
    (race_ends c.args.write_buffers old new _ _ written written' _ _ sink sink' c.in-Ok.script.bytes.items division (opening_of s mid) t raced.journal raced.whole c.in-Ok.ensures.taken
    (has_taken c.args.write_buffers old mid new s t loaded kept laws raced.journal c.race_over-raced.ensures.later run.reached) run c.in-Ok.script.end c.told-status.result
    c.in-Ok.ensures.ended c.in-Ok-divide.ensures tells c.in-Ok.ensures.count)

pub returns-clause-ends : goal.returns-clause-ends
returns-clause-ends g c =
    let load = c.in-Err.ensures in
    race_refused c.refused.result c.args.write_buffers c.in-Err.field-0.cause (g.D.Disk.state c.args.disk) (g.D.Disk.state c.in-Err.field-0.disk) _ _ _ _ _ _ _ _
    (record {
      is = load.refused;
      cause = load.cause;
      steady = load.steady;
      same = load.same_refused.0;
      time = load.same_refused.1;
    })
    load.place c.refused.ensures (c.in-Ok.script.bytes.items, c.in-Ok.ensures.taken) c.in-Ok.ensures.count

pub returns-in-Ok-load-clause-complete : goal.returns-in-Ok-load-clause-complete
returns-in-Ok-load-clause-complete g c =
    let one : AreOne = record { no_damage = c.files_have_one_meaning.ensures.no_damage; no_base = c.files_have_one_meaning.ensures.no_base } in
    race_comes_through one (record { fine = c.unbroken_stays.ensures.fine }) _ _ _ _ _ _ _ _ _ _ _ _ (returns-in-Ok-load-clause-ends g c)

pub returns-clause-complete : goal.returns-clause-complete
returns-clause-complete g c =
    let one : AreOne = record { no_damage = c.files_have_one_meaning.ensures.no_damage; no_base = c.files_have_one_meaning.ensures.no_base } in
    race_comes_through one (record { fine = c.unbroken_stays.ensures.fine }) _ _ _ _ _ _ _ _ _ _ _ _ (returns-clause-ends g c)
