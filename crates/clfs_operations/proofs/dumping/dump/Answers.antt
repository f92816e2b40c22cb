use Rattle.clfs_operations.proofs.DumpEnds.{DumpLaws, ends_unread, dumping_is_done}
use Rattle.clfs_operations.specs.Dump.{selection_of}
use Rattle.clfs_operations.proofs.dumping.dump.Goals as goal

pub returns-in_default-clause-ends : goal.returns-in_default-clause-ends
returns-in_default-clause-ends g c =
    ends_unread (selection_of c.args.options.now) (g.D.Disk.state c.args.disk) (g.K.Sink.written c.args.sink.now) (g.K.Sink.faults c.args.sink.now)

pub returns-in_default-clause-complete : goal.returns-in_default-clause-complete
returns-in_default-clause-complete g c =
    let told = c.dumps_tell_what_opening_finds.ensures in
    let laws : DumpLaws = record { some = c.files_have_one_meaning.ensures.some; end = told.end; records = told.records; refused = told.refused } in
    dumping_is_done laws _ _ _ _ _ _ _ _ (returns-in_default-clause-ends g c)

pub returns-clause-ends : goal.returns-clause-ends
returns-clause-ends g c = rw c.in-Ok.ensures at c.dumped-status.ensures

pub returns-clause-complete : goal.returns-clause-complete
returns-clause-complete g c =
    let told = c.dumps_tell_what_opening_finds.ensures in
    let laws : DumpLaws = record { some = c.files_have_one_meaning.ensures.some; end = told.end; records = told.records; refused = told.refused } in
    dumping_is_done laws _ _ _ _ _ _ _ _ (returns-clause-ends g c)
