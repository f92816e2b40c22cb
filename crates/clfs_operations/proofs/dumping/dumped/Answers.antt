use Rattle.std.proofs.Common.{ap, Err}
use Rattle.clfs_operations.proofs.DumpEnds.{DumpLaws, ends_done, ends_damaged, ends_short, ends_cut, ends_without_base, ends_faulted}
use Rattle.clfs_operations.proofs.dumping.dumped.Goals as goal

pub returns-in-Ok : goal.returns-in-Ok
returns-in-Ok g c =
    let told = c.dumps_tell_what_opening_finds.ensures in
    let laws : DumpLaws = record { some = c.files_have_one_meaning.ensures.some; end = told.end; records = told.records; refused = told.refused } in
    ends_done laws c.args.selection.now (g.D.Disk.state c.args.disk.now) (g.D.Disk.state c.dump.new.disk) (g.K.Sink.written c.args.sink.now)
    (g.K.Sink.written c.dump.new.sink) (g.K.Sink.faults c.args.sink.now) (g.K.Sink.faults c.dump.new.sink) c.dump.ensures.same c.dump.ensures.time
    c.dump.ensures.sink_later c.in-Ok.field-0 c.in-Ok.ensures.told

pub returns-in-Err-NoBase : goal.returns-in-Err-NoBase
returns-in-Err-NoBase g c =
    let told = c.dumps_tell_what_opening_finds.ensures in
    let laws : DumpLaws = record { some = c.files_have_one_meaning.ensures.some; end = told.end; records = told.records; refused = told.refused } in
    let last = c.printed.ensures in
    ends_without_base laws c.args.selection.now (g.D.Disk.state c.args.disk.now) (g.D.Disk.state c.dump.new.disk) (g.K.Sink.written c.args.sink.now)
    (g.K.Sink.written c.dump.new.sink) (g.K.Sink.faults c.args.sink.now) (g.K.Sink.faults c.dump.new.sink) c.dump.ensures.same c.dump.ensures.time
    c.dump.ensures.sink_later c.printed.result (g.K.Sink.written c.printed.new.sink) (g.K.Sink.faults c.printed.new.sink) last.cause last.later
    (λ tells. rw (c.in-Err-NoBase.is, c.in-Err-NoBase.field-0-is) at (c.dump.ensures.told tells)) last.status last.whole last.front

pub returns-in-Err-Damaged : goal.returns-in-Err-Damaged
returns-in-Err-Damaged g c =
    let told = c.dumps_tell_what_opening_finds.ensures in
    let laws : DumpLaws = record { some = c.files_have_one_meaning.ensures.some; end = told.end; records = told.records; refused = told.refused } in
    let here = c.in-Err-Damaged in
    ends_damaged laws c.args.selection.now (g.D.Disk.state c.args.disk.now) (g.D.Disk.state c.dump.new.disk) (g.K.Sink.written c.args.sink.now)
    (g.K.Sink.written c.dump.new.sink) (g.K.Sink.faults c.args.sink.now) (g.K.Sink.faults c.dump.new.sink) c.dump.ensures.same c.dump.ensures.time
    c.dump.ensures.sink_later here.field-0-0 here.field-0-1 here.field-0-2 (λ tells. rw (here.is, here.field-0-is) at (c.dump.ensures.told tells))

pub returns-in-Err-DiskFault : goal.returns-in-Err-DiskFault
returns-in-Err-DiskFault g c =
    let told = c.dumps_tell_what_opening_finds.ensures in
    let laws : DumpLaws = record { some = c.files_have_one_meaning.ensures.some; end = told.end; records = told.records; refused = told.refused } in
    let last = c.printed-in-Err-DiskFault.ensures in
    let here = c.in-Err-DiskFault in
    ends_faulted laws c.args.selection.now (g.D.Disk.state c.args.disk.now) (g.D.Disk.state c.dump.new.disk) (g.K.Sink.written c.args.sink.now)
    (g.K.Sink.written c.dump.new.sink) (g.K.Sink.faults c.args.sink.now) (g.K.Sink.faults c.dump.new.sink) c.dump.ensures.same c.dump.ensures.time
    c.dump.ensures.sink_later c.printed-in-Err-DiskFault.result (g.K.Sink.written c.printed-in-Err-DiskFault.new.sink)
    (g.K.Sink.faults c.printed-in-Err-DiskFault.new.sink) last.cause last.later (record {
      is = λ tells. tt;
      cause = λ e. here.ensures.cause (ap Err here.field-0-is);
      steady = λ steady e. (here.ensures.steady steady).0 (ap Err here.field-0-is);
      same = c.dump.ensures.same;
      time = c.dump.ensures.time;
    }) (λ tells. rw (here.is, here.field-0-is) at (c.dump.ensures.told tells)) last.status last.whole last.front

pub returns-in-Err-NoMemory : goal.returns-in-Err-NoMemory
returns-in-Err-NoMemory g c =
    let told = c.dumps_tell_what_opening_finds.ensures in
    let laws : DumpLaws = record { some = c.files_have_one_meaning.ensures.some; end = told.end; records = told.records; refused = told.refused } in
    ends_short laws c.args.selection.now (g.D.Disk.state c.args.disk.now) (g.D.Disk.state c.dump.new.disk) (g.K.Sink.written c.args.sink.now)
    (g.K.Sink.written c.dump.new.sink) (g.K.Sink.faults c.args.sink.now) (g.K.Sink.faults c.dump.new.sink) c.dump.ensures.same c.dump.ensures.time
    c.dump.ensures.sink_later (λ tells. rw (c.in-Err-NoMemory.is, c.in-Err-NoMemory.field-0-is) at (c.dump.ensures.told tells))

pub returns-in-Err-SinkFault : goal.returns-in-Err-SinkFault
returns-in-Err-SinkFault g c =
    let told = c.dumps_tell_what_opening_finds.ensures in
    let laws : DumpLaws = record { some = c.files_have_one_meaning.ensures.some; end = told.end; records = told.records; refused = told.refused } in
    let here = c.in-Err-SinkFault in
    ends_cut laws c.args.selection.now (g.D.Disk.state c.args.disk.now) (g.D.Disk.state c.dump.new.disk) (g.K.Sink.written c.args.sink.now)
    (g.K.Sink.written c.dump.new.sink) (g.K.Sink.faults c.args.sink.now) (g.K.Sink.faults c.dump.new.sink) c.dump.ensures.same c.dump.ensures.time
    c.dump.ensures.sink_later (here.ensures.sink_cause (ap Err here.field-0-is)) (λ tells. rw (here.is, here.field-0-is) at (c.dump.ensures.told tells))
