use Rattle.std.proofs.Common.{sym, ◌∙◌, inl}
use Rattle.clfs_model.specs.Happened.{happened_of}
use Rattle.clfs_shared.proofs.Reaching.{Laws, behind, calls_by, fits_spare, memory_leaves, ran_out, reached_more, same_clock, still_at, takes_some}
use Rattle.clfs_shared.proofs.locked.make_call.Goals as goal

pub returns-clause-lawful : goal.returns-clause-lawful
returns-clause-lawful g c = λ o reached.
    let disk = g.D.Disk.state in
    let entries = g.J.Recorder.entries in
    let x = c.args.value.now in
    let next = c.step-reply.new.self in
    let reply = c.step-reply.result in
    reached_more (record {
      joins = c.journals_join.ensures.legal;
      passes = c.whole_files_pass_the_test.ensures.passes;
      tells = c.whole_files_pass_the_test.ensures.tells;
      breaks = c.faults_break.ensures.fault;
      stays = c.broken_stays.ensures.calls;
      keeps = c.refusals_change_nothing.ensures.calls;
    }) o (disk x.manager.1) (disk next.1) x.manager.0 next.0 (entries x.journal) c.args.client c.args.call.now reply
    (calls_by (disk x.manager.1) (disk next.1) x.manager.0 next.0 c.args.client c.args.call.now reply c.step-reply.ensures.step c.step-reply.ensures.writes
    c.step-reply.ensures.damage c.step-reply.ensures.place c.step-reply.ensures.moments c.step-reply.ensures.no_memory (λ broken. same_clock disk next.1 x.manager.1 (c.step-reply.ensures.stopped broken)) (c.stored-2.ensures.survives_nothing 0))
    reached (entries c.record.new.self) (sym c.is_out_of_memory.ensures ∙ c.if-is_out_of_memory.false)
    (behind c.args.client c.args.call.now reply (entries x.journal) (entries c.prepare.new.self) (entries c.record.new.self) c.record.ensures c.prepare.ensures.same)

pub returns-then-is_out_of_memory-clause-lawful : goal.returns-then-is_out_of_memory-clause-lawful
returns-then-is_out_of_memory-clause-lawful g c = λ o reached.
    let disk = g.D.Disk.state in
    let entries = g.J.Recorder.entries in
    let x = c.args.value.now in
    let next = c.step-reply.new.self in
    let reply = c.step-reply.result in
    still_at (record {
      joins = c.journals_join.ensures.legal;
      passes = c.whole_files_pass_the_test.ensures.passes;
      tells = c.whole_files_pass_the_test.ensures.tells;
      breaks = c.faults_break.ensures.fault;
      stays = c.broken_stays.ensures.calls;
      keeps = c.refusals_change_nothing.ensures.calls;
    }) o (disk x.manager.1) (disk next.1) x.manager.0 next.0 (entries x.journal) (entries c.prepare.new.self) c.args.client c.args.call.now reply
    (calls_by (disk x.manager.1) (disk next.1) x.manager.0 next.0 c.args.client c.args.call.now reply c.step-reply.ensures.step c.step-reply.ensures.writes
    c.step-reply.ensures.damage c.step-reply.ensures.place c.step-reply.ensures.moments c.step-reply.ensures.no_memory (λ broken. same_clock disk next.1 x.manager.1 (c.step-reply.ensures.stopped broken)) (c.stored-2.ensures.survives_nothing 0))
    reached (sym c.is_out_of_memory.ensures ∙ c.if-is_out_of_memory.true) c.prepare.ensures.same

pub returns-then-is_out_of_memory-clause-ran : goal.returns-then-is_out_of_memory-clause-ran
returns-then-is_out_of_memory-clause-ran g c =
    let told = (g.D.Disk.state c.args.value.now.manager.1).nature.tells_contents in
    let entries = g.J.Recorder.entries in
    let x = c.args.value.now in
    let next = c.step-reply.new.self in
    let reply = c.step-reply.result in
    let wanting = sym c.is_out_of_memory.ensures ∙ c.if-is_out_of_memory.true in
    let laws : Laws = record {
      joins = c.journals_join.ensures.legal;
      passes = c.whole_files_pass_the_test.ensures.passes;
      tells = c.whole_files_pass_the_test.ensures.tells;
      breaks = c.faults_break.ensures.fault;
      stays = c.broken_stays.ensures.calls;
      keeps = c.refusals_change_nothing.ensures.calls;
    } in
    ran_out g.J.Recorder.may_lack told x.manager.0 next.0 (entries x.journal) (entries c.prepare.new.self) c.args.client c.args.call.now reply wanting c.prepare.ensures.same
    (memory_leaves laws told x.manager.0 next.0 c.args.client c.args.call.now reply c.step-reply.ensures.step wanting)
    (inl (takes_some c.replies_are_of_their_calls.ensures.kind told x.manager.0 next.0 c.args.client c.args.call.now reply c.step-reply.ensures.step wanting))

pub record-requires-clause-small : goal.record-requires-clause-small
record-requires-clause-small g c =
    let x = c.args.value.now in
    let reply = c.step-reply.result in
    fits_spare c.extents_are_few.ensures.step (g.D.Disk.state x.manager.1).nature.tells_contents x.manager.0 c.args.client c.args.call.now (happened_of reply) reply
    c.step-reply.new.self.0 c.stored.ensures.valid c.step-reply.ensures.small c.step-reply.ensures.step
