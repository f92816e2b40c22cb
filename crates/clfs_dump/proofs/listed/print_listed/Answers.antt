use Rattle.clfs_dump.proofs.Words.{◌+◌, get_or, Err, Ok, refl, ◌∙◌, arith, err_from_is_err_and}
use Rattle.clfs_dump.proofs.ContainersTold.{told_still}
use Rattle.clfs_dump.proofs.DiskReads.{tells_still, unread, read_on, all_answered}
use Rattle.clfs_dump.proofs.Walks.{listed_first, listed_last, listed_refused, listed_next}
use Rattle.clfs_dump.proofs.listed.print_listed.Goals as goal

pub loop-i-init : goal.loop-i-init
loop-i-init g c =
    let first = g.D.Disk.state c.args.disk.now in record {
      same_room = refl;
      is_end = (refl, omega arith);
      was = unread first;
      later = omega arith;
      through = λ tells. listed_first c.args.selection.now c.args.rows.now c.args.shape.now first.files c.args.first c.args.files.now
          (g.K.Sink.written c.args.sink.now);
    }

pub loop-i-preserved : goal.loop-i-preserved
loop-i-preserved g c =
    let first = g.D.Disk.state c.args.disk.now in
    let now = g.D.Disk.state c.loop-i.disk in
    let was = c.loop-i.invariant.was in
    let number = get_or c.args.files.now c.loop-i.i 0 in record {
      same_room = c.in_ok-end.ensures.room ∙ c.loop-i.invariant.same_room;
      is_end = c.in_ok-end.ensures.end;
      was = read_on g.D.Disk.state c.calls_join.ensures c.args.disk.now c.loop-i.disk c.print_container.new.disk was c.in_ok-end.ensures.reads.same
          c.in_ok-end.ensures.reads.time (λ s. (c.in_ok-end.ensures.reads.steady s).1);
      later = omega (arith, c.loop-i.invariant.later, c.in_ok-end.ensures.sink.later);
      through = λ tells. listed_next c.args.selection.now c.args.rows.now c.args.shape.now first.files c.args.first c.args.files.now
          (g.K.Sink.written c.args.sink.now) (g.K.Sink.written c.loop-i.sink) c.loop-i.i c.loop-i.end (c.loop-i.invariant.through tells)
          c.loop-i-test.true (g.K.Sink.written c.print_container.new.sink) c.in_ok-end.end
          (told_still c.args.selection.now c.args.rows.now c.args.shape.now now.files first.files (c.args.first + c.loop-i.i) number was.same
          (g.K.Sink.written c.loop-i.sink) (g.K.Sink.written c.print_container.new.sink) (Ok c.in_ok-end.end)
          (c.in_ok-end.ensures.told (tells_still first now was.time tells)));
    }

pub returns-in_err-end-clause-told : goal.returns-in_err-end-clause-told
returns-in_err-end-clause-told g c tells =
    let p = err_from_is_err_and c.from_residual.result c.from_residual.ensures.1 in
    let first = g.D.Disk.state c.args.disk.now in
    let now = g.D.Disk.state c.loop-i.disk in
    let was = c.loop-i.invariant.was in
    let number = get_or c.args.files.now c.loop-i.i 0 in
    rw (p.1, p.2) (listed_refused c.args.selection.now c.args.rows.now c.args.shape.now first.files c.args.first c.args.files.now
    (g.K.Sink.written c.args.sink.now) (g.K.Sink.written c.loop-i.sink) c.loop-i.i c.loop-i.end (c.loop-i.invariant.through tells) c.loop-i-test.true
    (g.K.Sink.written c.print_container.new.sink) c.in_err-end.field-0.0
    (told_still c.args.selection.now c.args.rows.now c.args.shape.now now.files first.files (c.args.first + c.loop-i.i) number was.same
    (g.K.Sink.written c.loop-i.sink) (g.K.Sink.written c.print_container.new.sink) (Err c.in_err-end.field-0.0)
    (c.in_err-end.ensures.told (tells_still first now was.time tells))))

pub returns-clause-told : goal.returns-clause-told
returns-clause-told g c tells =
    let first = g.D.Disk.state c.args.disk.now in
    listed_last c.args.selection.now c.args.rows.now c.args.shape.now first.files c.args.first c.args.files.now (g.K.Sink.written c.args.sink.now)
    (g.K.Sink.written c.loop-i.sink) c.loop-i.i c.loop-i.end (c.loop-i.invariant.through tells) (omega (arith, c.loop-i-test.false))

pub returns-clause-reads : goal.returns-clause-reads
returns-clause-reads g c =
    all_answered c.loop-i.end (g.D.Disk.state c.args.disk.now) (g.D.Disk.state c.loop-i.disk) c.loop-i.invariant.was
