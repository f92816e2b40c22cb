use Rattle.clfs_dump.proofs.Words.{ℕ, ◌*◌, drop, Option, Some, None, Ok, Err, refl, ◌∙◌, subst, arith, err_from_is_err_and, Told}
use Rattle.clfs_dump.proofs.BlockTold.{told_of_front, block_ends}
use Rattle.clfs_dump.proofs.DiskReads.{tells_still, unread, read_on, all_answered}
use Rattle.clfs_dump.proofs.FilePieces.{shows_still, front_still}
use Rattle.clfs_dump.proofs.Walks.{PrintsTold, at_first, at_last, at_refused, at_closed, at_next}
use Rattle.clfs_dump.proofs.container.print_blocks.Goals as goal

pub loop-offset-init : goal.loop-offset-init
loop-offset-init g c =
    let first = g.D.Disk.state c.args.disk.now in record {
      whole = refl;
      within = omega arith;
      same_room = c.in_ok-read.ensures.room;
      was = read_on g.D.Disk.state c.calls_join.ensures c.args.disk.now c.args.disk.now c.read.new.disk (unread first) c.in_ok-read.ensures.same
          c.in_ok-read.ensures.time (λ s. (c.in_ok-read.ensures.steady s).1);
      later = omega arith;
      shows = c.in_ok-read.ensures.shows;
      through = λ tells. at_first c.args.selection.now c.args.rows.now c.args.shape.now c.args.listed.now.id (first.files c.args.listed.now.file)
          (g.K.Sink.written c.args.sink.now);
    }

pub overflow_mul-offset : goal.overflow_mul-offset
overflow_mul-offset g c =
    let framed = rw c.in-Some.is at c.in_ok-sectors.ensures.framed in
    let end = block_ends c.blocks_are_read_as_written.ensures c.args.shape.now c.args.listed.now.id c.loop-offset.offset c.bytes_from-bytes.result.now
    framed.head c.requires.shape c.loop-offset.invariant.whole c.loop-offset-test.true framed.frame in
    omega (arith, end.1, framed.is, c.requires.shape.largest_container)

pub overflow_add-offset : goal.overflow_add-offset
overflow_add-offset g c =
    let framed = rw c.in-Some.is at c.in_ok-sectors.ensures.framed in
    let end = block_ends c.blocks_are_read_as_written.ensures c.args.shape.now c.args.listed.now.id c.loop-offset.offset c.bytes_from-bytes.result.now
    framed.head c.requires.shape c.loop-offset.invariant.whole c.loop-offset-test.true framed.frame in
    omega (arith, end.1, framed.is, c.requires.shape.largest_container)

pub loop-offset-smaller : goal.loop-offset-smaller
loop-offset-smaller g c =
    let framed = rw c.in-Some.is at c.in_ok-sectors.ensures.framed in
    let end = block_ends c.blocks_are_read_as_written.ensures c.args.shape.now c.args.listed.now.id c.loop-offset.offset c.bytes_from-bytes.result.now
    framed.head c.requires.shape c.loop-offset.invariant.whole c.loop-offset-test.true framed.frame in
    omega (arith, end.0, end.1, framed.is)

pub loop-offset-preserved : goal.loop-offset-preserved
loop-offset-preserved g c =
    let first = g.D.Disk.state c.args.disk.now in
    let now = g.D.Disk.state c.loop-offset.disk in
    let file = c.args.listed.now.file in
    let was = c.loop-offset.invariant.was in
    let framed = rw c.in-Some.is at c.in_ok-sectors.ensures.framed in
    let end = block_ends c.blocks_are_read_as_written.ensures c.args.shape.now c.args.listed.now.id c.loop-offset.offset c.bytes_from-bytes.result.now
    framed.head c.requires.shape c.loop-offset.invariant.whole c.loop-offset-test.true framed.frame in record {
      whole = omega (arith, c.loop-offset.invariant.whole);
      within = omega (arith, end.1, framed.is);
      same_room = c.in_ok-cover.ensures.room ∙ c.loop-offset.invariant.same_room;
      was = read_on g.D.Disk.state c.calls_join.ensures c.args.disk.now c.loop-offset.disk c.cover.new.disk was c.in_ok-cover.ensures.same
          c.in_ok-cover.ensures.time (λ s. (c.in_ok-cover.ensures.steady s).1);
      later = omega (arith, c.loop-offset.invariant.later, c.in_ok-sectors.ensures.sink.later);
      shows = λ tells.
          shows_still (now.files file) (first.files file) c.loop-offset.piece c.cover.new.self (was.same file)
          (c.in_ok-cover.ensures.shows (tells_still first now was.time tells)) (c.loop-offset.invariant.shows tells);
      through = λ tells.
          let shown = front_still (now.files file) (first.files file) c.loop-offset.piece c.cover.new.self c.loop-offset.offset
          (512 * c.args.shape.now.block_sectors) c.bytes_from-bytes.result.now (was.same file)
          (c.in_ok-cover.ensures.shows (tells_still first now was.time tells)) (c.loop-offset.invariant.shows tells)
          c.in_ok-cover.ensures.reach c.bytes_from-bytes.ensures in
          let same = told_of_front c.blocks_are_judged_alone.ensures c.blocks_are_read_as_written.ensures c.args.selection.now c.args.rows.now
          c.args.shape.now c.requires.shape.some_sectors c.args.listed.now.id c.loop-offset.offset (drop c.loop-offset.offset (first.files file))
          c.bytes_from-bytes.result.now shown in
          at_next c.args.selection.now c.args.rows.now c.args.shape.now c.args.listed.now.id (first.files file) (g.K.Sink.written c.args.sink.now)
          (g.K.Sink.written c.loop-offset.sink) c.loop-offset.offset (c.loop-offset.invariant.through tells) c.loop-offset-test.true
          (g.K.Sink.written c.print_block.new.sink) c.in-Some.sectors (omega (arith, end.0, framed.is))
          (subst (λ (t : Told (Option ℕ)). PrintsTold (g.K.Sink.written c.loop-offset.sink) (g.K.Sink.written c.print_block.new.sink) t
          (Ok (Some c.in-Some.sectors))) same (rw c.in-Some.is at c.in_ok-sectors.ensures.told));
    }

pub returns-in-None-clause-told : goal.returns-in-None-clause-told
returns-in-None-clause-told g c tells =
    let first = g.D.Disk.state c.args.disk.now in
    let now = g.D.Disk.state c.loop-offset.disk in
    let file = c.args.listed.now.file in
    let was = c.loop-offset.invariant.was in
    let shown = front_still (now.files file) (first.files file) c.loop-offset.piece c.cover.new.self c.loop-offset.offset
    (512 * c.args.shape.now.block_sectors) c.bytes_from-bytes.result.now (was.same file)
    (c.in_ok-cover.ensures.shows (tells_still first now was.time tells)) (c.loop-offset.invariant.shows tells)
    c.in_ok-cover.ensures.reach c.bytes_from-bytes.ensures in
    let same = told_of_front c.blocks_are_judged_alone.ensures c.blocks_are_read_as_written.ensures c.args.selection.now c.args.rows.now
    c.args.shape.now c.requires.shape.some_sectors c.args.listed.now.id c.loop-offset.offset (drop c.loop-offset.offset (first.files file))
    c.bytes_from-bytes.result.now shown in
    at_closed c.args.selection.now c.args.rows.now c.args.shape.now c.args.listed.now.id (first.files file) (g.K.Sink.written c.args.sink.now)
    (g.K.Sink.written c.loop-offset.sink) c.loop-offset.offset (c.loop-offset.invariant.through tells) c.loop-offset-test.true
    (g.K.Sink.written c.print_block.new.sink)
    (subst (λ (t : Told (Option ℕ)). PrintsTold (g.K.Sink.written c.loop-offset.sink) (g.K.Sink.written c.print_block.new.sink) t (Ok None)) same
    (rw c.in-None.is at c.in_ok-sectors.ensures.told))

pub returns-in-None-clause-reads : goal.returns-in-None-clause-reads
returns-in-None-clause-reads g c =
    all_answered c.loop-offset.offset (g.D.Disk.state c.args.disk.now) (g.D.Disk.state c.cover.new.disk)
    (read_on g.D.Disk.state c.calls_join.ensures c.args.disk.now c.loop-offset.disk c.cover.new.disk c.loop-offset.invariant.was c.in_ok-cover.ensures.same
    c.in_ok-cover.ensures.time (λ s. (c.in_ok-cover.ensures.steady s).1))

pub returns-after-loop-offset-clause-told : goal.returns-after-loop-offset-clause-told
returns-after-loop-offset-clause-told g c tells =
    let first = g.D.Disk.state c.args.disk.now in
    at_last c.args.selection.now c.args.rows.now c.args.shape.now c.args.listed.now.id (first.files c.args.listed.now.file)
    (g.K.Sink.written c.args.sink.now) (g.K.Sink.written c.loop-offset.sink) c.loop-offset.offset (c.loop-offset.invariant.through tells)
    (omega (arith, c.loop-offset-test.false))

pub returns-after-loop-offset-clause-reads : goal.returns-after-loop-offset-clause-reads
returns-after-loop-offset-clause-reads g c =
    all_answered c.loop-offset.offset (g.D.Disk.state c.args.disk.now) (g.D.Disk.state c.loop-offset.disk) c.loop-offset.invariant.was

pub returns-in_err-sectors-clause-told : goal.returns-in_err-sectors-clause-told
returns-in_err-sectors-clause-told g c tells =
    let p = err_from_is_err_and c.from_residual-in_err-sectors.result c.from_residual-in_err-sectors.ensures.1 in
    let first = g.D.Disk.state c.args.disk.now in
    let now = g.D.Disk.state c.loop-offset.disk in
    let file = c.args.listed.now.file in
    let was = c.loop-offset.invariant.was in
    let shown = front_still (now.files file) (first.files file) c.loop-offset.piece c.cover.new.self c.loop-offset.offset
    (512 * c.args.shape.now.block_sectors) c.bytes_from-bytes.result.now (was.same file)
    (c.in_ok-cover.ensures.shows (tells_still first now was.time tells)) (c.loop-offset.invariant.shows tells)
    c.in_ok-cover.ensures.reach c.bytes_from-bytes.ensures in
    let same = told_of_front c.blocks_are_judged_alone.ensures c.blocks_are_read_as_written.ensures c.args.selection.now c.args.rows.now
    c.args.shape.now c.requires.shape.some_sectors c.args.listed.now.id c.loop-offset.offset (drop c.loop-offset.offset (first.files file))
    c.bytes_from-bytes.result.now shown in
    rw (p.1, p.2) (at_refused c.args.selection.now c.args.rows.now c.args.shape.now c.args.listed.now.id (first.files file)
    (g.K.Sink.written c.args.sink.now) (g.K.Sink.written c.loop-offset.sink) c.loop-offset.offset (c.loop-offset.invariant.through tells)
    c.loop-offset-test.true (g.K.Sink.written c.print_block.new.sink) c.in_err-sectors.field-0.0
    (subst (λ (t : Told (Option ℕ)). PrintsTold (g.K.Sink.written c.loop-offset.sink) (g.K.Sink.written c.print_block.new.sink) t
    (Err c.in_err-sectors.field-0.0)) same c.in_err-sectors.ensures.told))
