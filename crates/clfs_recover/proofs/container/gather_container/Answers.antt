use Rattle.clfs_recover.proofs.Words.{ℕ, ◌*◌, ◌++◌, Option, Some, None, Result, Ok, Err, vec_len, refl, ◌∙◌, ap, subst, arith, err_from_is_err_and}
use Rattle.clfs_recover.proofs.Words.{lsn_number, Unchanged, TellsContents, AreBytes, block_records, GathersBlock, LoadRefusal}
use Rattle.std.proofs.Common.{rules}
use Rattle.clfs_recover.proofs.Containers.{block_end}
use Rattle.clfs_recover.proofs.Told.{block_told}
use Rattle.clfs_recover.proofs.Taken.{starts, goes_on, is_closed, is_full, is_refused}
use Rattle.clfs_recover.proofs.Pieces.{shows_still, front_still}
use Rattle.clfs_recover.proofs.Disks.{tells_still, steady_still}
use Rattle.clfs_recover.proofs.container.gather_container.Goals as goal

abbrev found : Option ℕ → Result (Option ℕ) LoadRefusal
found sectors = Ok sectors

pub loop-offset-init : goal.loop-offset-init
loop-offset-init g c =
    let first = g.D.Disk.state c.args.disk.now in record {
      whole = refl;
      within = omega arith;
      same_room = c.in_ok-read.ensures.room;
      same_streams = refl;
      same = c.in_ok-read.ensures.same;
      time = c.in_ok-read.ensures.time;
      steady = λ steady. (c.in_ok-read.ensures.steady steady).1;
      shows = c.in_ok-read.ensures.shows;
      behind = λ rows before has.
          starts c.args.shape.now (vec_len c.args.bases.now) c.args.listed.now.id (TellsContents first) (first.files c.args.listed.now.file)
          (g.G.Gatherer.has c.args.gatherer.now) rows c.args.bases.now.items before has;
    }

pub overflow_mul-offset : goal.overflow_mul-offset
overflow_mul-offset g c =
    let framed = c.gather_block.ensures.framed c.in-Some.sectors (c.in_ok-sectors.was ∙ ap found c.in-Some.is) in
    let end = block_end c.blocks_are_read_as_written.ensures c.args.shape.now c.args.listed.now.id c.loop-offset.offset c.bytes_from-bytes.result.now framed.0
    c.requires.shape c.loop-offset.invariant.whole c.loop-offset-test.true framed.1 in
    omega (arith, end.1, framed.2, c.requires.shape.largest_container)

pub overflow_add-offset : goal.overflow_add-offset
overflow_add-offset g c =
    let framed = c.gather_block.ensures.framed c.in-Some.sectors (c.in_ok-sectors.was ∙ ap found c.in-Some.is) in
    let end = block_end c.blocks_are_read_as_written.ensures c.args.shape.now c.args.listed.now.id c.loop-offset.offset c.bytes_from-bytes.result.now framed.0
    c.requires.shape c.loop-offset.invariant.whole c.loop-offset-test.true framed.1 in
    omega (arith, end.1, framed.2, c.requires.shape.largest_container)

pub loop-offset-smaller : goal.loop-offset-smaller
loop-offset-smaller g c =
    let framed = c.gather_block.ensures.framed c.in-Some.sectors (c.in_ok-sectors.was ∙ ap found c.in-Some.is) in
    let end = block_end c.blocks_are_read_as_written.ensures c.args.shape.now c.args.listed.now.id c.loop-offset.offset c.bytes_from-bytes.result.now framed.0
    c.requires.shape c.loop-offset.invariant.whole c.loop-offset-test.true framed.1 in
    omega (arith, end.0, end.1, framed.2)

pub returns-in_err-sectors-clause-refused : goal.returns-in_err-sectors-clause-refused
returns-in_err-sectors-clause-refused g c tells rows before blocks has listed =
    let p = err_from_is_err_and c.from_residual-in_err-sectors.result c.from_residual-in_err-sectors.ensures.1 in
    let now = g.D.Disk.state c.loop-offset.disk in
    let first = g.D.Disk.state c.args.disk.now in
    let file = c.args.listed.now.file in
    let at = c.loop-offset.invariant.behind rows before has in
    let shown = λ (tells : TellsContents first).
    front_still (now.files file) (first.files file) c.loop-offset.piece c.cover.new.piece c.loop-offset.offset (512 * c.args.shape.now.block_sectors)
    c.bytes_from-bytes.result.now (c.loop-offset.invariant.same file)
    (c.in_ok-cover.ensures.shows (tells_still Unchanged first now c.loop-offset.invariant.time tells)) (c.loop-offset.invariant.shows tells)
    c.in_ok-cover.ensures.reach c.bytes_from-bytes.ensures in
    let gathers = subst (λ (n : ℕ). GathersBlock (g.G.Gatherer.has c.gather_block.new.gatherer) rows c.gather_block.new.bases.items (before ++ at.entries)
    c.args.listed.now.id c.loop-offset.offset (Err c.in_err-sectors.field-0.0)
    (block_records c.args.shape.now n (lsn_number c.args.listed.now.id c.loop-offset.offset 0) c.bytes_from-bytes.result.now))
    c.loop-offset.invariant.same_streams (c.in_err-sectors.ensures.exact rows (before ++ at.entries) at.taken) in
    rw (p.1, p.2) (is_refused c.args.shape.now (vec_len c.args.bases.now) c.args.listed.now.id (TellsContents first) (first.files file)
    (g.G.Gatherer.has c.loop-offset.gatherer) rows c.loop-offset.bases.items before c.loop-offset.offset at
    c.blocks_are_judged_alone.ensures c.blocks_are_read_as_written.ensures c.requires.shape c.loop-offset.invariant.whole
    c.loop-offset-test.true c.bytes_from-bytes.result.now shown tells blocks listed (g.G.Gatherer.has c.gather_block.new.gatherer)
    c.gather_block.new.bases.items c.in_err-sectors.field-0.0 gathers)

pub loop-offset-preserved : goal.loop-offset-preserved
loop-offset-preserved g c =
    let now = g.D.Disk.state c.loop-offset.disk in
    let first = g.D.Disk.state c.args.disk.now in
    let file = c.args.listed.now.file in
    let shown = λ (tells : TellsContents first).
    front_still (now.files file) (first.files file) c.loop-offset.piece c.cover.new.piece c.loop-offset.offset (512 * c.args.shape.now.block_sectors)
    c.bytes_from-bytes.result.now (c.loop-offset.invariant.same file)
    (c.in_ok-cover.ensures.shows (tells_still Unchanged first now c.loop-offset.invariant.time tells)) (c.loop-offset.invariant.shows tells)
    c.in_ok-cover.ensures.reach c.bytes_from-bytes.ensures in
    let framed = c.gather_block.ensures.framed c.in-Some.sectors (c.in_ok-sectors.was ∙ ap found c.in-Some.is) in
    let end = block_end c.blocks_are_read_as_written.ensures c.args.shape.now c.args.listed.now.id c.loop-offset.offset c.bytes_from-bytes.result.now framed.0
    c.requires.shape c.loop-offset.invariant.whole c.loop-offset-test.true framed.1 in record {
      whole = omega (arith, c.loop-offset.invariant.whole);
      within = omega (arith, end.1, framed.2);
      same_room = c.in_ok-cover.ensures.room ∙ c.loop-offset.invariant.same_room;
      same_streams = c.in_ok-sectors.ensures.streams ∙ c.loop-offset.invariant.same_streams;
      same = λ f. c.in_ok-cover.ensures.same f ∙ c.loop-offset.invariant.same f;
      time = c.calls_join.ensures.reads c.args.disk.now c.loop-offset.disk c.cover.new.disk c.loop-offset.invariant.time c.in_ok-cover.ensures.time;
      steady = λ steady. (c.in_ok-cover.ensures.steady (steady_still Unchanged first now c.loop-offset.invariant.time steady)).1
          ∙ c.loop-offset.invariant.steady steady;
      shows = λ tells.
          shows_still (now.files file) (first.files file) c.loop-offset.piece c.cover.new.piece (c.loop-offset.invariant.same file)
          (c.in_ok-cover.ensures.shows (tells_still Unchanged first now c.loop-offset.invariant.time tells)) (c.loop-offset.invariant.shows tells);
      behind = λ rows before has.
          let at = c.loop-offset.invariant.behind rows before has in
          let bytes : AreBytes c.bytes_from-bytes.result.now = search rules in
          let gathers = subst (λ (n : ℕ). GathersBlock (g.G.Gatherer.has c.gather_block.new.gatherer) rows c.gather_block.new.bases.items (before ++ at.entries)
          c.args.listed.now.id c.loop-offset.offset (found (Some c.in-Some.sectors))
          (block_records c.args.shape.now n (lsn_number c.args.listed.now.id c.loop-offset.offset 0) c.bytes_from-bytes.result.now))
          c.loop-offset.invariant.same_streams (rw c.in-Some.is at (c.in_ok-sectors.ensures.exact rows (before ++ at.entries) at.taken)) in
          goes_on c.args.shape.now (vec_len c.args.bases.now) c.args.listed.now.id (TellsContents first) (first.files file)
          (g.G.Gatherer.has c.loop-offset.gatherer) rows c.loop-offset.bases.items before c.loop-offset.offset at
          c.blocks_are_judged_alone.ensures c.blocks_are_read_as_written.ensures c.requires.shape c.loop-offset.invariant.whole
          c.loop-offset-test.true c.bytes_from-bytes.result.now shown bytes c.in-Some.sectors (g.G.Gatherer.has c.gather_block.new.gatherer)
          c.gather_block.new.bases.items gathers framed.0 framed.1 framed.2;
    }

pub returns-in-None-clause-taken : goal.returns-in-None-clause-taken
returns-in-None-clause-taken g c rows before has =
    let now = g.D.Disk.state c.loop-offset.disk in
    let first = g.D.Disk.state c.args.disk.now in
    let file = c.args.listed.now.file in
    let at = c.loop-offset.invariant.behind rows before has in
    let shown = λ (tells : TellsContents first).
    front_still (now.files file) (first.files file) c.loop-offset.piece c.cover.new.piece c.loop-offset.offset (512 * c.args.shape.now.block_sectors)
    c.bytes_from-bytes.result.now (c.loop-offset.invariant.same file)
    (c.in_ok-cover.ensures.shows (tells_still Unchanged first now c.loop-offset.invariant.time tells)) (c.loop-offset.invariant.shows tells)
    c.in_ok-cover.ensures.reach c.bytes_from-bytes.ensures in
    let gathers = subst (λ (n : ℕ). GathersBlock (g.G.Gatherer.has c.gather_block.new.gatherer) rows c.gather_block.new.bases.items (before ++ at.entries)
    c.args.listed.now.id c.loop-offset.offset (found None)
    (block_records c.args.shape.now n (lsn_number c.args.listed.now.id c.loop-offset.offset 0) c.bytes_from-bytes.result.now))
    c.loop-offset.invariant.same_streams (rw c.in-None.is at (c.in_ok-sectors.ensures.exact rows (before ++ at.entries) at.taken)) in
    is_closed c.args.shape.now (vec_len c.args.bases.now) c.args.listed.now.id (TellsContents first) (first.files file)
    (g.G.Gatherer.has c.loop-offset.gatherer) rows c.loop-offset.bases.items before c.loop-offset.offset at
    c.blocks_are_judged_alone.ensures c.blocks_are_read_as_written.ensures c.requires.shape c.loop-offset.invariant.whole
    c.loop-offset-test.true c.bytes_from-bytes.result.now shown (g.G.Gatherer.has c.gather_block.new.gatherer) c.gather_block.new.bases.items gathers

pub returns-after-loop-offset-clause-taken : goal.returns-after-loop-offset-clause-taken
returns-after-loop-offset-clause-taken g c rows before has =
    let first = g.D.Disk.state c.args.disk.now in
    is_full c.args.shape.now (vec_len c.args.bases.now) c.args.listed.now.id (TellsContents first) (first.files c.args.listed.now.file)
    (g.G.Gatherer.has c.loop-offset.gatherer) rows c.loop-offset.bases.items before c.loop-offset.offset
    (c.loop-offset.invariant.behind rows before has) (omega (arith, c.loop-offset-test.false))

pub returns-in_err-sectors-clause-told : goal.returns-in_err-sectors-clause-told
returns-in_err-sectors-clause-told g c rows before has =
    let p = err_from_is_err_and c.from_residual-in_err-sectors.result c.from_residual-in_err-sectors.ensures.1 in
    let at = c.loop-offset.invariant.behind rows before has in
    let gathers = subst (λ (n : ℕ). GathersBlock (g.G.Gatherer.has c.gather_block.new.gatherer) rows c.gather_block.new.bases.items (before ++ at.entries)
    c.args.listed.now.id c.loop-offset.offset (Err c.in_err-sectors.field-0.0)
    (block_records c.args.shape.now n (lsn_number c.args.listed.now.id c.loop-offset.offset 0) c.bytes_from-bytes.result.now))
    c.loop-offset.invariant.same_streams (c.in_err-sectors.ensures.exact rows (before ++ at.entries) at.taken) in
    rw (p.1, p.2) (block_told c.blocks_are_judged_alone.ensures c.blocks_are_read_as_written.ensures c.args.shape.now (vec_len c.args.bases.now)
    c.args.listed.now.id c.loop-offset.offset c.bytes_from-bytes.result.now c.requires.shape c.loop-offset.invariant.whole
    c.loop-offset-test.true (g.G.Gatherer.has c.gather_block.new.gatherer) rows c.gather_block.new.bases.items (before ++ at.entries)
    c.in_err-sectors.field-0.0 gathers)
