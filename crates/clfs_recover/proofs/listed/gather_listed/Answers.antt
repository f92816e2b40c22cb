use Rattle.clfs_recover.proofs.Words.{ℕ, ◌+◌, ◌++◌, length, get_or, vec_len, refl, subst, ◌∙◌, arith, err_from_is_err_and, Unchanged, TellsContents, TellsBlock}
use Rattle.clfs_recover.proofs.Listing.{starts_listed, all_listed, goes_on_listed, taken_otherwise, refused_otherwise, listed_refused}
use Rattle.clfs_recover.proofs.Told.{listed_told}
use Rattle.clfs_recover.proofs.Disks.{tells_still, steady_still, no_time}
use Rattle.clfs_recover.proofs.listed.gather_listed.Goals as goal

pub loop-i-init : goal.loop-i-init
loop-i-init g c =
    let first = g.D.Disk.state c.args.disk.now in record {
      same_room = refl;
      is_end = (refl, omega arith);
      same_streams = refl;
      same = λ file. refl;
      time = no_time first;
      steady = λ steady. refl;
      behind = λ rows before has.
          starts_listed c.args.shape.now (vec_len c.args.bases.now) c.args.first (TellsContents first) first.files c.args.files.now
          (g.G.Gatherer.has c.args.gatherer.now) rows c.args.bases.now.items before has;
    }

pub returns-clause-taken : goal.returns-clause-taken
returns-clause-taken g c rows before has =
    let first = g.D.Disk.state c.args.disk.now in
    all_listed c.args.shape.now (vec_len c.args.bases.now) c.args.first (TellsContents first) first.files c.args.files.now
    (g.G.Gatherer.has c.loop-i.gatherer) rows c.loop-i.bases.items before c.loop-i.i c.loop-i.end (c.loop-i.invariant.behind rows before has)
    (omega (arith, c.loop-i-test.false))

pub returns-in_err-end-clause-refused : goal.returns-in_err-end-clause-refused
returns-in_err-end-clause-refused g c tells rows before listed has are =
    let p = err_from_is_err_and c.from_residual.result c.from_residual.ensures.1 in
    let first = g.D.Disk.state c.args.disk.now in
    let now = g.D.Disk.state c.loop-i.disk in
    let told = tells_still Unchanged first now c.loop-i.invariant.time tells in
    let at = c.loop-i.invariant.behind rows before has in
    let number = get_or c.args.files.now c.loop-i.i 0 in
    rw (p.1, p.2) (listed_refused c.open_blocks_are_one_list.ensures.one c.open_blocks_are_one_list.ensures.whole c.args.shape.now
    (vec_len c.args.bases.now) first.files c.in_err-end.field-0.0 c.args.files.now c.loop-i.i c.args.first at.blocks at.entries listed (at.stand tells)
    at.records c.loop-i-test.true are
    (refused_otherwise c.in_err-end.field-0.0 c.args.shape.now (c.args.first + c.loop-i.i) (vec_len c.loop-i.bases) (vec_len c.args.bases.now)
    (now.files number) (first.files number) c.loop-i.invariant.same_streams (c.loop-i.invariant.same number)
    (λ blocks are_open. c.in_err-end.ensures.refused told rows (before ++ at.entries) blocks at.taken are_open)))

pub loop-i-preserved : goal.loop-i-preserved
loop-i-preserved g c = record {
  same_room = c.in_ok-end.ensures.room ∙ c.loop-i.invariant.same_room;
  is_end = c.in_ok-end.ensures.end;
  same_streams = c.in_ok-end.ensures.streams ∙ c.loop-i.invariant.same_streams;
  same = λ f. c.in_ok-end.ensures.same f ∙ c.loop-i.invariant.same f;
  time = c.calls_join.ensures.reads c.args.disk.now c.loop-i.disk c.gather_container.new.disk c.loop-i.invariant.time c.in_ok-end.ensures.time;
  steady = λ steady. (c.in_ok-end.ensures.steady (steady_still Unchanged (g.D.Disk.state c.args.disk.now) (g.D.Disk.state c.loop-i.disk) c.loop-i.invariant.time steady)).1
      ∙ c.loop-i.invariant.steady steady;
  behind = λ rows before has.
      let first = g.D.Disk.state c.args.disk.now in
      let now = g.D.Disk.state c.loop-i.disk in
      let at = c.loop-i.invariant.behind rows before has in
      let number = get_or c.args.files.now c.loop-i.i 0 in
      goes_on_listed c.args.shape.now (vec_len c.args.bases.now) c.args.first (TellsContents first) first.files c.args.files.now
      (g.G.Gatherer.has c.loop-i.gatherer) rows c.loop-i.bases.items before c.loop-i.i c.loop-i.end at c.loop-i-test.true
      (g.G.Gatherer.has c.gather_container.new.gatherer) c.gather_container.new.bases.items c.in_ok-end.end
      (taken_otherwise c.args.shape.now (c.args.first + c.loop-i.i) (vec_len c.loop-i.bases) (vec_len c.args.bases.now) (TellsContents now)
      (TellsContents first) (now.files number) (first.files number) (g.G.Gatherer.has c.gather_container.new.gatherer) rows
      c.gather_container.new.bases.items (before ++ at.entries) c.in_ok-end.end c.loop-i.invariant.same_streams
      (λ tells. tells_still Unchanged first now c.loop-i.invariant.time tells) (c.loop-i.invariant.same number)
      (c.in_ok-end.ensures.taken rows (before ++ at.entries) at.taken));
}

pub returns-in_err-end-clause-told : goal.returns-in_err-end-clause-told
returns-in_err-end-clause-told g c rows before has =
    let p = err_from_is_err_and c.from_residual.result c.from_residual.ensures.1 in
    let at = c.loop-i.invariant.behind rows before has in
    rw (p.1, p.2) (listed_told c.args.shape.now (vec_len c.args.bases.now) c.args.first c.loop-i.i (length c.args.files.now) c.in_err-end.field-0.0
    c.loop-i-test.true (subst (λ (n : ℕ). TellsBlock c.args.shape.now n (c.args.first + c.loop-i.i) 1 c.in_err-end.field-0.0) c.loop-i.invariant.same_streams
    (c.in_err-end.ensures.told rows (before ++ at.entries) at.taken)))
