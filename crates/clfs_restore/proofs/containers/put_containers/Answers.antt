use Rattle.clfs_restore.proofs.Words.{ℕ, ◌+◌, List, ◌++◌, length, map, take, get_or, Some, None, sym, ◌∙◌, ap, subst, append_assoc, arith}
use Rattle.clfs_restore.proofs.Words.{err_from_is_err_and, flat_map, AreWhole, stored_in, piece_bytes, shape_of, TellsContainer, pieces_from}
use Rattle.std.proofs.lemmas.List.{take_all}
use Rattle.clfs_archive_form.specs.Judging.{Judging}
use Rattle.clfs_restore.proofs.Joining.{tells_still, joined, goes_refused}
use Rattle.clfs_restore.proofs.Pieces.{one_more}
use Rattle.clfs_restore.proofs.Told.{among_containers}
use Rattle.clfs_restore.proofs.containers.put_containers.Goals as goal

pub returns-in_err-put_container-clause-blocks : goal.returns-in_err-put_container-clause-blocks
returns-in_err-put_container-clause-blocks g c told blocks readable =
    let p = err_from_is_err_and c.from_residual-in_err-put_container.result c.from_residual-in_err-put_container.ensures.1 in
    let L = c.loop-i in
    let first = g.D.Disk.state c.args.manager.now.1 in
    let now = g.D.Disk.state L.manager.1 in
    let n = get_or c.args.numbers.now L.i 0 in
    let at = readable.read L.i c.loop-i-test.true in
    let whole = subst (λ (j : Judging). AreWhole j.shape.container_sectors (now.files n) (blocks n)) (sym L.invariant.judge)
    (subst (λ (l : List ℕ). AreWhole c.args.image.now.container_sectors l (blocks n)) (sym (L.invariant.reads.same n)) (readable.whole L.i c.loop-i-test.true)) in
    let read = ap (λ (j : Judging). stored_in j.shape j.streams (c.args.from + L.i) 0 (blocks n)) L.invariant.judge ∙ at.1 in
    let goes = c.in_err-put_container.ensures.blocks (tells_still first now L.invariant.reads.time told) (blocks n) at.0 whole read in
    rw (p.1, p.2) (goes_refused c.in_err-put_container.field-0.0 _ _ _ _ _ _ goes)

pub loop-i-preserved : goal.loop-i-preserved
loop-i-preserved g c =
    let L = c.loop-i in
    let first = g.D.Disk.state c.args.manager.now.1 in
    let now = g.D.Disk.state L.manager.1 in
    let new = g.D.Disk.state c.put_container.new.manager.1 in
    let done = c.in_ok-put_container.ensures in
    let n = get_or c.args.numbers.now L.i 0 in
    record {
      judge = done.same ∙ L.invariant.judge;
      room = done.room ∙ L.invariant.room;
      before = done.before ∙ L.invariant.before;
      short = omega (arith, done.length, L.invariant.short);
      reads = joined None c.args.manager.now.0 L.manager.0 c.put_container.new.manager.0 first now new L.invariant.reads done.reads
          (c.calls_join.ensures.reads c.args.manager.now.1 L.manager.1 c.put_container.new.manager.1 L.invariant.reads.time done.reads.time);
      blocks = λ told blocks readable.
          let at = readable.read L.i c.loop-i-test.true in
          let whole = subst (λ (j : Judging). AreWhole j.shape.container_sectors (now.files n) (blocks n)) (sym L.invariant.judge)
          (subst (λ (l : List ℕ). AreWhole c.args.image.now.container_sectors l (blocks n)) (sym (L.invariant.reads.same n)) (readable.whole L.i c.loop-i-test.true)) in
          let read = ap (λ (j : Judging). stored_in j.shape j.streams (c.args.from + L.i) 0 (blocks n)) L.invariant.judge ∙ at.1 in
          let old = c.args.draft.now.archive in
          let piece = piece_bytes (c.args.from + L.i, blocks n) in
          done.blocks (tells_still first now L.invariant.reads.time told) (blocks n) at.0 whole read
          ∙ ap (λ (l : List ℕ). l ++ piece) (L.invariant.blocks told blocks readable)
          ∙ append_assoc old (flat_map piece_bytes (pieces_from c.args.from (map blocks (take L.i c.args.numbers.now)))) piece
          ∙ ap (λ (l : List ℕ). old ++ l) (sym (one_more c.args.from blocks c.args.numbers.now L.i c.loop-i-test.true));
    }

pub returns-clause-blocks : goal.returns-clause-blocks
returns-clause-blocks g c told blocks readable =
    let L = c.loop-i in
    L.invariant.blocks told blocks readable
    ∙ ap (λ (l : List ℕ). c.args.draft.now.archive ++ flat_map piece_bytes (pieces_from c.args.from (map blocks l)))
    (take_all L.i c.args.numbers.now (omega (arith, c.loop-i-test.false)))

pub returns-in_err-put_container-clause-reads : goal.returns-in_err-put_container-clause-reads
returns-in_err-put_container-clause-reads g c =
    let p = err_from_is_err_and c.from_residual-in_err-put_container.result c.from_residual-in_err-put_container.ensures.1 in
    let L = c.loop-i in
    let reads = c.in_err-put_container.ensures.reads in
    rw (p.1, p.2) (joined (Some c.in_err-put_container.field-0.0) c.args.manager.now.0 L.manager.0 c.put_container.new.manager.0
    (g.D.Disk.state c.args.manager.now.1) (g.D.Disk.state L.manager.1) (g.D.Disk.state c.put_container.new.manager.1) L.invariant.reads reads
    (c.calls_join.ensures.reads c.args.manager.now.1 L.manager.1 c.put_container.new.manager.1 L.invariant.reads.time reads.time))

pub returns-in_err-put_container-clause-damage : goal.returns-in_err-put_container-clause-damage
returns-in_err-put_container-clause-damage g c =
    let p = err_from_is_err_and c.from_residual-in_err-put_container.result c.from_residual-in_err-put_container.ensures.1 in
    let L = c.loop-i in
    let image = c.args.image.now in
    let refusal = c.in_err-put_container.field-0.0 in
    rw (p.1, p.2) (among_containers (shape_of image) (length image.streams) c.args.from (length c.args.numbers.now) L.i refusal c.loop-i-test.true
    (subst (λ (j : Judging). TellsContainer j.shape j.streams (c.args.from + L.i) 1 refusal) L.invariant.judge c.in_err-put_container.ensures.damage))
