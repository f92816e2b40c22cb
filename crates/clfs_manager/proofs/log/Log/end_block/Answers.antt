use Rattle.clfs_manager.proofs.Words.{◌≡◌, ◌*◌, ◌≤◌, refl, sym, ap, subst, ◌∙◌, arith, block_end, frontier, sealed, Place, AreSealed, State, block_start}
use Rattle.clfs_manager.proofs.Words.{heads_of, Queued}
use Rattle.clfs_manager.proofs.Ending.{Ends, ends, sealed_place}
use Rattle.clfs_manager.proofs.Numbers.{hold_in_place, hold_up_to_end}
use Rattle.clfs_manager.proofs.log.Log.end_block.Goals as goal

pub returns-clause-ended : goal.returns-clause-ended
returns-clause-ended c =
    let old = c.args.self.now in
    let s : State = old.state.value in
    let laid_log = c.requires.laid in
    let holds = laid_log.holds in
    let place : c.place-place.result ≡ s.place = c.place-place.ensures.place ∙ holds.place in
    let block = c.end_of_open.result in
    let some : 1 ≤ s.place.records = omega (arith, c.if-place-eq0.false, ap (λ (p : Place). p.records) place) in
    let is : Ends s block = ends s block laid_log.laid some (c.end_of_open.ensures.last ∙ ap frontier place)
    (c.end_of_open.ensures.end ∙ ap (λ (p : Place). 512 * block_end p) place)
    (c.laid_blocks_end_at_the_place.ensures.newest s laid_log.laid some)
    (c.laid_blocks_end_at_the_place.ensures.end s laid_log.laid some) in
    let told = c.push.ensures.told old.tables.low (block_start s.place) (block_start (sealed s.place)) (heads_of s) holds.sealed is.is is.behind is.below is.start is.own in
    let at : c.seal.new.self.place ≡ sealed s.place =
    ap (λ (q : Queued). q.place) c.seal.ensures.sealed ∙ sealed_place old.queue (omega (arith, some, ap (λ (p : Place). p.records) holds.place)) ∙ ap sealed holds.place in
    record {
      queue = c.seal.ensures.sealed;
      sealed = subst (λ (p : Place). AreSealed old.tables.low (block_start p) c.push.new.self.blocks (heads_of s)) (sym at) told;
      tail = c.push.ensures.tail;
      few = c.push.ensures.few old.tables.low (omega (
        arith,
        holds.low,
        hold_in_place s laid_log.laid.ranges (hold_up_to_end s laid_log.laid.records laid_log.laid.waiting laid_log.laid.tail),
        c.end_of_open.ensures.last,
        ap frontier place,
        some,
      ));
      room = omega (arith, c.push.ensures.room);
      tables = refl;
      areas = refl;
      policies = refl;
      physical = refl;
      buffers = refl;
      state = refl;
      broken = refl;
    }
