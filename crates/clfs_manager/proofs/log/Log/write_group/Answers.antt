use Rattle.clfs_manager.proofs.Words.{◌≡◌, ℕ, ◌+◌, refl, sym, ap, subst, ◌∙◌, arith, [], length, IsOk, Place, AreSealed, State, block_start, flush, heads_of}
use Rattle.clfs_manager.proofs.Words.{with_broken, Newest, Queued, shape_of, CallsDisk}
use Rattle.clfs_queue.specs.Queued.{seal}
use Rattle.clfs_manager.proofs.ClosedPlace.{closed_place, flush_is, is_ended, is_closed_of}
use Rattle.clfs_manager.proofs.Crashes.{written_by_group, group_of_answer}
use Rattle.clfs_manager.proofs.FlushedLog.{done, hold_closed, none_unflushed}
use Rattle.clfs_manager.proofs.Called.{calls_fine, calls_named}
use Rattle.clfs_manager.proofs.log.Log.write_group.Goals as goal

pub send_group-requires : goal.send_group-requires
send_group-requires g c = record {
  ended = record { before = c.args.self.now; laid = c.requires.laid; ended = c.end_block.ensures.ended; closed = c.end_block.ensures.closed };
}

pub returns-clause-holds : goal.returns-clause-holds
returns-clause-holds g c =
    let old = c.args.self.now in
    let s : State = old.state.value in
    let firm = c.requires.laid in
    let holds = firm.holds in
    let ended = c.end_block.ensures.ended in
    let q = is_ended old.queue in
    let state : c.flushed-self.result.value ≡ done s = c.flushed-self.ensures ∙ ap (λ (t : State). flush t) (ap (λ t. t.value) ended.state) ∙ flush_is s in
    let queue : c.written.new.self ≡ record (seal old.queue) { waiting = []; records = [] } =
    c.written.ensures ∙ ap (λ (u : Queued). record u { waiting = []; records = [] }) ended.queue in
    let place : c.end_block.new.self.queue.place ≡ closed_place s.place = ap (λ (u : Queued). u.place) ended.queue ∙ q.place ∙ ap closed_place holds.place in
    rw state (record {
      shape = ap (λ (u : Queued). u.shape) queue ∙ q.shape ∙ holds.shape;
      buffers = ap (λ (u : Queued). u.buffers) queue ∙ q.buffers ∙ holds.buffers;
      place = ap (λ (u : Queued). u.place) queue ∙ q.place ∙ ap closed_place holds.place;
      waiting = ap (λ (u : Queued). u.waiting) queue;
      records = ap (λ (u : Queued). u.records) queue ∙ sym (none_unflushed s firm.laid);
      streams = ap (λ t. t.streams) ended.tables ∙ holds.streams;
      heads = ap (λ t. t.heads) ended.tables ∙ holds.heads;
      low = omega (arith, ap (λ t. t.low) ended.tables, holds.low, hold_closed s firm.laid.ranges);
      areas = ap (λ a. a.areas) ended.areas ∙ holds.areas;
      archive = ended.tail ∙ holds.archive;
      sealed = rw (ap (λ t. t.low) ended.tables) (subst (λ (p : Place). AreSealed old.tables.low (block_start p) c.end_block.new.self.archive.blocks (heads_of s)) place ended.sealed);
      room = λ some. absurd (omega (arith, some, (is_closed_of s.shape s.place firm.laid.ranges.place).records));
      policies = ended.policies ∙ holds.policies;
      containers = ap (λ (n : Newest). n.image.containers) ended.physical ∙ holds.containers;
      image_shape = ap (λ (n : Newest). shape_of n.image) ended.physical ∙ holds.image_shape;
      dedicated = ap (λ (n : Newest). n.image.dedicated) ended.physical ∙ holds.dedicated;
      rows = ap (λ (n : Newest). length n.image.streams) ended.physical ∙ holds.rows;
      listed = ap (λ (n : Newest). n.image.first + length n.image.files) ended.physical ∙ holds.listed
          ∙ ap (λ (k : ℕ). k + 1) (sym (is_closed_of s.shape s.place firm.laid.ranges.place).container);
      needed = omega (arith, ap (λ (n : Newest). n.image.first) ended.physical, holds.needed, hold_closed s firm.laid.ranges);
    })

pub returns-in-Err-clause-group : goal.returns-in-Err-clause-group
returns-in-Err-clause-group g c =
    let ended = c.end_block.ensures.ended in
    group_of_answer (IsOk c.send_group.result) _ (g.D.Disk.state c.args.disk.now) (g.D.Disk.state c.send_group.new.disk) _ c.args.self.now.state.value _ c.args.self.now.physical
    (λ is. absurd (cc is)) (ap (λ t. t.value) ended.state) ended.physical c.send_group.ensures.group

pub returns-clause-group : goal.returns-clause-group
returns-clause-group g c =
    let ended = c.end_block.ensures.ended in
    group_of_answer (IsOk c.send_group.result) _ (g.D.Disk.state c.args.disk.now) (g.D.Disk.state c.send_group.new.disk) _ c.args.self.now.state.value _ c.args.self.now.physical
    (λ is. subst (λ r. IsOk r) (sym c.in_default.is) refl) (ap (λ t. t.value) ended.state) ended.physical c.send_group.ensures.group

pub returns-clause-written : goal.returns-clause-written
returns-clause-written g c =
    let ended = c.end_block.ensures.ended in
    written_by_group (IsOk c.send_group.result) (g.D.Disk.state c.args.disk.now) (g.D.Disk.state c.send_group.new.disk) c.args.self.now.state.value c.args.self.now.physical
    _ (subst (λ r. IsOk r) (sym c.in_default.is) refl) ended.physical
    (group_of_answer (IsOk c.send_group.result) (IsOk c.send_group.result) (g.D.Disk.state c.args.disk.now) (g.D.Disk.state c.send_group.new.disk) _ c.args.self.now.state.value _ c.args.self.now.physical
    (λ is. is) (ap (λ t. t.value) ended.state) ended.physical c.send_group.ensures.group)

pub returns-clause-state : goal.returns-clause-state
returns-clause-state g c = c.flushed-self.ensures ∙ ap (λ t. flush t.value) c.end_block.ensures.ended.state

pub returns-clause-same : goal.returns-clause-same
returns-clause-same g c =
    let ended = c.end_block.ensures.ended in
    record {
      few = λ is. rw (ap (λ t. t.low) ended.tables) (ended.few is);
      room = ended.room;
      tables = ended.tables;
      areas = ended.areas;
      policies = ended.policies;
      physical = ended.physical;
      buffers = ended.buffers;
      broken = ended.broken;
    }

pub returns-in-Err-clause-broken : goal.returns-in-Err-clause-broken
returns-in-Err-clause-broken g c = record {
  broken = c.break_log.ensures.broken.broken;
  state = c.break_log.ensures.broken.state ∙ ap (λ t. with_broken t.value) c.end_block.ensures.ended.state;
}

pub returns-clause-lengths : goal.returns-clause-lengths
returns-clause-lengths g c = c.send_group.ensures.lengths

pub returns-in-Err-clause-lengths : goal.returns-in-Err-clause-lengths
returns-in-Err-clause-lengths g c = c.send_group.ensures.lengths

pub returns-in-Err-clause-calls : goal.returns-in-Err-clause-calls
returns-in-Err-clause-calls g c =
    let image = c.end_block.new.self.physical.image in
    let before = g.D.Disk.state c.args.disk.now in
    let after = g.D.Disk.state c.send_group.new.disk in
    calls_named _ c.end_block.new.self.physical c.args.self.now.physical before after c.end_block.ensures.ended.physical
    (subst (λ r. CallsDisk r image before after) c.in-Err.is c.send_group.ensures.calls)

pub returns-clause-calls : goal.returns-clause-calls
returns-clause-calls g c =
    let image = c.end_block.new.self.physical.image in
    let before = g.D.Disk.state c.args.disk.now in
    let after = g.D.Disk.state c.send_group.new.disk in
    calls_named _ c.end_block.new.self.physical c.args.self.now.physical before after c.end_block.ensures.ended.physical
    (calls_fine c.send_group.result tt image before after (subst (λ r. IsOk r) (sym c.in_default.is) refl) c.send_group.ensures.calls)
