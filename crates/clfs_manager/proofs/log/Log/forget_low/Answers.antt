use Rattle.clfs_manager.proofs.Words.{◌≡◌, ℕ, ◌≤◌, refl, sym, ap, subst, ◌∙◌, arith, lsn_number, container_of, AreSealed, State, block_start, heads_of, hold}
use Rattle.clfs_archive.specs.Blocks.{AreFew}
use Rattle.clfs_manager.proofs.MovedBase.{dead_in, sealed_later}
use Rattle.clfs_manager.proofs.log.Log.forget_low.Goals as goal

pub forget_below-requires-clause-dead : goal.forget_below-requires-clause-dead
forget_below-requires-clause-dead c =
    let old = c.args.self.now in
    let holds = c.requires.sound.holds in
    let low : c.from_parts-low.result ≡ lsn_number (container_of (hold old.state.value)) 0 0 =
    c.from_parts-low.ensures ∙ ap (λ (n : ℕ). lsn_number n 0 0) (c.container.ensures.value ∙ ap container_of c.hold.ensures.value) in
    dead_in old.state.value old.tables.streams old.tables.heads c.from_parts-low.result holds.streams holds.heads low

pub returns-clause-forgotten : goal.returns-clause-forgotten
returns-clause-forgotten c =
    let s : State = c.args.self.now.state.value in
    let low : c.from_parts-low.result ≡ lsn_number (container_of (hold s)) 0 0 =
    c.from_parts-low.ensures ∙ ap (λ (n : ℕ). lsn_number n 0 0) (c.container.ensures.value ∙ ap container_of c.hold.ensures.value) in
    record {
      low = omega (arith, c.forget_below.ensures.low, low);
      ends = subst (λ (n : ℕ). AreFew n c.forget_below-2.new.self.blocks) (sym c.forget_below.ensures.low) c.forget_below-2.ensures.few;
    }

pub returns-clause-room : goal.returns-clause-room
returns-clause-room c = record { heads = c.forget_below.ensures.room; areas = refl; ends = omega (arith, c.forget_below-2.ensures.room) }

pub returns-clause-sound : goal.returns-clause-sound
returns-clause-sound c =
    let old = c.args.self.now in
    let s : State = old.state.value in
    let sound = c.requires.sound in
    let holds = sound.holds in
    let low : c.from_parts-low.result ≡ lsn_number (container_of (hold s)) 0 0 =
    c.from_parts-low.ensures ∙ ap (λ (n : ℕ). lsn_number n 0 0) (c.container.ensures.value ∙ ap container_of c.hold.ensures.value) in
    let le : old.tables.low ≤ c.from_parts-low.result = omega (arith, holds.low, low) in
    let sealed = c.forget_below-2.ensures.ended c.from_parts-low.result (block_start s.place) (heads_of s) (omega arith)
    (sealed_later old.tables.low c.from_parts-low.result (block_start s.place) old.archive.blocks (heads_of s) le holds.sealed) in
    record {
      valid = sound.valid;
      storable = sound.storable;
      unbroken = sound.unbroken;
      whole = sound.whole;
      holds = record {
        shape = holds.shape;
        buffers = holds.buffers;
        place = holds.place;
        waiting = holds.waiting;
        records = holds.records;
        streams = c.forget_below.ensures.streams ∙ holds.streams;
        heads = c.forget_below.ensures.heads ∙ holds.heads;
        low = omega (arith, c.forget_below.ensures.low, low);
        areas = holds.areas;
        archive = c.forget_below-2.ensures.tail ∙ holds.archive;
        sealed = subst (λ (n : ℕ). AreSealed n (block_start s.place) c.forget_below-2.new.self.blocks (heads_of s)) (sym c.forget_below.ensures.low) sealed;
        room = λ some. omega (arith, c.forget_below-2.ensures.room, holds.room some);
        policies = holds.policies;
        containers = holds.containers;
        image_shape = holds.image_shape;
        dedicated = holds.dedicated;
        rows = holds.rows;
        listed = holds.listed;
        needed = holds.needed;
      };
    }
