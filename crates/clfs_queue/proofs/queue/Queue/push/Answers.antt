use Rattle.clfs_queue.proofs.Words.{◌≡◌, ℕ, ◌<◌, ◌≤◌, length, refl, ap, sym, ◌∙◌, subst, arith, lsn_number, IsWithin, place_after, longest, FitsAt, LogEntry}
use Rattle.clfs_queue.proofs.Words.{Place, placed_record, Queued, HasRoomFor}
use Rattle.clfs_lsn.specs.Spelling.{BaseFits}
use Rattle.clfs_queue.proofs.Shown.{shown}
use Rattle.clfs_queue.specs.Queued.{next_lsn}
use Rattle.clfs_queue.proofs.Taking.{next_place, header_room, taking, kept_pushed}
use Rattle.clfs_queue.proofs.queue.Queue.push.Goals as goal

pub open_block-used-requires : goal.open_block-used-requires
open_block-used-requires c =
    let i = c.self.inside in
    let n = length c.args.bytes.now in
    let q : Queued = shown i in
    let long : n ≤ longest q.shape = subst (λ (v : Queued). n ≤ longest v.shape) (sym c.self.view_is) c.requires.len in
    let room : HasRoomFor q n = subst (λ (v : Queued). HasRoomFor v n) (sym c.self.view_is) c.requires.room in
    header_room q i.buffer.items i.sealed_len _ _ n c.self.invariant long room

pub push_record-requires-clause-place : goal.push_record-requires-clause-place
push_record-requires-clause-place c =
    let i = c.self.inside in
    let n = length c.args.bytes.now in
    let q : Queued = shown i in
    let long : n ≤ longest q.shape = subst (λ (v : Queued). n ≤ longest v.shape) (sym c.self.view_is) c.requires.len in
    let room : HasRoomFor q n = subst (λ (v : Queued). HasRoomFor v n) (sym c.self.view_is) c.requires.room in
    (taking q i.buffer.items i.sealed_len _ _ n c.self.invariant long room _ _ _ c.open_block-used.ensures.begun c.open_block-used.ensures.open
    c.open_block-used.ensures.capacity).1.length_is

pub push_record-requires-clause-room : goal.push_record-requires-clause-room
push_record-requires-clause-room c =
    let i = c.self.inside in
    let n = length c.args.bytes.now in
    let q : Queued = shown i in
    let long : n ≤ longest q.shape = subst (λ (v : Queued). n ≤ longest v.shape) (sym c.self.view_is) c.requires.len in
    let room : HasRoomFor q n = subst (λ (v : Queued). HasRoomFor v n) (sym c.self.view_is) c.requires.room in
    (taking q i.buffer.items i.sealed_len _ _ n c.self.invariant long room _ _ _ c.open_block-used.ensures.begun c.open_block-used.ensures.open
    c.open_block-used.ensures.capacity).1.room

pub invariant_of-self : goal.invariant_of-self
invariant_of-self c =
    let i = c.self.inside in
    let bytes = c.args.bytes.now in
    let fields = c.args.fields.now in
    let n = length bytes in
    let used = c.open_block-used.result in
    let q : Queued = shown i in
    let long : n ≤ longest q.shape = subst (λ (v : Queued). n ≤ longest v.shape) (sym c.self.view_is) c.requires.len in
    let room : HasRoomFor q n = subst (λ (v : Queued). HasRoomFor v n) (sym c.self.view_is) c.requires.room in
    let previous : fields.previous < next_lsn q n = subst (λ (v : Queued). fields.previous < next_lsn v n) (sym c.self.view_is) c.requires.previous in
    let undo_next : fields.undo_next < next_lsn q n = subst (λ (v : Queued). fields.undo_next < next_lsn v n) (sym c.self.view_is) c.requires.undo_next in
    let base : BaseFits fields.kind (next_lsn q n) fields.new_base =
    subst (λ (v : Queued). BaseFits fields.kind (next_lsn v n) fields.new_base) (sym c.self.view_is) c.requires.new_base in
    let taken = taking q i.buffer.items i.sealed_len _ _ n c.self.invariant long room _ _ _ c.open_block-used.ensures.begun c.open_block-used.ensures.open
    c.open_block-used.ensures.capacity in
    let place : place_after q.shape q.place n ≡ next_place q.place used n = taken.1.place in
    let value : c.place_after-lsn.result ≡ next_place q.place used n = c.place_after-lsn.ensures.value ∙ place in
    let lsn : c.place_after-lsn.result.0 ≡ lsn_number q.place.container q.place.offset q.place.records = ap (λ (x : ℕ × Place). x.0) value in
    let entry : LogEntry = placed_record c.place_after-lsn.result.0 fields bytes in
    let own : next_lsn q n ≡ c.place_after-lsn.result.0 = ap (λ (x : ℕ × Place). x.0) (sym c.place_after-lsn.ensures.value) in
    let fits : FitsAt c.place_after-lsn.result.0 entry.stream entry = record {
      at = refl;
      some_stream = c.requires.stream;
      stream = omega arith;
      bytes = omega (arith, long, c.self.invariant.shape.largest_block);
      previous = omega (arith, previous, own);
      undo_next = omega (arith, undo_next, own);
      new_base = subst (λ (k : ℕ). BaseFits fields.kind k fields.new_base) own base;
    } in
    let all = kept_pushed q i.buffer.items i.sealed_len _ _ n c.self.invariant long room used _ taken.0 c.open_block-used.new.bytes.items c.push_record.new.buffer.items entry taken.1
    c.push_record.ensures.place c.push_record.ensures.before (c.push_record.ensures.payload c.place_after-lsn.result.0) _ c.push_record.ensures.capacity
    c.open_block-used.ensures.capacity (subst (λ (k : ℕ). FitsAt k entry.stream entry) lsn fits)
    (subst (λ (p : Place). IsWithin q.shape p) (ap (λ (x : ℕ × Place). x.1) value) c.place_after-lsn.ensures.within) in
    rw (ap (λ (x : ℕ × Place). x.1) value, c.next-self-inside.ensures) all
