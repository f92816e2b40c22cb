use Rattle.clfs_block.proofs.Words.{◌+◌, ◌*◌, ℕ, List, cond, length, drop, ap, sym, ◌∙◌, arith, sectors, place_of, Building}
use Rattle.std.proofs.Common.{zero-add}
use Rattle.clfs_block.proofs.Buildings.{content_size, not_sealed, shown_open, pushed_content, same_building}
use Rattle.clfs_block.proofs.builder.BlockBuilder.push.Goals as goal

pub push_payload-requires-clause-room : goal.push_payload-requires-clause-room
push_payload-requires-clause-room c =
    let used_is = content_size c.self.inside.used c.self.inside.buffer.items c.args.self.now.content c.self.invariant.header (ap
    (λ (b : Building). b.content) c.self.view_is) in
    let room_is = ap (λ (b : Building). b.room) c.self.view_is in
    omega (arith, used_is, room_is, c.requires.room, c.self.invariant.memory)

pub invariant_of-self : goal.invariant_of-self
invariant_of-self c =
    let used_is = content_size c.self.inside.used c.self.inside.buffer.items c.args.self.now.content c.self.invariant.header (ap
    (λ (b : Building). b.content) c.self.view_is) in
    let room_is = ap (λ (b : Building). b.room) c.self.view_is in
    let records_is = ap (λ (b : Building). b.records) c.self.view_is in
    let is_open = not_sealed c.self.inside.is_sealed c.self.inside.buffer.items c.args.self.now.sealed (ap
    (λ (b : Building). b.sealed) c.self.view_is) c.requires.sealed in
    let used = c.self.inside.used + length c.args.spelling.now in
    record {
      memory = omega (arith, c.self.invariant.memory, c.push_payload.ensures.capacity);
      largest = c.self.invariant.largest;
      header = omega (arith, c.self.invariant.header);
      fits = omega (arith, used_is, room_is, c.requires.room);
      few = omega (arith, records_is, c.requires.records);
      place = c.push_payload.ensures.place ∙ zero-add (place_of used) ∙ sym (ap (λ b. cond b (512 * sectors used + 1) (place_of used)) is_open);
    }

pub returns : goal.returns
returns c =
    let shown = c.args.self.now in
    let is_open = not_sealed c.self.inside.is_sealed c.self.inside.buffer.items shown.sealed (ap
    (λ (b : Building). b.sealed) c.self.view_is) c.requires.sealed in
    same_building _ _ (ap (λ (b : Building). b.room) c.self.view_is) (ap (λ (b : Building). b.records + 1) c.self.view_is)
    (ap (λ (l : List ℕ). drop 16 l) c.push_payload.ensures.payload
    ∙ pushed_content c.self.inside.used c.self.inside.buffer.items c.args.spelling.now shown.content c.self.invariant.header (ap
    (λ (b : Building). b.content) c.self.view_is))
    (shown_open c.self.inside.is_sealed c.push_payload.new.buffer.items is_open ∙ sym c.requires.sealed)
