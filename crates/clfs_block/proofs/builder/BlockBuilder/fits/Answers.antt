use Rattle.clfs_block.proofs.Words.{◌+◌, ℕ, ◌&&◌, leb, ltb, ap, sym, ◌∙◌, size, sectors, Building}
use Rattle.clfs_block.proofs.Buildings.{content_size}
use Rattle.clfs_block.proofs.builder.BlockBuilder.fits.Goals as goal

pub returns : goal.returns
returns c =
    let shown = c.args.self.now in
    let used_is = content_size c.self.inside.used c.self.inside.buffer.items shown.content c.self.invariant.header (ap
    (λ (b : Building). b.content) c.self.view_is) in
    let room_is = ap (λ (b : Building). b.room) c.self.view_is in
    let records_is = ap (λ (b : Building). b.records) c.self.view_is in
    c.has_room.ensures
    ∙ ap (λ (r : ℕ). ltb r 511 && (leb (sectors (c.self.inside.used + size c.args.len)) c.self.inside.room && leb
    (sectors (c.self.inside.used + size c.args.len)) c.args.left)) records_is
    ∙ ap (λ (r : ℕ). ltb shown.records 511 && (leb (sectors (c.self.inside.used + size c.args.len)) r && leb
    (sectors (c.self.inside.used + size c.args.len)) c.args.left)) room_is
    ∙ ap (λ (u : ℕ). ltb shown.records 511 && (leb (sectors (u + size c.args.len)) shown.room && leb (sectors (u + size c.args.len)) c.args.left)) (sym used_is)
