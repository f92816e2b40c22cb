use Rattle.clfs_restore.proofs.Words.{◌≡◌, ℕ, length, refl, ap, subst, arith, Shape, shape_of, below, IsPiece}
use Rattle.clfs_restore.proofs.Kept.{piece_kept, piece_full, piece_open}
use Rattle.clfs_restore.proofs.piece.fill_piece.Goals as goal

pub overflow_cast-end : goal.overflow_cast-end
overflow_cast-end c =
    let kept = piece_kept c.args.archives.now c.args.archive.now c.args.up_to c.args.id c.requires.readable c.shape_of-shape.result (length c.as_slice.result.now)
    c.container_bytes-blocks.result.now c.clear.new.self.items c.put_blocks_below.new.out.items c.shape_of-shape.ensures (ap length c.as_slice.ensures)
    c.container_bytes-blocks.ensures.exact c.clear.ensures.items c.in_ok-put_blocks_below.ensures.kept in
    let short = c.blocks_in_a_row_are_open.ensures.short (shape_of c.args.archive.now.image) (length c.args.archive.now.image.streams) c.args.id
    (below c.args.up_to c.requires.readable.0) c.put_blocks_below.new.out.items kept.0 c.requires.image.shape kept.1 in
    omega (arith, short.0, c.len-end.ensures, c.requires.image.shape.largest_container)

pub returns-in_ok-push : goal.returns-in_ok-push
returns-in_ok-push c =
    let kept = piece_kept c.args.archives.now c.args.archive.now c.args.up_to c.args.id c.requires.readable c.shape_of-shape.result (length c.as_slice.result.now)
    c.container_bytes-blocks.result.now c.clear.new.self.items c.put_blocks_below.new.out.items c.shape_of-shape.ensures (ap length c.as_slice.ensures)
    c.container_bytes-blocks.ensures.exact c.clear.ensures.items c.in_ok-put_blocks_below.ensures.kept in
    let short = c.blocks_in_a_row_are_open.ensures.short (shape_of c.args.archive.now.image) (length c.args.archive.now.image.streams) c.args.id
    (below c.args.up_to c.requires.readable.0) c.put_blocks_below.new.out.items kept.0 c.requires.image.shape kept.1 in
    let end : length c.put_blocks_below.new.out.items ≡ c.len-end.result = omega (arith, c.len-end.ensures) in
    let size = ap (λ (s : Shape). s.container_sectors) c.shape_of-shape.ensures in
    subst (λ (n : ℕ). IsPiece c.args.archives.now c.args.archive.now c.args.up_to c.args.id c.push.new.self.items n) end
    (piece_open c.blocks_in_a_row_are_open.ensures.short c.blocks_in_a_row_are_open.ensures.whole c.args.archives.now c.args.archive.now c.args.up_to c.args.id
    c.requires.image.shape c.requires.readable.0 c.requires.readable.1 c.put_blocks_below.new.out.items c.put_blocks_below.new.out.items c.push.new.self.items refl
    c.in_ok-push.ensures.items kept (omega (arith, c.if-end-shape.true, c.len-end.ensures, size)))

pub returns-else-end-shape : goal.returns-else-end-shape
returns-else-end-shape c =
    let kept = piece_kept c.args.archives.now c.args.archive.now c.args.up_to c.args.id c.requires.readable c.shape_of-shape.result (length c.as_slice.result.now)
    c.container_bytes-blocks.result.now c.clear.new.self.items c.put_blocks_below.new.out.items c.shape_of-shape.ensures (ap length c.as_slice.ensures)
    c.container_bytes-blocks.ensures.exact c.clear.ensures.items c.in_ok-put_blocks_below.ensures.kept in
    let short = c.blocks_in_a_row_are_open.ensures.short (shape_of c.args.archive.now.image) (length c.args.archive.now.image.streams) c.args.id
    (below c.args.up_to c.requires.readable.0) c.put_blocks_below.new.out.items kept.0 c.requires.image.shape kept.1 in
    let end : length c.put_blocks_below.new.out.items ≡ c.len-end.result = omega (arith, c.len-end.ensures) in
    let size = ap (λ (s : Shape). s.container_sectors) c.shape_of-shape.ensures in
    subst (λ (n : ℕ). IsPiece c.args.archives.now c.args.archive.now c.args.up_to c.args.id c.put_blocks_below.new.out.items n) end
    (piece_full c.blocks_in_a_row_are_open.ensures.short c.blocks_in_a_row_are_open.ensures.whole c.args.archives.now c.args.archive.now c.args.up_to c.args.id
    c.requires.image.shape c.requires.readable.0 c.requires.readable.1 c.put_blocks_below.new.out.items c.put_blocks_below.new.out.items refl kept
    (omega (arith, c.if-end-shape.false, c.len-end.ensures, size)))
