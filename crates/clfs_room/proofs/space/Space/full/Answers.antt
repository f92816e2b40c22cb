use Rattle.std.proofs.Common.{sym, arith}
use Rattle.clfs_room.proofs.Grown.{not_full, full_by}
use Rattle.clfs_room.proofs.space.Space.full.Goals as goal

pub returns-then-reserved-need : goal.returns-then-reserved-need
returns-then-reserved-need c = sym (not_full c.args.self.now c.args.need
    (omega (arith, c.if-reserved-need.true, c.reserved-reserved.ensures.value, c.room_for-free.ensures.free)))

pub returns : goal.returns
returns c = full_by c.args.self.now c.args.need _ _ c.room_for-free.ensures.free c.reserved-reserved.ensures.value c.if-reserved-need.false
