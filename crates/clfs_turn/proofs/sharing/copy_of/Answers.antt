use Rattle.std.proofs.Common.{rules}
use Rattle.clfs_turn.proofs.SeatSteps.{copies}
use Rattle.clfs_turn.proofs.sharing.copy_of.Goals as goal

pub split_seat-requires : goal.split_seat-requires
split_seat-requires g c =
    let m = g.V.Logged in (
      search rules,
      search rules,
      copies m.entries m.client_of m.opening m.reached c.args.table.now.key _ _,
    )
