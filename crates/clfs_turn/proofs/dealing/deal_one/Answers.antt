use Rattle.std.proofs.Common.{rules}
use Rattle.clfs_turn.proofs.SeatSteps.{deals_at}
use Rattle.clfs_turn.proofs.dealing.deal_one.Goals as goal

pub split_seat-place-requires : goal.split_seat-place-requires
split_seat-place-requires g c =
    let m = g.V.Logged in (
      search rules,
      search rules,
      deals_at m.entries m.client_of m.opening m.reached c.args.table.now.key _ c.args.client c.args.dealer.now.me c.requires.dealer c.requires.apart,
    )
