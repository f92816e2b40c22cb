use Rattle.std.proofs.Common.{arith}
use Rattle.clfs_turn.proofs.Deals.{next_apart}
use Rattle.clfs_turn.proofs.dealing.deal.Goals as goal

pub deal_one-requires-clause-apart : goal.deal_one-requires-clause-apart
deal_one-requires-clause-apart g c =
    next_apart c.loop-client.dealer.me _ _ c.loop-client.client-index (omega arith) c.loop-client.invariant.dealer c.requires.apart
