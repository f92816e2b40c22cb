use Rattle.std.proofs.Common.{rules, ap, ◌∙◌}
use Rattle.clfs_turn.specs.Lists.{is_in}
use Rattle.clfs_turn.proofs.TurnSteps.{claims_at}
use Rattle.clfs_turn.proofs.holding.claim.Goals as goal

pub compare_exchange-requires : goal.compare_exchange-requires
compare_exchange-requires g c =
    let v = g.V.Logged in
    let now = c.loop.invariant.me in
    let own = c.requires.idle.1 in (
      search rules,
      search rules,
      claims_at v.entries v.client_of v.opening v.reached c.args.table.now.key _ _ own.0 c.loop.seat.me
          (ap (λ m. m.1) now ∙ c.requires.own.2)
          (ap (λ m. m.0.turn) now ∙ c.requires.idle.0)
          (ap (λ m. is_in own.0 m.0.clients) now ∙ own.1),
    )
