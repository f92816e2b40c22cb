use Rattle.std.proofs.Common.{rules, ap, ◌∙◌}
use Rattle.clfs_turn.specs.Lists.{is_in}
use Rattle.clfs_turn.proofs.Clients.{is_in-one}
use Rattle.clfs_turn.proofs.Jobs.{some_of, hand_of, took_read, returns, turn_of, client_in, opening_of}
use Rattle.clfs_turn.proofs.holding.with_turn.Goals as goal

pub claim-requires-clause-idle : goal.claim-requires-clause-idle
claim-requires-clause-idle g c =
    let client = g.J.Job.client c.args.job in
    let idle = c.requires.seat in
    (ap (λ z. z.0.turn) idle, (client, ap (λ z. is_in client z.0.clients) idle ∙ is_in-one client))

pub exchange-requires : goal.exchange-requires
exchange-requires g c =
    let v = g.V.Logged in
    let t = c.claim.ensures.taken in
    (search rules, (_, hand_of v.entries v.client_of v.reached c.args.seat.now.me c.claim.new.seat.me t.0 (t.1, t.2)))

pub give-requires-clause-turn : goal.give-requires-clause-turn
give-requires-clause-turn g c =
    let v = g.V.Logged in
    let client = g.J.Job.client c.args.job in
    let m = c.args.seat.now.me in
    let m' = c.claim.new.seat.me in
    let t = c.claim.ensures.taken in
    let x = c.unwrap-value.result in
    let took = took_read v.entries v.client_of v.reached m m' t.0 x c.exchange.result (t.1, t.2) c.exchange.ensures.2 c.unwrap-value.ensures in
    let still = ap (λ z. z.0) c.exchange.ensures.3 in (
      v.entries x,
      ap (λ z. z.turn) still ∙ turn_of v.entries v.client_of v.reached client m m' x c.requires.seat took,
      (
        client,
        ap (λ z. is_in client z.clients) still ∙ client_in v.entries v.client_of v.reached client m m' x c.requires.seat took,
        returns v.entries v.client_of v.reached client x c.run-answer.new.value c.count-before.result c.count-after.result
            c.count-before.ensures c.count-after.ensures c.count-after.type_inv c.run-answer.ensures.list,
      ),
    )

pub give-requires-clause-lawful : goal.give-requires-clause-lawful
give-requires-clause-lawful g c =
    let v = g.V.Logged in
    let client = g.J.Job.client c.args.job in
    let m = c.args.seat.now.me in
    let m' = c.claim.new.seat.me in
    let t = c.claim.ensures.taken in
    let x = c.unwrap-value.result in
    let took = took_read v.entries v.client_of v.reached m m' t.0 x c.exchange.result (t.1, t.2) c.exchange.ensures.2 c.unwrap-value.ensures in
    let o = some_of m.0.opening c.requires.opening in (
      o.0,
      ap (λ z. z.0.opening) c.exchange.ensures.3 ∙ (opening_of v.entries v.client_of v.reached client m m' x c.requires.seat took ∙ o.1),
      c.run-answer.ensures.lawful o.0 (took.1.lawful o.0 o.1),
    )
