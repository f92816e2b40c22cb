use Rattle.std.proofs.Common.{rules, ap, ◌∙◌, refl, subst}
use Rattle.clfs_turn.specs.Steps.{Returns}
use Rattle.clfs_turn.proofs.TurnSteps.{in_hand, has_posted, posts_at, releases_at}
use Rattle.clfs_turn.proofs.holding.give.Goals as goal
use Rattle.clfs_turn.proofs.holding.give.Goals.{then-posts, else-posts}

pub fetch_add-requires : goal.fetch_add-requires
fetch_add-requires g c =
    let m = g.V.Logged in
    let v = c.args.seat.now.me.0 in
    let y = c.args.value in
    let t = c.requires.turn in
    let k = c.requires.lawful in
    let held = in_hand m.entries c.args.seat.now.me c.exchange.new.seat.me y c.requires.hand c.exchange.ensures.3 in (
      search rules,
      search rules,
      posts_at m.entries m.client_of m.opening m.reached c.args.table.now.key _ _ t.2.0 c.exchange.new.seat.me v t.0 k.0 y held k.1 k.2
          c.requires.olds t.1 t.2.1 (subst (λ b. Returns m.entries m.client_of b t.2.0 t.0 y) c.if-posts.true t.2.2),
    )

pub store-requires : goal.store-requires
store-requires g c =
    let m = g.V.Logged in
    let v = c.args.seat.now.me.0 in
    let y = c.args.value in
    let t = c.requires.turn in
    let k = c.requires.lawful in
    let held = in_hand m.entries c.args.seat.now.me c.exchange.new.seat.me y c.requires.hand c.exchange.ensures.3 in
    elim c.if-posts.branch [
      | then-posts w ↦
          let e = ap (λ p. p.me) w.seat-is
          ∙ has_posted m.entries c.exchange.new.seat.me w.fetch_add.new.seat.me v y held w.fetch_add.ensures.2 in (
            search rules,
            search rules,
            releases_at m.entries m.client_of m.opening m.reached c.args.table.now.key _ _ c.if-posts.seat.me _ (m.entries y) k.0 y e refl refl k.1 k.2,
          )
      | else-posts w ↦
          let e = ap (λ p. p.me) w.seat-is ∙ held in (
            search rules,
            search rules,
            releases_at m.entries m.client_of m.opening m.reached c.args.table.now.key _ _ c.if-posts.seat.me v t.0 k.0 y e t.1
                (subst (λ b. Returns m.entries m.client_of b t.2.0 t.0 y) w.if-posts.false t.2.2) k.1 k.2,
          )
    ]
