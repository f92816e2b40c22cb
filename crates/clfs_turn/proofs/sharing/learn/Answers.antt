use Rattle.std.proofs.Common.{rules, Option, [], refl, ap, ◌∙◌}
use Rattle.atomic_table.specs.Table.{Me}
use Rattle.clfs_turn.specs.declared.view.View.{View}
use Rattle.clfs_turn.specs.Steps.{joined}
use Rattle.clfs_turn.specs.Views.{at_rest}
use Rattle.clfs_turn.proofs.SeatSteps.{joins_at, looks_at}
use Rattle.clfs_turn.proofs.sharing.learn.Goals as goal

pub join_seat-requires : goal.join_seat-requires
join_seat-requires g c =
    let m = g.V.Logged in
    let p = c.args.seat.now.me.0 in
    let q = c.args.copy.me.0 in (
      search rules,
      search rules,
      ap (λ (z : Me (Option g.row.V.Denot) (View g.row.E.Denot g.row.O.Denot)). z.1) c.requires.copy,
      search rules,
      joins_at m.entries m.client_of m.opening m.reached c.args.table.now.key _ c.args.seat.now.me _ c.args.copy.me
          (at_rest p.opening p.clients p.seen) (at_rest q.opening [] q.seen) c.requires.seat c.requires.copy refl refl,
    )

pub load-requires : goal.load-requires
load-requires g c =
    let m = g.V.Logged in
    let p = c.args.seat.now.me.0 in
    let q = c.args.copy.me.0 in (
      search rules,
      search rules,
      looks_at m.entries m.client_of m.opening m.reached c.args.table.now.key _ _ c.join_seat.new.seat.me p.opening q.opening p.clients [] p.seen q.seen
          (c.join_seat.ensures.2
          ∙ (ap (λ (z : Me (Option g.row.V.Denot) (View g.row.E.Denot g.row.O.Denot)). (joined z.0 q, z.1)) c.requires.seat
          ∙ ap (λ (z : Me (Option g.row.V.Denot) (View g.row.E.Denot g.row.O.Denot)). (joined (at_rest p.opening p.clients p.seen) z.0, [])) c.requires.copy)),
    )
