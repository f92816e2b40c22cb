use Rattle.std.proofs.Common.{rules, ◌≡◌, List, [], ◌∷◌, ◌++◌, All, sym, ap, ◌∙◌, subst, append_assoc}
use Rattle.clfs_turn.specs.declared.view.View.{View}
use Rattle.clfs_turn.specs.Seats.{SeatState}
use Rattle.clfs_turn.specs.Steps.{AllGathered}
use Rattle.clfs_turn.proofs.Gathering.{badge_view, gathers_all, all_last, all_front}
use Rattle.clfs_turn.proofs.SeatSteps.{joins}
use Rattle.clfs_turn.proofs.TableEnds.{enters}
use Rattle.clfs_turn.proofs.closing.gather.Goals as goal

pub load_new_seat-count-requires : goal.load_new_seat-count-requires
load_new_seat-count-requires g c =
    let m = g.V.Logged in
    (search rules, enters m.entries m.client_of m.opening m.reached c.args.table.now.key _)

pub join_seat-requires : goal.join_seat-requires
join_seat-requires g c =
    let m = g.V.Logged in
    let i = c.loop-seat.invariant in
    let w = c.into_seat.result.me.0 in
    let rest = badge_view c.seat.inside.badge c.seat.inside.client w c.into_seat.ensures.2 c.seat.invariant in
    let locks = subst (λ (z : List (SeatState g.row.E.Denot g.row.O.Denot)). All (λ s. s.lock ≡ c.args.table.now.table_id) z) c.in-Some.ensures.items i.locks in
    let here = all_last (λ (s : SeatState g.row.E.Denot g.row.O.Denot). s.lock ≡ c.args.table.now.table_id) c.pop.new.self.items c.in-Some.seat locks in (
      i.table,
      c.into_seat.ensures.0 ∙ (ap (λ (s : SeatState g.row.E.Denot g.row.O.Denot). s.lock) c.seat.view_is ∙ here),
      c.into_seat.ensures.3,
      search rules,
      joins m.entries m.client_of m.opening m.reached c.args.table.now.key _ c.loop-seat.place.me.0 _ w i.idle
          (ap (λ (z : View g.row.E.Denot g.row.O.Denot). z.turn) rest),
    )

pub loop-seat-preserved : goal.loop-seat-preserved
loop-seat-preserved g c =
    let i = c.loop-seat.invariant in
    let s = c.in-Some.seat in
    let w = c.into_seat.result.me.0 in
    let e = c.join_seat.ensures.2 in
    let rest = badge_view c.seat.inside.badge c.seat.inside.client w c.into_seat.ensures.2 c.seat.invariant in
    let is = c.seat.view_is in
    let locks = subst (λ (z : List (SeatState g.row.E.Denot g.row.O.Denot)). All (λ s. s.lock ≡ c.args.table.now.table_id) z) c.in-Some.ensures.items i.locks in
    let clients = ap (λ (z : View g.row.E.Denot g.row.O.Denot). z.clients) rest ∙ ap (λ (z : SeatState g.row.E.Denot g.row.O.Denot). z.client ∷ []) is in
    let seen = ap (λ (z : View g.row.E.Denot g.row.O.Denot). z.seen) rest ∙ ap (λ (z : SeatState g.row.E.Denot g.row.O.Denot). z.seen) is in
    record {
      table = c.join_seat.ensures.0 ∙ i.table;
      empty = ap (λ z. z.1) e ∙ i.empty;
      idle = ap (λ z. z.0.turn) e ∙ i.idle;
      locks = all_front (λ (z : SeatState g.row.E.Denot g.row.O.Denot). z.lock ≡ c.args.table.now.table_id) c.pop.new.self.items s locks;
      done = (
        s ∷ i.done.0,
        i.done.1 ∙ (ap (λ (z : List (SeatState g.row.E.Denot g.row.O.Denot)). z ++ i.done.0) c.in-Some.ensures.items
            ∙ append_assoc c.pop.new.self.items (s ∷ []) i.done.0),
        subst (λ (z : View g.row.E.Denot g.row.O.Denot). AllGathered z (s ∷ i.done.0)) (sym (ap (λ z. z.0) e))
            (gathers_all c.loop-seat.place.me.0 w s i.done.0 clients seen i.done.2),
      );
    }
