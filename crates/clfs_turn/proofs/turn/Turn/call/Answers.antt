use Rattle.std.proofs.Common.{List, sym, ap, ◌∙◌, subst}
use mathlib.Core.List.{IsPrefix}
use Rattle.atomic_table.specs.declared.badge.Badge.{Badge}
use Rattle.clfs_turn.specs.declared.view.View.{View}
use Rattle.clfs_turn.specs.Seats.{SeatState}
use Rattle.clfs_turn.specs.Views.{view_in}
use Rattle.clfs_turn.proofs.Jobs.{seen_more}
use Rattle.clfs_turn.proofs.turn.Turn.call.Goals as goal

pub returns-clause-seen : goal.returns-clause-seen
returns-clause-seen g c =
    let v = g.V.Logged in
    let m = c.into_seat-place.result.me in
    let m' = c.with_turn-answer.new.seat.me in
    let in_view = λ (z : List (View g.row.E.Denot g.row.O.Denot)). (view_in z).seen in
    let before = ap (λ (b : Badge (View g.row.E.Denot g.row.O.Denot)). (view_in b.views).seen) c.replace-badge.ensures.value in
    let old = sym (ap in_view c.into_seat-place.ensures.2) ∙ (before ∙ ap (λ (s : SeatState g.row.E.Denot g.row.O.Denot). s.seen) c.seat.view_is) in
    let new = sym (ap in_view c.into_badge.ensures.2) in
    subst (λ (z : List g.row.E.Denot × List g.row.E.Denot). IsPrefix z.0 z.1) (λ i. (old i, new i))
    (seen_more v.entries v.client_of v.reached _ _ m m' c.with_turn-answer.ensures.worked)
