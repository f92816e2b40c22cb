use Rattle.std.proofs.Common.{◌≡◌, Option, List, sym, ap, subst, ◌∙◌}
use mathlib.Core.List.{IsPrefix}
use Rattle.atomic_table.specs.Table.{Me}
use Rattle.atomic_table.specs.declared.badge.Badge.{Badge}
use Rattle.clfs_turn.specs.declared.view.View.{View}
use Rattle.clfs_turn.specs.Lists.{longer}
use Rattle.clfs_turn.specs.Seats.{SeatState}
use Rattle.clfs_turn.specs.Views.{view_in}
use Rattle.clfs_turn.proofs.Prefixes.{longer_agrees}
use Rattle.clfs_turn.proofs.turn.Turn.meet.Goals as goal

pub returns-clause-met : goal.returns-clause-met
returns-clause-met g c =
    let seen = λ (z : Me (Option g.row.V.Denot) (View g.row.E.Denot g.row.O.Denot)). z.0.seen in
    let in_view = λ (z : List (View g.row.E.Denot g.row.O.Denot)). (view_in z).seen in
    let in_badge = λ (b : Badge (View g.row.E.Denot g.row.O.Denot)). (view_in b.views).seen in
    let in_seat = λ (z : SeatState g.row.E.Denot g.row.O.Denot). z.seen in
    let s = c.args.a.now.seen in
    let t = c.args.b.now.seen in
    let one : c.into_seat-one.result.me.0.seen ≡ s =
    sym (ap in_view c.into_seat-one.ensures.2) ∙ (ap in_badge c.replace-badge.ensures.value ∙ ap in_seat c.a.view_is) in
    let two : c.into_seat-two.result.me.0.seen ≡ t =
    sym (ap in_view c.into_seat-two.ensures.2) ∙ (ap in_badge c.replace-badge-2.ensures.value ∙ ap in_seat c.b.view_is) in
    let s_one : c.copy_of-first.new.seat.me.0.seen ≡ s = ap seen c.copy_of-first.ensures.same.2 ∙ one in
    let s_copy : c.copy_of-first.result.me.0.seen ≡ s = ap seen c.copy_of-first.ensures.copy.1 ∙ one in
    let t_two : c.copy_of-second.new.seat.me.0.seen ≡ t = ap seen c.copy_of-second.ensures.same.2 ∙ two in
    let t_copy : c.copy_of-second.result.me.0.seen ≡ t = ap seen c.copy_of-second.ensures.copy.1 ∙ two in
    let a = ap in_view c.into_badge.ensures.2 ∙ (ap seen c.learn-2.ensures.me ∙ (λ i. longer (s_one i) (t_copy i))) in
    let b = ap in_view c.into_badge-2.ensures.2 ∙ (ap seen c.learn.ensures.me ∙ (λ i. longer (t_two i) (s_copy i))) in
    let begins : IsPrefix s (longer t s) =
    subst (λ (z : List g.row.E.Denot × List g.row.E.Denot). IsPrefix z.0 (longer z.1 z.0)) (λ i. (s_copy i, t_two i)) c.learn.ensures.copied in
    (a, b ∙ (sym (longer_agrees s t begins) ∙ sym a))
