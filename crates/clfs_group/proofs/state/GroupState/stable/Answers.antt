use Rattle.std.proofs.Common.{arith, ◌≡◌, sym, ap, subst, ◌∙◌, List, ℕ}
use Rattle.std.specs.Prelude.{Ok}
use Rattle.std.proofs.lemmas.Map.Keys.{ge_from_not_lt}
use mathlib.Core.List.{IsPrefix}
use Rattle.clfs_model.specs.declared.call.Call.TheVariants as calls
use Rattle.clfs_model.specs.declared.journal.Entry.{Entry}
use Rattle.clfs_shared.specs.declared.opening.Opening.{Opening}
use Rattle.clfs_shared.specs.Reached.{is_calm}
use Rattle.clfs_shared.specs.Sessions.{IsStepped}
use Rattle.clfs_group.specs.Answers.{flush_reply}
use Rattle.clfs_group.specs.Groups.{GroupParts, IsStable}
use Rattle.clfs_group.proofs.Granted.{below_by}
use Rattle.clfs_group.proofs.Growing.{longer_is, seen_more, stepped_between}
use Rattle.clfs_group.proofs.Refused.{answer_stable, lacks_for, memory_lacks, placed_more, stands_behind}
use Rattle.clfs_group.proofs.state.GroupState.stable.Goals as goal

pub returns-clause-stable : goal.returns-clause-stable
returns-clause-stable g c =
    answer_stable c.meet-known-2.new.session c.flush-answer.result c.flush-answer.new.self.mark c.meet-known.new.self.mark c.flush-answer.ensures.mark
    (subst (IsStable c.meet-known-2.new.session) c.meet-known-2.ensures.answer c.meet-known-2.ensures.stable)

pub returns-clause-asked : goal.returns-clause-asked
returns-clause-asked g c = λ above off.
    let m = c.meet-known.new.self in
    let t = c.flush-answer.new.self.session in
    let reply = flush_reply c.flush-answer.result in
    let z = c.flush-answer.ensures.asked off in
    let F : ℕ → Type 0 = λ area. IsStepped m.session t (calls.FlushTo area c.args.lsn) reply in
    let began : IsPrefix c.meet-known.new.session.seen t.seen =
    subst (λ (xs : List Entry). IsPrefix xs t.seen) (sym c.meet-known.ensures.met.1) (seen_more m.session t (calls.FlushTo m.area c.args.lsn) reply z) in
    stepped_between c.args.self.now.session m.session t c.meet-known-2.new.self.session (calls.FlushTo c.args.self.now.area c.args.lsn) reply
    c.meet-known.ensures.same.0 c.meet-known.ensures.begins.0 c.meet-known.ensures.own.0
    (subst F (ap (λ (p : GroupParts). p.area) c.meet-known.ensures.group) z)
    (c.meet-known-2.ensures.met.0 ∙ longer_is t.seen c.meet-known.new.session.seen began)
    c.meet-known-2.ensures.own.0

pub returns-clause-behind : goal.returns-clause-behind
returns-clause-behind g c =
    let m = c.meet-known.new.self in
    let t = c.flush-answer.new.self.session in
    let reply = flush_reply c.flush-answer.result in
    stands_behind c.args.session.now.seen c.meet-known-2.new.session.seen m.session t g.N.GroupName.session.client m.area c.args.self.now.area c.args.lsn c.flush-answer.result
    (subst (λ (xs : List Entry). IsPrefix c.args.session.now.seen xs) c.meet-known.ensures.met.1 c.meet-known.ensures.begins.1) c.meet-known.ensures.named.client (ap (λ (p : GroupParts). p.area) c.meet-known.ensures.group) c.flush-answer.ensures.asked
    (λ off.
    let began : IsPrefix c.meet-known.new.session.seen t.seen =
    subst (λ (xs : List Entry). IsPrefix xs t.seen) (sym c.meet-known.ensures.met.1)
    (seen_more m.session t (calls.FlushTo m.area c.args.lsn) reply (c.flush-answer.ensures.asked off)) in
    c.meet-known-2.ensures.met.1 ∙ (c.meet-known-2.ensures.met.0 ∙ longer_is t.seen c.meet-known.new.session.seen began))

pub returns-clause-calm : goal.returns-clause-calm
returns-clause-calm g c = λ calm unbroken here.
    let m = c.meet-known.new.self in
    let opening : m.session.opening ≡ c.args.session.now.opening =
    c.meet-known.ensures.named.opening ∙ (c.requires.log.0.opening ∙ sym c.requires.log.1.opening) in
    let begins : IsPrefix c.args.session.now.seen m.session.seen =
    subst (λ (xs : List Entry). IsPrefix c.args.session.now.seen xs) c.meet-known.ensures.met.1 c.meet-known.ensures.begins.1 in
    memory_lacks c.args.lsn c.flush-answer.result c.flush-answer.ensures.refused
    (c.flush-answer.ensures.calm (ap is_calm opening ∙ calm) (ap (λ (o : Opening). o.state.broken) opening ∙ unbroken))
    (c.flush-answer.ensures.placed (placed_more c.args.session.now.seen m.session.seen c.args.lsn begins here))

pub returns-clause-shared : goal.returns-clause-shared
returns-clause-shared g c = λ less.
    let from = ge_from_not_lt c.args.lsn c.meet-known.result (sym c.if-lt.ensures) in
    let is = c.meet-known.ensures.answer in
    absurd (omega (arith, less, from, is))

pub returns-then-lt-clause-above : goal.returns-then-lt-clause-above
returns-then-lt-clause-above g c = below_by c.args.lsn c.meet-known.result (sym c.if-lt.ensures)

pub returns-then-lt-clause-stable : goal.returns-then-lt-clause-stable
returns-then-lt-clause-stable g c = c.meet-known.ensures.stable

pub returns-then-lt-clause-mark : goal.returns-then-lt-clause-mark
returns-then-lt-clause-mark g c = ap (λ (p : GroupParts). p.mark) c.meet-known.ensures.group ∙ sym c.meet-known.ensures.answer

pub returns-then-lt-clause-shared : goal.returns-then-lt-clause-shared
returns-then-lt-clause-shared g c = λ less. (ap (λ (n : ℕ). Ok n) c.meet-known.ensures.answer, c.meet-known.ensures.own.0)

pub returns-clause-wanted : goal.returns-clause-wanted
returns-clause-wanted g c = λ lacking.
    lacks_for g.J.Recorder.may_lack c.meet-known.new.self.session c.flush-answer.new.self.session c.meet-known-2.new.self.session c.meet-known-2.new.session
    g.N.GroupName.session.client c.flush-answer.ensures.same (c.flush-answer.ensures.none lacking) c.meet-known-2.ensures.own.0 c.meet-known-2.ensures.met.1
    c.meet-known-2.ensures.named.client (c.flush-answer.ensures.wanted lacking)
