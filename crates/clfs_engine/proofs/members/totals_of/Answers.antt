use Rattle.std.proofs.Common.{◌+◌, ap, subst, ◌∙◌, sym, List, ◌∷◌, [], ◌++◌, arith}
use Rattle.clfs_shared.specs.Sessions.{SessionState}
use Rattle.clfs_engine.specs.Commits.{MemberState}
use Rattle.clfs_engine.proofs.Commits.{Sums, more_sums, no_sums, sums_fit}
use Rattle.clfs_engine.proofs.members.totals_of.Goals as goal

pub loop-member-init : goal.loop-member-init
loop-member-init c =
    no_sums c.args.members.items c.into_iter-member-iterator.result.rest.items c.new-sessions.result.items c.into_iter-member-iterator.ensures.into_iter_gives.0
    c.new-sessions.ensures.items c.requires.counts c.requires.few

pub overflow_add-records : goal.overflow_add-records
overflow_add-records c =
    let fit = sums_fit c.loop-member.yielded c.loop-member.member-iterator.rest.items c.next.new.self.rest.items c.loop-member.sessions.items c.loop-member.records c.loop-member.stable
    c.in-Some.member c.in-Some.ensures.steps.0 c.loop-member.invariant in
    let few = fit.of_records in
    let is = ap (λ (m : MemberState). m.records) c.member.view_is in
    record { fits = omega (arith, few, is) }

pub overflow_add-stable : goal.overflow_add-stable
overflow_add-stable c =
    let fit = sums_fit c.loop-member.yielded c.loop-member.member-iterator.rest.items c.next.new.self.rest.items c.loop-member.sessions.items c.loop-member.records c.loop-member.stable
    c.in-Some.member c.in-Some.ensures.steps.0 c.loop-member.invariant in
    let few = fit.of_stable in
    let is = ap (λ (m : MemberState). m.stable) c.member.view_is in
    record { fits = omega (arith, few, is) }

pub loop-member-preserved : goal.loop-member-preserved
loop-member-preserved c =
    let session = ap (λ (m : MemberState). m.session) c.member.view_is in
    let pushed = ◌∙◌ {A = List SessionState} c.in_ok-push.ensures.items (ap (λ (s : SessionState). c.loop-member.sessions.items ++ s ∷ []) session) in
    let more = more_sums c.loop-member.yielded c.loop-member.member-iterator.rest.items c.next.new.self.rest.items c.loop-member.sessions.items c.push.new.self.items
    c.loop-member.records c.loop-member.stable c.in-Some.member c.in-Some.ensures.steps.0 pushed c.loop-member.invariant in
    let F : MemberState → Type 0 = λ m. Sums (c.loop-member.yielded ++ c.in-Some.member ∷ []) c.next.new.self.rest.items c.push.new.self.items
    (c.loop-member.records + m.records) (c.loop-member.stable + m.stable) in
    subst F (sym c.member.view_is) more
