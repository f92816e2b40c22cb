use Rattle.std.proofs.Common.{ℕ, false, refl, sym, ap, subst, ◌∙◌, List, arith}
use Rattle.clfs_model.specs.declared.call.Call.{Call}
use Rattle.clfs_model.specs.declared.call.Call.TheVariants as calls
use Rattle.clfs_model.specs.Valid.{IsValid}
use Rattle.clfs_shared.specs.declared.opening.Opening.{Opening}
use Rattle.clfs_engine.specs.Commits.{IsCrowdAppend, IsMember, MemberState, has_made, member_of}
use Rattle.clfs_engine.specs.Work.{IsCrewRecord}
use Rattle.clfs_engine.proofs.Commits.{made_more, placed_member, stable_member, unanswered, unplaced_member}
use Rattle.clfs_engine.proofs.Crews.{still_of}
use Rattle.clfs_engine.proofs.members.Member.commit.Goals as goal

pub returns-in_default-step : goal.returns-in_default-step
returns-in_default-step g c =
    let f = c.self.inside in
    let m : MemberState = member_of f.session f.area f.records f.stable in
    let is : IsMember c.args.log.now m = subst (IsMember c.args.log.now) (sym c.self.view_is) c.requires.member in
    let begin : IsValid f.session.opening.state = let F : Opening → Type 0 = λ o. IsValid o.state in subst F (sym is.of.opening) c.opened.ensures.valid in
    let call : Call = calls.Append f.area c.in-Ok.draft false c.none.result in
    let append : IsCrowdAppend f.area call = record {
      draft = c.in-Ok.draft;
      is_record = subst IsCrewRecord (sym c.in-Ok.ensures) c.requires.record;
      is = ap (λ (sizes : List ℕ). calls.Append f.area c.in-Ok.draft false sizes) c.none.ensures;
    } in
    let same = ap has_made c.self.view_is in
    let more = made_more f.session c.step.new.session c.step.new.session call c.step.result c.step.ensures.same c.step.ensures.none c.step.ensures.step refl in
    record {
      member = unplaced_member c.what_is_stable_stays.ensures.seen c.args.log.now m c.step.new.session call c.step.result begin is c.step.ensures.same append
          c.step.ensures.none c.step.ensures.step c.in_default-step.not-Placed;
      made = omega (arith, same, more);
      client = c.step.ensures.same.client ∙ ap (λ (x : MemberState). x.session.client) c.self.view_is;
    }

pub returns-in_default-stable-clause-member : goal.returns-in_default-stable-clause-member
returns-in_default-stable-clause-member g c =
    let f = c.self.inside in
    let m : MemberState = member_of f.session f.area f.records f.stable in
    let is : IsMember c.args.log.now m = subst (IsMember c.args.log.now) (sym c.self.view_is) c.requires.member in
    let begin : IsValid f.session.opening.state = let F : Opening → Type 0 = λ o. IsValid o.state in subst F (sym is.of.opening) c.opened.ensures.valid in
    let call : Call = calls.Append f.area c.in-Ok.draft false c.none.result in
    let append : IsCrowdAppend f.area call = record {
      draft = c.in-Ok.draft;
      is_record = subst IsCrewRecord (sym c.in-Ok.ensures) c.requires.record;
      is = ap (λ (sizes : List ℕ). calls.Append f.area c.in-Ok.draft false sizes) c.none.ensures;
    } in
    placed_member c.what_is_stable_stays.ensures.seen c.args.log.now m c.step.new.session c.stable.new.session call c.in-Placed.lsn begin is
    (c.in-Placed.ensures.step refl) append c.step.ensures.same c.stable.ensures.same c.stable.ensures.seen c.stable.ensures.own
    (unanswered c.args.log.now f.session c.step.new.session c.stable.new.session call c.in-Placed.lsn g.N.GroupName.session.client c.stable.result
    (still_of c.args.log.now f.session c.step.new.session is.of c.step.ensures.same) (c.in-Placed.ensures.step refl) c.in_default-stable.not-Ok
    c.stable.ensures.calm c.stable.ensures.wanted)

pub returns-in_default-stable-clause-made : goal.returns-in_default-stable-clause-made
returns-in_default-stable-clause-made g c =
    let f = c.self.inside in
    let call : Call = calls.Append f.area c.in-Ok.draft false c.none.result in
    let same = ap has_made c.self.view_is in
    let more = made_more f.session c.step.new.session c.stable.new.session call c.step.result c.step.ensures.same c.step.ensures.none c.step.ensures.step c.stable.ensures.own in
    omega (arith, same, more)

pub returns-clause-member : goal.returns-clause-member
returns-clause-member g c =
    let f = c.self.inside in
    let m : MemberState = member_of f.session f.area f.records f.stable in
    let is : IsMember c.args.log.now m = subst (IsMember c.args.log.now) (sym c.self.view_is) c.requires.member in
    let begin : IsValid f.session.opening.state = let F : Opening → Type 0 = λ o. IsValid o.state in subst F (sym is.of.opening) c.opened.ensures.valid in
    let call : Call = calls.Append f.area c.in-Ok.draft false c.none.result in
    let append : IsCrowdAppend f.area call = record {
      draft = c.in-Ok.draft;
      is_record = subst IsCrewRecord (sym c.in-Ok.ensures) c.requires.record;
      is = ap (λ (sizes : List ℕ). calls.Append f.area c.in-Ok.draft false sizes) c.none.ensures;
    } in
    stable_member c.what_is_stable_stays.ensures.seen c.args.log.now m c.step.new.session c.stable.new.session call c.in-Placed.lsn c.in-Ok-stable._answer begin is
    (c.in-Placed.ensures.step refl) append c.step.ensures.same c.stable.ensures.same c.stable.ensures.seen c.stable.ensures.own
    c.in-Ok-stable.ensures.above c.in-Ok-stable.ensures.stable.flushed

pub returns-clause-made : goal.returns-clause-made
returns-clause-made g c =
    let f = c.self.inside in
    let call : Call = calls.Append f.area c.in-Ok.draft false c.none.result in
    let same = ap has_made c.self.view_is in
    let more = made_more f.session c.step.new.session c.stable.new.session call c.step.result c.step.ensures.same c.step.ensures.none c.step.ensures.step c.stable.ensures.own in
    omega (arith, same, more)
