use Rattle.std.proofs.Common.{refl, sym, ap, subst}
use Rattle.std.specs.Prelude.{Contains}
use Rattle.clfs_model.specs.declared.reply.Reply.TheVariants as replies
use Rattle.clfs_shared.specs.Sessions.{SessionState, own_entries}
use Rattle.clfs_group.specs.Answers.{placed_lsns}
use Rattle.clfs_group.specs.Groups.{GroupParts, parts_of}
use Rattle.clfs_group.proofs.Growing.{valid_begin}
use Rattle.clfs_group.proofs.Refused.{takes_none}
use Rattle.clfs_group.proofs.state.GroupState.flush.Goals as goal

pub invariant_of-self : goal.invariant_of-self
invariant_of-self g c =
    let f = c.self.inside in
    let first = g.N.GroupName.session in
    c.flushes_keep_a_group.ensures.answered first g.N.GroupName.stream c.args.lsn c.in-Flushed.answer (parts_of f.session f.area f.mark) c.step.new.session
    (valid_begin c.args.log.now first f.session c.opened.ensures.valid c.requires.log c.self.invariant.same)
    c.step.ensures.same (c.in-Flushed.ensures.step refl) c.self.invariant

pub invariant_of-self-in-Refused : goal.invariant_of-self-in-Refused
invariant_of-self-in-Refused g c =
    let f = c.self.inside in
    let first = g.N.GroupName.session in
    c.flushes_keep_a_group.ensures.kept first g.N.GroupName.stream c.args.lsn (replies.Refused c.in-Refused.refusal) (parts_of f.session f.area f.mark) c.step.new.session
    (valid_begin c.args.log.now first f.session c.opened.ensures.valid c.requires.log c.self.invariant.same)
    c.step.ensures.same c.in-Refused.ensures.none c.in-Refused.ensures.step c.self.invariant

pub returns-in-Flushed-clause-above : goal.returns-in-Flushed-clause-above
returns-in-Flushed-clause-above g c =
    let f = c.self.inside in
    c.flushes_keep_a_group.ensures.above f.session c.step.new.session f.area c.args.lsn c.in-Flushed.answer
    (valid_begin c.args.log.now g.N.GroupName.session f.session c.opened.ensures.valid c.requires.log c.self.invariant.same) (c.in-Flushed.ensures.step refl)

pub returns-in-Refused-clause-refused : goal.returns-in-Refused-clause-refused
returns-in-Refused-clause-refused g c =
    let f = c.self.inside in
    c.flushes_keep_a_group.ensures.causes g.N.GroupName.session g.N.GroupName.stream c.args.lsn (parts_of f.session f.area f.mark) c.step.new.session
    c.in-Refused.refusal c.in-Refused.ensures.step c.self.invariant.entries

pub returns-in-Refused-clause-placed : goal.returns-in-Refused-clause-placed
returns-in-Refused-clause-placed g c = λ here.
    let f = c.self.inside in
    let there = subst (λ (s : SessionState). Contains (placed_lsns s.seen) c.args.lsn) (sym (ap (λ (p : GroupParts). p.session) c.self.view_is)) here in
    c.flushes_keep_a_group.ensures.finds f.session c.step.new.session f.area c.args.lsn c.in-Refused.refusal
    (valid_begin c.args.log.now g.N.GroupName.session f.session c.opened.ensures.valid c.requires.log c.self.invariant.same) c.in-Refused.ensures.step there

pub returns-in-Refused-clause-wanted : goal.returns-in-Refused-clause-wanted
returns-in-Refused-clause-wanted g c = λ lacking.
    subst (λ (p : GroupParts). g.J.Recorder.may_lack (own_entries p.session)) c.self.view_is (takes_none (c.in-Refused.ensures.wanted lacking))
