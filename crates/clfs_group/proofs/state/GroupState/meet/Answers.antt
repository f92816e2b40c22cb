use Rattle.std.proofs.Common.{sym, ◌∙◌}
use Rattle.clfs_group.specs.Groups.{parts_of}
use Rattle.clfs_group.proofs.Granted.{if_granted}
use Rattle.clfs_group.proofs.Growing.{still_flushed, still_group, stable_too, valid_begin}
use Rattle.clfs_group.proofs.state.GroupState.meet.Goals as goal

pub invariant_of-self : goal.invariant_of-self
invariant_of-self g c =
    let f = c.self.inside in
    let first = g.N.GroupName.session in
    let begins = if_granted c.meet.result _ c.meet.ensures.granted c.meet.ensures.begins in
    let own = if_granted c.meet.result _ c.meet.ensures.granted c.meet.ensures.own in
    still_group c.fronts_are_legal.ensures c.flushed_never_falls.ensures.part c.steps_keep_a_state_valid.ensures.journal first g.N.GroupName.stream
    (parts_of f.session f.area f.mark) c.meet.new.a
    (valid_begin c.args.log.now first f.session c.opened.ensures.valid c.requires.log.0 c.self.invariant.same)
    c.meet.ensures.same.0 begins.0 own.0 c.self.invariant

pub returns-clause-stable : goal.returns-clause-stable
returns-clause-stable g c =
    let f = c.self.inside in
    let first = g.N.GroupName.session in
    let begins = if_granted c.meet.result _ c.meet.ensures.granted c.meet.ensures.begins in
    let met = if_granted c.meet.result _ c.meet.ensures.granted c.meet.ensures.met in
    let legal = if_granted c.meet.result _ c.meet.ensures.granted c.meet.ensures.legal in
    let of_log = c.self.invariant.same.opening ∙ c.requires.log.0.opening in
    let of_caller = c.meet.ensures.same.1.opening ∙ (c.requires.log.1.opening ∙ sym of_log) in
    stable_too c.meet.new.a c.meet.new.b f.session.opening f.mark of_caller c.meet.ensures.same.0.opening met.1 legal
    (still_flushed c.fronts_are_legal.ensures c.flushed_never_falls.ensures.part c.steps_keep_a_state_valid.ensures.journal f.session c.meet.new.a f.mark
    (valid_begin c.args.log.now first f.session c.opened.ensures.valid c.requires.log.0 c.self.invariant.same)
    c.meet.ensures.same.0 begins.0 c.self.invariant.mark)
