use Rattle.clfs_manager.proofs.Words.{◌∙◌, ap, sym, own_sum}
use Rattle.clfs_manager.proofs.Aligning.{align_too_long, align_done}
use Rattle.clfs_manager.proofs.manager.Manager.align.Goals as goal

pub returns-in-Some : goal.returns-in-Some
returns-in-Some g c = record {
  step = λ told. rw (sym c.self.view_is) (align_too_long c.ways_of_a_step.ensures told c.self.inside.log.state.value c.args.client c.args.area _ c.in-Some.len c.args.sizes.now _ _
      (c.self.invariant.broken ∙ c.if-self.false) c.in_ok-place.ensures.there c.area-max.ensures.largest c.as_slice.ensures.value c.in-Some.ensures);
}

pub returns : goal.returns
returns g c = record {
  step = λ told. rw (sym c.self.view_is) (align_done c.ways_of_a_step.ensures told c.self.inside.log.state.value c.args.client c.args.area _ _ c.args.sizes.now _ _
      (c.self.invariant.broken ∙ c.if-self.false) c.in_ok-place.ensures.there c.area-max.ensures.largest c.as_slice.ensures.value c.in_default.ensures
      (c.own_sum.ensures.value ∙ ap own_sum c.as_slice-2.ensures.value));
}
