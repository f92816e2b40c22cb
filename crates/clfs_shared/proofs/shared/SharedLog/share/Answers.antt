use Rattle.std.proofs.Common.{◌≡◌, true, sym, subst, ◌∙◌}
use Rattle.clfs_model.specs.Valid.{IsValid}
use Rattle.clfs_model.specs.Storable.{IsStorable}
use Rattle.clfs_turn.specs.Lists.{is_in}
use Rattle.clfs_shared.specs.declared.opening.Opening.{Opening}
use Rattle.clfs_shared.proofs.Telling.{belong_by}
use Rattle.clfs_shared.proofs.shared.SharedLog.share.Goals as goal

pub invariant_of-result : goal.invariant_of-result
invariant_of-result g c = record {
  valid = subst (λ (o : Opening). IsValid o.state) (sym (c.in-Ok-new.ensures.lock.0 ∙ c.in-Ok.ensures.opening)) c.stored.ensures.valid;
  storable = subst (λ (o : Opening). IsStorable o.state) (sym (c.in-Ok-new.ensures.lock.0 ∙ c.in-Ok.ensures.opening)) c.stored.ensures.storable;
  clients = λ client inside. c.requires.ranges client (subst (λ clients. is_in client clients ≡ true) c.in-Ok-new.ensures.lock.1 inside);
}

pub returns-in-Ok-new-clause-log : goal.returns-in-Ok-new-clause-log
returns-in-Ok-new-clause-log g c = (c.in-Ok-new.ensures.lock.0 ∙ c.in-Ok.ensures.opening, c.in-Ok-new.ensures.lock.1)

pub returns-in-Ok-new-clause-belong : goal.returns-in-Ok-new-clause-belong
returns-in-Ok-new-clause-belong g c =
    belong_by c.in-Ok-new.turn c.in-Ok-new.sessions.items c.in-Ok-new.ensures.seats (c.in-Ok-new.ensures.clients ∙ sym c.in-Ok-new.ensures.lock.1)
