use Rattle.std.proofs.Common.{ℕ, List, sym, subst, ap}
use Rattle.clfs_model.specs.declared.call.Call.{Call}
use Rattle.clfs_model.specs.declared.call.Call.TheVariants as calls
use Rattle.clfs_model.specs.declared.reply.Reply.{Reply}
use Rattle.clfs_area.specs.Calls.{HasAsked}
use Rattle.clfs_area.proofs.Asked.{reserved, reserve_refused, reserve_told}
use Rattle.clfs_area.proofs.asking.reserve_more.Goals as goal

pub returns-clause-held : goal.returns-clause-held
returns-clause-held g c = reserved c.rows_are_by_own_entries.ensures.rows c.args.session.now c.step.new.session c.args.number c.args.sizes.now c.held_of.result
    (let F : Reply → Type 0 = λ r. HasAsked c.args.session.now c.step.new.session (calls.Reserve c.args.number c.args.sizes.now) r in
    subst F (sym c.held_of.ensures) (subst (λ (call : Call). HasAsked c.args.session.now c.step.new.session call c.step.result) (ap (λ (sizes : List ℕ). calls.Reserve c.args.number sizes) c.in-Ok.ensures)
    (record { none = c.step.ensures.none; step = c.step.ensures.step })))

pub returns-clause-refused : goal.returns-clause-refused
returns-clause-refused g c = reserve_refused c.rows_are_by_own_entries.ensures.rows c.replies_are_of_their_calls.ensures.kind c.replies_are_of_their_calls.ensures.missing
    c.args.session.now c.step.new.session c.args.number c.args.sizes.now c.held_of.result
    (let F : Reply → Type 0 = λ r. HasAsked c.args.session.now c.step.new.session (calls.Reserve c.args.number c.args.sizes.now) r in
    subst F (sym c.held_of.ensures) (subst (λ (call : Call). HasAsked c.args.session.now c.step.new.session call c.step.result) (ap (λ (sizes : List ℕ). calls.Reserve c.args.number sizes) c.in-Ok.ensures)
    (record { none = c.step.ensures.none; step = c.step.ensures.step })))

pub returns-clause-told : goal.returns-clause-told
returns-clause-told g c = reserve_told c.rows_are_by_own_entries.ensures.rows c.refusals_are_the_calls_own.ensures.first
    c.args.session.now c.step.new.session c.args.number c.args.sizes.now c.held_of.result
    (let F : Reply → Type 0 = λ r. HasAsked c.args.session.now c.step.new.session (calls.Reserve c.args.number c.args.sizes.now) r in
    subst F (sym c.held_of.ensures) (subst (λ (call : Call). HasAsked c.args.session.now c.step.new.session call c.step.result) (ap (λ (sizes : List ℕ). calls.Reserve c.args.number sizes) c.in-Ok.ensures)
    (record { none = c.step.ensures.none; step = c.step.ensures.step })))
