use Rattle.std.proofs.Common.{sym, ap, subst, ◌∙◌, true, List, ℕ}
use Rattle.clfs_model.specs.declared.call.Call.{Call}
use Rattle.clfs_model.specs.declared.call.Call.TheVariants as calls
use Rattle.clfs_model.specs.declared.call.Draft.{Draft}
use Rattle.clfs_model.specs.declared.reply.Reply.{Reply}
use Rattle.clfs_area.specs.Calls.{HasAsked, held_append}
use Rattle.clfs_area.proofs.Asked.{append_refused, append_told}
use Rattle.clfs_area.proofs.asking.append_held.Goals as goal

pub returns-clause-asked : goal.returns-clause-asked
returns-clause-asked g c =
    let F : Reply → Type 0 = λ r. HasAsked c.args.session.now c.step.new.session (held_append c.args.number c.args.draft.now) r in
    let C : Call → Type 0 = λ call. HasAsked c.args.session.now c.step.new.session call c.step.result in
    subst F (sym c.placed_of.ensures)
    (subst C (ap (λ (sizes : List ℕ). calls.Append c.args.number c.in-Ok.draft true sizes) c.none.ensures ∙ ap (λ (draft : Draft). held_append c.args.number draft) c.in-Ok.ensures)
    (record { none = c.step.ensures.none; step = c.step.ensures.step }))

pub returns-clause-refused : goal.returns-clause-refused
returns-clause-refused g c = append_refused c.replies_are_of_their_calls.ensures.kind c.args.session.now c.step.new.session c.args.number c.args.draft.now c.placed_of.result
    (returns-clause-asked g c)
    (λ given is. c.step.ensures.covered c.args.number c.args.draft.now given
    (ap (λ (sizes : List ℕ). calls.Append c.args.number c.in-Ok.draft true sizes) c.none.ensures ∙ ap (λ (draft : Draft). held_append c.args.number draft) c.in-Ok.ensures) c.requires.covered
    (sym c.placed_of.ensures ∙ is))

pub returns-clause-told : goal.returns-clause-told
returns-clause-told g c = append_told c.rows_are_by_own_entries.ensures.rows c.refusals_are_the_calls_own.ensures.first
    c.args.session.now c.step.new.session c.args.number c.args.draft.now c.placed_of.result (returns-clause-asked g c)
