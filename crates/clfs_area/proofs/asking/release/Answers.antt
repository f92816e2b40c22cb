use Rattle.std.proofs.Common.{sym, subst}
use Rattle.clfs_model.specs.declared.call.Call.TheVariants as calls
use Rattle.clfs_model.specs.declared.reply.Reply.{Reply}
use Rattle.clfs_area.specs.Calls.{HasAsked}
use Rattle.clfs_area.proofs.Asked.{released_to, release_refused}
use Rattle.clfs_area.proofs.asking.release.Goals as goal

pub returns-clause-held : goal.returns-clause-held
returns-clause-held g c = released_to c.rows_are_by_own_entries.ensures.rows c.args.session.now c.step.new.session c.args.number c.args.sectors c.held_of.result
    (let F : Reply → Type 0 = λ r. HasAsked c.args.session.now c.step.new.session (calls.Release c.args.number c.args.sectors) r in
    subst F (sym c.held_of.ensures) (record { none = c.step.ensures.none; step = c.step.ensures.step }))

pub returns-clause-refused : goal.returns-clause-refused
returns-clause-refused g c = release_refused c.rows_are_by_own_entries.ensures.rows c.replies_are_of_their_calls.ensures.kind c.replies_are_of_their_calls.ensures.missing
    c.short_where_less_is_held.ensures.step c.args.session.now c.step.new.session c.args.number c.args.sectors c.held_of.result
    (let F : Reply → Type 0 = λ r. HasAsked c.args.session.now c.step.new.session (calls.Release c.args.number c.args.sectors) r in
    subst F (sym c.held_of.ensures) (record { none = c.step.ensures.none; step = c.step.ensures.step }))
