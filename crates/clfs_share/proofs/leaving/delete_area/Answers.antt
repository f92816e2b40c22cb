use Rattle.clfs_model.specs.declared.call.Call.TheVariants as calls
use Rattle.clfs_share.specs.Answered.{AnswersCall}
use Rattle.clfs_share.proofs.Deleting.{deletes}
use Rattle.clfs_share.proofs.leaving.delete_area.Goals as goal

pub returns : goal.returns
returns g c = deletes (record {
  kind = c.replies_are_of_their_calls.ensures.kind;
  missing = c.replies_are_of_their_calls.ensures.missing;
  unchanged = c.refusals_change_nothing.ensures.calls;
  rows = c.rows_are_by_own_entries.ensures.rows;
}) c.args.session.now c.step-reply.new.session c.args.number c.step-reply.result
    answered
  where
    answered : AnswersCall c.args.session.now (calls.DeleteArea c.args.number) c.step-reply.result c.step-reply.new.session
    answered = record {
      same = c.step-reply.ensures.same;
      none = c.step-reply.ensures.none;
      wanted = c.step-reply.ensures.wanted;
      step = c.step-reply.ensures.step;
    }
