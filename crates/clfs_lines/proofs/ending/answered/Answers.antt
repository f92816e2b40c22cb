use Rattle.clfs_lines.specs.Taken.{script_limits}
use Rattle.clfs_lines.specs.Through.{AnswersThrough, AnswersInPart}
use Rattle.clfs_lines.proofs.AnsweringEnds.{ends_at_limit}
use Rattle.clfs_lines.proofs.ending.answered.Goals as goal

pub returns-in-Err-TooLong : goal.returns-in-Err-TooLong
returns-in-Err-TooLong g c =
    let a = c.args.answering.now in
    let b = c.answer_script.new.answering in
    let script = c.in-Err-TooLong.ensures in
    let stopped = rw c.in-Err-TooLong.field-0-is at script.stopped in
    ends_at_limit (script_limits c.args.most) c.args.incomplete (AnswersThrough g.A.Answering.answers a b) (AnswersInPart g.A.Answering.answers a b) _ _ _ _ _ _ _ _ _ _
    script.source_count script.sink_count c.printed.result stopped c.printed.ensures.status c.printed.ensures.whole c.printed.ensures.front c.printed.ensures.cause c.printed.ensures.later
