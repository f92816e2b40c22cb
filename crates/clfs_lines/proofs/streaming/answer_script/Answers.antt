use Rattle.std.proofs.Common.{List, ℕ, vec_len, subst, inl, inr, arith}
use Rattle.std.specs.Io.KnownBytes.{Appends}
use Rattle.clfs_lines.specs.Through.{AnswersLine, AnswersUnwritten}
use Rattle.clfs_lines.specs.Ends.{AppendsFront}
use Rattle.clfs_lines.proofs.LastLine.{no_bytes, some_bytes, counts, none_left, rest_dropped, last_answered, last_unanswered, last_unwritten, last_cut}
use Rattle.clfs_lines.proofs.streaming.answer_script.Goals as goal

pub returns-in-Dropped-clause-done : goal.returns-in-Dropped-clause-done
returns-in-Dropped-clause-done g c =
    rw c.in-Dropped.is
    (rest_dropped c.args.most _ g.A.Answering.answers c.args.answering.now (g.S.Source.left c.args.source.now) (g.S.Source.left c.answer_ended_lines.new.source)
    (g.K.Sink.written c.args.sink.now) c.answer_ended_lines.new.carried.items c.answer_ended_lines.new.answering
    (g.K.Sink.written c.answer_ended_lines.new.sink) c.in_ok-answer_ended_lines.ensures.ended)

pub returns-then-is_empty-clause-done : goal.returns-then-is_empty-clause-done
returns-then-is_empty-clause-done g c =
    rw (counts c.args.incomplete c.in_default.not-Dropped)
    (none_left c.args.most _ g.A.Answering.answers c.args.answering.now (g.S.Source.left c.args.source.now) (g.S.Source.left c.answer_ended_lines.new.source)
    (g.K.Sink.written c.args.sink.now) c.answer_ended_lines.new.carried.items c.answer_ended_lines.new.answering
    (g.K.Sink.written c.answer_ended_lines.new.sink) c.in_ok-answer_ended_lines.ensures.ended
    (no_bytes c.answer_ended_lines.new.carried.items (vec_len c.answer_ended_lines.new.carried) c.is_empty.result (omega arith) c.is_empty.ensures c.if-is_empty.true))

pub returns-in_default-answer-clause-stopped : goal.returns-in_default-answer-clause-stopped
returns-in_default-answer-clause-stopped g c =
    let a = c.args.answering.now in
    let left = g.S.Source.left c.args.source.now in
    let left_after = g.S.Source.left c.answer_ended_lines.new.source in
    let written = g.K.Sink.written c.args.sink.now in
    let w = g.K.Sink.written c.answer_ended_lines.new.sink in
    let line : List ℕ = c.answer_ended_lines.new.carried.items in
    let mid = c.answer_ended_lines.new.answering in
    let b = c.answer.new.self in
    let ended = c.in_ok-answer_ended_lines.ensures.ended in
    rw (counts c.args.incomplete c.in_default.not-Dropped) (elim c.in_default-answer.ensures.err [
      | inl same ↦ rw same (last_unanswered c.args.most _ g.A.Answering.answers a left left_after written line mid w ended)
      | inr behind ↦ last_unwritten c.args.most _ g.A.Answering.answers a left left_after written line mid b w ended
          (some_bytes line (vec_len c.answer_ended_lines.new.carried) c.is_empty.result (omega arith) c.is_empty.ensures c.if-is_empty.false) (subst (λ (l : List ℕ). AnswersUnwritten g.A.Answering.answers mid l b) c.deref.ensures.value behind)
    ])

pub returns-in-Ok-write_all-clause-done : goal.returns-in-Ok-write_all-clause-done
returns-in-Ok-write_all-clause-done g c =
    let w1 = g.K.Sink.written c.answer_ended_lines.new.sink in
    let w2 = g.K.Sink.written c.write_all.new.sink in
    let line : List ℕ = c.answer_ended_lines.new.carried.items in
    let mid = c.answer_ended_lines.new.answering in
    let b = c.answer.new.self in
    let step : AnswersLine g.A.Answering.answers mid line c.new-reply.result c.answer.new.out b =
    subst (λ (l : List ℕ). AnswersLine g.A.Answering.answers mid l c.new-reply.result c.answer.new.out b) c.deref.ensures.value c.in-Ok.ensures.ok in
    let wrote : Appends w1 w2 c.answer.new.out = subst (λ (text : List ℕ). Appends w1 w2 text) c.as_slice.ensures c.in-Ok-write_all.ensures.ok in
    rw (counts c.args.incomplete c.in_default.not-Dropped)
    (last_answered c.args.most _ g.A.Answering.answers c.args.answering.now (g.S.Source.left c.args.source.now) (g.S.Source.left c.answer_ended_lines.new.source)
    (g.K.Sink.written c.args.sink.now) line mid c.new-reply.result c.answer.new.out b w1 w2
    c.in_ok-answer_ended_lines.ensures.ended (some_bytes line (vec_len c.answer_ended_lines.new.carried) c.is_empty.result (omega arith) c.is_empty.ensures c.if-is_empty.false) step c.new-reply.ensures wrote)

pub returns-clause-stopped : goal.returns-clause-stopped
returns-clause-stopped g c =
    let w1 = g.K.Sink.written c.answer_ended_lines.new.sink in
    let w2 = g.K.Sink.written c.write_all.new.sink in
    let line : List ℕ = c.answer_ended_lines.new.carried.items in
    let mid = c.answer_ended_lines.new.answering in
    let b = c.answer.new.self in
    let step : AnswersLine g.A.Answering.answers mid line c.new-reply.result c.answer.new.out b =
    subst (λ (l : List ℕ). AnswersLine g.A.Answering.answers mid l c.new-reply.result c.answer.new.out b) c.deref.ensures.value c.in-Ok.ensures.ok in
    let front : AppendsFront w1 w2 c.answer.new.out = subst (λ (text : List ℕ). AppendsFront w1 w2 text) c.as_slice.ensures c.in-Err.ensures.err in
    let rose = c.in-Err.ensures.cause.failed in (
      omega (arith, rose, c.in_ok-answer_ended_lines.ensures.sink_count),
      rw (counts c.args.incomplete c.in_default.not-Dropped)
          (last_cut c.args.most _ g.A.Answering.answers c.args.answering.now (g.S.Source.left c.args.source.now) (g.S.Source.left c.answer_ended_lines.new.source)
          (g.K.Sink.written c.args.sink.now) line mid c.new-reply.result c.answer.new.out b w1 w2
          c.in_ok-answer_ended_lines.ensures.ended (some_bytes line (vec_len c.answer_ended_lines.new.carried) c.is_empty.result (omega arith) c.is_empty.ensures c.if-is_empty.false) step c.new-reply.ensures front),
    )
