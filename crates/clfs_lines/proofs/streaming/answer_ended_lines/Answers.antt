use Rattle.std.proofs.Common.{◌≡◌, ◌++◌, ◌∷◌, ◌+◌, List, [], ℕ, length, drop, refl, sym, ap, ◌∙◌, subst, arith}
use Rattle.std.specs.Io.KnownBytes.{Appends}
use Rattle.std.proofs.lemmas.List.{append-nil}
use Rattle.clfs_lines.specs.Through.{AnswersThrough, AnswersInPart}
use Rattle.clfs_lines.specs.Ends.{AppendsFront}
use Rattle.clfs_lines.specs.Stopped.{HasStopped}
use Rattle.clfs_lines.specs.Taken.{script_limits}
use Rattle.clfs_lines.specs.declared.incomplete.IncompleteLine.{IncompleteLine}
use Rattle.clfs_lines.specs.declared.stop.Stop.{Stop}
use Rattle.clfs_lines.proofs.NoFeeds.{none_in_none, none_in_same, none_in_both}
use Rattle.clfs_lines.proofs.Pieces.{line_in, line_stopped_by, handed_on, reading_begins, reading_line, reading_piece, reading_at, reading_kept, reading_ends, source_stops, limit_stops, line_stops, memory_stops, unwritten_stops, sink_stops}
use Rattle.clfs_lines.proofs.streaming.answer_ended_lines.Goals as goal

pub returns-in_default-clause-stopped : goal.returns-in_default-clause-stopped
returns-in_default-clause-stopped g c incomplete =
    let a = c.args.answering.now in
    let left = g.S.Source.left c.args.source.now in
    let written = g.K.Sink.written c.args.sink.now in
    memory_stops c.args.most _ g.A.Answering.answers a left written incomplete left [] 0 a written (reading_begins c.args.most _ g.A.Answering.answers a left written [] refl)

pub lines-init : goal.lines-init
lines-init g c =
    let none : c.args.carried.now.items ++ c.in-Ok.piece ≡ [] = ap (λ (bytes : List ℕ). bytes ++ c.in-Ok.piece) c.requires ∙ c.in-Ok.ensures in
    let few = ap length c.requires in record {
      reading = reading_begins c.args.most _ g.A.Answering.answers c.args.answering.now (g.S.Source.left c.args.source.now) (g.K.Sink.written c.args.sink.now) _ none;
      one = none_in_none c.args.carried.now.items c.requires;
      short = omega (arith, few);
      few = omega arith;
      source_count = omega arith;
      sink_count = omega arith;
    }

pub returns-in_err-answer_joined-clause-stopped : goal.returns-in_err-answer_joined-clause-stopped
returns-in_err-answer_joined-clause-stopped g c =
    let a = c.args.answering.now in
    let left = g.S.Source.left c.args.source.now in
    let left_now = g.S.Source.left c.lines.source in
    let written = g.K.Sink.written c.args.sink.now in
    let w = g.K.Sink.written c.lines.sink in
    let mid = c.lines.answering in
    let b = c.answer_joined.new.answering in
    let carried : List ℕ = c.lines.carried.items in
    let line : List ℕ = c.in-Some.line.now in
    let after : List ℕ = drop (length line + 1) c.rest.result.now in
    let split : carried ++ c.lines.piece ≡ (carried ++ line) ++ 10 ∷ after = line_in carried c.lines.piece line after (sym c.rest.ensures ∙ c.in-Some.ensures.1) in
    let reading = reading_at c.args.most _ g.A.Answering.answers a left written left_now (carried ++ c.lines.piece) ((carried ++ line) ++ 10 ∷ after) c.lines.given mid w c.lines.invariant.reading split in
    let one = none_in_both carried line c.lines.invariant.one c.in-Some.ensures.0 in
    let P : Stop → Type 0 = λ (stop : Stop). (incomplete : IncompleteLine) → HasStopped (script_limits c.args.most) incomplete (AnswersThrough g.A.Answering.answers a b) (AnswersInPart g.A.Answering.answers a b) stop left left_now written w
    (g.S.Source.faults c.args.source.now) (g.S.Source.faults c.lines.source) (g.K.Sink.faults c.args.sink.now) (g.K.Sink.faults c.lines.sink) in
    handed_on P c.from_residual.result c.in_err-answer_joined.field-0.0 c.from_residual.ensures.1
    (line_stopped_by P c.in_err-answer_joined.field-0.0 (carried ++ line) _ _ c.in_err-answer_joined.ensures.stopped
    (λ long same incomplete. rw same (line_stops c.args.most _ g.A.Answering.answers a left written left_now (carried ++ line) (10 ∷ after) c.lines.given mid w reading one long))
    (λ few same incomplete. rw same (memory_stops c.args.most _ g.A.Answering.answers a left written incomplete left_now ((carried ++ line) ++ 10 ∷ after) c.lines.given mid w reading))
    (λ few behind incomplete. unwritten_stops c.args.most _ g.A.Answering.answers a left written incomplete left_now (carried ++ line) after c.lines.given mid b w reading one few behind))

pub returns-in_default-write_all-clause-stopped : goal.returns-in_default-write_all-clause-stopped
returns-in_default-write_all-clause-stopped g c incomplete =
    let a = c.args.answering.now in
    let left = g.S.Source.left c.args.source.now in
    let left_now = g.S.Source.left c.lines.source in
    let written = g.K.Sink.written c.args.sink.now in
    let w1 = g.K.Sink.written c.lines.sink in
    let w2 = g.K.Sink.written c.write_all.new.sink in
    let mid = c.lines.answering in
    let b = c.answer_joined.new.answering in
    let carried : List ℕ = c.lines.carried.items in
    let line : List ℕ = c.in-Some.line.now in
    let after : List ℕ = drop (length line + 1) c.rest.result.now in
    let split : carried ++ c.lines.piece ≡ (carried ++ line) ++ 10 ∷ after = line_in carried c.lines.piece line after (sym c.rest.ensures ∙ c.in-Some.ensures.1) in
    let reading = reading_at c.args.most _ g.A.Answering.answers a left written left_now (carried ++ c.lines.piece) ((carried ++ line) ++ 10 ∷ after) c.lines.given mid w1 c.lines.invariant.reading split in
    let front : AppendsFront w1 w2 c.answer_joined.new.out = subst (λ (text : List ℕ). AppendsFront w1 w2 text) c.as_slice.ensures c.in_default-write_all.ensures.err in
    let rose = c.in_default-write_all.ensures.cause.failed in (
      omega (arith, rose, c.lines.invariant.sink_count),
      sink_stops c.args.most _ g.A.Answering.answers a left written incomplete left_now (carried ++ line) after c.lines.given mid c.cleared-reply.result c.answer_joined.new.out b w1 w2 reading
          (none_in_both carried line c.lines.invariant.one c.in-Some.ensures.0) c.in_ok-answer_joined.ensures.short c.in_ok-answer_joined.ensures.ok c.cleared-reply.ensures front,
    )

pub lines-preserved-in-Some : goal.lines-preserved-in-Some
lines-preserved-in-Some g c =
    let a = c.args.answering.now in
    let left = g.S.Source.left c.args.source.now in
    let written = g.K.Sink.written c.args.sink.now in
    let w1 = g.K.Sink.written c.lines.sink in
    let w2 = g.K.Sink.written c.write_all.new.sink in
    let carried : List ℕ = c.lines.carried.items in
    let line : List ℕ = c.in-Some.line.now in
    let split : c.lines.piece ≡ line ++ 10 ∷ c.skip.new.self =
    sym c.rest.ensures ∙ c.in-Some.ensures.1
    ∙ ap (λ (after : List ℕ). line ++ 10 ∷ after) (ap (λ (bytes : List ℕ). drop (length line + 1) bytes) c.rest.ensures ∙ sym c.skip.ensures) in
    let wrote : Appends w1 w2 c.answer_joined.new.out = subst (λ (text : List ℕ). Appends w1 w2 text) c.as_slice.ensures c.in-Ok-write_all.ensures.ok in
    let few = ap length c.in_ok-answer_joined.ensures.carried in
    record {
      reading = reading_line c.args.most _ g.A.Answering.answers a left written (g.S.Source.left c.lines.source) carried c.lines.piece line
          c.answer_joined.new.carried.items c.skip.new.self c.lines.given c.lines.answering c.cleared-reply.result c.answer_joined.new.out
          c.answer_joined.new.answering w1 w2
          c.lines.invariant.reading (none_in_both carried line c.lines.invariant.one c.in-Some.ensures.0) c.in_ok-answer_joined.ensures.short split
          c.in_ok-answer_joined.ensures.ok c.cleared-reply.ensures wrote c.in_ok-answer_joined.ensures.carried;
      one = none_in_none c.answer_joined.new.carried.items c.in_ok-answer_joined.ensures.carried;
      short = omega (arith, few);
      few = c.lines.invariant.few;
      source_count = c.lines.invariant.source_count;
      sink_count = omega (arith, c.lines.invariant.sink_count, c.write_all.ensures.cause.later);
    }

pub returns-in_err-carry-clause-stopped : goal.returns-in_err-carry-clause-stopped
returns-in_err-carry-clause-stopped g c =
    let a = c.args.answering.now in
    let left = g.S.Source.left c.args.source.now in
    let left_now = g.S.Source.left c.lines.source in
    let written = g.K.Sink.written c.args.sink.now in
    let w = g.K.Sink.written c.lines.sink in
    let b = c.lines.answering in
    let carried : List ℕ = c.lines.carried.items in
    let rest : List ℕ = c.rest-in-lines.result.now in
    let same : carried ++ c.lines.piece ≡ (carried ++ rest) ++ [] = ap (λ (bytes : List ℕ). carried ++ bytes) (sym c.rest-in-lines.ensures) ∙ sym (append-nil (carried ++ rest)) in
    let reading = reading_at c.args.most _ g.A.Answering.answers a left written left_now (carried ++ c.lines.piece) ((carried ++ rest) ++ []) c.lines.given b w c.lines.invariant.reading same in
    let one = none_in_both carried rest c.lines.invariant.one (none_in_same rest c.rest.result.now (c.rest-in-lines.ensures ∙ sym c.rest.ensures) c.in_default-ended_line.ensures) in
    let P : Stop → Type 0 = λ (stop : Stop). (incomplete : IncompleteLine) → HasStopped (script_limits c.args.most) incomplete (AnswersThrough g.A.Answering.answers a b) (AnswersInPart g.A.Answering.answers a b) stop left left_now written w
    (g.S.Source.faults c.args.source.now) (g.S.Source.faults c.lines.source) (g.K.Sink.faults c.args.sink.now) (g.K.Sink.faults c.lines.sink) in
    let stops = λ (incomplete : IncompleteLine). memory_stops c.args.most _ g.A.Answering.answers a left written incomplete left_now ((carried ++ rest) ++ []) c.lines.given b w reading in
    handed_on P c.from_residual-in_err-carry.result c.in_err-carry.field-0.0 c.from_residual-in_err-carry.ensures.1
    (line_stopped_by P c.in_err-carry.field-0.0 (carried ++ rest) _ _ c.in_err-carry.ensures.stopped
    (λ long same incomplete. line_stops c.args.most _ g.A.Answering.answers a left written left_now (carried ++ rest) [] c.lines.given b w reading one long)
    (λ few same. stops) (λ few same. stops))

pub returns-then-given-limit-clause-stopped :
    goal.returns-then-given-limit-clause-stopped
returns-then-given-limit-clause-stopped g c incomplete =
    let carried : List ℕ = c.lines.carried.items in
    let rest = none_in_same c.lines.piece c.rest.result.now (sym c.rest.ensures) c.in_default-ended_line.ensures in
    limit_stops c.args.most _ g.A.Answering.answers c.args.answering.now (g.S.Source.left c.args.source.now) (g.K.Sink.written c.args.sink.now)
    (g.S.Source.left c.lines.source) (carried ++ c.lines.piece) c.lines.given c.lines.answering
    (g.K.Sink.written c.lines.sink) c.lines.invariant.reading (none_in_both carried c.lines.piece c.lines.invariant.one rest) c.if-given-limit.true

pub returns-in_default-fill-clause-stopped : goal.returns-in_default-fill-clause-stopped
returns-in_default-fill-clause-stopped g c incomplete =
    let a = c.args.answering.now in
    let left = g.S.Source.left c.args.source.now in
    let written = g.K.Sink.written c.args.sink.now in
    let carried : List ℕ = c.lines.carried.items in
    let rest = none_in_same c.lines.piece c.rest.result.now (sym c.rest.ensures) c.in_default-ended_line.ensures in
    let rose = c.in_default-fill.ensures.cause.failed in (
      omega (arith, rose, c.lines.invariant.source_count),
      source_stops c.args.most _ g.A.Answering.answers a left written (g.S.Source.left c.fill.new.source) (carried ++ c.lines.piece) c.lines.given c.lines.answering
          (g.K.Sink.written c.lines.sink)
          (reading_kept c.args.most _ g.A.Answering.answers a left written (g.S.Source.left c.lines.source) (g.S.Source.left c.fill.new.source) (carried ++ c.lines.piece) c.lines.given c.lines.answering (g.K.Sink.written c.lines.sink) c.lines.invariant.reading c.in_default-fill.ensures.kept)
          (none_in_both carried c.lines.piece c.lines.invariant.one rest),
    )

pub returns-then-count-eq0-clause-ended : goal.returns-then-count-eq0-clause-ended
returns-then-count-eq0-clause-ended g c =
    let carried : List ℕ = c.lines.carried.items in
    let rest : List ℕ = c.rest-in-lines.result.now in
    let none = none_in_same rest c.rest.result.now (c.rest-in-lines.ensures ∙ sym c.rest.ensures) c.in_default-ended_line.ensures in
    let taken = c.in-Ok-fill.ensures.taken in
    let same : c.carry.new.carried.items ≡ carried ++ c.lines.piece = c.in_ok-carry.ensures.bytes ∙ ap (λ (bytes : List ℕ). carried ++ bytes) c.rest-in-lines.ensures in
    reading_ends c.args.most _ g.A.Answering.answers c.args.answering.now (g.S.Source.left c.args.source.now) (g.K.Sink.written c.args.sink.now)
    (g.S.Source.left c.lines.source) (g.S.Source.left c.fill.new.source) (carried ++ c.lines.piece) c.carry.new.carried.items taken.0 c.lines.given c.lines.answering (g.K.Sink.written c.lines.sink) c.lines.invariant.reading c.if-given-limit.false same taken.1.0
    (taken.1.1.0 ∙ c.if-count-eq0.true) (c.in-Ok-fill.ensures.end c.if-count-eq0.true)
    (none_in_same c.carry.new.carried.items (carried ++ rest) c.in_ok-carry.ensures.bytes (none_in_both carried rest c.lines.invariant.one none)) c.in_ok-carry.ensures.short

pub lines-preserved : goal.lines-preserved
lines-preserved g c =
    let carried : List ℕ = c.lines.carried.items in
    let rest : List ℕ = c.rest-in-lines.result.now in
    let none = none_in_same rest c.rest.result.now (c.rest-in-lines.ensures ∙ sym c.rest.ensures) c.in_default-ended_line.ensures in
    let taken = c.in-Ok-fill.ensures.taken in
    let same : c.carry.new.carried.items ≡ carried ++ c.lines.piece = c.in_ok-carry.ensures.bytes ∙ ap (λ (bytes : List ℕ). carried ++ bytes) c.rest-in-lines.ensures in
    record {
      reading = reading_piece c.args.most _ g.A.Answering.answers c.args.answering.now (g.S.Source.left c.args.source.now) (g.K.Sink.written c.args.sink.now)
          (g.S.Source.left c.lines.source) (g.S.Source.left c.fill.new.source) (carried ++ c.lines.piece) c.carry.new.carried.items c.fill.new.self taken.0 c.lines.given
          c.in-Ok-fill.count c.lines.answering (g.K.Sink.written c.lines.sink) c.lines.invariant.reading
          c.if-given-limit.false same taken.1.0 taken.1.1.0 taken.1.1.1;
      one = none_in_same c.carry.new.carried.items (carried ++ rest) c.in_ok-carry.ensures.bytes (none_in_both carried rest c.lines.invariant.one none);
      short = c.in_ok-carry.ensures.short;
      few = omega (arith, c.if-given-limit.false, c.in-Ok-fill.ensures.few);
      source_count = omega (arith, c.lines.invariant.source_count, c.in-Ok-fill.ensures.cause.later);
      sink_count = c.lines.invariant.sink_count;
    }
