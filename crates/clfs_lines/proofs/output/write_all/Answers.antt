use Rattle.std.proofs.Common.{take, arith}
use Rattle.clfs_lines.proofs.Written.{appends_more, next_piece, within_piece}
use Rattle.clfs_lines.proofs.output.write_all.Goals as goal

pub loop-done-preserved : goal.loop-done-preserved
loop-done-preserved g c =
    let bytes = c.args.bytes.now in
    let done = c.loop-done.done in
    let count = c.in_ok-count.count in
    let rest = c.split_at.result.1.now in
    let piece = c.split_at-in-loop-done.result.0.now in
    let back = c.split_at.ensures.back in
    let front = c.split_at-in-loop-done.ensures.front in
    let bound = c.in_ok-count.ensures.bound in
    let next = next_piece done count c.min.result bytes rest piece back front bound in
    record {
      within = within_piece done count c.min.result bytes rest piece back front bound c.loop-done.invariant.within;
      written = appends_more (g.K.Sink.written c.args.sink.now) (g.K.Sink.written c.loop-done.sink) (g.K.Sink.written c.write.new.self) (take done bytes) (take count piece) _ next c.loop-done.invariant.written c.in_ok-count.ensures.bytes;
      later = omega (arith, c.loop-done.invariant.later, c.in_ok-count.ensures.cause.later);
    }
