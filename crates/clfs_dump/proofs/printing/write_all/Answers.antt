use Rattle.clfs_dump.proofs.Words.{take, arith}
use Rattle.std.proofs.Math.Seq.{take-add}
use Rattle.clfs_dump.proofs.Written.{appends_more}
use Rattle.clfs_dump.proofs.printing.write_all.Goals as goal

pub loop-done-preserved : goal.loop-done-preserved
loop-done-preserved g c = record {
  within = omega (arith, c.in_ok-count.ensures.bound);
  written = appends_more (g.K.Sink.written c.args.sink.now) (g.K.Sink.written c.loop-done.sink) (g.K.Sink.written c.write.new.self) (take c.loop-done.done c.args.bytes.now) (take c.in_ok-count.count c.split_at.result.1.now) _ (rw c.split_at.ensures.back (take-add c.loop-done.done c.in_ok-count.count c.args.bytes.now)) c.loop-done.invariant.written c.in_ok-count.ensures.bytes;
  later = omega (arith, c.loop-done.invariant.later, c.in_ok-count.ensures.cause.later);
}
