use Rattle.std.proofs.Common.{◌≤◌, ◌++◌, ◌+◌, ◌-◌, ◌*◌, length}
use Rattle.clfs_race.specs.Feeds.{HasNoFeed}
use Rattle.clfs_lines.proofs.Pieces.{IsReading}
use Rattle.clfs_lines.proofs.streaming.answer_ended_lines.Given as goal

abbrev pub invariant-lines : goal.invariant-lines
invariant-lines g l = record {
  reading : IsReading g.A.Answering.answers l.most l.fn.answering (g.S.Source.left l.fn.source) (g.S.Source.left l.source) (g.K.Sink.written l.fn.sink)
      (l.carried.items ++ l.piece) l.given l.answering (g.K.Sink.written l.sink);
  one : HasNoFeed l.carried.items;
  short : length l.carried.items ≤ 131072;
  few : l.given ≤ l.most + 65536;
  source_count : g.S.Source.faults l.fn.source ≤ g.S.Source.faults l.source;
  sink_count : g.K.Sink.faults l.fn.sink ≤ g.K.Sink.faults l.sink;
}

-- twice the bytes that may still be taken, and those that are still to be answered
abbrev pub decreases-lines : goal.decreases-lines
decreases-lines g l = 2 * (l.most + 65536 - l.given) + length l.piece
