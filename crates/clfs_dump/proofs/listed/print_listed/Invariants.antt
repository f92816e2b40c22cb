use Rattle.clfs_dump.proofs.Words.{◌≡◌, ◌≤◌, TellsContents}
use Rattle.clfs_recover.specs.Gathering.{IsEnd}
use Rattle.clfs_dump.proofs.DiskReads.{WasRead}
use Rattle.clfs_dump.proofs.Walks.{IsThroughListed}
use Rattle.clfs_dump.proofs.listed.print_listed.Given as goal

abbrev pub invariant-loop-i : goal.invariant-loop-i
invariant-loop-i g l =
    let first = g.D.Disk.state l.fn.disk in
    let now = g.D.Disk.state l.disk in
    record {
      same_room : l.piece.room ≡ l.fn.piece.room;
      is_end : IsEnd l.shape l.end;
      was : WasRead first now;
      later : g.K.Sink.faults l.fn.sink ≤ g.K.Sink.faults l.sink;
      through : TellsContents first → IsThroughListed l.selection l.rows l.shape first.files l.first l.files (g.K.Sink.written l.fn.sink)
          (g.K.Sink.written l.sink) l.i l.end;
    }
