use Rattle.clfs_dump.proofs.Words.{◌≡◌, ◌-◌, ◌*◌, ◌%◌, ◌≤◌, TellsContents, Shows}
use Rattle.clfs_dump.proofs.DiskReads.{WasRead}
use Rattle.clfs_dump.proofs.Walks.{IsThrough}
use Rattle.clfs_dump.proofs.container.print_blocks.Given as goal

abbrev pub invariant-loop-offset : goal.invariant-loop-offset
invariant-loop-offset g l =
    let first = g.D.Disk.state l.fn.disk in
    let now = g.D.Disk.state l.disk in
    record {
      whole : l.offset % 512 ≡ 0;
      within : l.offset ≤ 512 * l.shape.container_sectors;
      same_room : l.piece.room ≡ l.fn.piece.room;
      was : WasRead first now;
      later : g.K.Sink.faults l.fn.sink ≤ g.K.Sink.faults l.sink;
      shows : TellsContents first → Shows (first.files l.listed.file) l.piece;
      through : TellsContents first
          → IsThrough l.selection l.rows l.shape l.listed.id (first.files l.listed.file) (g.K.Sink.written l.fn.sink) (g.K.Sink.written l.sink) l.offset;
    }

abbrev pub decreases-loop-offset : goal.decreases-loop-offset
decreases-loop-offset g l = l.end - l.offset
