use Rattle.clfs_recover.proofs.Words.{◌≡◌, ◌-◌, ◌*◌, ◌%◌, ◌≤◌, List, vec_len, LogEntry, Row, Unchanged, TellsContents, IsSteady, Passes, Shows, HasTaken}
use Rattle.clfs_recover.proofs.Taken.{IsBehind}
use Rattle.clfs_recover.proofs.container.gather_container.Given as goal

abbrev pub invariant-loop-offset : goal.invariant-loop-offset
invariant-loop-offset g l =
    let first = g.D.Disk.state l.fn.disk in
    let now = g.D.Disk.state l.disk in
    record {
      whole : l.offset % 512 ≡ 0;
      within : l.offset ≤ 512 * l.shape.container_sectors;
      same_room : l.piece.room ≡ l.fn.piece.room;
      same_streams : vec_len l.bases ≡ vec_len l.fn.bases;
      same : Unchanged first.files now.files;
      time : Passes Unchanged first now;
      steady : IsSteady first → now.faults ≡ first.faults;
      shows : TellsContents first → Shows (first.files l.listed.file) l.piece;
      behind : (rows : List Row) (before : List LogEntry) → HasTaken (g.G.Gatherer.has l.fn.gatherer) rows l.fn.bases.items before
          → IsBehind l.shape (vec_len l.fn.bases) l.listed.id (TellsContents first) (first.files l.listed.file) (g.G.Gatherer.has l.gatherer) rows
          l.bases.items before l.offset;
    }

abbrev pub decreases-loop-offset : goal.decreases-loop-offset
decreases-loop-offset g l = l.end - l.offset
