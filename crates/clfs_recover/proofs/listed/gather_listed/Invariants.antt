use Rattle.clfs_recover.proofs.Words.{◌≡◌, List, vec_len, LogEntry, Row, Unchanged, TellsContents, IsSteady, Passes, HasTaken}
use Rattle.clfs_recover.specs.Gathering.{IsEnd}
use Rattle.clfs_recover.proofs.Listing.{HaveTaken}
use Rattle.clfs_recover.proofs.listed.gather_listed.Given as goal

abbrev pub invariant-loop-i : goal.invariant-loop-i
invariant-loop-i g l =
    let first = g.D.Disk.state l.fn.disk in
    let now = g.D.Disk.state l.disk in
    record {
      same_room : l.piece.room ≡ l.fn.piece.room;
      is_end : IsEnd l.shape l.end;
      same_streams : vec_len l.bases ≡ vec_len l.fn.bases;
      same : Unchanged first.files now.files;
      time : Passes Unchanged first now;
      steady : IsSteady first → now.faults ≡ first.faults;
      behind : (rows : List Row) (before : List LogEntry) → HasTaken (g.G.Gatherer.has l.fn.gatherer) rows l.fn.bases.items before
          → HaveTaken l.shape (vec_len l.fn.bases) l.first (TellsContents first) first.files l.files (g.G.Gatherer.has l.gatherer) rows l.bases.items
          before l.i l.end;
    }
