use Rattle.clfs_archive_form.proofs.Words.{◌≡◌, ℕ, ◌-◌, ◌%◌, ◌≤◌, List, length, Ok, LogEntry, AreWhole, total, stored_in}
use Rattle.clfs_archive_form.proofs.OpenEnds.{AreLeft}
use Rattle.clfs_archive_form.proofs.judge.Judge.open_end.Given as goal

abbrev pub invariant-loop-offset : goal.invariant-loop-offset
invariant-loop-offset l = record {
  same : l.self ≡ l.fn.self;
  whole : l.offset % 512 ≡ 0;
  within : l.offset ≤ length l.bytes;
  left : (here : List (List ℕ)) (entries : List LogEntry) → AreWhole l.fn.self.shape.container_sectors l.bytes here
      → stored_in l.fn.self.shape l.fn.self.streams l.id 0 here ≡ Ok entries
      → AreLeft l.fn.self.shape l.fn.self.streams l.id l.bytes l.offset (total here);
}

abbrev pub decreases-loop-offset : goal.decreases-loop-offset
decreases-loop-offset l = l.end - l.offset
