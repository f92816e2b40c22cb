use Rattle.clfs_archive_form.proofs.Words.{◌≡◌, ◌-◌, ◌≤◌, ℕ, List, length, Ok, LogEntry, stored_in, blocks_in}
use Rattle.clfs_archive_form.proofs.KeptEnds.{KeptTo}
use Rattle.clfs_archive_form.proofs.kept.kept_end.Given as goal

abbrev pub invariant-loop-offset : goal.invariant-loop-offset
invariant-loop-offset l = record {
  within : l.offset ≤ length l.blocks;
  kept : (streams : ℕ) (entries : List LogEntry) → stored_in l.shape streams l.id 0 (blocks_in l.blocks) ≡ Ok entries
      → KeptTo l.shape streams l.id l.up_to l.blocks entries l.offset;
}

abbrev pub decreases-loop-offset : goal.decreases-loop-offset
decreases-loop-offset l = length l.blocks - l.offset
