use Rattle.clfs_physical.proofs.Words.{◌-◌, ◌<◌, ◌≤◌, ℕ, IsIn}
use Rattle.clfs_physical.proofs.free.free_file.Given as goal

-- All smaller files are among these.
abbrev pub invariant-loop-file : goal.invariant-loop-file
invariant-loop-file l = record {
  some : 1 ≤ l.file;
  few : l.file ≤ l.made;
  least : (other : ℕ) → 1 ≤ other → other < l.file → IsIn l.files other;
}

abbrev pub decreases-loop-file : goal.decreases-loop-file
decreases-loop-file l = l.made - l.file
