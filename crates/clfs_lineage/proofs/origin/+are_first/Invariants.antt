use Rattle.std.proofs.Common.{length}
use Rattle.clfs_lineage.proofs.origin.+are_first.Given as goal

-- some of the streams
abbrev pub decreases-are_first : goal.decreases-are_first
decreases-are_first l = length l.rows.now
