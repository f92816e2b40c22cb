use Rattle.clfs_shared.proofs.Counting.{none_counted}
use Rattle.clfs_shared.proofs.entries.Entries.new.Goals as goal

pub invariant_of-result : goal.invariant_of-result
invariant_of-result g = none_counted g.no_counts.result _ g.no_counts.ensures g.in_ok-entries.ensures.items
