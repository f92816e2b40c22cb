use Rattle.std.proofs.Common.{refl}
use Rattle.std.specs.Prelude.{replicate}
use Rattle.clfs_shared.proofs.Counting.{none_yet}
use Rattle.clfs_shared.proofs.told.ToldJournalRecorder.new.Goals as goal

pub invariant_of-result : goal.invariant_of-result
invariant_of-result c = none_yet (replicate 65 0) c.none.result.value refl c.none.ensures
