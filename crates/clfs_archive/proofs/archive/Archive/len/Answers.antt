use Rattle.std.proofs.Common.{subst}
use Rattle.clfs_lsn.specs.Rising.{AreRising}
use Rattle.clfs_archive.specs.Blocks.{lsn_of_block}
use Rattle.clfs_archive.specs.Row.{Row}
use Rattle.clfs_archive.proofs.Counting.{ends_are_counted}
use Rattle.clfs_archive.proofs.archive.Archive.len.Goals as goal

pub returns-clause-sealed : goal.returns-clause-sealed
returns-clause-sealed c = λ lsn from next heads up are.
    ends_are_counted lsn from next c.args.self.now.blocks heads up
    (subst (λ (row : Row). AreRising lsn_of_block row.blocks) c.self.view_is c.self.invariant) are
