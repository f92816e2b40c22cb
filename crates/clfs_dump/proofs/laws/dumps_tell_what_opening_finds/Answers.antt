use Rattle.clfs_dump.proofs.Words.{Ok, Err}
use Rattle.clfs_dump.proofs.OpeningFinds.{found_meets}
use Rattle.clfs_dump.proofs.laws.dumps_tell_what_opening_finds.Goals as goal

pub returns-clause-end : goal.returns-clause-end
returns-clause-end c selection files parts found =
    (found_meets c.blocks_are_judged_alone.ensures c.blocks_are_read_as_written.ensures c.copies_are_read_as_written.ensures.limits selection files (Ok parts) found).0

pub returns-clause-records : goal.returns-clause-records
returns-clause-records c selection files parts found =
    (found_meets c.blocks_are_judged_alone.ensures c.blocks_are_read_as_written.ensures c.copies_are_read_as_written.ensures.limits selection files (Ok parts) found).1

pub returns-clause-refused : goal.returns-clause-refused
returns-clause-refused c selection files refusal found =
    found_meets c.blocks_are_judged_alone.ensures c.blocks_are_read_as_written.ensures c.copies_are_read_as_written.ensures.limits selection files (Err refusal) found
