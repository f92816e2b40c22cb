use Rattle.clfs_operations.proofs.RestoreTold.{told_too_long, told_source_fault, told_no_memory}
use Rattle.clfs_operations.proofs.restoring.printed_unread.Goals as goal

pub returns-in-SourceFault : goal.returns-in-SourceFault
returns-in-SourceFault g c = rw c.in-SourceFault.is (told_source_fault _ _)

pub returns-in-TooLong : goal.returns-in-TooLong
returns-in-TooLong g c =
    rw c.in-TooLong.is (told_too_long c.printed.result _ _ _ _ c.printed.ensures.status c.printed.ensures.whole c.printed.ensures.front c.printed.ensures.cause
    c.printed.ensures.later)

pub returns-in-NoMemory : goal.returns-in-NoMemory
returns-in-NoMemory g c = rw c.in-NoMemory.is (told_no_memory _ _)
