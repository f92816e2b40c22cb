use Rattle.std.proofs.Common.{refl, arith}
use Rattle.clfs_restore.specs.declared.refusal.ArchiveRefusal.TheVariants as refusals
use Rattle.clfs_operations.proofs.ArchiveTold.{told_archive_line}
use Rattle.clfs_operations.proofs.archiving.unarchived.Goals as goal

pub returns-in-TooLong : goal.returns-in-TooLong
returns-in-TooLong g c =
    rw c.in-TooLong.is (told_archive_line c.printed.result 15 (refusals.TooLong c.in-TooLong.bytes) _ _ _ _ _ refl refl (λ e. omega (arith, e), λ e. omega (arith, e))
    c.printed.ensures.status c.printed.ensures.whole c.printed.ensures.front c.printed.ensures.cause c.printed.ensures.later)
