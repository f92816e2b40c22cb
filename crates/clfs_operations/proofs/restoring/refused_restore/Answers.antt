use Rattle.std.proofs.Common.{refl, arith}
use Rattle.clfs_restore.specs.declared.refusal.RestoreRefusal.TheVariants as refusals
use Rattle.clfs_operations.proofs.RestoreTold.{told_restore_line, told_restore_nothing}
use Rattle.clfs_operations.proofs.restoring.refused_restore.Goals as goal

pub returns-in-Exists : goal.returns-in-Exists
returns-in-Exists g c =
    rw c.in-Exists.is (told_restore_line c.printed.result 8 (refusals.Exists c.in-Exists.slot) _ _ _ _ _ refl refl (λ e. omega (arith, e), λ e. omega (arith, e))
    c.printed.ensures.status c.printed.ensures.whole c.printed.ensures.front c.printed.ensures.cause c.printed.ensures.later)

pub returns-in-DiskFault : goal.returns-in-DiskFault
returns-in-DiskFault g c =
    rw c.in-DiskFault.is (told_restore_line c.printed-in-DiskFault.result 4 refusals.DiskFault _ _ _ _ _ refl refl (λ e. omega (arith, e), λ e. omega (arith, e))
    c.printed-in-DiskFault.ensures.status c.printed-in-DiskFault.ensures.whole c.printed-in-DiskFault.ensures.front c.printed-in-DiskFault.ensures.cause
    c.printed-in-DiskFault.ensures.later)

pub returns-in-NoMemory : goal.returns-in-NoMemory
returns-in-NoMemory g c = rw c.in-NoMemory.is (told_restore_nothing refusals.NoMemory _ _ (λ e. cc e))
