use Rattle.std.proofs.Common.{refl, ◌∙◌, arith}
use Rattle.clfs_recover.specs.declared.refusal.LoadRefusal.TheVariants as loads
use Rattle.clfs_operations.proofs.Refusals.{told_line}
use Rattle.clfs_operations.proofs.refusing.refused.Goals as goal

pub returns-in-NoBase : goal.returns-in-NoBase
returns-in-NoBase g c =
    rw c.in-NoBase.is (told_line c.printed.result 6 loads.NoBase _ _ _ _ _ refl refl (λ e. cc e) (λ e. omega (arith, e)) c.printed.ensures.status c.printed.ensures.whole
    c.printed.ensures.front c.printed.ensures.cause c.printed.ensures.later)

pub returns-in-Ok : goal.returns-in-Ok
returns-in-Ok g c =
    rw c.in-Damaged.is (told_line c.printed-in-Ok.result 6 (loads.Damaged c.in-Damaged.container c.in-Damaged.offset c.in-Damaged.at) c.as_slice.result.now _ _ _ _
    (c.as_slice.ensures ∙ c.in-Ok.ensures) refl (λ e. cc e) (λ e. omega (arith, e)) c.printed-in-Ok.ensures.status c.printed-in-Ok.ensures.whole
    c.printed-in-Ok.ensures.front c.printed-in-Ok.ensures.cause c.printed-in-Ok.ensures.later)

pub returns-in-DiskFault : goal.returns-in-DiskFault
returns-in-DiskFault g c =
    rw c.in-DiskFault.is (told_line c.printed-in-DiskFault.result 4 loads.DiskFault _ _ _ _ _ refl refl (λ e. cc e) (λ e. omega (arith, e)) c.printed-in-DiskFault.ensures.status
    c.printed-in-DiskFault.ensures.whole c.printed-in-DiskFault.ensures.front c.printed-in-DiskFault.ensures.cause c.printed-in-DiskFault.ensures.later)
