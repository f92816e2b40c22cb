use Rattle.std.proofs.Common.{refl, sym, arith}
use Rattle.clfs_model.specs.declared.refusal.Refusal.TheVariants as log_refusals
use Rattle.clfs_restore.specs.declared.refusal.ArchiveRefusal.TheVariants as refusals
use Rattle.clfs_operations.proofs.ArchiveTold.{told_archive_line, told_archive_damage, other_line}
use Rattle.clfs_operations.proofs.archiving.refused_by_log.Goals as goal

pub returns-in-Ephemeral : goal.returns-in-Ephemeral
returns-in-Ephemeral g c =
    rw c.in-Ephemeral.is (told_archive_line c.printed.result 11 (refusals.Log log_refusals.Ephemeral) _ _ _ _ _ refl refl (λ e. omega (arith, e), λ e. omega (arith, e))
    c.printed.ensures.status c.printed.ensures.whole c.printed.ensures.front c.printed.ensures.cause c.printed.ensures.later)

pub returns-in-Damaged : goal.returns-in-Damaged
returns-in-Damaged g c = rw c.in-Damaged.is (told_archive_damage c.refused.result c.in-Damaged.container c.in-Damaged.offset c.in-Damaged.at _ _ _ _ c.refused.ensures)

pub returns-in_default : goal.returns-in_default
returns-in_default g c =
    let other = other_line c.args.refusal c.in_default.not-Ephemeral c.in_default.not-Damaged in
    told_archive_line c.printed-in_default.result 4 (refusals.Log c.args.refusal) _ _ _ _ _ (sym other.0) (sym other.1) (λ e. omega (arith, e), λ e. omega (arith, e))
    c.printed-in_default.ensures.status c.printed-in_default.ensures.whole c.printed-in_default.ensures.front c.printed-in_default.ensures.cause
    c.printed-in_default.ensures.later
