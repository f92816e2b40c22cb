use Rattle.clfs_restore.proofs.Words.{◌≡◌, ⊎_elim, Some, None, true, ap, sym, ◌∙◌, tail_refusal, with_broken}
use Rattle.clfs_model.specs.declared.refusal.Refusal.TheVariants as refusals
use Rattle.clfs_restore.proofs.Moved.{was_moved, was_refused, flushed_is_fine, writes_as}
use Rattle.clfs_restore.proofs.moving.move_to.Goals as goal

pub returns-in-Ok-clause-moved : goal.returns-in-Ok-clause-moved
returns-in-Ok-clause-moved g c =
    let s = c.args.manager.now.0 in
    (was_moved s c.set_archive_tail.new.self.0 c.args.lsn c.requires.unbroken c.in-Ok.field-0 ((c.in-Ok.ensures.call 0).step true)).1
    ∙ ap (λ n. record s { archive = Some n }) c.requires.stable

pub returns-in-Ok-clause-moments : goal.returns-in-Ok-clause-moments
returns-in-Ok-clause-moments g c client = let moments = (c.set_archive_tail.ensures.call client).moments in rw c.requires.stable at moments

pub returns-in-Ok-clause-writes : goal.returns-in-Ok-clause-writes
returns-in-Ok-clause-writes g c = writes_as _ _ _ _ (λ e. cc e) (λ e. cc e) (c.in-Ok.ensures.call 0).writes

pub returns-in-Err-clause-refused : goal.returns-in-Err-clause-refused
returns-in-Err-clause-refused g c =
    let s = c.args.manager.now.0 in
    let t = c.set_archive_tail.new.self.0 in
    let fine = flushed_is_fine s c.requires.on c.stored.ensures.valid.stable.tail in
    let none : tail_refusal s c.args.lsn ≡ None = ap (tail_refusal s) c.requires.stable ∙ fine in
    ⊎_elim (λ (fault : (tail_refusal s c.args.lsn ≡ None) × ((c.in-Err.refusal ≡ refusals.DiskFault) × (t ≡ with_broken s))). fault.1)
    (λ (own : (tail_refusal s c.args.lsn ≡ Some c.in-Err.refusal) × (t ≡ s)). let never : None ≡ Some c.in-Err.refusal = sym none ∙ own.0 in absurd (cc never))
    (was_refused s t c.args.lsn c.requires.unbroken c.in-Err.refusal ((c.in-Err.ensures.call 0).step true))

pub returns-in-Err-clause-writes : goal.returns-in-Err-clause-writes
returns-in-Err-clause-writes g c = writes_as _ _ _ _ (λ e. cc e) (λ e. cc e) (c.in-Err.ensures.call 0).writes

pub returns-in-Err-clause-moments : goal.returns-in-Err-clause-moments
returns-in-Err-clause-moments g c client = let moments = (c.set_archive_tail.ensures.call client).moments in rw c.requires.stable at moments
