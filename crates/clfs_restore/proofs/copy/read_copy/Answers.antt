use Rattle.clfs_restore.proofs.Words.{ℕ, take, ◌∙◌, ap, err_from_is_err_and}
use Rattle.clfs_restore.proofs.Told.{fault_told}
use Rattle.clfs_restore.proofs.copy.read_copy.Goals as goal

pub returns-in_err-image-clause-copy : goal.returns-in_err-image-clause-copy
returns-in_err-image-clause-copy g c told =
    let p = err_from_is_err_and c.from_residual-in_err-image.result c.from_residual-in_err-image.ensures.1 in
    let file = (g.D.Disk.state c.args.manager.now.1).files 0 in
    let room = c.in_ok-base.ensures in
    let front = ap (take c.in_ok-count.count) c.deref.ensures.value ∙ c.in_ok-count.ensures.front told ∙ ap (λ (k : ℕ). take k file) room in
    rw (p.1, p.2) (c.in_err-image.ensures.copy file front)

pub returns-clause-copy : goal.returns-clause-copy
returns-clause-copy g c told =
    let file = (g.D.Disk.state c.args.manager.now.1).files 0 in
    let room = c.in_ok-base.ensures in
    let front = ap (take c.in_ok-count.count) c.deref.ensures.value ∙ c.in_ok-count.ensures.front told ∙ ap (λ (k : ℕ). take k file) room in
    c.in_ok-image.ensures.copy file front

pub returns-in_err-count-clause-damage : goal.returns-in_err-count-clause-damage
returns-in_err-count-clause-damage g c =
    let p = err_from_is_err_and c.from_residual-in_err-count.result c.from_residual-in_err-count.ensures.1 in
    rw (p.1, p.2) (fault_told c.in_err-count.field-0.0 c.in_err-count.ensures.only)

pub returns-in_err-image-clause-damage : goal.returns-in_err-image-clause-damage
returns-in_err-image-clause-damage g c =
    let p = err_from_is_err_and c.from_residual-in_err-image.result c.from_residual-in_err-image.ensures.1 in
    rw (p.1, p.2) c.in_err-image.ensures.damage
