use Rattle.clfs_restore.proofs.Words.{ℕ, List, Err, take, length, sym, ◌∙◌, ap, subst, arith, length-take, err_from_is_err_and, AreWhole, total}
use Rattle.clfs_restore.proofs.Fronts.{whole_front, read_blocks}
use Rattle.clfs_restore.proofs.Joining.{ends_refused}
use Rattle.clfs_restore.proofs.Told.{container_told, fault_in_container}
use Rattle.clfs_restore.proofs.containers.read_container.Goals as goal

pub returns-in_err-end-clause-blocks : goal.returns-in_err-end-clause-blocks
returns-in_err-end-clause-blocks g c told here entries whole read =
    let p = err_from_is_err_and c.from_residual-in_err-end.result c.from_residual-in_err-end.ensures.1 in
    let sectors = c.args.judge.now.shape.container_sectors in
    let file = (g.D.Disk.state c.args.manager.now.1).files c.args.file in
    let front = ap (take c.in_ok-count.count) c.deref.ensures.value ∙ c.in_ok-count.ensures.front told ∙ ap (λ (k : ℕ). take k file) c.requires.room in
    let there = subst (λ (l : List ℕ). AreWhole sectors l here) (sym front) (whole_front sectors file here whole) in
    rw (p.1, p.2) (ends_refused c.in_err-end.field-0.0 (total here) c.read_front.new.piece.items here (c.in_err-end.ensures.found here entries there read))

pub returns-clause-blocks : goal.returns-clause-blocks
returns-clause-blocks g c told here entries whole read =
    let sectors = c.args.judge.now.shape.container_sectors in
    let file = (g.D.Disk.state c.args.manager.now.1).files c.args.file in
    let piece = c.read_front.new.piece.items in
    let bytes = c.in_ok-count.ensures.front told ∙ ap (λ (k : ℕ). take k file) c.requires.room in
    let value = ap (take c.in_ok-count.count) c.deref.ensures.value in
    let there = subst (λ (l : List ℕ). AreWhole sectors l here) (sym (value ∙ bytes)) (whole_front sectors file here whole) in
    let ends = c.in_ok-end.ensures.found here entries there read in
    let long = ap length value in (
      ends,
      read_blocks sectors c.in_ok-end.end c.in_ok-count.count file piece here whole bytes ends (omega (arith, c.in_ok-end.ensures.end, long)),
    )

pub returns-in_err-count-clause-damage : goal.returns-in_err-count-clause-damage
returns-in_err-count-clause-damage g c =
    let p = err_from_is_err_and c.from_residual.result c.from_residual.ensures.1 in
    rw (p.1, p.2) (fault_in_container _ _ _ _ c.in_err-count.field-0.0 c.in_err-count.ensures.only)

pub returns-in_err-end-clause-damage : goal.returns-in_err-end-clause-damage
returns-in_err-end-clause-damage g c =
    let p = err_from_is_err_and c.from_residual-in_err-end.result c.from_residual-in_err-end.ensures.1 in
    let bytes = take c.in_ok-count.count c.deref.result.now in
    let few = length-take c.in_ok-count.count c.deref.result.now in
    rw (p.1, p.2) (container_told c.args.judge.now.shape c.args.judge.now.streams c.args.id bytes c.in_err-end.field-0.0
    (omega (arith, few, c.in_ok-count.ensures.count, c.read_front.ensures.room, c.requires.room))
    (λ container offset at is. c.in_err-end.ensures.damage container offset at (ap Err is)) (λ is. c.in_err-end.ensures.no_fault.0 (ap Err is)))
