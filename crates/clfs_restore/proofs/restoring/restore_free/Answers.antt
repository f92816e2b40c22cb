use Rattle.clfs_restore.proofs.Words.{inl, inr, ⊎_elim, ◌≡◌, ◌⊎◌, refl, err_from_is_err_and, on_ok_weaker, IfErr-weaker, Files, GrownIn, HasNoCopy}
use Rattle.clfs_restore.proofs.Words.{base_bytes, GrowsBase, ComesAtOnce, StandForRestored, IsFreeCause, IsOfMaking}
use Rattle.clfs_restore.proofs.Made.{StandFor, stand_chosen, free_cause, making_cause, no_fault}
use Rattle.clfs_restore.proofs.Moments.{passes_still, reads_leave, leaves_weaker, once_weaker}
use Rattle.clfs_restore.proofs.restoring.restore_free.Goals as goal

pub returns-in_err-chosen-clause-moments : goal.returns-in_err-chosen-clause-moments
returns-in_err-chosen-clause-moments g c honest none = inl (passes_still (GrownIn 0 base_bytes) (g.D.Disk.state c.args.disk.now))

pub returns-in_err-chosen-clause-all_moments : goal.returns-in_err-chosen-clause-all_moments
returns-in_err-chosen-clause-all_moments g c settled none long =
    let old = g.D.Disk.state c.args.disk.now in
    reads_leave (StandForRestored c.args.archives.now c.args.up_to) old old settled none (passes_still _ old)

pub returns-in_err-chosen-clause-time : goal.returns-in_err-chosen-clause-time
returns-in_err-chosen-clause-time g c = passes_still _ (g.D.Disk.state c.args.disk.now)

pub returns-in_err-chosen-clause-why : goal.returns-in_err-chosen-clause-why
returns-in_err-chosen-clause-why g c =
    let p = err_from_is_err_and c.from_residual.result c.from_residual.ensures.1 in
    rw (p.1, p.2) (free_cause c.args.archives.now c.args.up_to c.in_err-chosen.field-0.0 c.in_err-chosen.ensures.cause)

pub returns-in_err-chosen-clause-same : goal.returns-in_err-chosen-clause-same
returns-in_err-chosen-clause-same g c =
    let p = err_from_is_err_and c.from_residual.result c.from_residual.ensures.1 in
    rw (p.1, p.2) (λ making. refl)

pub returns-in_err-chosen-clause-cause : goal.returns-in_err-chosen-clause-cause
returns-in_err-chosen-clause-cause g c =
    let p = err_from_is_err_and c.from_residual.result c.from_residual.ensures.1 in
    rw (p.1, p.2) (λ e. absurd (no_fault c.args.archives.now c.args.up_to c.in_err-chosen.field-0.0 c.in_err-chosen.ensures.cause (cc e)))

pub returns-in_err-chosen-clause-steady : goal.returns-in_err-chosen-clause-steady
returns-in_err-chosen-clause-steady g c steady =
    let p = err_from_is_err_and c.from_residual.result c.from_residual.ensures.1 in
    rw (p.1, p.2) (λ e. no_fault c.args.archives.now c.args.up_to c.in_err-chosen.field-0.0 c.in_err-chosen.ensures.cause (cc e))

pub returns-clause-restored : goal.returns-clause-restored
returns-clause-restored g c =
    let x = c.in_ok-chosen.chosen in
    let bytes = c.args.archives.now in
    let stand : Files → Type 0 = StandFor bytes x.0 x.1 in
    let old = g.D.Disk.state c.args.disk.now in
    let new = g.D.Disk.state c.make_log.new.disk in
    let wrap = stand_chosen bytes c.args.up_to x.0 x.1 c.in_ok-chosen.ensures.chosen in
    on_ok_weaker c.make_log.result (λ restored tells none. wrap new.files (restored tells none)) c.make_log.ensures.restored

pub returns-clause-chosen : goal.returns-clause-chosen
returns-clause-chosen g c =
    let x = c.in_ok-chosen.chosen in
    on_ok_weaker c.make_log.result (λ settles. (x.0, x.1, c.in_ok-chosen.ensures.chosen)) c.make_log.ensures.settled

pub returns-clause-at_once : goal.returns-clause-at_once
returns-clause-at_once g c =
    let x = c.in_ok-chosen.chosen in
    let bytes = c.args.archives.now in
    let stand : Files → Type 0 = StandFor bytes x.0 x.1 in
    let old = g.D.Disk.state c.args.disk.now in
    let new = g.D.Disk.state c.make_log.new.disk in
    let wrap = stand_chosen bytes c.args.up_to x.0 x.1 c.in_ok-chosen.ensures.chosen in
    on_ok_weaker c.make_log.result (λ once honest none. once_weaker stand (StandForRestored bytes c.args.up_to) old new wrap (once honest none)) c.make_log.ensures.at_once

pub returns-clause-moments : goal.returns-clause-moments
returns-clause-moments g c honest none =
    let x = c.in_ok-chosen.chosen in
    let bytes = c.args.archives.now in
    let stand : Files → Type 0 = StandFor bytes x.0 x.1 in
    let old = g.D.Disk.state c.args.disk.now in
    let new = g.D.Disk.state c.make_log.new.disk in
    let wrap = stand_chosen bytes c.args.up_to x.0 x.1 c.in_ok-chosen.ensures.chosen in
    ⊎_elim (λ (grows : GrowsBase old new). inl grows)
    (λ (once : ComesAtOnce stand old new). inr (once_weaker stand (StandForRestored bytes c.args.up_to) old new wrap once)) (c.make_log.ensures.moments honest none)

pub returns-clause-all_moments : goal.returns-clause-all_moments
returns-clause-all_moments g c settled none long =
    let x = c.in_ok-chosen.chosen in
    let bytes = c.args.archives.now in
    let stand : Files → Type 0 = StandFor bytes x.0 x.1 in
    let old = g.D.Disk.state c.args.disk.now in
    let new = g.D.Disk.state c.make_log.new.disk in
    let wrap = stand_chosen bytes c.args.up_to x.0 x.1 c.in_ok-chosen.ensures.chosen in
    leaves_weaker (λ (files : Files). HasNoCopy files ⊎ stand files) (λ (files : Files). HasNoCopy files ⊎ StandForRestored bytes c.args.up_to files) old new
    (λ files either. ⊎_elim (λ (closed : HasNoCopy files). inl closed) (λ (is : stand files). inr (wrap files is)) either) (c.make_log.ensures.all_moments settled none long)

pub returns-clause-why : goal.returns-clause-why
returns-clause-why g c =
    let x = c.in_ok-chosen.chosen in
    IfErr-weaker c.make_log.result IsOfMaking (λ refusal. IsFreeCause c.args.archives.now c.args.up_to refusal)
    (λ refusal making. making_cause c.args.archives.now c.args.up_to refusal making (x.0, x.1, c.in_ok-chosen.ensures.chosen)) c.make_log.ensures.only

pub returns-clause-same : goal.returns-clause-same
returns-clause-same g c =
    IfErr-weaker c.make_log.result IsOfMaking (λ refusal. (IsOfMaking refusal → ⊥) → c.make_log.new.disk ≡ c.args.disk.now)
    (λ refusal making never. absurd (never making)) c.make_log.ensures.only

pub returns-clause-steady : goal.returns-clause-steady
returns-clause-steady g c steady = (c.make_log.ensures.steady steady).0
