use Rattle.clfs_restore.proofs.Words.{inl, inr, ◌⊎◌, ℕ, List, length, subst, sym, on_ok_weaker, Files, GrownIn, HasNoCopy, BaseStays, base_bytes}
use Rattle.std.specs.Prelude.{◌≤◌}
use Rattle.clfs_restore.proofs.Moments.{Never, later_from, later_then, leaves_then, leaves_weaker, no_copy_same, no_copy_grown, no_copy_left, none_or}
use Rattle.clfs_restore.proofs.Moments.{once_begins, knows_still}
use Rattle.clfs_restore.proofs.restoring.prepare.Goals as goal

pub returns-in_err-make_base-clause-moments : goal.returns-in_err-make_base-clause-moments
returns-in_err-make_base-clause-moments g c honest none = inl c.make_base.ensures.time

pub returns-in_err-make_base-clause-all_moments : goal.returns-in_err-make_base-clause-all_moments
returns-in_err-make_base-clause-all_moments g c settled none long =
    no_copy_grown (g.D.Disk.state c.args.disk.now) (g.D.Disk.state c.make_base.new.disk) settled none long c.make_base.ensures.time

pub returns-in_err-make_base-clause-time : goal.returns-in_err-make_base-clause-time
returns-in_err-make_base-clause-time g c = later_from (GrownIn 0 base_bytes) _ _ c.make_base.ensures.time

pub returns-clause-none : goal.returns-clause-none
returns-clause-none g c =
    let old = g.D.Disk.state c.args.disk.now in
    let mid = g.D.Disk.state c.make_base.new.disk in
    let new = g.D.Disk.state c.fill_files.new.disk in
    on_ok_weaker c.fill_files.result (λ settles tells none. no_copy_same mid.files new.files c.fill_files.ensures.base (c.in_ok-make_base.ensures.none tells none))
    c.fill_files.ensures.settled

pub returns-clause-base : goal.returns-clause-base
returns-clause-base g c =
    let old = g.D.Disk.state c.args.disk.now in
    let mid = g.D.Disk.state c.make_base.new.disk in
    let new = g.D.Disk.state c.fill_files.new.disk in
    on_ok_weaker c.fill_files.result
    (λ settles knows. subst (λ (l : List ℕ). base_bytes ≤ length l) (sym c.fill_files.ensures.base) (c.in_ok-make_base.ensures.long knows))
    c.fill_files.ensures.settled

pub returns-clause-long : goal.returns-clause-long
returns-clause-long g c =
    let old = g.D.Disk.state c.args.disk.now in
    let mid = g.D.Disk.state c.make_base.new.disk in
    let new = g.D.Disk.state c.fill_files.new.disk in
    on_ok_weaker c.fill_files.result (λ long knows. long (knows_still (GrownIn 0 base_bytes) old mid c.make_base.ensures.time knows)) c.fill_files.ensures.long

pub returns-clause-at_once : goal.returns-clause-at_once
returns-clause-at_once g c =
    let old = g.D.Disk.state c.args.disk.now in
    let mid = g.D.Disk.state c.make_base.new.disk in
    let new = g.D.Disk.state c.fill_files.new.disk in
    on_ok_weaker c.fill_files.result
    (λ settles honest none.
    let settled = c.in_ok-make_base.ensures.settled honest in
    let closed = c.in_ok-make_base.ensures.none honest.0 none in
    once_begins Never old mid new c.make_base.ensures.time settled closed
    (leaves_weaker HasNoCopy (λ (image : Files). HasNoCopy image ⊎ Never image) mid new (none_or Never) (no_copy_left mid new settled closed c.fill_files.ensures.time)))
    c.fill_files.ensures.settled

pub returns-clause-moments : goal.returns-clause-moments
returns-clause-moments g c honest none =
    let old = g.D.Disk.state c.args.disk.now in
    let mid = g.D.Disk.state c.make_base.new.disk in
    let new = g.D.Disk.state c.fill_files.new.disk in
    let settled = c.in_ok-make_base.ensures.settled honest in
    let closed = c.in_ok-make_base.ensures.none honest.0 none in
    inr (once_begins Never old mid new c.make_base.ensures.time settled closed
    (leaves_weaker HasNoCopy (λ (image : Files). HasNoCopy image ⊎ Never image) mid new (none_or Never) (no_copy_left mid new settled closed c.fill_files.ensures.time)))

pub returns-clause-all_moments : goal.returns-clause-all_moments
returns-clause-all_moments g c settled none long =
    let old = g.D.Disk.state c.args.disk.now in
    let mid = g.D.Disk.state c.make_base.new.disk in
    let new = g.D.Disk.state c.fill_files.new.disk in
    let closed = c.in_ok-make_base.ensures.none settled.honest.0 none in
    leaves_then HasNoCopy old mid new (no_copy_grown old mid settled none long c.make_base.ensures.time)
    (no_copy_left mid new (c.in_ok-make_base.ensures.settled settled.honest) closed c.fill_files.ensures.time)

pub returns-clause-time : goal.returns-clause-time
returns-clause-time g c =
    let old = g.D.Disk.state c.args.disk.now in
    let mid = g.D.Disk.state c.make_base.new.disk in
    let new = g.D.Disk.state c.fill_files.new.disk in
    later_then old mid new (later_from (GrownIn 0 base_bytes) old mid c.make_base.ensures.time) (later_from BaseStays mid new c.fill_files.ensures.time)
