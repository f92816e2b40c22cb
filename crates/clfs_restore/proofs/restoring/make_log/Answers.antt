use Rattle.clfs_restore.proofs.Words.{inl, inr, ⊎_elim, ◌⊎◌, sym, ◌∙◌, subst, IsTrue, lsn_number, container_of, Files, Nature, HasNoCopy, NoneOrFirst}
use Rattle.clfs_restore.proofs.Words.{restored_copy, GrowsBase, ComesAtOnce}
use Rattle.clfs_restore.proofs.Made.{StandFor, stand_after, whole_after, none_or_stand}
use Rattle.clfs_restore.proofs.Moments.{Never, later_then, leaves_then, leaves_weaker, none_or, once_then, once_weaker, steady_still}
use Rattle.clfs_restore.proofs.restoring.make_log.Goals as goal

pub returns-in_err-end-clause-moments : goal.returns-in_err-end-clause-moments
returns-in_err-end-clause-moments g c honest none =
    let bytes = c.args.archives.now in
    let archive = c.args.archive in
    let up_to = c.args.up_to in
    let stand : Files → Type 0 = StandFor bytes archive up_to in
    let old = g.D.Disk.state c.args.disk.now in
    let mid = g.D.Disk.state c.prepare.new.disk in
    ⊎_elim (λ (grows : GrowsBase old mid). inl grows) (λ (once : ComesAtOnce Never old mid). inr (once_weaker Never stand old mid (λ image never. absurd never) once))
    (c.prepare.ensures.moments honest none)

pub returns-in_err-end-clause-all_moments : goal.returns-in_err-end-clause-all_moments
returns-in_err-end-clause-all_moments g c settled none long =
    let bytes = c.args.archives.now in
    let archive = c.args.archive in
    let up_to = c.args.up_to in
    let stand : Files → Type 0 = StandFor bytes archive up_to in
    let old = g.D.Disk.state c.args.disk.now in
    let mid = g.D.Disk.state c.prepare.new.disk in
    leaves_weaker HasNoCopy (λ (files : Files). HasNoCopy files ⊎ stand files) old mid (none_or stand) (c.prepare.ensures.all_moments settled none long)

pub returns-in_err-body-clause-moments : goal.returns-in_err-body-clause-moments
returns-in_err-body-clause-moments g c honest none =
    let bytes = c.args.archives.now in
    let archive = c.args.archive in
    let up_to = c.args.up_to in
    let stand : Files → Type 0 = StandFor bytes archive up_to in
    let old = g.D.Disk.state c.args.disk.now in
    let mid = g.D.Disk.state c.prepare.new.disk in
    ⊎_elim (λ (grows : GrowsBase old mid). inl grows) (λ (once : ComesAtOnce Never old mid). inr (once_weaker Never stand old mid (λ image never. absurd never) once))
    (c.prepare.ensures.moments honest none)

pub returns-in_err-body-clause-all_moments : goal.returns-in_err-body-clause-all_moments
returns-in_err-body-clause-all_moments g c settled none long =
    let bytes = c.args.archives.now in
    let archive = c.args.archive in
    let up_to = c.args.up_to in
    let stand : Files → Type 0 = StandFor bytes archive up_to in
    let old = g.D.Disk.state c.args.disk.now in
    let mid = g.D.Disk.state c.prepare.new.disk in
    leaves_weaker HasNoCopy (λ (files : Files). HasNoCopy files ⊎ stand files) old mid (none_or stand) (c.prepare.ensures.all_moments settled none long)

pub returns-in_err-write_first_copy-clause-moments : goal.returns-in_err-write_first_copy-clause-moments
returns-in_err-write_first_copy-clause-moments g c honest none =
    let bytes = c.args.archives.now in
    let archive = c.args.archive in
    let up_to = c.args.up_to in
    let stand : Files → Type 0 = StandFor bytes archive up_to in
    let old = g.D.Disk.state c.args.disk.now in
    let mid = g.D.Disk.state c.prepare.new.disk in
    let new = g.D.Disk.state c.write_first_copy.new.disk in
    let end = c.in_ok-end.end in
    let copy = restored_copy archive.image up_to (lsn_number (container_of up_to) end 0) in
    let body = c.deref.ensures.value ∙ c.in_ok-body.ensures.spelled in
    let written = leaves_weaker (NoneOrFirst 0 copy mid.files) (λ (files : Files). HasNoCopy files ⊎ stand files) mid new
    (λ files either. none_or_stand bytes archive up_to end mid.files files c.restored_files_stand_for_the_log.ensures.stands c.requires.can (c.in_ok-end.ensures.filled honest.0) either)
    (c.write_first_copy.ensures.moments (c.in_ok-end.ensures.settled honest) copy c.in_ok-body.ensures.image body (c.in_ok-end.ensures.none honest.0 none)) in
    inr (once_then stand old mid new (c.in_ok-end.ensures.at_once honest none) written)

pub returns-in_err-write_first_copy-clause-all_moments : goal.returns-in_err-write_first_copy-clause-all_moments
returns-in_err-write_first_copy-clause-all_moments g c settled none long =
    let bytes = c.args.archives.now in
    let archive = c.args.archive in
    let up_to = c.args.up_to in
    let stand : Files → Type 0 = StandFor bytes archive up_to in
    let old = g.D.Disk.state c.args.disk.now in
    let mid = g.D.Disk.state c.prepare.new.disk in
    let new = g.D.Disk.state c.write_first_copy.new.disk in
    let end = c.in_ok-end.end in
    let copy = restored_copy archive.image up_to (lsn_number (container_of up_to) end 0) in
    let body = c.deref.ensures.value ∙ c.in_ok-body.ensures.spelled in
    let honest = settled.honest in
    let written = leaves_weaker (NoneOrFirst 0 copy mid.files) (λ (files : Files). HasNoCopy files ⊎ stand files) mid new
    (λ files either. none_or_stand bytes archive up_to end mid.files files c.restored_files_stand_for_the_log.ensures.stands c.requires.can (c.in_ok-end.ensures.filled honest.0) either)
    (c.write_first_copy.ensures.moments (c.in_ok-end.ensures.settled honest) copy c.in_ok-body.ensures.image body (c.in_ok-end.ensures.none honest.0 none)) in
    leaves_then (λ (files : Files). HasNoCopy files ⊎ stand files) old mid new
    (leaves_weaker HasNoCopy (λ (files : Files). HasNoCopy files ⊎ stand files) old mid (none_or stand) (c.prepare.ensures.all_moments settled none long)) written

pub returns-in_err-write_first_copy-clause-time : goal.returns-in_err-write_first_copy-clause-time
returns-in_err-write_first_copy-clause-time g c = later_then _ _ _ c.prepare.ensures.time c.write_first_copy.ensures.time

pub returns-clause-moments : goal.returns-clause-moments
returns-clause-moments g c honest none =
    let bytes = c.args.archives.now in
    let archive = c.args.archive in
    let up_to = c.args.up_to in
    let stand : Files → Type 0 = StandFor bytes archive up_to in
    let old = g.D.Disk.state c.args.disk.now in
    let mid = g.D.Disk.state c.prepare.new.disk in
    let new = g.D.Disk.state c.write_first_copy.new.disk in
    let end = c.in_ok-end.end in
    let copy = restored_copy archive.image up_to (lsn_number (container_of up_to) end 0) in
    let body = c.deref.ensures.value ∙ c.in_ok-body.ensures.spelled in
    let written = leaves_weaker (NoneOrFirst 0 copy mid.files) (λ (files : Files). HasNoCopy files ⊎ stand files) mid new
    (λ files either. none_or_stand bytes archive up_to end mid.files files c.restored_files_stand_for_the_log.ensures.stands c.requires.can (c.in_ok-end.ensures.filled honest.0) either)
    (c.write_first_copy.ensures.moments (c.in_ok-end.ensures.settled honest) copy c.in_ok-body.ensures.image body (c.in_ok-end.ensures.none honest.0 none)) in
    inr (once_then stand old mid new (c.in_ok-end.ensures.at_once honest none) written)

pub returns-clause-all_moments : goal.returns-clause-all_moments
returns-clause-all_moments g c settled none long =
    let bytes = c.args.archives.now in
    let archive = c.args.archive in
    let up_to = c.args.up_to in
    let stand : Files → Type 0 = StandFor bytes archive up_to in
    let old = g.D.Disk.state c.args.disk.now in
    let mid = g.D.Disk.state c.prepare.new.disk in
    let new = g.D.Disk.state c.write_first_copy.new.disk in
    let end = c.in_ok-end.end in
    let copy = restored_copy archive.image up_to (lsn_number (container_of up_to) end 0) in
    let body = c.deref.ensures.value ∙ c.in_ok-body.ensures.spelled in
    let honest = settled.honest in
    let written = leaves_weaker (NoneOrFirst 0 copy mid.files) (λ (files : Files). HasNoCopy files ⊎ stand files) mid new
    (λ files either. none_or_stand bytes archive up_to end mid.files files c.restored_files_stand_for_the_log.ensures.stands c.requires.can (c.in_ok-end.ensures.filled honest.0) either)
    (c.write_first_copy.ensures.moments (c.in_ok-end.ensures.settled honest) copy c.in_ok-body.ensures.image body (c.in_ok-end.ensures.none honest.0 none)) in
    leaves_then (λ (files : Files). HasNoCopy files ⊎ stand files) old mid new
    (leaves_weaker HasNoCopy (λ (files : Files). HasNoCopy files ⊎ stand files) old mid (none_or stand) (c.prepare.ensures.all_moments settled none long)) written

pub returns-clause-time : goal.returns-clause-time
returns-clause-time g c = later_then _ _ _ c.prepare.ensures.time c.write_first_copy.ensures.time

pub returns-clause-at_once : goal.returns-clause-at_once
returns-clause-at_once g c honest none =
    let bytes = c.args.archives.now in
    let archive = c.args.archive in
    let up_to = c.args.up_to in
    let stand : Files → Type 0 = StandFor bytes archive up_to in
    let old = g.D.Disk.state c.args.disk.now in
    let mid = g.D.Disk.state c.prepare.new.disk in
    let new = g.D.Disk.state c.write_first_copy.new.disk in
    let end = c.in_ok-end.end in
    let copy = restored_copy archive.image up_to (lsn_number (container_of up_to) end 0) in
    let body = c.deref.ensures.value ∙ c.in_ok-body.ensures.spelled in
    let written = leaves_weaker (NoneOrFirst 0 copy mid.files) (λ (files : Files). HasNoCopy files ⊎ stand files) mid new
    (λ files either. none_or_stand bytes archive up_to end mid.files files c.restored_files_stand_for_the_log.ensures.stands c.requires.can (c.in_ok-end.ensures.filled honest.0) either)
    (c.write_first_copy.ensures.moments (c.in_ok-end.ensures.settled honest) copy c.in_ok-body.ensures.image body (c.in_ok-end.ensures.none honest.0 none)) in
    once_then stand old mid new (c.in_ok-end.ensures.at_once honest none) written

pub returns-clause-restored : goal.returns-clause-restored
returns-clause-restored g c tells none =
    let bytes = c.args.archives.now in
    let archive = c.args.archive in
    let up_to = c.args.up_to in
    let stand : Files → Type 0 = StandFor bytes archive up_to in
    let old = g.D.Disk.state c.args.disk.now in
    let mid = g.D.Disk.state c.prepare.new.disk in
    let new = g.D.Disk.state c.write_first_copy.new.disk in
    let end = c.in_ok-end.end in
    let copy = restored_copy archive.image up_to (lsn_number (container_of up_to) end 0) in
    let body = c.deref.ensures.value ∙ c.in_ok-body.ensures.spelled in
    let told = subst (λ (n : Nature). IsTrue n.tells_contents) (sym c.prepare.ensures.time.nature) tells in
    let has = c.in_ok-write_first_copy.ensures.written told copy c.in_ok-body.ensures.image body (c.in_ok-end.ensures.none tells none) in
    stand_after bytes archive up_to end mid.files new.files c.restored_files_stand_for_the_log.ensures.stands c.requires.can (c.in_ok-end.ensures.filled tells) has

pub returns-clause-whole : goal.returns-clause-whole
returns-clause-whole g c tells none =
    let bytes = c.args.archives.now in
    let archive = c.args.archive in
    let up_to = c.args.up_to in
    let stand : Files → Type 0 = StandFor bytes archive up_to in
    let old = g.D.Disk.state c.args.disk.now in
    let mid = g.D.Disk.state c.prepare.new.disk in
    let new = g.D.Disk.state c.write_first_copy.new.disk in
    let end = c.in_ok-end.end in
    let copy = restored_copy archive.image up_to (lsn_number (container_of up_to) end 0) in
    let body = c.deref.ensures.value ∙ c.in_ok-body.ensures.spelled in
    let told = subst (λ (n : Nature). IsTrue n.tells_contents) (sym c.prepare.ensures.time.nature) tells in
    let has = c.in_ok-write_first_copy.ensures.written told copy c.in_ok-body.ensures.image body (c.in_ok-end.ensures.none tells none) in
    whole_after bytes archive up_to end mid.files new.files (c.in_ok-end.ensures.base (inl tells)) (c.in_ok-end.ensures.long (inl tells)) has

pub returns-in_err-write_first_copy-clause-steady : goal.returns-in_err-write_first_copy-clause-steady
returns-in_err-write_first_copy-clause-steady g c steady =
    let told = steady_still (λ x y. Unit {0}) _ _ c.prepare.ensures.time steady in
    absurd (cc (c.in_err-write_first_copy.ensures.steady told (c.in_ok-end.ensures.base (inr steady))).0)

pub returns-clause-steady : goal.returns-clause-steady
returns-clause-steady g c steady =
    let told = steady_still (λ x y. Unit {0}) _ _ c.prepare.ensures.time steady in
    (λ e. absurd (cc e), (c.in_ok-write_first_copy.ensures.steady told (c.in_ok-end.ensures.base (inr steady))).1 ∙ (c.prepare.ensures.steady steady).1)
