use Rattle.clfs_restore.proofs.Words.{◌≡◌, ℕ, ◌<◌, List, [], length, map, get_or, Some, None, Result, Ok, Err, sym, ◌∙◌, ap, subst, err_from_is_err_and}
use Rattle.clfs_restore.proofs.Words.{AreWhole, BaseImage, NewestRefusal, newest_of, stored_records, shape_of, archived_image, archive_bytes, archived_pieces}
use Rattle.clfs_restore.proofs.Words.{GivesCopy, GoesOn, TellsArchived, ArchiveRefusal, Log}
use Rattle.clfs_model.specs.declared.refusal.Refusal.TheVariants as refusals
use Rattle.clfs_restore.proofs.Archived.{archiving_on, one_copy, is_archive, cause_of}
use Rattle.clfs_restore.proofs.Joining.{tells_still, joined}
use Rattle.clfs_restore.proofs.Told.{archive_damage, off_told}
use Rattle.clfs_restore.proofs.archiving.put_archive.Goals as goal

copy_is_there : (read : Result (ℕ × BaseImage) NewestRefusal) (found : ℕ × BaseImage) (refusal : ArchiveRefusal) → read ≡ Ok found → GivesCopy (Err refusal) read
    → (container offset at : ℕ) → refusal ≡ Log (refusals.Damaged container offset at) → ⊥
copy_is_there read found refusal there gives container offset at is =
    let none = subst (λ (r : ArchiveRefusal). GivesCopy (Err r) read) is gives in
    absurd (cc (there, none.1))

pub returns-in_err-copy-clause-refused : goal.returns-in_err-copy-clause-refused
returns-in_err-copy-clause-refused g c =
    let p = err_from_is_err_and c.from_residual-in_err-copy.result c.from_residual-in_err-copy.ensures.1 in
    let first = g.D.Disk.state c.args.manager.now.1 in
    let refusal = c.in_err-copy.field-0.0 in
    rw (p.1, p.2) (cause_of first c.args.manager.now.0 refusal c.in_err-copy.ensures.only (λ told container offset at is.
    let stands = c.requires.loaded.stands told in
    let stored = c.logs_are_copies_and_blocks.ensures.found first.files stands.parts stands.found in
    copy_is_there (newest_of (first.files 0)) (stands.parts.slot, stands.parts.image) refusal stored.1.log.newest (c.in_err-copy.ensures.copy told) container offset at is))

pub returns-in_err-put_image-clause-refused : goal.returns-in_err-put_image-clause-refused
returns-in_err-put_image-clause-refused g c =
    let p = err_from_is_err_and c.from_residual-in_err-put_image.result c.from_residual-in_err-put_image.ensures.1 in
    let first = g.D.Disk.state c.args.manager.now.1 in
    let now = g.D.Disk.state c.read_copy.new.manager.1 in
    let refusal = c.in_err-put_image.field-0.0 in
    let reads = c.in_ok-copy.ensures.reads in
    rw (p.1, p.2) (cause_of first c.args.manager.now.0 refusal c.in_err-put_image.ensures.only (λ told container offset at is.
    let stands = c.requires.loaded.stands told in
    let parts = stands.parts in
    let stored = c.logs_are_copies_and_blocks.ensures.found first.files parts stands.found in
    let blocks = stored.0 in
    let got = c.in_ok-copy.ensures.copy told in
    let same = one_copy first.files parts.slot got.0 parts.image c.in_ok-copy.copy stored.1.log.newest got.1 in
    let image : c.archived-image.result ≡ archived_image parts.image = c.archived-image.ensures.exact ∙ ap archived_image same in
    let whole = subst (λ (x : BaseImage). (i : ℕ) → i < length x.files → AreWhole x.container_sectors (now.files (get_or x.files i 0)) (blocks (get_or x.files i 0)))
    (sym image) (λ i within. subst (λ (l : List ℕ). AreWhole parts.image.container_sectors l (blocks (get_or parts.image.files i 0))) (sym (reads.same (get_or parts.image.files i 0)))
    (stored.1.whole i within)) in
    let read = subst (λ (x : BaseImage). stored_records (shape_of x) (length x.streams) x.first (map blocks x.files) ≡ Ok parts.entries) (sym image) stored.1.with.read in
    let goes = c.in_err-put_image.ensures.archive (tells_still first now reads.time told) blocks parts.entries whole read in
    subst (λ (r : ArchiveRefusal). GoesOn {A = Unit {0}} (Err r) [] c.put_image.new.draft.archive
    (archive_bytes c.archived-image.result (archived_pieces c.archived-image.result (map blocks c.archived-image.result.files)))) is goes))

pub returns-clause-archive : goal.returns-clause-archive
returns-clause-archive g c told =
    let first = g.D.Disk.state c.args.manager.now.1 in
    let now = g.D.Disk.state c.read_copy.new.manager.1 in
    let reads = c.in_ok-copy.ensures.reads in
    let stands = c.requires.loaded.stands told in
    let parts = stands.parts in
    let stored = c.logs_are_copies_and_blocks.ensures.found first.files parts stands.found in
    let blocks = stored.0 in
    let got = c.in_ok-copy.ensures.copy told in
    let same = one_copy first.files parts.slot got.0 parts.image c.in_ok-copy.copy stored.1.log.newest got.1 in
    let image : c.archived-image.result ≡ archived_image parts.image = c.archived-image.ensures.exact ∙ ap archived_image same in
    let whole = subst (λ (x : BaseImage). (i : ℕ) → i < length x.files → AreWhole x.container_sectors (now.files (get_or x.files i 0)) (blocks (get_or x.files i 0)))
    (sym image) (λ i within. subst (λ (l : List ℕ). AreWhole parts.image.container_sectors l (blocks (get_or parts.image.files i 0))) (sym (reads.same (get_or parts.image.files i 0)))
    (stored.1.whole i within)) in
    let read = subst (λ (x : BaseImage). stored_records (shape_of x) (length x.streams) x.first (map blocks x.files) ≡ Ok parts.entries) (sym image) stored.1.with.read in
    let goes = c.in_ok-put_image.ensures.archive (tells_still first now reads.time told) blocks parts.entries whole read in
    is_archive first.files parts blocks c.in_ok-copy.copy c.archived-image.result c.put_image.new.draft.archive stored.1 same c.archived-image.ensures.exact
    (archiving_on parts c.args.manager.now.0 stands.is c.in_ok-see_archiving.ensures.on) goes

pub returns-in_err-put_image-clause-reads : goal.returns-in_err-put_image-clause-reads
returns-in_err-put_image-clause-reads g c =
    let p = err_from_is_err_and c.from_residual-in_err-put_image.result c.from_residual-in_err-put_image.ensures.1 in
    let before = c.in_ok-copy.ensures.reads in
    let after = c.in_err-put_image.ensures.reads in
    rw (p.1, p.2) (joined (Some c.in_err-put_image.field-0.0) c.args.manager.now.0 c.read_copy.new.manager.0 c.put_image.new.manager.0
    (g.D.Disk.state c.args.manager.now.1) (g.D.Disk.state c.read_copy.new.manager.1) (g.D.Disk.state c.put_image.new.manager.1) before after
    (c.calls_join.ensures.reads c.args.manager.now.1 c.read_copy.new.manager.1 c.put_image.new.manager.1 before.time after.time))

pub returns-in_err-see_archiving-clause-damage : goal.returns-in_err-see_archiving-clause-damage
returns-in_err-see_archiving-clause-damage g c =
    let p = err_from_is_err_and c.from_residual.result c.from_residual.ensures.1 in
    rw (p.1, p.2) (off_told c.in_err-see_archiving.field-0.0 (c.args.manager.now.0.archive ≡ None) c.in_err-see_archiving.ensures.off)

pub returns-in_err-copy-clause-damage : goal.returns-in_err-copy-clause-damage
returns-in_err-copy-clause-damage g c =
    let p = err_from_is_err_and c.from_residual-in_err-copy.result c.from_residual-in_err-copy.ensures.1 in
    rw (p.1, p.2) c.in_err-copy.ensures.damage

pub returns-in_err-put_image-clause-damage : goal.returns-in_err-put_image-clause-damage
returns-in_err-put_image-clause-damage g c =
    let p = err_from_is_err_and c.from_residual-in_err-put_image.result c.from_residual-in_err-put_image.ensures.1 in
    let refusal = c.in_err-put_image.field-0.0 in
    let told = c.in_ok-copy.ensures.told in
    rw (p.1, p.2) (archive_damage told.0 c.in_ok-copy.copy refusal told.1
    (subst (λ (image : BaseImage). TellsArchived image refusal) c.archived-image.ensures.exact c.in_err-put_image.ensures.damage))
