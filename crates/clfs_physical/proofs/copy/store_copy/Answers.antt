use Rattle.clfs_physical.proofs.Words.{◌≡◌, ◌⊎◌, ◌-◌, refl, sym, ◌∙◌, ap, Files, BaseImage, current, EitherNewest, IsLog}
use Rattle.clfs_base.specs.Spelling.{spelled}
use Rattle.clfs_physical.proofs.Joining.{leaves_weaker}
use Rattle.clfs_physical.proofs.Logs.{log_by_copy, log_by_either}
use Rattle.clfs_physical.proofs.copy.store_copy.Goals as goal

-- an image of the version that is written is spelled as it is
as_it_is : (image : BaseImage) → image.version ≡ 2 → spelled (current image) ≡ spelled image
as_it_is image is = ap (λ (i : BaseImage). spelled i) (λ k. record image { version = sym is k })

pub returns-in_err-write_copy-clause-moments : goal.returns-in_err-write_copy-clause-moments
returns-in_err-write_copy-clause-moments g c settled whole image blocks is turn log holds =
    let old : Files = (g.D.Disk.state c.args.disk.now).files in
    let next = c.args.next.now in
    let used = c.args.used in
    leaves_weaker (EitherNewest (1 - used) used image next old) (λ files. IsLog whole used image blocks files ⊎ IsLog whole (1 - used) next blocks files) _ _
    (λ files either. log_by_either whole image next blocks used (1 - used) old files is c.requires.image log.holds holds either)
    (c.write_copy.ensures.moments settled used image next
    (record { older = record { newest = log.newest; beside = refl }; next_image = c.requires.image; turn = turn; spells = c.encode.ensures ∙ as_it_is next c.requires.version }))

pub returns-clause-written : goal.returns-clause-written
returns-clause-written g c tells whole image blocks is turn log holds =
    let old : Files = (g.D.Disk.state c.args.disk.now).files in
    let next = c.args.next.now in
    let used = c.args.used in
    log_by_copy whole next blocks (1 - used) old _ c.requires.image holds
    (c.in_ok-write_copy.ensures.written tells used image next
    (record { older = record { newest = log.newest; beside = refl }; next_image = c.requires.image; turn = turn; spells = c.encode.ensures ∙ as_it_is next c.requires.version }))

pub returns-clause-moments : goal.returns-clause-moments
returns-clause-moments g c settled whole image blocks is turn log holds =
    let old : Files = (g.D.Disk.state c.args.disk.now).files in
    let next = c.args.next.now in
    let used = c.args.used in
    leaves_weaker (EitherNewest (1 - used) used image next old) (λ files. IsLog whole used image blocks files ⊎ IsLog whole (1 - used) next blocks files) _ _
    (λ files either. log_by_either whole image next blocks used (1 - used) old files is c.requires.image log.holds holds either)
    (c.write_copy.ensures.moments settled used image next
    (record { older = record { newest = log.newest; beside = refl }; next_image = c.requires.image; turn = turn; spells = c.encode.ensures ∙ as_it_is next c.requires.version }))
