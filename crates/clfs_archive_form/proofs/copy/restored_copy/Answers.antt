use Rattle.clfs_archive_form.proofs.Words.{◌≡◌, min, ◌∙◌, sym, ap, subst, arith, range_with_len, BaseImage, IsImage, kept_count, lowered_rows, restored_copy}
use Rattle.clfs_archive_form.proofs.RestoredCopies.{copy_fits}
use Rattle.clfs_archive_form.proofs.copy.restored_copy.Goals as goal

pub returns-clause-image : goal.returns-clause-image
returns-clause-image c =
    let image = c.args.image in
    let e = c.from_parts-end.result in
    let is = c.take_rows-rows.ensures.image in
    let tail : c.lowered-copy.result ≡ min image.tail e = c.lowered-copy.ensures ∙ ap (λ (x : BaseImage). min x.tail e) is in
    let files : c.in_ok-files.files ≡ range_with_len 1 (kept_count image c.args.up_to) = c.in_ok-files.ensures
    ∙ ap (range_with_len 1) (omega (arith, c.container-container.ensures.value, c.requires.listed.0, c.requires.listed.1, c.requires.image.few_listed, c.requires.image.containers_made, c.requires.image.few_made)) in
    let streams : c.from_vec.result ≡ lowered_rows e image.streams =
    c.from_vec.ensures ∙ c.lower_bases.ensures ∙ ap (lowered_rows e) c.take_rows-rows.ensures.result in
    let same : record c.take_rows-rows.new.image {
      version = 2;
      turn = 0;
      files_made = c.take_rows-rows.new.image.containers;
      tail = c.lowered-copy.result;
      files = c.in_ok-files.files;
      streams = c.from_vec.result;
    } ≡ restored_copy image c.args.up_to e =
    (λ i. record (is i) { version = 2; turn = 0; files_made = (is i).containers; tail = tail i; files = files i; streams = streams i }) in
    subst IsImage (sym same) (copy_fits image c.args.up_to e (c.copies_are_read_as_written.ensures.current image c.requires.image) c.requires.listed.0 c.requires.listed.1)
