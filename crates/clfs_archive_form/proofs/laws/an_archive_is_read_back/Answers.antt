use Rattle.clfs_archive_form.proofs.Words.{◌≡◌, List, [], ◌∷◌, ℕ, Ok, sym, subst, archives_in, archived_pieces, archive_alone}
use Rattle.clfs_archive_form.proofs.ReadBack.{held, log_back}
use Rattle.clfs_archive_form.proofs.laws.an_archive_is_read_back.Goals as goal

pub returns : goal.returns
returns c = record {
  read = λ files bytes s is stands.
      let opened = c.opened_copies_fit.ensures in
      let parts = stands.parts in
      let stored = c.logs_are_copies_and_blocks.ensures.found files parts stands.found in
      let here = held c.open_blocks_are_one_list.ensures.one c.open_blocks_are_one_list.ensures.whole files is.slot is.image is.blocks s is.log parts stored.0
      stands.is (opened.newest files parts stands.found) (opened.image files parts stands.found) (opened.right files parts stands.found)
      (c.opened_records_lie_in_order.ensures.below files parts stands.found) stored.1 in
      let fit = c.copies_without_fault_fit.ensures.fits is.image _ here.right in
      subst (λ (l : List ℕ). archives_in l ≡ Ok (archive_alone is.image (archived_pieces is.image is.blocks) ∷ [])) (sym is.is)
      (log_back files is.image is.blocks s here is.archiving fit c.copies_are_read_as_written.ensures.written c.copies_are_read_as_written.ensures.length
      (c.copies_are_read_as_written.ensures.current is.image here.fits));
}
