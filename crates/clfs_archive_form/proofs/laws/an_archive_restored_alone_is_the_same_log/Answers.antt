use Rattle.clfs_archive_form.proofs.ReadBack.{held}
use Rattle.clfs_archive_form.proofs.SameLog.{same_alone}
use Rattle.clfs_archive_form.proofs.laws.an_archive_restored_alone_is_the_same_log.Goals as goal

pub returns : goal.returns
returns c = record {
  same = λ files bytes s is stands starts.
      let opened = c.opened_copies_fit.ensures in
      let parts = stands.parts in
      let stored = c.logs_are_copies_and_blocks.ensures.found files parts stands.found in
      let here = held c.open_blocks_are_one_list.ensures.one c.open_blocks_are_one_list.ensures.whole files is.slot is.image is.blocks s is.log parts stored.0
      stands.is (opened.newest files parts stands.found) (opened.image files parts stands.found) (opened.right files parts stands.found)
      (c.opened_records_lie_in_order.ensures.below files parts stands.found) stored.1 in
      let fit = c.copies_without_fault_fit.ensures.fits is.image _ here.right in
      same_alone files is.image is.blocks s here is.archiving fit c.copies_are_read_as_written.ensures.written c.copies_are_read_as_written.ensures.length
      (c.copies_are_read_as_written.ensures.current is.image here.fits) starts c.records_are_read_of_their_block.ensures.alone c.blocks_are_read_as_written.ensures
      c.records_are_read_as_written.ensures.fits bytes is.is;
}
