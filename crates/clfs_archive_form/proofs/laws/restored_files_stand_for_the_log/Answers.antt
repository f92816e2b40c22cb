use Rattle.clfs_archive_form.proofs.Words.{arith}
use Rattle.clfs_archive_form.proofs.RestoredFiles.{stand}
use Rattle.clfs_archive_form.proofs.laws.restored_files_stand_for_the_log.Goals as goal

pub returns : goal.returns
returns c = record {
  stands = λ bytes archive up_to files buffers can are.
      stand c.records_are_read_of_their_block.ensures.alone c.blocks_are_read_as_written.ensures c.records_are_read_as_written.ensures.fits bytes archive up_to files
      can.image.shape c.logs_are_copies_and_blocks.ensures.stands c.copies_without_fault_fit.ensures.right are can.tail can.low
      (λ i within. can.readable i (omega (arith, within, can.high))) buffers;
}
