use Rattle.clfs_recover.proofs.CleanEnds.{all_whole}
use Rattle.clfs_recover.proofs.FoundParts.{AreImagesRead}
use Rattle.clfs_recover.proofs.StoredLogs.{stands, stored_somehow}
use Rattle.clfs_recover.proofs.stored.logs_are_copies_and_blocks.Goals as goal

pub returns : goal.returns
returns c =
    let images : AreImagesRead = record { limits = c.copies_are_read_as_written.ensures.limits; may_be = c.copies_are_read_as_written.ensures.may_be; current = c.copies_are_read_as_written.ensures.current } in
    record {
      found = stored_somehow c.open_blocks_are_one_list.ensures.one images c.blocks_are_read_as_written.ensures c.records_are_read_as_written.ensures.fits;
      stands = stands c.open_blocks_are_one_list.ensures.whole;
      by_file = λ slot image blocks files newest each.
          record { newest = newest; containers = all_whole image.container_sectors files blocks image.files each };
    }
