use Rattle.clfs_recover.proofs.BlockCounts.{known_blocks, stored_blocks}
use Rattle.clfs_recover.proofs.FoundParts.{AreImagesRead, found_opened}
use Rattle.clfs_recover.proofs.logs.blocks_begin_with_sequence_0.Goals as goal

pub returns : goal.returns
returns c =
    let images : AreImagesRead = record {
      limits = c.copies_are_read_as_written.ensures.limits;
      may_be = c.copies_are_read_as_written.ensures.may_be;
      current = c.copies_are_read_as_written.ensures.current;
    } in
    let written = c.blocks_are_read_as_written.ensures in
    let reads = c.records_are_read_as_written.ensures.fits in
    record {
      known = λ parts log. known_blocks written reads parts log;
      found = λ files parts blocks finds stored.
          stored_blocks written reads files parts blocks (found_opened images written reads files parts finds) stored;
    }
