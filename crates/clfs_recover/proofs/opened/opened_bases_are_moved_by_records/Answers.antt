use Rattle.clfs_recover.proofs.FoundParts.{AreImagesRead, found_opened}
use Rattle.clfs_recover.proofs.PartsInOrder.{base_from_rows, base_from_all, base_to_frontier, base_of_row_or_record}
use Rattle.clfs_recover.proofs.ValidStates.{same_length}
use Rattle.clfs_recover.proofs.opened.opened_bases_are_moved_by_records.Goals as goal

pub returns : goal.returns
returns c =
    let images : AreImagesRead = record { limits = c.copies_are_read_as_written.ensures.limits; may_be = c.copies_are_read_as_written.ensures.may_be; current = c.copies_are_read_as_written.ensures.current } in
    let opened = found_opened images c.blocks_are_read_as_written.ensures c.records_are_read_as_written.ensures.fits in
    record {
      all = λ files parts finds. same_length parts 1 (opened files parts finds);
      rows = λ files parts i finds lt. base_from_rows parts (opened files parts finds) i lt;
      records = λ files parts finds. base_from_all parts (opened files parts finds);
      frontier = λ files parts i finds lt. base_to_frontier parts (opened files parts finds) i lt;
      moved = λ files parts i finds lt. base_of_row_or_record parts (opened files parts finds) i lt;
    }
