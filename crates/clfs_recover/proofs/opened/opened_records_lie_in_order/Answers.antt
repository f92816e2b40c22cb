use Rattle.clfs_recover.proofs.Words.{lsn_number, shape_of}
use Rattle.clfs_recover.proofs.FoundParts.{AreImagesRead, found_opened}
use Rattle.clfs_recover.proofs.FoundRecords.{all_rise, sequences}
use Rattle.clfs_recover.proofs.PartsInOrder.{all_fit, all_low, all_listed}
use Rattle.clfs_recover.proofs.StorableStates.{goes_on}
use Rattle.clfs_recover.proofs.ValidStates.{here}
use Rattle.clfs_recover.proofs.opened.opened_records_lie_in_order.Goals as goal

pub returns : goal.returns
returns c =
    let images : AreImagesRead = record { limits = c.copies_are_read_as_written.ensures.limits; may_be = c.copies_are_read_as_written.ensures.may_be; current = c.copies_are_read_as_written.ensures.current } in
    let opened = found_opened images c.blocks_are_read_as_written.ensures c.records_are_read_as_written.ensures.fits in
    record {
      rising = λ files parts finds.
          let is = opened files parts finds in all_rise (lsn_number parts.image.first 0 0) (here parts 1 is) parts.entries is.laid.rise;
      below = λ files parts finds. all_low parts (opened files parts finds);
      containers = λ files parts finds. all_listed parts (opened files parts finds);
      fit = λ files parts finds. all_fit parts (opened files parts finds);
      blocks = λ files parts finds. (opened files parts finds).laid.laid;
      place = λ files parts finds. let is = opened files parts finds in goes_on parts 1 is is.laid.next;
      sequences = λ files parts i finds lt. sequences (shape_of parts.image) parts.entries i (opened files parts finds).laid.laid lt;
    }
