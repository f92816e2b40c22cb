use Rattle.clfs_recover.proofs.FoundParts.{AreImagesRead, found_in}
use Rattle.clfs_recover.proofs.ValidStates.{place_within}
use Rattle.clfs_recover.proofs.opened.opened_copies_fit.Goals as goal

pub returns : goal.returns
returns c =
    let images : AreImagesRead = record { limits = c.copies_are_read_as_written.ensures.limits; may_be = c.copies_are_read_as_written.ensures.may_be; current = c.copies_are_read_as_written.ensures.current } in
    let found = found_in images c.blocks_are_read_as_written.ensures c.records_are_read_as_written.ensures.fits in
    record {
      newest = λ files parts finds. (found files parts finds).newest;
      slot = λ files parts finds. (found files parts finds).slot;
      image = λ files parts finds. (found files parts finds).opened.image_is;
      right = λ files parts finds. (found files parts finds).opened.right;
      container = λ files parts finds. (found files parts finds).opened.container_is;
      within = λ files parts finds. (place_within parts 1 (found files parts finds).opened, (found files parts finds).opened.closed);
    }
