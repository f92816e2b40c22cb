use Rattle.clfs_recover.proofs.FoundParts.{AreImagesRead}
use Rattle.clfs_recover.proofs.StorableStates.{stands_storable, stands_valid}
use Rattle.clfs_recover.proofs.opened.opened_states_are_valid.Goals as goal

pub returns : goal.returns
returns c =
    let images : AreImagesRead = record { limits = c.copies_are_read_as_written.ensures.limits; may_be = c.copies_are_read_as_written.ensures.may_be; current = c.copies_are_read_as_written.ensures.current } in
    let written = c.blocks_are_read_as_written.ensures in
    let reads = c.records_are_read_as_written.ensures.fits in
    record { valid = stands_valid images written reads; storable = stands_storable images written reads }
