use Rattle.clfs_recover.proofs.Words.{ap, State}
use Rattle.clfs_recover.proofs.FoundParts.{AreImagesRead}
use Rattle.clfs_recover.proofs.StorableStates.{stands_cut, stands_flushed}
use Rattle.clfs_recover.proofs.opened.opened_states_are_cut.Goals as goal

pub returns : goal.returns
returns c =
    let images : AreImagesRead = record { limits = c.copies_are_read_as_written.ensures.limits; may_be = c.copies_are_read_as_written.ensures.may_be; current = c.copies_are_read_as_written.ensures.current } in
    let written = c.blocks_are_read_as_written.ensures in
    let reads = c.records_are_read_as_written.ensures.fits in
    record {
      cut = stands_cut images written reads;
      flushed = stands_flushed images written reads;
      no_areas = λ files s stands. ap (λ (t : State). t.areas) stands.is;
      nothing_waits = λ files s stands. ap (λ (t : State). t.waiting) stands.is;
      whole = λ files s stands. ap (λ (t : State). t.broken) stands.is;
    }
