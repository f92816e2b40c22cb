use Rattle.clfs_recover.proofs.RecordPlaces.{lie_listed, read_there}
use Rattle.clfs_recover.proofs.reading.stored_records_are_read.Goals as goal

pub returns : goal.returns
returns c =
    let block = c.records_are_read_of_their_block.ensures in record {
      listed = lie_listed c.blocks_are_read_as_written.ensures c.records_are_read_as_written.ensures.fits;
      read = read_there block.alone block.count block.each;
    }
