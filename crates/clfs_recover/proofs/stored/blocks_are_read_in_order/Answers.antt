use Rattle.clfs_recover.proofs.ReadStored.{records_both, written_read, read_behind, containers_both, read_in_last, read_with_empty, have_more, stored_more}
use Rattle.clfs_recover.proofs.Fronts.{front_has}
use Rattle.clfs_recover.proofs.stored.blocks_are_read_in_order.Goals as goal

pub returns : goal.returns
returns c = record {
  written = λ shape streams id offset groups blocks good few_streams small within have.
      written_read c.blocks_are_read_as_written.ensures c.records_are_read_as_written.ensures.read c.records_are_read_as_written.ensures.length
      shape streams id good few_streams small offset groups blocks within have;
  joined = λ shape streams id offset groups others blocks more have behind. records_both shape streams id offset groups blocks others more have behind;
  further = λ shape streams more id offset groups blocks le have. have_more shape streams more le id offset groups blocks have;
  front = front_has;
  behind = read_behind;
  containers = containers_both;
  last = read_in_last;
  empty = read_with_empty;
  streams = λ shape streams more id containers entries le is. stored_more shape streams more le id containers entries is;
}
