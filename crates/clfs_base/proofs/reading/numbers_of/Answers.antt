use Rattle.clfs_base.proofs.reading.numbers_of.Goals as goal

pub returns : goal.returns
returns c = λ i. record {
  version = c.number_1.ensures i;
  turn = c.number_1-2.ensures i;
  zero = c.number_1-3.ensures i;
  block_sectors = c.number_4.ensures i;
  container_sectors = c.number_4-2.ensures i;
  containers = c.number_2.ensures i;
  files_made = c.number_2-2.ensures i;
  first = c.number_4-3.ensures i;
  listed = c.number_2-3.ensures i;
  streams = c.number_2-4.ensures i;
  archiving = c.number_1-4.ensures i;
  automatic = c.number_1-5.ensures i;
  maximum = c.number_2-5.ensures i;
  minimum = c.number_2-6.ensures i;
  growth = c.number_2-7.ensures i;
  tail = c.number_8.ensures i;
  dedicated = c.number_1-6.ensures i;
}
