use Rattle.clfs_archive_form.proofs.OpenRows.{row_short, row_open}
use Rattle.clfs_archive_form.proofs.laws.blocks_in_a_row_are_open.Goals as goal

pub returns : goal.returns
returns c = record {
  short = λ shape streams id entries bytes blocks is_shape stand.
      row_short c.blocks_are_read_as_written.ensures c.records_are_read_as_written.ensures.fits shape is_shape streams id entries bytes blocks stand;
  whole = λ shape streams id entries bytes more blocks is_shape stand ends.
      row_open c.blocks_are_read_as_written.ensures c.records_are_read_as_written.ensures.fits shape is_shape streams id entries bytes blocks stand more ends;
}
