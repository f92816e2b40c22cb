use Rattle.clfs_manager.proofs.Words.{◌∙◌}
use Rattle.clfs_manager.proofs.log.open_records.Goals as goal

pub open_tables-requires : goal.open_tables-requires
open_tables-requires c = rw (c.as_slice-rows.ensures, c.as_slice.ensures, c.as_slice-heads.ensures, c.requires.heads) c.requires.fit.rows

pub start_of-next-requires : goal.start_of-next-requires
start_of-next-requires c = c.requires.fit.offset

pub open_archive-requires-clause-rising : goal.open_archive-requires-clause-rising
open_archive-requires-clause-rising c = rw (c.as_slice-heads.ensures, c.requires.heads) c.requires.fit.rows.rising

pub open_archive-requires-clause-fit : goal.open_archive-requires-clause-fit
open_archive-requires-clause-fit c = rw (c.as_slice-heads.ensures, c.requires.heads) c.requires.fit.ends

pub open_archive-requires-clause-start : goal.open_archive-requires-clause-start
open_archive-requires-clause-start c = rw c.start_of-next.ensures c.requires.fit.start

pub open_archive-requires-clause-below : goal.open_archive-requires-clause-below
open_archive-requires-clause-below c = rw (c.as_slice-heads.ensures, c.requires.heads, c.start_of-next.ensures) c.requires.fit.below

pub returns : goal.returns
returns c =
    let tables = c.in_ok-tables.ensures in
    let heads = c.as_slice-heads.ensures ∙ c.requires.heads in
    record {
      streams = rw (c.as_slice-rows.ensures, c.as_slice.ensures) at tables.streams;
      heads = tables.heads ∙ heads;
      low = tables.low;
      tail = c.in_ok-archive.ensures.tail ∙ c.tail_in.ensures;
      blocks = rw (heads, c.start_of-next.ensures) at c.in_ok-archive.ensures.blocks;
    }
