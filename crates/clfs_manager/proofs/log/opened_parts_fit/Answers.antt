use Rattle.clfs_manager.proofs.Words.{◌<◌, sym, block_start, told_parts, state_of}
use Rattle.clfs_manager.proofs.Heads.{all_heads}
use Rattle.clfs_manager.proofs.Opened.{rows_and_heads, none_from, ends_fit, below_start, starts, streams_long}
use Rattle.clfs_manager.proofs.OpenedOnDisk.{opened_needed}
use Rattle.clfs_manager.proofs.log.opened_parts_fit.Goals as goal

pub returns : goal.returns
returns c =
    let parts = told_parts c.args.opened.now in
    let s = state_of parts c.args.write_buffers in
    let f = c.logs_are_found_in_files.ensures.found parts c.requires.log in
    let stands = c.logs_are_found_in_files.ensures.state parts c.args.write_buffers c.requires.log in
    let valid = c.opened_states_are_valid.ensures.valid stands.0 s stands.1 c.requires.some c.requires.few in
    let storable = c.opened_states_are_valid.ensures.storable stands.0 s stands.1 in
    let image = c.opened_copies_fit.ensures.image f.0 parts f.1 in
    let within = c.opened_copies_fit.ensures.within f.0 parts f.1 in
    let long = c.opened_bases_are_moved_by_records.ensures.all f.0 parts f.1 in
    let container = c.opened_copies_fit.ensures.container f.0 parts f.1 in
    let below = below_start parts.place parts.entries within.1 (c.opened_records_lie_in_order.ensures.below f.0 parts f.1) in
    record {
      slot = c.opened_copies_fit.ensures.slot f.0 parts f.1;
      image = image;
      tables = record {
        rows = rows_and_heads parts (c.copies_are_read_as_written.ensures.current parts.image image) long
            (c.opened_records_lie_in_order.ensures.rising f.0 parts f.1) (c.opened_records_lie_in_order.ensures.fit f.0 parts f.1);
        ends = ends_fit parts.entries parts.image.container_sectors image.shape.largest_container (c.numbers_fit_their_types.ensures.block_ends s valid storable);
        below = all_heads (λ lsn. lsn < block_start parts.place) parts.entries below;
        offset = c.numbers_fit_their_types.ensures.offset s valid storable;
        start = starts parts.place within.0;
      };
      within = within.0;
      closed = within.1;
      flushed = none_from (block_start parts.place) parts.entries below;
      streams = streams_long parts.image.streams parts.bases long;
      listed = sym container;
      needed = opened_needed parts c.args.write_buffers (record {
        container = container;
        some = image.some_listed;
        records = c.opened_records_lie_in_order.ensures.containers f.0 parts f.1;
        fits = c.copies_without_fault_fit.ensures.fits parts.image _ (c.opened_copies_fit.ensures.right f.0 parts f.1);
      });
      valid = valid;
      storable = storable;
    }
