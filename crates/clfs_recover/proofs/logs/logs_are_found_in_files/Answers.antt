use Rattle.clfs_recover.proofs.Words.{refl}
use Rattle.clfs_recover.proofs.Laid.{log_found}
use Rattle.clfs_recover.proofs.logs.logs_are_found_in_files.Goals as goal

pub returns : goal.returns
returns c =
    let found = log_found c.open_blocks_are_one_list.ensures.whole c.copies_are_read_as_written.ensures.written c.copies_are_read_as_written.ensures.length in record {
      found = found;
      state = λ parts buffers log. let there = found parts log in (there.0, record { parts = parts; found = there.1; is = refl });
    }
