use Rattle.std.proofs.lemmas.Result.{on_ok_weaker}
use Rattle.clfs_disk.specs.Files.{Files}
use Rattle.clfs_container.proofs.Walks.{gate_torn, gate_written}
use Rattle.clfs_container.proofs.open_gate.Goals as goal

pub returns-clause-moments : goal.returns-clause-moments
returns-clause-moments g c settled sectors blocks rest body more left behind has group =
    let old : Files = (g.D.Disk.state c.args.disk.now).files in
    let leaves = c.write_synced.ensures.moments settled in
    record {
      later = leaves.later;
      past = leaves.past;
      each = λ moment image from until there.
          gate_torn sectors c.args.file blocks rest c.args.at old behind body more left has group image (leaves.each moment image from until there);
    }

pub returns-clause-opened : goal.returns-clause-opened
returns-clause-opened g c = on_ok_weaker c.write_synced.result
    (λ written told sectors blocks rest body more left behind has group.
    let done = written told in
    gate_written sectors c.args.file blocks rest c.args.at _ behind body more left has group
    c.overwritten_bytes_stand_in_place.ensures _ done.0 done.1)
    c.write_synced.ensures.written
