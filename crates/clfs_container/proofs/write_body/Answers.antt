use Rattle.std.proofs.Common.{length}
use Rattle.std.proofs.lemmas.Result.{on_ok_weaker}
use Rattle.clfs_disk.specs.Files.{Files}
use Rattle.clfs_container.proofs.Walks.{on_ok_both, body_written, gate_kept, body_torn}
use Rattle.clfs_container.proofs.write_body.Goals as goal

pub returns-clause-body : goal.returns-clause-body
returns-clause-body g c = on_ok_weaker c.write_synced.result
    (λ written told. body_written c.overwritten_bytes_stand_in_place.ensures c.args.file c.args.at c.args.bytes.now _ _ (written told).0 (written told).1) c.write_synced.ensures.written

pub returns-clause-images : goal.returns-clause-images
returns-clause-images g c = on_ok_both c.write_synced.result
    (λ written images honest image at.
    let stands = c.overwritten_bytes_stand_in_place.ensures in
    let room = (written honest.0).0 in
    let there = images honest image at in (
      body_written stands c.args.file c.args.at c.args.bytes.now _ image room there,
      gate_kept stands c.args.file c.args.at c.args.bytes.now _ image room there,
    ))
    c.write_synced.ensures.written c.write_synced.ensures.images

pub returns-clause-moments : goal.returns-clause-moments
returns-clause-moments g c settled sectors blocks rest behind =
    let old : Files = (g.D.Disk.state c.args.disk.now).files in
    let leaves = c.write_synced.ensures.moments settled in
    record {
      later = leaves.later;
      past = leaves.past;
      each = λ moment image from until there.
          body_torn sectors c.args.file blocks rest c.args.at old behind (length c.args.bytes.now) image (leaves.each moment image from until there);
    }

pub returns-clause-behind : goal.returns-clause-behind
returns-clause-behind g c sectors blocks rest behind =
    body_torn sectors c.args.file blocks rest c.args.at _ behind (length c.args.bytes.now) _ c.write_synced.ensures.torn
