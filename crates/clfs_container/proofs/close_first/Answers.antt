use Rattle.std.proofs.lemmas.Result.{on_ok_weaker}
use Rattle.clfs_container.proofs.Walks.{none_open}
use Rattle.clfs_container.proofs.close_first.Goals as goal

pub returns-clause-none : goal.returns-clause-none
returns-clause-none g c = on_ok_weaker c.write_synced.result
    (λ written told sectors. none_open c.overwritten_bytes_stand_in_place.ensures sectors c.args.file _ _ (written told).0 (written told).1) c.write_synced.ensures.written
