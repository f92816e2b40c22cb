use Rattle.clfs_shared.specs.Crashes.{since}
use Rattle.clfs_shared.proofs.Outliving.{KeepLaws, keeps, parts, stands_still}
use Rattle.clfs_shared.proofs.crashes.flushed_records_outlive_crashes.Goals as goal

pub returns : goal.returns
returns g c =
    let laws : KeepLaws = record {
      ways = c.ways_of_a_step.ensures;
      valid = c.steps_keep_a_state_valid.ensures.step;
      adds = c.steps_only_add_records.ensures;
      rises = c.flushed_never_falls.ensures.step;
      stays = c.broken_stays.ensures.calls;
      bases = c.sameness.ensures.bases;
      live = c.sameness.ensures.live;
    } in
    record {
      parts = λ disk start told whole. parts told whole (since start (g.D.Disk.state disk).image_at);
      kept = λ disk start told whole. keeps laws told whole (since start (g.D.Disk.state disk).image_at);
      still = λ disk start told whole. stands_still laws told whole (since start (g.D.Disk.state disk).image_at);
    }
