use Rattle.clfs_operations.proofs.Crashing.{faultless_step, stands_as, survives_by}
use Rattle.clfs_operations.proofs.OnlyRead.{bad_one}
use Rattle.clfs_operations.proofs.answering.reply_to.Goals as goal

pub returns-in-Step : goal.returns-in-Step
returns-in-Step g c =
    let old = c.args.manager.now in
    let after = c.step.new.self in
    let is = c.step.ensures in
    rw c.in-Step.is (record {
      step = is.step;
      damage = is.damage;
      place = is.place;
      writes = is.writes;
      crash = survives_by c.in-Step.client c.in-Step.call.now c.step.result old.0 (g.D.Disk.state old.1) (g.D.Disk.state after.1) is.moments is.no_memory;
      stopped = λ broken. stands_as g.D.Disk.state old.1 after.1 (is.stopped broken);
      faultless = faultless_step c.faults_break.ensures.fault c.broken_stays.ensures.calls (g.D.Disk.state old.1).nature.tells_contents old.0 c.in-Step.client c.in-Step.call.now
          c.step.result after.0 is.step;
    })

pub returns-in-Nothing : goal.returns-in-Nothing
returns-in-Nothing g c = rw c.in-Nothing.is (bad_one c.args.manager.now.0 (g.D.Disk.state c.args.manager.now.1) c.in-Nothing.at
    (c.stored.ensures.survives_nothing c.in-Nothing.at))
