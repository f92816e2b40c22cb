use Rattle.clfs_manager.proofs.Words.{refl, DiskFault}
use Rattle.clfs_model.specs.declared.refusal.Refusal.TheVariants as refusals
use Rattle.clfs_manager.proofs.OpenedAnew.{managed_read, managed_refused}
use Rattle.clfs_manager.proofs.manager.Manager.read_raw.Goals as goal

pub invariant_of-self : goal.invariant_of-self
invariant_of-self g c = managed_read (g.D.Disk.state c.self.inside.disk) (g.D.Disk.state c.read.new.self) c.self.inside.log
    c.read.ensures.same c.read.ensures.time c.self.invariant

pub invariant_of-self-in-Err : goal.invariant_of-self-in-Err
invariant_of-self-in-Err g c = managed_refused DiskFault refusals.DiskFault (g.D.Disk.state c.self.inside.disk) (g.D.Disk.state c.read.new.self)
    c.self.inside.log c.break_log.new.self c.steps_keep_a_state_valid.ensures.reopening c.steps_keep_a_state_storable.ensures.reopening c.self.invariant
    c.if-self.false c.read.ensures.same c.read.ensures.time refl c.break_log.ensures.broken.state (λ e. absurd (cc e)) (λ other. c.break_log.ensures.broken.broken)

pub returns-in-Ok-clause-moments : goal.returns-in-Ok-clause-moments
returns-in-Ok-clause-moments g c = λ client.
    c.stored.ensures.survives_opening client c.read.new.self (rw (← c.self.view_is) c.read.ensures.time)

pub returns-in-Err-clause-moments : goal.returns-in-Err-clause-moments
returns-in-Err-clause-moments g c = λ client.
    c.stored.ensures.survives_opening client c.read.new.self (rw (← c.self.view_is) c.read.ensures.time)
