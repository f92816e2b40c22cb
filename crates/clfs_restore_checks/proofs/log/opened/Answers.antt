use Rattle.std.proofs.Common.{ℕ, sym, ap, subst}
use Rattle.clfs_disk.specs.Files.{Files}
use Rattle.clfs_model.specs.declared.state.State.{State}
use Rattle.clfs_recover.specs.Files.{StandsFor}
use Rattle.clfs_restore_checks.proofs.log.opened.Goals as goal

pub returns-in-Ok : goal.returns-in-Ok
returns-in-Ok c =
    let loaded = c.in-Ok.ensures in record {
      unbroken = sym (ap (λ (s : State). s.broken) loaded.stable);
      no_areas = sym (ap (λ (s : State). s.areas) loaded.stable);
      nothing_waits = sym (ap (λ (s : State). s.waiting) loaded.stable);
      nothing_open = sym (ap (λ (s : State). s.place.records) loaded.stable);
      stands = λ told. subst (λ (files : Files). StandsFor files c.in-Ok.manager.0) (λ i (file : ℕ). (sym (loaded.same.0 file)) i) (loaded.loaded told);
    }
