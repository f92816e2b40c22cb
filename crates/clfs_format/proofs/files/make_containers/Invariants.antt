use Rattle.std.proofs.Common.{◌≡◌, ℕ, ◌-◌, ◌<◌, ◌≤◌, length}
use Rattle.clfs_lsn.specs.Limits.{most_containers}
use Rattle.clfs_disk.specs.State.{IsSteady, Passes, raised}
use Rattle.clfs_format.specs.Making.{BaseStays, KnowsLengths}
use Rattle.clfs_format.proofs.files.make_containers.Given as goal

abbrev pub invariant-loop-file : goal.invariant-loop-file
invariant-loop-file g l = record {
  some : 1 ≤ l.file;
  few : l.containers ≤ most_containers;
  long : KnowsLengths (g.D.Disk.state l.initial.disk) → (file : ℕ) → 1 ≤ file → file < l.file → l.len ≤ length ((g.D.Disk.state l.disk).files file);
  base : BaseStays (g.D.Disk.state l.initial.disk).files (g.D.Disk.state l.disk).files;
  time : Passes BaseStays (g.D.Disk.state l.initial.disk) (g.D.Disk.state l.disk);
  calls : raised 0 (g.D.Disk.state l.disk).calls ≡ raised (l.file - 1) (g.D.Disk.state l.initial.disk).calls;
  steady : IsSteady (g.D.Disk.state l.initial.disk) → (g.D.Disk.state l.disk).faults ≡ (g.D.Disk.state l.initial.disk).faults;
}
