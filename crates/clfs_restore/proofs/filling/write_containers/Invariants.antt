use Rattle.clfs_restore.proofs.Words.{◌≡◌, ℕ, ◌-◌, ◌*◌, ◌<◌, ◌≤◌, length, TellsContents, IsSteady, Passes, BaseStays, HoldsKept}
use Rattle.clfs_disk.specs.State.{raised}
use Rattle.clfs_format.specs.Making.{SameLengths}
use Rattle.clfs_restore.proofs.filling.write_containers.Given as goal

abbrev pub invariant-loop-i : goal.invariant-loop-i
invariant-loop-i g l = record {
  fronts : TellsContents (g.D.Disk.state l.initial.disk) → (j : ℕ) → j < l.i
      → (size : ℕ) × HoldsKept l.archives l.archive l.up_to (g.D.Disk.state l.disk).files j size;
  last : TellsContents (g.D.Disk.state l.initial.disk) → 1 ≤ l.i → HoldsKept l.archives l.archive l.up_to (g.D.Disk.state l.disk).files (l.i - 1) l.end;
  base : BaseStays (g.D.Disk.state l.initial.disk).files (g.D.Disk.state l.disk).files;
  lengths : SameLengths (g.D.Disk.state l.initial.disk).files (g.D.Disk.state l.disk).files;
  time : Passes BaseStays (g.D.Disk.state l.initial.disk) (g.D.Disk.state l.disk);
  calls : raised 0 (g.D.Disk.state l.disk).calls ≡ raised l.i (g.D.Disk.state l.initial.disk).calls;
  steady : IsSteady (g.D.Disk.state l.initial.disk)
      → ((file : ℕ) → 1 ≤ file → file ≤ l.archive.image.containers
      → 512 * l.archive.image.container_sectors ≤ length ((g.D.Disk.state l.initial.disk).files file))
      → (g.D.Disk.state l.disk).faults ≡ (g.D.Disk.state l.initial.disk).faults;
}
