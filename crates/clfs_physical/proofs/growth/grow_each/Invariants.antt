use Rattle.clfs_physical.proofs.Words.{◌≡◌, ◌⊎◌, ◌-◌, ◌<◌, ◌≤◌, ℕ, length, Passes, GrownAbove}
use Rattle.clfs_disk.specs.State.{TellsContents, IsSteady, raised}
use Rattle.clfs_physical.proofs.growth.grow_each.Given as goal

-- The files up to `done` are made, and the others are as they were.
abbrev pub invariant-loop-done : goal.invariant-loop-done
invariant-loop-done g l = record {
  from : l.made ≤ l.done;
  until : l.done ≤ l.wanted;
  long : TellsContents (g.D.Disk.state l.fn.disk) ⊎ IsSteady (g.D.Disk.state l.fn.disk) → (file : ℕ) → l.made < file → file ≤ l.done
      → l.len ≤ length ((g.D.Disk.state l.disk).files file);
  grown : GrownAbove l.made (g.D.Disk.state l.fn.disk).files (g.D.Disk.state l.disk).files;
  time : Passes (GrownAbove l.made) (g.D.Disk.state l.fn.disk) (g.D.Disk.state l.disk);
  none : l.done ≡ l.made → l.disk ≡ l.fn.disk;
  calls : raised 0 (g.D.Disk.state l.disk).calls ≡ raised (l.done - l.made) (g.D.Disk.state l.fn.disk).calls;
  faults : IsSteady (g.D.Disk.state l.fn.disk) → (g.D.Disk.state l.disk).faults ≡ (g.D.Disk.state l.fn.disk).faults;
}

abbrev pub decreases-loop-done : goal.decreases-loop-done
decreases-loop-done g l = l.wanted - l.done
