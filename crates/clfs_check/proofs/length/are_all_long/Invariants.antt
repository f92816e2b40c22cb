use Rattle.std.proofs.Common.{◌≡◌, true}
use Rattle.clfs_disk.specs.State.{TellsContents}
use Rattle.clfs_recover.specs.Whole.{all_long}
use Rattle.clfs_check.proofs.Readings.{WasRead}
use Rattle.clfs_check.proofs.length.are_all_long.Given as goal

abbrev pub invariant-loop-below : goal.invariant-loop-below
invariant-loop-below g l =
    let first = g.D.Disk.state l.fn.disk in
    record {
      was : WasRead first (g.D.Disk.state l.disk);
      long : TellsContents first → all_long first.files l.bytes l.below ≡ true;
    }
