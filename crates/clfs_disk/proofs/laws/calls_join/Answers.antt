use Rattle.std.proofs.Common.{◌∙◌}
use Rattle.clfs_disk.specs.Files.{Unchanged, TornIn}
use Rattle.clfs_disk.proofs.Moments.{passes_then, same_then_torn, leaves_after, unchanged, torn_none}
use Rattle.clfs_disk.proofs.laws.calls_join.Goals as goal

pub returns : goal.returns
returns g c = record {
  reads = λ a b d p q. passes_then Unchanged Unchanged Unchanged (g.D.Disk.state a) (g.D.Disk.state b) (g.D.Disk.state d)
      (λ x y z first second file. second file ∙ first file) (λ x y first. first) (λ x y second. second) p q;
  read_and_write = λ file at count a b d. same_then_torn file at count (g.D.Disk.state a) (g.D.Disk.state b) (g.D.Disk.state d);
  left_by_reads = λ a b settled p. leaves_after Unchanged (Unchanged (g.D.Disk.state a).files) (g.D.Disk.state a) (g.D.Disk.state b) settled p
      (unchanged (g.D.Disk.state a).files) (λ image same. same);
  left_by_writes = λ file at count a b settled p. leaves_after (TornIn file at count) (TornIn file at count (g.D.Disk.state a).files)
      (g.D.Disk.state a) (g.D.Disk.state b) settled p (torn_none file at count (g.D.Disk.state a).files) (λ image torn. torn);
}
