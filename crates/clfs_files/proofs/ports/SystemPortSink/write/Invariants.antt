-- A call that is made again added nothing, and no fault is counted of it.
use Rattle.std.proofs.Common.{◌≡◌}
use Rattle.std.specs.Io.KnownBytes.{Keeps}
use Rattle.clfs_files.proofs.ports.SystemPortSink.write.Given as goal

abbrev pub invariant-loop-tries : goal.invariant-loop-tries
invariant-loop-tries g l = record {
  written : Keeps (g.W.Write.contents l.initial.self.inner) (g.W.Write.contents l.self.inner);
  faults : l.self.faults ≡ l.initial.self.faults;
}
