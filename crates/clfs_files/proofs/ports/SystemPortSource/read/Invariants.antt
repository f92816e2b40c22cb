-- A call that is made again took nothing, and no fault is counted of it.
use Rattle.std.proofs.Common.{◌≡◌, length}
use Rattle.std.specs.Io.KnownBytes.{Keeps}
use Rattle.clfs_files.proofs.ports.SystemPortSource.read.Given as goal

abbrev pub invariant-loop-tries : goal.invariant-loop-tries
invariant-loop-tries g l = record {
  left : Keeps (g.R.Read.remaining l.initial.self.inner) (g.R.Read.remaining l.self.inner);
  faults : l.self.faults ≡ l.initial.self.faults;
  room : length l.out ≡ length l.initial.out;
}
