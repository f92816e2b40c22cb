use Rattle.clfs_dump.proofs.Words.{◌≡◌, ◌++◌, take, flat_map}
use Rattle.clfs_dump.specs.Lines.{escaped}
use Rattle.clfs_dump.proofs.data.push_all_escaped.Given as goal

abbrev pub invariant-loop-byte : goal.invariant-loop-byte
invariant-loop-byte l = l.out ≡ l.fn.out ++ flat_map escaped (take l.byte-index l.bytes)
