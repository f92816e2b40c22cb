use Rattle.clfs_race.proofs.Words.{◌≡◌, ◌++◌, take}
use Rattle.std.specs.List.{flat_map}
use Rattle.clfs_race.specs.Scripts.{bad_line_text}
use Rattle.clfs_race.proofs.writing.write_bad_lines.Given as goal

abbrev pub invariant-loop-at : goal.invariant-loop-at
invariant-loop-at l = l.out ≡ l.fn.out ++ flat_map bad_line_text (take l.at-index l.places)
