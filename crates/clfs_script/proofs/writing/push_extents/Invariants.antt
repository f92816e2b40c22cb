use Rattle.std.proofs.Common.{◌≡◌, ◌++◌, take}
use Rattle.std.specs.List.{flat_map}
use Rattle.clfs_model.specs.Text.{extent_text}
use Rattle.clfs_script.proofs.writing.push_extents.Given as goal

abbrev pub invariant-loop-extent : goal.invariant-loop-extent
invariant-loop-extent l = l.out ≡ l.fn.out ++ flat_map extent_text (take l.extent-index l.extents)
