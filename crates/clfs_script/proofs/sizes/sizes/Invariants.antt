use Rattle.std.proofs.Common.{◌≡◌, ◌-◌, ◌≤◌, length}
use Rattle.clfs_model.specs.Script.{sizes, sizes_up_to}
use Rattle.clfs_script.specs.Asked.{rest_of}
use Rattle.clfs_script.proofs.SizeLists.{behind}
use Rattle.clfs_script.proofs.sizes.sizes.Given as goal

abbrev pub invariant-loop-words : goal.invariant-loop-words
invariant-loop-words l = record {
  few : length l.lengths.items ≤ 16;
  so_far : sizes (rest_of l.fn.words) ≡ behind l.lengths.items (sizes_up_to (16 - length l.lengths.items) (rest_of l.words).words);
}

abbrev pub decreases-loop-words : goal.decreases-loop-words
decreases-loop-words l = 16 - length l.lengths.items
