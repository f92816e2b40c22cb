use Rattle.std.proofs.Common.{◌≡◌, ◌<◌, ◌∙◌, ℕ, List, length, ap, sym, arith}
use Rattle.std.proofs.lemmas.List.{length-set}
use Rattle.clfs_disk.specs.Files.{Files, picked}
use Rattle.clfs_disk.specs.Copies.{read_files, synced_files}
use Rattle.clfs_disk.specs.declared.copies.FileCopies.{FileCopies}
use Rattle.clfs_disk.proofs.Tables.{file_at, wanted_below, same_above}
use Rattle.clfs_disk.proofs.memory.crash_files.Goals as goal

pub loop-copies-preserved : goal.loop-copies-preserved
loop-copies-preserved c =
    let kept = c.loop-copies.invariant in
    let at = c.loop-copies.copies-index in
    let all = c.loop-copies.copies-items in
    let new = c.crash.new.self in
    let lt : at < length all = omega arith in
    let start = c.args.files.now.items in
    let want : Files = λ file. picked c.args.pick (read_files start file) (synced_files start file) in
    let read_is : c.copies-item.result.read.items ≡ read_files start at =
    sym (file_at (λ (copies : FileCopies). copies.read.items) all at c.copies-item.result lt c.copies-item.is) ∙ kept.read_above at (omega arith) in
    let synced_is : c.copies-item.result.synced.items ≡ synced_files start at =
    sym (file_at (λ (copies : FileCopies). copies.synced.items) all at c.copies-item.result lt c.copies-item.is) ∙ kept.synced_above at (omega arith) in
    let is = sym c.copies-item.is in
    let left : new.read.items ≡ want at = c.crash.ensures.read ∙ ap (λ (x : FileCopies). picked c.args.pick x.read.items x.synced.items) is
    ∙ ap (λ (l : List ℕ). picked c.args.pick l c.copies-item.result.synced.items) read_is
    ∙ ap (λ (l : List ℕ). picked c.args.pick (read_files start at) l) synced_is in
    record {
      count = length-set all at new ∙ kept.count;
      read_below = wanted_below (λ (copies : FileCopies). copies.read.items) all at new lt want left kept.read_below;
      synced_below = wanted_below (λ (copies : FileCopies). copies.synced.items) all at new lt want (c.crash.ensures.synced ∙ left) kept.synced_below;
      first_below = wanted_below (λ (copies : FileCopies). copies.first.items) all at new lt want (c.crash.ensures.first ∙ left) kept.first_below;
      read_above = same_above (λ (copies : FileCopies). copies.read.items) all at new lt (read_files start) kept.read_above;
      synced_above = same_above (λ (copies : FileCopies). copies.synced.items) all at new lt (synced_files start) kept.synced_above;
    }
