use Rattle.std.proofs.Common.{◌≡◌, ◌<◌, ◌∙◌, ℕ, Vec, length, ap, sym, arith}
use Rattle.std.specs.declared.alloc.Global.{Global}
use Rattle.std.proofs.lemmas.List.{length-set}
use Rattle.clfs_disk.specs.Copies.{read_files}
use Rattle.clfs_disk.specs.declared.copies.FileCopies.{FileCopies}
use Rattle.clfs_disk.proofs.Tables.{file_at, change_in_no_file, wanted_below}
use Rattle.clfs_disk.proofs.memory.sync_files.Goals as goal

pub loop-copies-preserved : goal.loop-copies-preserved
loop-copies-preserved c =
    let kept = c.loop-copies.invariant in
    let at = c.loop-copies.copies-index in
    let lt : at < length c.loop-copies.copies-items = omega arith in
    let item = c.copies-item.result in
    let read : c.sync.new.self.read.items ≡ item.read.items = ap (λ (v : Vec ℕ Global). v.items) c.sync.ensures.read
    ∙ sym (ap (λ (x : FileCopies). x.read.items) c.copies-item.is) in
    let first : c.sync.new.self.first.items ≡ item.first.items = ap (λ (v : Vec ℕ Global). v.items) c.sync.ensures.first
    ∙ sym (ap (λ (x : FileCopies). x.first.items) c.copies-item.is) in
    let synced : c.sync.new.self.synced.items ≡ item.read.items = c.sync.ensures.synced ∙ sym (ap (λ (x : FileCopies). x.read.items) c.copies-item.is) in
    record {
      count = length-set c.loop-copies.copies-items at c.sync.new.self ∙ kept.count;
      read = λ file. change_in_no_file (λ (copies : FileCopies). copies.read.items) c.loop-copies.copies-items at c.sync.new.self lt item c.copies-item.is read file ∙ kept.read file;
      first = λ file. change_in_no_file (λ (copies : FileCopies). copies.first.items) c.loop-copies.copies-items at c.sync.new.self lt item c.copies-item.is first file ∙ kept.first file;
      below = wanted_below (λ (copies : FileCopies). copies.synced.items) c.loop-copies.copies-items at c.sync.new.self lt (read_files c.args.files.now.items)
          (synced ∙ sym (file_at (λ (copies : FileCopies). copies.read.items) c.loop-copies.copies-items at item lt c.copies-item.is)
          ∙ kept.read at) kept.below;
    }
