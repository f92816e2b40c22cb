use Rattle.std.proofs.Common.{rules, ◌≡◌, ◌+◌, ◌<◌, ◌≤◌, ℕ, List, Vec, length, arith, sym, ◌∙◌, subst}
use Rattle.std.specs.declared.alloc.Global.{Global}
use Rattle.clfs_disk.specs.Files.{overwritten}
use Rattle.clfs_disk.proofs.Places.{torn_in_written}
use Rattle.clfs_disk.proofs.Tables.{file_at, change_in_file}
use Rattle.clfs_disk.proofs.steady.SteadyDisk.write.Goals as goal

pub returns : goal.returns
returns c =
    let lt : c.args.file < length c.args.self.now.files.items = omega (arith, c.args.self.now.count) in
    let here = c.deref.ensures.value ∙ sym (file_at
    (λ (bytes : Vec ℕ Global). bytes.items) c.args.self.now.files.items c.args.file c.index.result.now lt c.index.ensures) in
    let fits = subst (λ (l : List ℕ). c.args.at + length c.args.bytes.now ≤ length l) here (c.has_range.ensures.0 c.if-not-has_range.false) in
    let written = change_in_file (λ (bytes : Vec ℕ Global). bytes.items) c.args.self.now.files.items c.args.file c.overwrite.new.file lt
    (λ old new. new ≡ overwritten old c.args.at c.args.bytes.now) c.index_mut.result.now c.index_mut.ensures.value c.overwrite.ensures in
    record {
      written = λ told. (fits, written);
      torn = torn_in_written c.args.file c.args.at c.args.bytes.now _ _ fits written;
      time = search rules;
      calls = search rules;
      cause = search rules;
      steady = search rules;
    }
