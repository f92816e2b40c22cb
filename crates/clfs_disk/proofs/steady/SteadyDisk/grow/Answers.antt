use Rattle.std.proofs.Common.{rules, ◌≡◌, ◌∙◌, ℕ, List, Vec, ap, arith, refl}
use Rattle.std.specs.declared.alloc.Global.{Global}
use Rattle.clfs_disk.specs.Files.{Unchanged, lengthened}
use Rattle.clfs_disk.proofs.Moments.{passes_still, grown_unchanged}
use Rattle.clfs_disk.proofs.Places.{grown_in_lengthened, long_lengthened}
use Rattle.clfs_disk.proofs.Tables.{change_in_file, change_in_no_file}
use Rattle.clfs_disk.proofs.steady.SteadyDisk.grow.Goals as goal

pub returns-then-is_err : goal.returns-then-is_err
returns-then-is_err c =
    let same = change_in_no_file (λ (bytes : Vec ℕ Global). bytes.items) c.args.self.now.files.items c.args.file c.make_room.new.file
    (omega (arith, c.args.self.now.count)) c.index_mut-bytes.result.now c.index_mut-bytes.ensures.value c.make_room.ensures.same in
    record {
      grown = search rules;
      longer = grown_unchanged c.args.file c.args.len _ _ same;
      time = search rules;
      no_memory = λ is. (same, passes_still Unchanged _ _ _ _ (omega arith), refl);
      calls = search rules;
      calls_at_most = search rules;
      cause = search rules;
      steady = search rules;
      long = search rules;
    }

pub returns : goal.returns
returns c =
    let grown = change_in_file (λ (bytes : Vec ℕ Global). bytes.items) c.args.self.now.files.items c.args.file c.lengthen.new.file
    (omega (arith, c.args.self.now.count)) (λ old new. new ≡ lengthened old c.args.len) c.index_mut-bytes.result.now c.index_mut-bytes.ensures.value
    (c.lengthen.ensures.longer ∙ ap (λ (l : List ℕ). lengthened l c.args.len) c.make_room.ensures.same) in
    record {
      grown = λ told. grown;
      longer = grown_in_lengthened c.args.file c.args.len _ _ grown;
      time = search rules;
      no_memory = search rules;
      calls = search rules;
      calls_at_most = search rules;
      cause = search rules;
      steady = search rules;
      long = λ steady. long_lengthened c.args.file c.args.len _ _ grown;
    }
