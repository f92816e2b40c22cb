use Rattle.std.proofs.Common.{rules, ◌≡◌, refl, arith}
use Rattle.clfs_disk.specs.Files.{GrownIn, lengthened}
use Rattle.clfs_planned.specs.Contents.{bytes_of}
use Rattle.clfs_planned.specs.Moments.{noted}
use Rattle.clfs_planned.specs.Places.{grown_in_lengthened}
use Rattle.clfs_planned.specs.declared.call.Call.TheVariants.{Grow}
use Rattle.clfs_planned.proofs.Noted.{holds_after, passes_to, grown_here}
use Rattle.clfs_planned.proofs.Tables.{change_in_file}
use Rattle.clfs_planned.proofs.planned.PlannedDisk.grow.Goals as goal

pub invariant_of-self-2 : goal.invariant_of-self-2
invariant_of-self-2 c =
    let self = c.args.self.now in
    let call = Grow c.args.file c.args.len in
    let is : c.add.new.self.past.value ≡ noted call self.plan.past.value = search rules in
    let grown = change_in_file bytes_of self.files.items c.args.file c.grow_to.new.self (omega (arith, self.count))
    (λ old new. new ≡ lengthened old c.args.len) c.index_mut.result.now c.index_mut.ensures.value c.grow_to.ensures in
    record {
      count = search rules;
      holds = holds_after self.plan.past.value call c.add.new.self.past.value _ is
          (grown_here self.plan.past.value c.args.file c.args.len _ _ self.holds grown);
    }

pub returns-clause-call : goal.returns-clause-call
returns-clause-call c =
    let self = c.args.self.now in
    let call = Grow c.args.file c.args.len in
    let is : c.add.new.self.past.value ≡ noted call self.plan.past.value = search rules in
    let grown = change_in_file bytes_of self.files.items c.args.file c.grow_to.new.self (omega (arith, self.count))
    (λ old new. new ≡ lengthened old c.args.len) c.index_mut.result.now c.index_mut.ensures.value c.grow_to.ensures in
    record {
      grown = λ told. grown;
      longer = grown_in_lengthened c.args.file c.args.len _ _ grown;
      time = passes_to self.plan.past.value call c.add.new.self.past.value (GrownIn c.args.file c.args.len) _ _ _ _ _ _ is refl (λ image at. at);
      no_memory = search rules;
      calls = search rules;
      calls_at_most = search rules;
      cause = search rules;
      steady = search rules;
      long = search rules;
    }
