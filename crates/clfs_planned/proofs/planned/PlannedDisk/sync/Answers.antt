use Rattle.std.proofs.Common.{rules, ◌≡◌, refl}
use Rattle.clfs_disk.specs.Files.{Unchanged}
use Rattle.clfs_planned.specs.Contents.{contents_of}
use Rattle.clfs_planned.specs.Moments.{noted}
use Rattle.clfs_planned.specs.declared.call.Call.TheVariants.{Sync}
use Rattle.clfs_planned.proofs.Noted.{holds_after, passes_to, synced_before, settled_synced}
use Rattle.clfs_planned.proofs.planned.PlannedDisk.sync.Goals as goal

pub invariant_of-self-else-is_err : goal.invariant_of-self-else-is_err
invariant_of-self-else-is_err c =
    let self = c.args.self.now in
    let is : c.add.new.self.past.value ≡ noted Sync self.plan.past.value = search rules in
    record { count = self.count; holds = holds_after self.plan.past.value Sync c.add.new.self.past.value (contents_of self.files.items) is self.holds }

pub returns-clause-call : goal.returns-clause-call
returns-clause-call c =
    let self = c.args.self.now in
    let files = contents_of self.files.items in
    let is : c.add.new.self.past.value ≡ noted Sync self.plan.past.value = search rules in
    record {
      settled = λ honest. settled_synced self.plan.past.value c.add.new.self.past.value files _ _ is self.holds;
      same = λ file. refl;
      time = passes_to self.plan.past.value Sync c.add.new.self.past.value Unchanged files files _ _ _ _ is refl (synced_before self.plan.past.value);
      calls = search rules;
      cause = search rules;
      steady = search rules;
    }
