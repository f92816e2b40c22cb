use Rattle.clfs_manager.proofs.Words.{◌≡◌, ◌+◌, ◌-◌, refl, ap, subst, ◌∙◌, length, arith, IsOk, length-drop, container_of, older_of, State, hold, next_copy}
use Rattle.clfs_manager.proofs.Words.{Newest, Change, shape_of, change_to, with_policies}
use Rattle.clfs_manager.proofs.CopiedMeanwhile.{copied_meanwhile, policies_copied}
use Rattle.clfs_manager.proofs.Numbers.{hold_within}
use Rattle.clfs_manager.proofs.KeptFiles.{files_copied}
use Rattle.clfs_manager.proofs.log.Log.store_policies.Goals as goal

pub returns-clause-change : goal.returns-clause-change
returns-clause-change g c = record {
  state = c.with_policies-self.ensures;
  holds =
      let old = c.args.self.now in
      let s : State = old.state.value in
      let holds = c.requires.sound.holds in
      let image = old.physical.image in
      let first = c.container-first.result in
      let is_first : first ≡ container_of (hold s) = c.container-first.ensures.value ∙ ap container_of c.hold.ensures.value in
      let newest : c.write_copy.new.self ≡ record { slot = older_of old.physical.slot; image = next_copy first (change_to c.args.policies) image } =
      c.in_default.ensures.now ∙ ap (λ (change : Change). let n : Newest = record { slot = older_of old.physical.slot; image = next_copy first change image } in n) c.change_to.ensures in
      rw c.with_policies-self.ensures (record {
        shape = holds.shape;
        buffers = holds.buffers;
        place = holds.place;
        waiting = holds.waiting;
        records = holds.records;
        streams = holds.streams;
        heads = holds.heads;
        low = holds.low;
        areas = holds.areas;
        archive = holds.archive;
        sealed = holds.sealed;
        room = holds.room;
        policies = refl;
        containers = ap (λ (n : Newest). n.image.containers) newest ∙ holds.containers;
        image_shape = ap (λ (n : Newest). shape_of n.image) newest ∙ holds.image_shape;
        dedicated = ap (λ (n : Newest). n.image.dedicated) newest ∙ holds.dedicated;
        rows = ap (λ (n : Newest). length n.image.streams) newest ∙ holds.rows;
        listed = ap (λ (n : Newest). n.image.first + length n.image.files) newest
            ∙ omega (arith, holds.listed, holds.needed, is_first, hold_within s c.requires.sound.valid, length-drop (first - image.first) image.files);
        needed = omega (arith, ap (λ (n : Newest). n.image.first) newest, is_first);
      });
  stored = λ blocks stored.
      let old = c.args.self.now in
      let s : State = old.state.value in
      let sound = c.requires.sound in
      let low = c.low_containers_are_left_out.ensures in
      let settings = c.settings_leave_the_records.ensures in
      let is = policies_copied (record { log = low.log; held = low.held; same = low.same })
      (record { log = settings.log; state = settings.state; archived = settings.archived; archive = settings.archive }) s c.args.policies
      c.change_to.result c.container-first.result old.physical blocks sound.valid c.image-newest.ensures.image sound.holds.containers c.requires.allowed
      c.change_to.ensures (c.container-first.ensures.value ∙ ap container_of c.hold.ensures.value) stored in
      (blocks, (rw (c.with_policies-self.ensures, c.in_default.ensures.now) is, λ tells whole stores. c.in_default.ensures.written tells whole blocks stores));
  meanwhile =
      let old = c.args.self.now in
      let s : State = old.state.value in
      let sound = c.requires.sound in
      let low = c.low_containers_are_left_out.ensures in
      let settings = c.settings_leave_the_records.ensures in
      copied_meanwhile (g.D.Disk.state c.args.disk.now) (g.D.Disk.state c.write_copy.new.disk) s (with_policies c.args.policies s) old.physical
      (record { slot = older_of old.physical.slot; image = next_copy c.container-first.result c.change_to.result old.physical.image })
      (λ blocks stored. policies_copied (record { log = low.log; held = low.held; same = low.same })
      (record { log = settings.log; state = settings.state; archived = settings.archived; archive = settings.archive }) s c.args.policies
      c.change_to.result c.container-first.result old.physical blocks sound.valid c.image-newest.ensures.image sound.holds.containers c.requires.allowed
      c.change_to.ensures (c.container-first.ensures.value ∙ ap container_of c.hold.ensures.value) stored)
      c.write_copy.ensures.moments;
  broken = tt;
  calls = record {
    settled = c.in_default.ensures.settled;
    time = c.write_copy.ensures.time;
    cause = tt;
    steady = λ calm made. (refl, (c.write_copy.ensures.steady calm made).1);
  };
}

pub returns-in-Err-clause-change : goal.returns-in-Err-clause-change
returns-in-Err-clause-change g c = record {
  state = tt;
  holds = tt;
  stored = tt;
  meanwhile =
      let old = c.args.self.now in
      let s : State = old.state.value in
      let sound = c.requires.sound in
      let low = c.low_containers_are_left_out.ensures in
      let settings = c.settings_leave_the_records.ensures in
      copied_meanwhile (g.D.Disk.state c.args.disk.now) (g.D.Disk.state c.write_copy.new.disk) s (with_policies c.args.policies s) old.physical
      (record { slot = older_of old.physical.slot; image = next_copy c.container-first.result c.change_to.result old.physical.image })
      (λ blocks stored. policies_copied (record { log = low.log; held = low.held; same = low.same })
      (record { log = settings.log; state = settings.state; archived = settings.archived; archive = settings.archive }) s c.args.policies
      c.change_to.result c.container-first.result old.physical blocks sound.valid c.image-newest.ensures.image sound.holds.containers c.requires.allowed
      c.change_to.ensures (c.container-first.ensures.value ∙ ap container_of c.hold.ensures.value) stored)
      c.write_copy.ensures.moments;
  broken = record { broken = c.break_log.ensures.broken.broken; state = c.break_log.ensures.broken.state };
  calls = record {
    settled = tt;
    time = c.write_copy.ensures.time;
    cause = c.in-Err.ensures.cause;
    steady = λ calm made. absurd (let wrong = subst (λ r. IsOk r) c.in-Err.is (c.write_copy.ensures.steady calm made).0 in cc wrong);
  };
}

pub returns-clause-files : goal.returns-clause-files
returns-clause-files g c = files_copied (g.D.Disk.state c.args.disk.now) (g.D.Disk.state c.write_copy.new.disk) c.args.self.now.physical c.write_copy.new.self
    (older_of c.args.self.now.physical.slot) c.container-first.result c.change_to.result c.in_default.ensures.now c.write_copy.ensures.lengths
