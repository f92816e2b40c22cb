use Rattle.clfs_manager.proofs.Words.{◌≡◌, inr, true, false, refl, sym, ap, subst, ◌∙◌, arith, container_of, older_of, State, hold, with_containers, next_copy}
use Rattle.clfs_manager.proofs.Words.{Newest, IsIntact, Log}
use Rattle.clfs_physical.specs.Changes.{with_containers as counting}
use Rattle.clfs_physical.specs.declared.change.Change.TheVariants as changes
use Rattle.clfs_manager.proofs.CopiedMeanwhile.{crash_copied, size_copied}
use Rattle.clfs_manager.proofs.CopiedLog.{valid_holds}
use Rattle.clfs_manager.proofs.Crashes.{crash_kept}
use Rattle.clfs_manager.proofs.Intact.{intact_done}
use Rattle.clfs_manager.proofs.KeptFiles.{counts_none}
use Rattle.clfs_manager.proofs.Numbers.{hold_within}
use Rattle.clfs_manager.proofs.Sized.{holds_sized, intact_grown, kept_sized, writes_sized}
use Rattle.clfs_manager.proofs.StillStorable.{storable_sized}
use Rattle.clfs_manager.proofs.log.Log.resize.Goals as goal

pub set_containers-requires-clause-first : goal.set_containers-requires-clause-first
set_containers-requires-clause-first g c =
    omega (arith, c.requires.intact.sound.holds.needed, c.container-first.ensures.value, ap container_of c.hold.ensures.value)

pub set_containers-requires-clause-listed : goal.set_containers-requires-clause-listed
set_containers-requires-clause-listed g c =
    let sound = c.requires.intact.sound in
    omega (arith, sound.holds.listed, hold_within c.args.self.now.state.value sound.valid, c.container-first.ensures.value, ap container_of c.hold.ensures.value)

pub set_containers-requires-clause-containers : goal.set_containers-requires-clause-containers
set_containers-requires-clause-containers g c =
    let valid = c.requires.valid in
    let sound = c.requires.intact.sound in
    record {
      some = valid.ranges.some_containers;
      few = valid.ranges.few_containers;
      listed = omega (arith, valid.space.active, sound.holds.listed, c.container-first.ensures.value, ap container_of c.hold.ensures.value);
    }

pub returns-in-Ok-clause-change : goal.returns-in-Ok-clause-change
returns-in-Ok-clause-change g c = record {
  state = c.with_containers-self.ensures;
  intact =
      let old = c.args.self.now in
      let s : State = old.state.value in
      let n = c.args.containers in
      let t : State = with_containers n s in
      let intact = c.requires.intact in
      let sound = intact.sound in
      let holds = sound.holds in
      let image = old.physical.image in
      let slot = older_of old.physical.slot in
      let first = c.container-first.result in
      let is_first : first ≡ container_of (hold s) = c.container-first.ensures.value ∙ ap container_of c.hold.ensures.value in
      let newest : c.set_containers.new.self ≡ record { slot = slot; image = counting n (next_copy first changes.Listing image) } = c.in-Ok.ensures.now in
      intact_done (g.D.Disk.state c.args.disk.now) (g.D.Disk.state c.set_containers.new.disk) old _ t intact c.requires.valid (storable_sized s n sound.storable) (record {
        state = c.with_containers-self.ensures;
        unbroken = refl;
        broken = refl;
        holds = holds_sized old _ slot first n sound.valid holds c.with_containers-self.ensures newest is_first
            (record { tables = refl; areas = refl; archive = refl; policies = refl; queue = refl; buffers = refl; broken = refl });
        stored = λ blocks stored.
            let low = c.low_containers_are_left_out.ensures in
            let settings = c.settings_leave_the_records.ensures in
            let is = size_copied (record { log = low.log; held = low.held; same = low.same })
            (record { log = settings.log; state = settings.state; archived = settings.archived; archive = settings.archive }) s n c.container-first.result
            old.physical blocks c.requires.intact.sound.valid c.image-newest.ensures.image
            (c.container-first.ensures.value ∙ ap container_of c.hold.ensures.value) stored in
            (blocks, (rw (c.with_containers-self.ensures, newest) is, λ tells whole stores. c.in-Ok.ensures.written tells whole blocks stores));
        kept = λ kept. rw c.with_containers-self.ensures (kept_sized s n old.buffers kept);
        settled = c.in-Ok.ensures.settled (λ wrong. cc);
        nature = c.set_containers.ensures.time.nature;
        forgotten = λ is. rw c.with_containers-self.ensures (record { low = is.low; ends = is.ends });
      });
  same = record { tables = refl; areas = refl; archive = refl; policies = refl; queue = refl; buffers = refl; broken = refl };
  broken = λ f. absurd (cc f);
  no_memory = λ f. absurd (cc f);
  kept = λ f. absurd (cc f);
  writes =
      let done = c.in-Ok.ensures in
      writes_sized _ (g.D.Disk.state c.args.disk.now) (g.D.Disk.state c.set_containers.new.disk) c.args.self.now c.set_containers.new.self
      c.requires.intact.opened done.time done.cause (λ none tells blocks stores. done.written tells true blocks stores) done.steady;
  moments =
      let old = c.args.self.now in
      let s : State = old.state.value in
      let n = c.args.containers in
      let low = c.low_containers_are_left_out.ensures in
      let settings = c.settings_leave_the_records.ensures in
      crash_copied c.logs_are_copies_and_blocks.ensures.stands c.logs_are_copies_and_blocks.ensures.by_file (g.D.Disk.state c.args.disk.now)
      (g.D.Disk.state c.set_containers.new.disk) (with_containers n s)
      (record { slot = older_of old.physical.slot; image = counting n (next_copy c.container-first.result changes.Listing old.physical.image) })
      old c.requires.intact c.requires.valid
      (λ blocks stored. size_copied (record { log = low.log; held = low.held; same = low.same })
      (record { log = settings.log; state = settings.state; archived = settings.archived; archive = settings.archive }) s n c.container-first.result
      old.physical blocks c.requires.intact.sound.valid c.image-newest.ensures.image
      (c.container-first.ensures.value ∙ ap container_of c.hold.ensures.value) stored)
      c.set_containers.ensures.moments;
  old_size = λ f. absurd (cc f);
  files = λ fine.
      let old = c.args.self.now in
      let n = c.args.containers in
      let newest : c.set_containers.new.self ≡ record { slot = older_of old.physical.slot; image = counting n (next_copy c.container-first.result changes.Listing old.physical.image) } =
      c.in-Ok.ensures.now in
      record {
        unbroken = c.requires.intact.sound.unbroken;
        copy = inr (ap (λ (k : Newest). k.image.version) newest);
        made = λ told file above upto. c.in-Ok.ensures.made told file above (omega (arith, above, upto, ap (λ (k : Newest). k.image.files_made) newest));
      };
}

pub returns-in-Err-DiskFault-clause-change : goal.returns-in-Err-DiskFault-clause-change
returns-in-Err-DiskFault-clause-change g c = record {
  state = tt;
  intact = tt;
  same = tt;
  broken = λ _. record { broken = c.break_log.ensures.broken.broken; state = c.break_log.ensures.broken.state };
  no_memory = λ f. absurd (cc f);
  kept = λ f. absurd (cc f);
  writes =
      let done = rw c.in-Err-DiskFault.field-0-is at c.in-Err-DiskFault.ensures in
      writes_sized _ (g.D.Disk.state c.args.disk.now) (g.D.Disk.state c.set_containers.new.disk) c.args.self.now c.args.self.now.physical
      c.requires.intact.opened done.time done.cause (λ none. absurd (none refl)) done.steady;
  moments =
      let old = c.args.self.now in
      let s : State = old.state.value in
      let n = c.args.containers in
      let low = c.low_containers_are_left_out.ensures in
      let settings = c.settings_leave_the_records.ensures in
      crash_copied c.logs_are_copies_and_blocks.ensures.stands c.logs_are_copies_and_blocks.ensures.by_file (g.D.Disk.state c.args.disk.now)
      (g.D.Disk.state c.set_containers.new.disk) (with_containers n s)
      (record { slot = older_of old.physical.slot; image = counting n (next_copy c.container-first.result changes.Listing old.physical.image) })
      old c.requires.intact c.requires.valid
      (λ blocks stored. size_copied (record { log = low.log; held = low.held; same = low.same })
      (record { log = settings.log; state = settings.state; archived = settings.archived; archive = settings.archive }) s n c.container-first.result
      old.physical blocks c.requires.intact.sound.valid c.image-newest.ensures.image
      (c.container-first.ensures.value ∙ ap container_of c.hold.ensures.value) stored)
      c.set_containers.ensures.moments;
  old_size = λ f. absurd (cc f);
  files = λ fine. absurd (fine refl);
}

pub returns-in-Err-NoMemory-clause-change : goal.returns-in-Err-NoMemory-clause-change
returns-in-Err-NoMemory-clause-change g c = record {
  state = tt;
  intact = tt;
  same = tt;
  broken = λ f. absurd (cc f);
  no_memory = λ _.
      let old = c.args.self.now in
      let done = rw c.in-Err-NoMemory.field-0-is at c.in-Err-NoMemory.ensures in
      let log : Newest → Log = λ n. record old { physical = n } in
      ap log (done.no_memory refl);
  kept = λ wanting.
      let old = c.args.self.now in
      let done = rw c.in-Err-NoMemory.field-0-is at c.in-Err-NoMemory.ensures in
      subst (λ (n : Newest). IsIntact (g.D.Disk.state c.set_containers.new.disk) (record old { physical = n })) (sym (done.no_memory refl))
      (intact_grown (g.D.Disk.state c.args.disk.now) (g.D.Disk.state c.set_containers.new.disk) old c.requires.intact done.time.nature
      (done.settled (λ wrong. cc)) (λ blocks stores. done.kept refl false blocks stores));
  writes =
      let done = rw c.in-Err-NoMemory.field-0-is at c.in-Err-NoMemory.ensures in
      writes_sized _ (g.D.Disk.state c.args.disk.now) (g.D.Disk.state c.set_containers.new.disk) c.args.self.now c.args.self.now.physical
      c.requires.intact.opened done.time done.cause (λ none tells blocks stores. done.kept refl true blocks stores) done.steady;
  moments =
      let old = c.args.self.now in
      let s : State = old.state.value in
      let n = c.args.containers in
      let low = c.low_containers_are_left_out.ensures in
      let settings = c.settings_leave_the_records.ensures in
      crash_copied c.logs_are_copies_and_blocks.ensures.stands c.logs_are_copies_and_blocks.ensures.by_file (g.D.Disk.state c.args.disk.now)
      (g.D.Disk.state c.set_containers.new.disk) (with_containers n s)
      (record { slot = older_of old.physical.slot; image = counting n (next_copy c.container-first.result changes.Listing old.physical.image) })
      old c.requires.intact c.requires.valid
      (λ blocks stored. size_copied (record { log = low.log; held = low.held; same = low.same })
      (record { log = settings.log; state = settings.state; archived = settings.archived; archive = settings.archive }) s n c.container-first.result
      old.physical blocks c.requires.intact.sound.valid c.image-newest.ensures.image
      (c.container-first.ensures.value ∙ ap container_of c.hold.ensures.value) stored)
      c.set_containers.ensures.moments;
  old_size = λ wanting.
      let old = c.args.self.now in
      let done = rw c.in-Err-NoMemory.field-0-is at c.in-Err-NoMemory.ensures in
      crash_kept c.logs_are_copies_and_blocks.ensures.stands c.logs_are_copies_and_blocks.ensures.by_file (g.D.Disk.state c.args.disk.now)
      (g.D.Disk.state c.set_containers.new.disk) old.state.value old c.requires.intact.opened (valid_holds old.state.value c.requires.intact.sound.valid)
      (done.no_copy refl);
  files = λ fine.
      let old = c.args.self.now in
      let done = rw c.in-Err-NoMemory.field-0-is at c.in-Err-NoMemory.ensures in
      counts_none _ _ old (record old { physical = c.set_containers.new.self }) c.requires.intact.sound.unbroken (done.no_memory refl);
}
