use Rattle.clfs_manager.proofs.Words.{◌≡◌, ◌+◌, ◌-◌, refl, sym, ap, subst, ◌∙◌, length, arith, IsOk, length-drop, container_of, older_of, State, hold}
use Rattle.clfs_manager.proofs.Words.{next_copy, Newest, Change, shape_of, archive_change, with_archive}
use Rattle.clfs_manager.proofs.CopiedMeanwhile.{archive_copied, copied_meanwhile}
use Rattle.clfs_manager.proofs.Holds.{hold_is}
use Rattle.clfs_manager.proofs.Numbers.{hold_within}
use Rattle.clfs_manager.proofs.KeptFiles.{files_copied}
use Rattle.clfs_manager.proofs.log.Log.store_archive.Goals as goal

pub write_copy-requires-clause-first : goal.write_copy-requires-clause-first
write_copy-requires-clause-first g c =
    let old = c.args.self.now in
    let holds = c.requires.sound.holds in
    let t : State = with_archive c.args.tail old.state.value in
    let needed : c.hold-needed.result ≡ hold t = hold_is t c.place-place.result c.args.tail old.tables.streams old.tables.heads c.hold-needed.result
    c.hold-needed.ensures (c.records_are_as_their_heads.ensures.hold t) c.place-place.ensures.value refl holds.streams holds.heads in
    omega (arith, holds.needed, c.requires.up, ap container_of needed, c.container.ensures.value)

pub write_copy-requires-clause-listed : goal.write_copy-requires-clause-listed
write_copy-requires-clause-listed g c =
    let old = c.args.self.now in
    let holds = c.requires.sound.holds in
    let t : State = with_archive c.args.tail old.state.value in
    let needed : c.hold-needed.result ≡ hold t = hold_is t c.place-place.result c.args.tail old.tables.streams old.tables.heads c.hold-needed.result
    c.hold-needed.ensures (c.records_are_as_their_heads.ensures.hold t) c.place-place.ensures.value refl holds.streams holds.heads in
    omega (arith, holds.listed, hold_within t c.requires.valid, ap container_of needed, c.container.ensures.value)

pub returns-clause-change : goal.returns-clause-change
returns-clause-change g c = record {
  state = c.with_archive-self.ensures;
  holds =
      let old = c.args.self.now in
      let s : State = old.state.value in
      let t : State = with_archive c.args.tail s in
      let holds = c.requires.sound.holds in
      let image = old.physical.image in
      let first = c.container.result in
      let needed : c.hold-needed.result ≡ hold t = hold_is t c.place-place.result c.args.tail old.tables.streams old.tables.heads c.hold-needed.result
      c.hold-needed.ensures (c.records_are_as_their_heads.ensures.hold t) c.place-place.ensures.value refl holds.streams holds.heads in
      let is_first : first ≡ container_of (hold t) = c.container.ensures.value ∙ ap container_of needed in
      let newest : c.write_copy.new.self ≡ record { slot = older_of old.physical.slot; image = next_copy first (archive_change c.args.tail) image } =
      c.in_default.ensures.now ∙ ap (λ (change : Change). let n : Newest = record { slot = older_of old.physical.slot; image = next_copy first change image } in n) c.archive_change-change.ensures in
      rw c.with_archive-self.ensures (record {
        shape = holds.shape;
        buffers = holds.buffers;
        place = holds.place;
        waiting = holds.waiting;
        records = holds.records;
        streams = holds.streams;
        heads = holds.heads;
        low = omega (arith, holds.low, c.requires.up);
        areas = holds.areas;
        archive = c.set_tail.ensures.tail s (sym holds.archive) (sym c.hold-before.ensures.value);
        sealed = rw c.set_tail.ensures.blocks holds.sealed;
        room = rw c.set_tail.ensures.room holds.room;
        policies = holds.policies;
        containers = ap (λ (n : Newest). n.image.containers) newest ∙ holds.containers;
        image_shape = ap (λ (n : Newest). shape_of n.image) newest ∙ holds.image_shape;
        dedicated = ap (λ (n : Newest). n.image.dedicated) newest ∙ holds.dedicated;
        rows = ap (λ (n : Newest). length n.image.streams) newest ∙ holds.rows;
        listed = ap (λ (n : Newest). n.image.first + length n.image.files) newest
            ∙ omega (arith, holds.listed, holds.needed, c.requires.up, is_first, hold_within t c.requires.valid, length-drop (first - image.first) image.files);
        needed = omega (arith, ap (λ (n : Newest). n.image.first) newest, is_first);
      });
  stored = λ blocks stored.
      let old = c.args.self.now in
      let s : State = old.state.value in
      let tail = c.args.tail in
      let t : State = with_archive tail s in
      let sound = c.requires.sound in
      let holds = sound.holds in
      let low = c.low_containers_are_left_out.ensures in
      let settings = c.settings_leave_the_records.ensures in
      let needed : c.hold-needed.result ≡ hold t = hold_is t c.place-place.result tail old.tables.streams old.tables.heads c.hold-needed.result
      c.hold-needed.ensures (c.records_are_as_their_heads.ensures.hold t) c.place-place.ensures.value refl holds.streams holds.heads in
      let is = archive_copied (record { log = low.log; held = low.held; same = low.same })
      (record { log = settings.log; state = settings.state; archived = settings.archived; archive = settings.archive }) s tail
      c.archive_change-change.result c.container.result old.physical blocks sound.valid c.requires.valid
      (c.numbers_fit_their_types.ensures.flushed s sound.valid sound.storable) c.requires.up c.image-newest.ensures.current c.archive_change-change.ensures
      (c.container.ensures.value ∙ ap container_of needed) stored in
      (blocks, (rw (c.with_archive-self.ensures, c.in_default.ensures.now) is, λ tells whole stores. c.in_default.ensures.written tells whole blocks stores));
  meanwhile =
      let old = c.args.self.now in
      let s : State = old.state.value in
      let tail = c.args.tail in
      let t : State = with_archive tail s in
      let sound = c.requires.sound in
      let holds = sound.holds in
      let low = c.low_containers_are_left_out.ensures in
      let settings = c.settings_leave_the_records.ensures in
      let needed : c.hold-needed.result ≡ hold t = hold_is t c.place-place.result tail old.tables.streams old.tables.heads c.hold-needed.result
      c.hold-needed.ensures (c.records_are_as_their_heads.ensures.hold t) c.place-place.ensures.value refl holds.streams holds.heads in
      copied_meanwhile (g.D.Disk.state c.args.disk.now) (g.D.Disk.state c.write_copy.new.disk) s t old.physical
      (record { slot = older_of old.physical.slot; image = next_copy c.container.result c.archive_change-change.result old.physical.image })
      (λ blocks stored. archive_copied (record { log = low.log; held = low.held; same = low.same })
      (record { log = settings.log; state = settings.state; archived = settings.archived; archive = settings.archive }) s tail
      c.archive_change-change.result c.container.result old.physical blocks sound.valid c.requires.valid
      (c.numbers_fit_their_types.ensures.flushed s sound.valid sound.storable) c.requires.up c.image-newest.ensures.current c.archive_change-change.ensures
      (c.container.ensures.value ∙ ap container_of needed) stored)
      c.write_copy.ensures.moments;
  broken = tt;
  calls = record {
    settled = c.in_default.ensures.settled;
    time = c.write_copy.ensures.time;
    cause = tt;
    steady = λ calm made. (refl, (c.write_copy.ensures.steady calm made).1);
  };
}

pub returns-in-Err-clause-change : goal.returns-in-Err-clause-change
returns-in-Err-clause-change g c = record {
  state = tt;
  holds = tt;
  stored = tt;
  meanwhile =
      let old = c.args.self.now in
      let s : State = old.state.value in
      let tail = c.args.tail in
      let t : State = with_archive tail s in
      let sound = c.requires.sound in
      let holds = sound.holds in
      let low = c.low_containers_are_left_out.ensures in
      let settings = c.settings_leave_the_records.ensures in
      let needed : c.hold-needed.result ≡ hold t = hold_is t c.place-place.result tail old.tables.streams old.tables.heads c.hold-needed.result
      c.hold-needed.ensures (c.records_are_as_their_heads.ensures.hold t) c.place-place.ensures.value refl holds.streams holds.heads in
      copied_meanwhile (g.D.Disk.state c.args.disk.now) (g.D.Disk.state c.write_copy.new.disk) s t old.physical
      (record { slot = older_of old.physical.slot; image = next_copy c.container.result c.archive_change-change.result old.physical.image })
      (λ blocks stored. archive_copied (record { log = low.log; held = low.held; same = low.same })
      (record { log = settings.log; state = settings.state; archived = settings.archived; archive = settings.archive }) s tail
      c.archive_change-change.result c.container.result old.physical blocks sound.valid c.requires.valid
      (c.numbers_fit_their_types.ensures.flushed s sound.valid sound.storable) c.requires.up c.image-newest.ensures.current c.archive_change-change.ensures
      (c.container.ensures.value ∙ ap container_of needed) stored)
      c.write_copy.ensures.moments;
  broken = record { broken = c.break_log.ensures.broken.broken; state = c.break_log.ensures.broken.state };
  calls = record {
    settled = tt;
    time = c.write_copy.ensures.time;
    cause = c.in-Err.ensures.cause;
    steady = λ calm made. absurd (let wrong = subst (λ r. IsOk r) c.in-Err.is (c.write_copy.ensures.steady calm made).0 in cc wrong);
  };
}

pub returns-clause-files : goal.returns-clause-files
returns-clause-files g c = files_copied (g.D.Disk.state c.args.disk.now) (g.D.Disk.state c.write_copy.new.disk) c.args.self.now.physical c.write_copy.new.self
    (older_of c.args.self.now.physical.slot) c.container.result c.archive_change-change.result c.in_default.ensures.now c.write_copy.ensures.lengths
