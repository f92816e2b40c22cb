use Rattle.clfs_manager.proofs.Words.{◌≡◌, [], true, ℕ, ◌+◌, ◌-◌, false, refl, sym, ap, subst, ◌∙◌, length, arith, IsOk, All-head, length-drop, length-set}
use Rattle.clfs_manager.proofs.Words.{container_of, AreSealed, row_in, older_of, BaseImage, State, block_start, flushed, heads_of, hold, IsStorable, IsValid}
use Rattle.clfs_manager.proofs.Words.{set_base, next_copy, Newest, Blocks, shape_of, with_base, StoredAfter, Holds, IsStored, AreKept, Log}
use Rattle.clfs_physical.specs.declared.change.Change.TheVariants as changes
use Rattle.clfs_manager.proofs.Changing.{Survive}
use Rattle.clfs_manager.proofs.CopiedMeanwhile.{base_copied, crash_copied}
use Rattle.clfs_manager.proofs.Holds.{hold_is}
use Rattle.clfs_manager.proofs.Intact.{writes_failed, writes_fine}
use Rattle.clfs_manager.proofs.MovedBase.{kept_moved, length_set_base, moved_below}
use Rattle.clfs_manager.proofs.Numbers.{hold_within}
use Rattle.clfs_manager.proofs.ReadKeeps.{tells_before}
use Rattle.clfs_manager.proofs.Reached.{number_there}
use Rattle.clfs_manager.proofs.Settled.{stays_settled}
use Rattle.clfs_manager.proofs.KeptFiles.{files_copied}
use Rattle.clfs_manager.proofs.log.Log.store_base.Goals as goal
use Rattle.clfs_manager.proofs.log.Log.store_base.Given.{Over}

module _ (g : Over) (c : goal.After-change-1 g) where
  -- the container from which on the copy lists is that of the hold after the new base
  first_is : c.container.result ≡ container_of (hold (with_base c.args.stream c.args.base c.args.self.now.state.value))
  first_is =
      let old = c.args.self.now in
      let t : State = with_base c.args.stream c.args.base old.state.value in
      let holds = c.requires.intact.sound.holds in
      c.container.ensures.value ∙ ap container_of
      (hold_is t c.place-place.result c.tail.result c.set_base.new.self.streams c.set_base.new.self.heads c.hold-needed.result c.hold-needed.ensures
      (c.records_are_as_their_heads.ensures.hold t) c.place-place.ensures.value (c.tail.ensures ∙ holds.archive)
      (c.set_base.ensures.streams ∙ ap (set_base c.args.stream c.args.base) holds.streams) (c.set_base.ensures.heads ∙ holds.heads))

pub set_base-requires-clause-there : goal.set_base-requires-clause-there
set_base-requires-clause-there g c =
    let number = number_there c.args.self.now.state.value.streams c.args.stream c.requires.there in
    (number.0, omega (arith, number.1, ap length c.requires.intact.sound.holds.streams))

pub write_copy-requires-clause-first : goal.write_copy-requires-clause-first
write_copy-requires-clause-first g c = omega (arith, c.requires.intact.sound.holds.needed, c.requires.held, first_is g c)

pub write_copy-requires-clause-listed : goal.write_copy-requires-clause-listed
write_copy-requires-clause-listed g c =
    omega (arith, c.requires.intact.sound.holds.listed, hold_within (with_base c.args.stream c.args.base c.args.self.now.state.value) c.requires.valid, first_is g c)

pub write_copy-requires-clause-change : goal.write_copy-requires-clause-change
write_copy-requires-clause-change g c =
    let s : State = c.args.self.now.state.value in
    let t : State = with_base c.args.stream c.args.base s in
    let sound = c.requires.intact.sound in
    let number = number_there s.streams c.args.stream c.requires.there in
    let below = moved_below (flushed t) c.args.stream c.args.base s.streams number.0 number.1 c.requires.valid.stable.bases in
    (number.0, omega (arith, number.1, sound.holds.rows), omega (arith, below, c.numbers_fit_their_types.ensures.flushed s sound.valid sound.storable))

pub returns-in-Err-clause-change : goal.returns-in-Err-clause-change
returns-in-Err-clause-change g c =
    let old = c.args.self.now in
    let s : State = old.state.value in
    let t : State = with_base c.args.stream c.args.base s in
    let sound = c.requires.intact.sound in
    let low = c.low_containers_are_left_out.ensures in
    let rows = c.bases_of_rows_move.ensures in
    let settings = c.settings_leave_the_records.ensures in
    let holds = sound.holds in
    let first_is = c.container.ensures.value ∙ ap container_of
    (hold_is t c.place-place.result c.tail.result c.set_base.new.self.streams c.set_base.new.self.heads c.hold-needed.result c.hold-needed.ensures
    (c.records_are_as_their_heads.ensures.hold t) c.place-place.ensures.value (c.tail.ensures ∙ holds.archive)
    (c.set_base.ensures.streams ∙ ap (set_base c.args.stream c.args.base) holds.streams) (c.set_base.ensures.heads ∙ holds.heads)) in
    let copied = crash_copied c.logs_are_copies_and_blocks.ensures.stands c.logs_are_copies_and_blocks.ensures.by_file (g.D.Disk.state c.args.disk.now)
    (g.D.Disk.state c.write_copy.new.disk) t
    (record { slot = older_of old.physical.slot; image = next_copy c.container.result (changes.Base c.args.stream c.args.base) old.physical.image })
    old c.requires.intact c.requires.valid
    (λ blocks stored. base_copied (record { log = low.log; held = low.held; same = low.same })
    (record { log = settings.log; state = settings.state; archived = settings.archived; archive = settings.archive }) (record { log = rows.log; state = rows.state }) s
    c.args.stream c.args.base c.container.result old.physical blocks sound.valid c.requires.valid
    (c.numbers_fit_their_types.ensures.flushed s sound.valid sound.storable) c.requires.there c.requires.up c.requires.held holds.rows
    c.image-newest.ensures.current first_is stored)
    c.write_copy.ensures.moments in
    record {
      state = tt;
      left = tt;
      broken = c.break_log.ensures.broken.broken;
      writes = writes_failed (true ≡ true) (g.D.Disk.state c.args.disk.now) (g.D.Disk.state c.write_copy.new.disk) s old refl c.requires.intact.opened
          c.write_copy.ensures.time c.in-Err.ensures.cause
          (λ calm made. let wrong = subst (λ r. IsOk r) c.in-Err.is (c.write_copy.ensures.steady calm made).0 in cc wrong);
      moments = λ asked survived all last. copied asked survived (All-head (Survive asked survived) s [] all) last;
    }

module _ (g : Over) (c : goal.After-self-1 g) where
  -- the container from which on the copy lists is that of the hold after the new base
  first_then : c.container.result ≡ container_of (hold (with_base c.args.stream c.args.base c.args.self.now.state.value))
  first_then =
      let old = c.args.self.now in
      let t : State = with_base c.args.stream c.args.base old.state.value in
      let holds = c.requires.intact.sound.holds in
      c.container.ensures.value ∙ ap container_of
      (hold_is t c.place-place.result c.tail.result c.set_base.new.self.streams c.set_base.new.self.heads c.hold-needed.result c.hold-needed.ensures
      (c.records_are_as_their_heads.ensures.hold t) c.place-place.ensures.value (c.tail.ensures ∙ holds.archive)
      (c.set_base.ensures.streams ∙ ap (set_base c.args.stream c.args.base) holds.streams) (c.set_base.ensures.heads ∙ holds.heads))

  abbrev old : Log
  old = c.args.self.now

  abbrev s : State
  s = c.args.self.now.state.value

  abbrev t : State
  t = with_base c.args.stream c.args.base c.args.self.now.state.value

  abbrev image : BaseImage
  image = c.args.self.now.physical.image

  newest_is : c.write_copy.new.self
      ≡ record { slot = older_of c.args.self.now.physical.slot; image = next_copy c.container.result (changes.Base c.args.stream c.args.base) c.args.self.now.physical.image }
  newest_is = c.in_default.ensures.now

  holds_then : Holds t (record old { tables = c.set_base.new.self; physical = c.write_copy.new.self; state = c.with_base-self.result })
  holds_then =
      let holds = c.requires.intact.sound.holds in
      let first = c.container.result in
      let is_first : first ≡ container_of (hold t) = first_then in
      record {
        shape = holds.shape;
        buffers = holds.buffers;
        place = holds.place;
        waiting = holds.waiting;
        records = holds.records;
        streams = c.set_base.ensures.streams ∙ ap (set_base c.args.stream c.args.base) holds.streams;
        heads = c.set_base.ensures.heads ∙ holds.heads;
        low = omega (arith, c.set_base.ensures.low, holds.low, c.requires.held);
        areas = holds.areas;
        archive = holds.archive;
        sealed = subst (λ (n : ℕ). AreSealed n (block_start s.place) old.archive.blocks (heads_of s)) (sym c.set_base.ensures.low) holds.sealed;
        room = holds.room;
        policies = holds.policies;
        containers = ap (λ (n : Newest). n.image.containers) newest_is ∙ holds.containers;
        image_shape = ap (λ (n : Newest). shape_of n.image) newest_is ∙ holds.image_shape;
        dedicated = ap (λ (n : Newest). n.image.dedicated) newest_is ∙ holds.dedicated;
        rows = ap (λ (n : Newest). length n.image.streams) newest_is
            ∙ length-set image.streams (c.args.stream - 1) (record (row_in image.streams (c.args.stream - 1)) { base = c.args.base })
            ∙ holds.rows ∙ sym (length_set_base c.args.stream c.args.base s.streams);
        listed = ap (λ (n : Newest). n.image.first + length n.image.files) newest_is
            ∙ omega (arith, holds.listed, holds.needed, c.requires.held, is_first, hold_within t c.requires.valid, length-drop (first - image.first) image.files);
        needed = omega (arith, ap (λ (n : Newest). n.image.first) newest_is, is_first);
      }

  copied : (blocks : Blocks) → IsStored s c.args.self.now.physical blocks → IsStored t (record {
    slot = older_of c.args.self.now.physical.slot;
    image = next_copy c.container.result (changes.Base c.args.stream c.args.base) c.args.self.now.physical.image;
  }) blocks
  copied = λ blocks stored.
      let sound = c.requires.intact.sound in
      let low = c.low_containers_are_left_out.ensures in
      let rows = c.bases_of_rows_move.ensures in
      let settings = c.settings_leave_the_records.ensures in
      base_copied (record { log = low.log; held = low.held; same = low.same })
      (record { log = settings.log; state = settings.state; archived = settings.archived; archive = settings.archive }) (record { log = rows.log; state = rows.state }) s c.args.stream c.args.base
      c.container.result c.args.self.now.physical blocks sound.valid c.requires.valid (c.numbers_fit_their_types.ensures.flushed s sound.valid sound.storable)
      c.requires.there c.requires.up c.requires.held sound.holds.rows c.image-newest.ensures.current first_then stored

  stored_then : StoredAfter (g.D.Disk.state c.args.disk.now) (g.D.Disk.state c.write_copy.new.disk) s t c.args.self.now.physical c.write_copy.new.self
  stored_then = λ blocks stored.
      (blocks, (rw newest_is (copied blocks stored), λ tells whole stores. c.in_default.ensures.written tells whole blocks stores))

pub returns-clause-change : goal.returns-clause-change
returns-clause-change g c =
    let s : State = c.args.self.now.state.value in
    let t : State = with_base c.args.stream c.args.base s in
    let old = c.args.self.now in
    let before = g.D.Disk.state c.args.disk.now in
    let after = g.D.Disk.state c.write_copy.new.disk in
    let state : c.with_base-self.result.value ≡ t = c.with_base-self.ensures in
    let intact = c.requires.intact in
    let is = stored_then g c intact.opened.blocks intact.opened.stored in
    let nature = c.write_copy.ensures.time.nature in
    let crashes = crash_copied c.logs_are_copies_and_blocks.ensures.stands c.logs_are_copies_and_blocks.ensures.by_file before after t
    (record { slot = older_of old.physical.slot; image = next_copy c.container.result (changes.Base c.args.stream c.args.base) old.physical.image })
    old intact c.requires.valid (copied g c) c.write_copy.ensures.moments in
    record {
      state = state;
      left = record {
        sound = record {
          valid = subst IsValid (sym state) c.requires.valid;
          storable = subst IsStorable (sym state) c.requires.storable;
          unbroken = intact.sound.unbroken;
          whole = ap (λ (u : State). u.broken) state ∙ intact.sound.whole;
          holds = subst (λ (u : State). Holds u (record old { tables = c.set_base.new.self; physical = c.write_copy.new.self; state = c.with_base-self.result })) (sym state) (holds_then g c);
        };
        blocks = is.0;
        stored = subst (λ (u : State). IsStored u c.write_copy.new.self is.0) (sym state) is.1.0;
        files = λ tells. let earlier = tells_before before after nature tells in is.1.1 earlier false (intact.opened.files earlier);
        kept = λ tells. subst (λ (u : State). AreKept u old.buffers) (sym state)
            (kept_moved s c.args.stream c.args.base old.buffers (intact.opened.kept (tells_before before after nature tells)));
        settled = stays_settled before after nature c.in_default.ensures.settled intact.opened.settled;
      };
      broken = tt;
      writes = writes_fine (false ≡ true) before after s t old (record old { tables = c.set_base.new.self; physical = c.write_copy.new.self; state = c.with_base-self.result })
          (λ f. cc f) intact.opened (stored_then g c) c.write_copy.ensures.time (λ calm made. (c.write_copy.ensures.steady calm made).1);
      moments = λ asked survived all last. crashes asked survived (All-head (Survive asked survived) s [] all) last;
    }

pub returns-clause-files : goal.returns-clause-files
returns-clause-files g c = files_copied (g.D.Disk.state c.args.disk.now) (g.D.Disk.state c.write_copy.new.disk) c.args.self.now.physical c.write_copy.new.self
    (older_of c.args.self.now.physical.slot) c.container.result (changes.Base c.args.stream c.args.base) c.in_default.ensures.now c.write_copy.ensures.lengths
