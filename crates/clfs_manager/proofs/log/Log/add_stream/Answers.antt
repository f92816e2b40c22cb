use Rattle.clfs_manager.proofs.Words.{◌≡◌, ℕ, ◌+◌, ◌-◌, inr, refl, sym, ap, subst, ◌∙◌, List, [], ◌∷◌, ◌++◌, length, arith, None, length-drop, null_lsn}
use Rattle.clfs_manager.proofs.Words.{container_of, older_of, BaseImage, Row, State, Stream, AreSealed, block_start, heads_of, hold, stream_number_from}
use Rattle.clfs_manager.proofs.Words.{next_copy, Newest, PhysicalRefusal, streams_with, shape_of, StoredAfter, Holds, AreKept, with_stream, IsIntact}
use Rattle.clfs_manager.proofs.Words.{WritesDisk, Log}
use Rattle.std.proofs.Common.{Err}
use Rattle.std.proofs.lemmas.List.{length-append}
use Rattle.clfs_physical.specs.Changes.{IsNewRow, with_stream as with_row}
use Rattle.clfs_physical.specs.declared.change.Change.TheVariants as changes
use Rattle.clfs_recover.specs.Walk.{bases_with}
use Rattle.clfs_manager.proofs.AddedStream.{hold_added, intact_reserved, is_name, kept_added, no_row, open_allowed}
use Rattle.clfs_manager.proofs.CopiedMeanwhile.{crash_copied, stream_copied}
use Rattle.clfs_manager.proofs.Crashes.{crash_still}
use Rattle.clfs_manager.proofs.Intact.{intact_done, writes_failed, writes_fine, writes_nothing}
use Rattle.clfs_manager.proofs.Numbers.{hold_within}
use Rattle.clfs_manager.proofs.KeptFiles.{counts_kept, counts_none}
use Rattle.clfs_manager.proofs.log.Log.add_stream.Goals as goal
use Rattle.clfs_manager.proofs.log.Log.add_stream.Given.{Over}

pub add_stream-requires-clause-row : goal.add_stream-requires-clause-row
add_stream-requires-clause-row g c =
    let s : State = c.args.self.now.state.value in
    let image : BaseImage = c.args.self.now.physical.image in
    let holds = c.requires.intact.sound.holds in
    let stored = c.requires.intact.opened.stored in
    let parts = open_allowed s c.args.name.now c.requires.allowed c.requires.new in
    let bases : List ℕ = bases_with image.streams stored.entries in
    let streams : streams_with image.streams bases ≡ s.streams = ap (λ (u : State). u.streams) stored.state in
    let none : stream_number_from 1 c.args.name.now (streams_with image.streams bases) ≡ None =
    subst (λ (rows : List Stream). stream_number_from 1 c.args.name.now rows ≡ None) (sym streams) c.requires.new in
    let long : length (streams_with image.streams bases) ≡ length image.streams = ap length streams ∙ sym holds.rows in
    subst (λ (row : Row). IsNewRow row image) (sym c.in_ok-memory.ensures.row) (record {
      few = omega (arith, parts.1, holds.rows);
      name = is_name c.args.name.now parts.0;
      other = λ i within same. no_row image.streams bases 1 c.args.name.now long none i within same;
      base = omega arith;
      alone = λ is. no_rows image.streams (omega (
        arith,
        c.requires.valid.tables.dedicated (sym holds.dedicated ∙ is),
        holds.rows,
        length-append s.streams (record { name = c.args.name.now; base = null_lsn } ∷ []),
      ));
    })
  where
    no_rows : (rows : List Row) → length rows ≡ 0 → rows ≡ []
    no_rows [] none = refl
    no_rows (row ∷ rows) none = absurd (cc none)

pub returns-in-Err-NoMemory-clause-refused : goal.returns-in-Err-NoMemory-clause-refused
returns-in-Err-NoMemory-clause-refused g c =
    let old = c.args.self.now in
    let none = c.add_stream.ensures.no_memory (c.in-Err-NoMemory.is ∙ ap (λ (e : PhysicalRefusal). Err e) c.in-Err-NoMemory.field-0-is) in
    let same : IsIntact (g.D.Disk.state c.args.disk.now) (record old { tables = c.stream_memory.new.tables }) =
    intact_reserved (g.D.Disk.state c.args.disk.now) old c.stream_memory.new.tables c.stream_memory.ensures.same c.requires.intact in (
      refl,
      subst (λ d. IsIntact (g.D.Disk.state d) (record old { tables = c.stream_memory.new.tables; physical = c.add_stream.new.self })) (sym none.1)
          (subst (λ (n : Newest). IsIntact (g.D.Disk.state c.args.disk.now) (record old { tables = c.stream_memory.new.tables; physical = n })) (sym none.0) same),
    )

pub returns-in-Err-NoMemory-clause-no_memory : goal.returns-in-Err-NoMemory-clause-no_memory
returns-in-Err-NoMemory-clause-no_memory g c = λ wanting.
    (c.add_stream.ensures.no_memory (c.in-Err-NoMemory.is ∙ ap (λ (e : PhysicalRefusal). Err e) c.in-Err-NoMemory.field-0-is)).1

pub returns-in-Err-NoMemory-clause-writes : goal.returns-in-Err-NoMemory-clause-writes
returns-in-Err-NoMemory-clause-writes g c =
    let none = c.add_stream.ensures.no_memory (c.in-Err-NoMemory.is ∙ ap (λ (e : PhysicalRefusal). Err e) c.in-Err-NoMemory.field-0-is) in
    subst (λ d. WritesDisk _ (g.D.Disk.state c.args.disk.now) (g.D.Disk.state d)) (sym none.1) (writes_nothing _ (g.D.Disk.state c.args.disk.now) (λ f. cc f))

pub returns-in-Err-DiskFault-clause-writes : goal.returns-in-Err-DiskFault-clause-writes
returns-in-Err-DiskFault-clause-writes g c =
    let old = c.args.self.now in
    let fault = c.in-Err-DiskFault.is ∙ ap (λ (e : PhysicalRefusal). Err e) c.in-Err-DiskFault.field-0-is in
    writes_failed _ (g.D.Disk.state c.args.disk.now) (g.D.Disk.state c.add_stream.new.disk) old.state.value old refl c.requires.intact.opened
    c.add_stream.ensures.time (c.add_stream.ensures.cause fault) (λ calm made. (c.add_stream.ensures.steady calm made).0 fault)

module _ (g : Over) (c : goal.After-self-1 g) where
  abbrev old : Log
  old = c.args.self.now

  abbrev s : State
  s = c.args.self.now.state.value

  abbrev t : State
  t = with_stream c.args.name.now c.args.self.now.state.value

  abbrev image : BaseImage
  image = c.args.self.now.physical.image

  abbrev new_row : Row
  new_row = record { name = c.args.name.now; base = null_lsn }

  newest_is : c.add_stream.new.self
      ≡ record { slot = older_of c.args.self.now.physical.slot; image = with_row new_row (next_copy c.container-first.result changes.Listing c.args.self.now.physical.image) }
  newest_is = c.in-Ok.ensures.now ∙ ap (λ (row : Row). let n : Newest = record {
    slot = older_of c.args.self.now.physical.slot;
    image = with_row row (next_copy c.container-first.result changes.Listing c.args.self.now.physical.image);
  } in n) c.in_ok-memory.ensures.row

  first_is : c.container-first.result ≡ container_of (hold s)
  first_is = c.container-first.ensures.value ∙ ap container_of c.hold.ensures.value

  holds_then : Holds t (record old { tables = c.add_stream-2.new.self; physical = c.add_stream.new.self; state = c.with_stream-self.result })
  holds_then =
      let holds = c.requires.intact.sound.holds in
      let same = c.stream_memory.ensures.same in
      let row : Row = new_row in
      let stream : Stream = record { name = c.args.name.now; base = null_lsn } in
      let of_name : List ℕ → List Stream = λ name. c.stream_memory.new.tables.streams ++ record { name = name; base = null_lsn } ∷ [] in
      let low : c.add_stream-2.new.self.low ≡ old.tables.low = c.add_stream-2.ensures.low ∙ same.low in
      record {
        shape = holds.shape;
        buffers = holds.buffers;
        place = holds.place;
        waiting = holds.waiting;
        records = holds.records;
        streams = c.add_stream-2.ensures.streams ∙ ap of_name c.in_ok-memory.ensures.name ∙ ap (λ (rows : List Stream). rows ++ stream ∷ []) (same.streams ∙ holds.streams);
        heads = c.add_stream-2.ensures.heads ∙ same.heads ∙ holds.heads;
        low = omega (arith, low, holds.low, c.requires.held);
        areas = holds.areas;
        archive = holds.archive;
        sealed = subst (λ (n : ℕ). AreSealed n (block_start s.place) old.archive.blocks (heads_of s)) (sym low) holds.sealed;
        room = holds.room;
        policies = holds.policies;
        containers = ap (λ (n : Newest). n.image.containers) newest_is ∙ holds.containers;
        image_shape = ap (λ (n : Newest). shape_of n.image) newest_is ∙ holds.image_shape;
        dedicated = ap (λ (n : Newest). n.image.dedicated) newest_is ∙ holds.dedicated;
        rows = ap (λ (n : Newest). length n.image.streams) newest_is
            ∙ (length-append image.streams (row ∷ []) ∙ ap (λ (n : ℕ). n + 1) holds.rows ∙ sym (length-append s.streams (stream ∷ [])));
        listed = ap (λ (n : Newest). n.image.first + length n.image.files) newest_is
            ∙ omega (arith, holds.listed, holds.needed, first_is, hold_within s c.requires.intact.sound.valid, length-drop (c.container-first.result - image.first) image.files);
        needed = omega (arith, ap (λ (n : Newest). n.image.first) newest_is, first_is, c.requires.held);
      }

  stored_then : StoredAfter (g.D.Disk.state c.args.disk.now) (g.D.Disk.state c.add_stream.new.disk) s t c.args.self.now.physical c.add_stream.new.self
  stored_then = λ blocks stored.
      let low = c.low_containers_are_left_out.ensures in
      let last = c.streams_come_last.ensures in
      let settings = c.settings_leave_the_records.ensures in
      let is = stream_copied (record { log = low.log; held = low.held; same = low.same })
      (record { log = settings.log; state = settings.state; archived = settings.archived; archive = settings.archive }) (record { log = last.log; state = last.state }) s c.args.name.now
      c.in_ok-memory.memory.1 c.container-first.result c.args.self.now.physical blocks c.requires.intact.sound.valid c.requires.held c.image-newest.ensures.image c.image-newest.ensures.current
      c.in_ok-memory.ensures.row (c.container-first.ensures.value ∙ ap container_of c.hold.ensures.value) stored in
      (blocks, (rw c.in-Ok.ensures.now is, λ tells whole stores. c.in-Ok.ensures.written tells whole blocks stores))

pub returns-clause-intact : goal.returns-clause-intact
returns-clause-intact g c =
    let s : State = c.args.self.now.state.value in
    let t : State = with_stream c.args.name.now s in
    let old = c.args.self.now in
    let before = g.D.Disk.state c.args.disk.now in
    let after = g.D.Disk.state c.add_stream.new.disk in
    let new : Log = record old { tables = c.add_stream-2.new.self; physical = c.add_stream.new.self; state = c.with_stream-self.result } in
    let state : c.with_stream-self.result.value ≡ t = c.with_stream-self.ensures in
    intact_done before after old new t c.requires.intact c.requires.valid c.requires.storable (record {
      state = state;
      unbroken = refl;
      broken = refl;
      holds = subst (λ (u : State). Holds u new) (sym state) (holds_then g c);
      stored = subst (λ (u : State). StoredAfter before after s u old.physical c.add_stream.new.self) (sym state) (stored_then g c);
      kept = λ kept. subst (λ (u : State). AreKept u old.buffers) (sym state) (kept_added s c.args.name.now old.buffers kept);
      settled = c.in-Ok.ensures.settled;
      nature = c.add_stream.ensures.time.nature;
      forgotten = λ is.
          let low : c.add_stream-2.new.self.low ≡ old.tables.low = c.add_stream-2.ensures.low ∙ c.stream_memory.ensures.same.low in
          rw state (record {
            low = omega (arith, is.low, low, ap container_of (hold_added s c.args.name.now));
            ends = rw low is.ends;
          });
    })

pub returns-clause-writes : goal.returns-clause-writes
returns-clause-writes g c =
    let old = c.args.self.now in
    writes_fine _ (g.D.Disk.state c.args.disk.now) (g.D.Disk.state c.add_stream.new.disk) old.state.value (with_stream c.args.name.now old.state.value) old
    (record old { tables = c.add_stream-2.new.self; physical = c.add_stream.new.self; state = c.with_stream-self.result }) (λ f. cc f) c.requires.intact.opened
    (stored_then g c) c.add_stream.ensures.time (λ calm made. (c.add_stream.ensures.steady calm made).1)

pub returns-in_err-memory-clause-moments : goal.returns-in_err-memory-clause-moments
returns-in_err-memory-clause-moments g c = λ asked s before added. crash_still c.logs_are_copies_and_blocks.ensures.stands c.logs_are_copies_and_blocks.ensures.by_file
    (g.D.Disk.state c.args.disk.now) c.args.self.now c.requires.intact asked s before

pub returns-in-Err-NoMemory-clause-moments : goal.returns-in-Err-NoMemory-clause-moments
returns-in-Err-NoMemory-clause-moments g c =
    let old = c.args.self.now in
    let s : State = old.state.value in
    let low = c.low_containers_are_left_out.ensures in
    let last = c.streams_come_last.ensures in
    let settings = c.settings_leave_the_records.ensures in
    crash_copied c.logs_are_copies_and_blocks.ensures.stands c.logs_are_copies_and_blocks.ensures.by_file (g.D.Disk.state c.args.disk.now)
    (g.D.Disk.state c.add_stream.new.disk) (with_stream c.args.name.now s)
    (record { slot = older_of old.physical.slot; image = with_row c.in_ok-memory.memory.1 (next_copy c.container-first.result changes.Listing old.physical.image) })
    old c.requires.intact c.requires.valid
    (λ blocks stored. stream_copied (record { log = low.log; held = low.held; same = low.same })
    (record { log = settings.log; state = settings.state; archived = settings.archived; archive = settings.archive }) (record { log = last.log; state = last.state }) s c.args.name.now
    c.in_ok-memory.memory.1 c.container-first.result c.args.self.now.physical blocks c.requires.intact.sound.valid c.requires.held c.image-newest.ensures.image c.image-newest.ensures.current
    c.in_ok-memory.ensures.row (c.container-first.ensures.value ∙ ap container_of c.hold.ensures.value) stored)
    c.add_stream.ensures.moments

pub returns-in-Err-DiskFault-clause-moments : goal.returns-in-Err-DiskFault-clause-moments
returns-in-Err-DiskFault-clause-moments g c =
    let old = c.args.self.now in
    let s : State = old.state.value in
    let low = c.low_containers_are_left_out.ensures in
    let last = c.streams_come_last.ensures in
    let settings = c.settings_leave_the_records.ensures in
    crash_copied c.logs_are_copies_and_blocks.ensures.stands c.logs_are_copies_and_blocks.ensures.by_file (g.D.Disk.state c.args.disk.now)
    (g.D.Disk.state c.add_stream.new.disk) (with_stream c.args.name.now s)
    (record { slot = older_of old.physical.slot; image = with_row c.in_ok-memory.memory.1 (next_copy c.container-first.result changes.Listing old.physical.image) })
    old c.requires.intact c.requires.valid
    (λ blocks stored. stream_copied (record { log = low.log; held = low.held; same = low.same })
    (record { log = settings.log; state = settings.state; archived = settings.archived; archive = settings.archive }) (record { log = last.log; state = last.state }) s c.args.name.now
    c.in_ok-memory.memory.1 c.container-first.result c.args.self.now.physical blocks c.requires.intact.sound.valid c.requires.held c.image-newest.ensures.image c.image-newest.ensures.current
    c.in_ok-memory.ensures.row (c.container-first.ensures.value ∙ ap container_of c.hold.ensures.value) stored)
    c.add_stream.ensures.moments

pub returns-clause-moments : goal.returns-clause-moments
returns-clause-moments g c =
    let old = c.args.self.now in
    let s : State = old.state.value in
    let low = c.low_containers_are_left_out.ensures in
    let last = c.streams_come_last.ensures in
    let settings = c.settings_leave_the_records.ensures in
    crash_copied c.logs_are_copies_and_blocks.ensures.stands c.logs_are_copies_and_blocks.ensures.by_file (g.D.Disk.state c.args.disk.now)
    (g.D.Disk.state c.add_stream.new.disk) (with_stream c.args.name.now s)
    (record { slot = older_of old.physical.slot; image = with_row c.in_ok-memory.memory.1 (next_copy c.container-first.result changes.Listing old.physical.image) })
    old c.requires.intact c.requires.valid
    (λ blocks stored. stream_copied (record { log = low.log; held = low.held; same = low.same })
    (record { log = settings.log; state = settings.state; archived = settings.archived; archive = settings.archive }) (record { log = last.log; state = last.state }) s c.args.name.now
    c.in_ok-memory.memory.1 c.container-first.result c.args.self.now.physical blocks c.requires.intact.sound.valid c.requires.held c.image-newest.ensures.image c.image-newest.ensures.current
    c.in_ok-memory.ensures.row (c.container-first.ensures.value ∙ ap container_of c.hold.ensures.value) stored)
    c.add_stream.ensures.moments

pub returns-in_err-memory-clause-files : goal.returns-in_err-memory-clause-files
returns-in_err-memory-clause-files g c = λ fine.
    let disk = g.D.Disk.state c.args.disk.now in
    let old = c.args.self.now in
    counts_none disk disk old (record old { tables = c.stream_memory.new.tables }) c.requires.intact.sound.unbroken refl

pub returns-in-Err-NoMemory-clause-files : goal.returns-in-Err-NoMemory-clause-files
returns-in-Err-NoMemory-clause-files g c = λ fine.
    let old = c.args.self.now in
    let none = c.add_stream.ensures.no_memory (c.in-Err-NoMemory.is ∙ ap (λ (e : PhysicalRefusal). Err e) c.in-Err-NoMemory.field-0-is) in
    counts_none _ _ old (record old { tables = c.stream_memory.new.tables; physical = c.add_stream.new.self }) c.requires.intact.sound.unbroken none.0

pub returns-in-Err-DiskFault-clause-files : goal.returns-in-Err-DiskFault-clause-files
returns-in-Err-DiskFault-clause-files g c = λ fine. absurd (fine refl)

pub returns-clause-files : goal.returns-clause-files
returns-clause-files g c = λ fine.
    let old = c.args.self.now in
    counts_kept _ _ old (record old { tables = c.add_stream-2.new.self; physical = c.add_stream.new.self; state = c.with_stream-self.result })
    c.requires.intact.sound.unbroken (record {
      copy = inr (ap (λ (n : Newest). n.image.version) (newest_is g c));
      made = ap (λ (n : Newest). n.image.files_made) (newest_is g c);
      lengths = c.add_stream.ensures.lengths;
    })
