use Rattle.clfs_manager.proofs.Words.{◌≡◌, ℕ, ◌+◌, ◌%◌, ◌≤◌, inr, sym, ap, subst, ◌∙◌, arith, [], ◌∷◌, length, map, length-append, container_of, BaseImage}
use Rattle.clfs_manager.proofs.Words.{IsImage, current, older_of, turned, State, hold, Newest, Blocks, with_blocks, low_of, taken_of, IsLogWith}
use Rattle.clfs_manager.proofs.Words.{from_container, IsStored}
use Rattle.clfs_physical.specs.Changes.{with_file, with_next_turn}
use Rattle.clfs_physical.specs.Taking.{IsFree}
use Rattle.clfs_recover.specs.Logs.{HaveEmpty}
use Rattle.clfs_manager.specs.Putting.{TakesContainer}
use Rattle.clfs_manager.proofs.CopiedMeanwhile.{SettingsLeave, with_turn, without_low}
use Rattle.clfs_manager.proofs.Crashes.{turned_meanwhile}
use Rattle.clfs_manager.proofs.Numbers.{hold_within}
use Rattle.clfs_manager.proofs.Sealed.{on_ok_by, on_ok_of}
use Rattle.clfs_manager.proofs.TurnedLog.{low_is, low_image, turned_image, has_low, taken_stored}
use Rattle.clfs_manager.proofs.log.Log.take_container.Given.{Over}
use Rattle.clfs_manager.proofs.log.Log.take_container.Goals as goal

module _ (g : Over) (c : goal.After-turn g) where
  abbrev s : State
  s = c.args.self.now.state.value

  abbrev now : Newest
  now = c.args.self.now.physical

  abbrev first : ℕ
  first = c.container-first.result

  abbrev file : ℕ
  file = c.turn.ensures.file.0

  is_first : c.container-first.result ≡ container_of (hold c.args.self.now.state.value)
  is_first = c.container-first.ensures.value ∙ ap container_of c.hold.ensures.value

  -- the log of before without its low containers, and with the further container
  both : (blocks : Blocks) → IsStored s now blocks
      → IsStored s (low_of first now) blocks × IsStored (turned s) (taken_of file (low_of first now)) (with_blocks file [] blocks)
  both blocks stored =
      let sound = c.requires.intact.sound in
      let may = c.requires.may in
      let low = low_is first now c.image-newest.ensures.image c.image-newest.ensures.current in
      let early : BaseImage = record now.image { version = low.version; turn = low.turn } in
      let thin : BaseImage = from_container first early in
      let has = has_low s first low.version low.turn c.args.self.now sound.valid sound.holds is_first in
      let slot = (low_of first now).slot in
      let next : IsFree thin.files_made thin.files file = subst (λ (i : BaseImage). IsFree i.files_made i.files file) low.is c.turn.ensures.file.1 in
      let from : early.first ≤ first = omega (arith, sound.holds.needed, is_first) in
      let some : first + 1 ≤ early.first + length early.files = omega (arith, sound.holds.listed, hold_within s sound.valid, is_first) in
      let leave_out = c.low_containers_are_left_out.ensures in
      let settings = c.settings_leave_the_records.ensures in
      let laws : SettingsLeave = record { log = settings.log; state = settings.state; archived = settings.archived; archive = settings.archive } in
      let is : IsStored s (record { slot = slot; image = thin }) blocks =
      without_low (record { log = leave_out.log; held = leave_out.held; same = leave_out.same }) s slot first (record { slot = now.slot; image = early }) blocks
      sound.valid (turned_image (record now.image { version = low.version }) low.turn low.fits low.few) is_first
      (with_turn laws s low.version low.turn now blocks stored) in
      let turn = (thin.turn + 1) % 3 in
      let later : BaseImage = record thin { version = 2; turn = turn } in
      let is_later : IsImage later = turned_image (record thin { version = 2 }) turn
      (low_image (current now.image) first low.turn c.image-newest.ensures.current low.few from some) (omega arith) in
      let again : IsLogWith later (map blocks later.files) is.entries = c.settings_leave_the_records.ensures.log thin (map blocks thin.files) is.entries 2 turn
      thin.containers thin.files_made thin.maximum thin.minimum thin.growth thin.automatic is.log in
      let have : HaveEmpty later file blocks (with_blocks file [] blocks) = c.further_containers_begin_empty.ensures.by_file later file blocks
      (λ i within same. next.free (record { place = i; within = within; is = same })) in
      let done = taken_stored s (older_of slot) turn file thin blocks sound.valid may has is.entries is.records is.state
      (c.further_containers_begin_empty.ensures.log later file blocks (with_blocks file [] blocks) is.entries is_later have again)
      (c.further_containers_begin_empty.ensures.state later file blocks (with_blocks file [] blocks) is.entries s.buffers have) in (
        subst (λ (i : BaseImage). let n : Newest = record { slot = slot; image = i } in IsStored s n blocks) (sym low.is) is,
        subst (λ (i : BaseImage). let n : Newest = record { slot = older_of slot; image = with_file file (with_next_turn i) } in IsStored (turned s) n (with_blocks file [] blocks))
            (sym low.is) done,
      )

pub returns-clause-takes : goal.returns-clause-takes
returns-clause-takes g c =
    let old = c.args.self.now in
    let s : State = old.state.value in
    let sound = c.requires.intact.sound in
    let low = low_is (first g c) old.physical c.image-newest.ensures.image c.image-newest.ensures.current in
    let thin : BaseImage = from_container (first g c) (record old.physical.image { version = low.version; turn = low.turn }) in
    let has = has_low s (first g c) low.version low.turn old sound.valid sound.holds (is_first g c) in
    on_ok_by c.turn.result (λ now.
    let image : c.turn.new.self.image ≡ with_file (file g c) (with_next_turn thin) =
    ap (λ (n : Newest). n.image) (now (file g c) c.turn.ensures.file.1) ∙ ap (λ (i : BaseImage). with_file (file g c) (with_next_turn i)) low.is in
    let is : TakesContainer s (with_file (file g c) (with_next_turn thin)) = record {
      first = has.first;
      listed = omega (arith, has.listed, length-append thin.files (file g c ∷ []));
      containers = has.containers;
      shape = has.shape;
      dedicated = has.dedicated;
      rows = has.rows;
    } in
    subst (TakesContainer s) (sym image) is) c.turn.ensures.now

pub returns-clause-stored : goal.returns-clause-stored
returns-clause-stored g c = on_ok_of c.turn.result (λ now written blocks stored.
    let k = file g c in (
      with_blocks k [] blocks,
      (
        subst (λ (n : Newest). IsStored (turned (s g c)) n (with_blocks k [] blocks)) (sym (now k c.turn.ensures.file.1)) (both g c blocks stored).1,
        λ tells whole stores. written tells whole k blocks c.turn.ensures.file.1 stores,
      ),
    )) c.turn.ensures.now c.turn.ensures.written

pub returns-clause-meanwhile : goal.returns-clause-meanwhile
returns-clause-meanwhile g c = λ blocks stored settled whole stores.
    let two = both g c blocks stored in
    turned_meanwhile (g.D.Disk.state c.args.disk.now) (g.D.Disk.state c.turn.new.disk) (s g c) (turned (s g c)) (now g c) (first g c) (file g c) blocks whole stored two.0 two.1
    (c.turn.ensures.moments settled whole (file g c) blocks c.turn.ensures.file.1 stores)

pub returns-clause-calls : goal.returns-clause-calls
returns-clause-calls g c =
    record { settled = c.turn.ensures.settled; time = c.turn.ensures.time; cause = c.turn.ensures.cause; steady = c.turn.ensures.steady }

pub returns-clause-files : goal.returns-clause-files
returns-clause-files g c =
    let low = low_is (first g c) (now g c) c.image-newest.ensures.image c.image-newest.ensures.current in
    on_ok_by c.turn.result (λ taken.
    let is : c.turn.new.self ≡ taken_of (file g c) (low_of (first g c) (now g c)) = taken (file g c) c.turn.ensures.file.1 in
    record {
      copy = inr (ap (λ (n : Newest). n.image.version) is);
      made = ap (λ (n : Newest). n.image.files_made) is ∙ ap (λ (i : BaseImage). i.files_made) low.is;
      lengths = c.turn.ensures.lengths;
    }) c.turn.ensures.now
