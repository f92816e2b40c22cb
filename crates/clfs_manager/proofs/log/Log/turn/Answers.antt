use Rattle.clfs_manager.proofs.Words.{◌≡◌, refl, ap, subst, ◌∙◌, true, false, arith, [], All-head, slice_index, IsOk, turned, State, Holds, Log}
use Rattle.clfs_queue.specs.Queued as queues
use Rattle.clfs_manager.proofs.Changing.{Survive}
use Rattle.clfs_manager.proofs.CopiedLog.{valid_holds}
use Rattle.clfs_manager.proofs.Crashes.{crash_stored}
use Rattle.clfs_manager.proofs.Intact.{writes_failed, writes_fine}
use Rattle.clfs_manager.proofs.ReadKeeps.{tells_before}
use Rattle.clfs_manager.proofs.Settled.{stays_settled}
use Rattle.clfs_manager.proofs.TurnedLog.{kept_turned, holds_turned}
use Rattle.clfs_manager.proofs.log.Log.turn.Goals as goal

pub returns-clause-change : goal.returns-clause-change
returns-clause-change g c =
    let old = c.args.self.now in
    let s : State = old.state.value in
    let sound = c.requires.intact.sound in
    let opened = c.requires.intact.opened in
    let may = c.requires.may in
    let taken : Log = c.take_container.new.self in
    let same : taken ≡ record old { physical = taken.physical } = c.take_container.ensures.same in
    let takes = c.in_default.ensures.takes in
    let is = c.in_default.ensures.stored opened.blocks opened.stored in
    let to : c.turned-self.result.value ≡ turned s = c.turned-self.ensures ∙ ap (λ (l : Log). turned l.state.value) same in
    let after : Log = record taken { queue = c.turn.new.self; state = c.turned-self.result } in
    let memory : Holds c.turned-self.result.value after = holds_turned old after sound.valid sound.holds may c.ends_of_blocks_go_on.ensures
    (c.turn.ensures ∙ ap (λ (l : Log). record l.queue { place = queues.turned l.queue.place }) same)
    (ap (λ (l : Log). l.tables) same) (ap (λ (l : Log). l.areas) same) (ap (λ (l : Log). l.archive) same) (ap (λ (l : Log). l.policies) same) to
    takes.first takes.listed takes.containers takes.shape takes.dedicated takes.rows in
    let before = g.D.Disk.state c.args.disk.now in
    let behind = g.D.Disk.state c.take_container.new.disk in
    let nature = c.take_container.ensures.calls.time.nature in
    record {
      state = to;
      left = record {
        sound = record {
          valid = rw to may.valid;
          storable = rw to may.storable;
          unbroken = ap (λ (l : Log). l.broken) same ∙ sound.unbroken;
          whole = ap (λ (u : State). u.broken) to ∙ sound.whole;
          holds = memory;
        };
        blocks = is.0;
        stored = rw to is.1.0;
        files = λ tells. let earlier = tells_before before behind nature tells in is.1.1 earlier false (opened.files earlier);
        kept = λ tells. rw (to, ap (λ (l : Log). l.buffers) same) (kept_turned s old.buffers sound.valid may (opened.kept (tells_before before behind nature tells)));
        settled = stays_settled before behind nature c.in_default.ensures.calls.settled opened.settled;
      };
      broken = tt;
      writes = writes_fine (false ≡ true) before behind s (turned s) old taken (λ f. cc f) opened c.in_default.ensures.stored c.take_container.ensures.calls.time
          (λ calm made. (c.take_container.ensures.calls.steady calm made).1);
      moments = λ asked t all last. crash_stored c.logs_are_copies_and_blocks.ensures.stands c.logs_are_copies_and_blocks.ensures.by_file before behind s (turned s) old
          opened c.take_container.ensures.meanwhile (valid_holds s sound.valid) (valid_holds (turned s) may.valid) asked t (All-head (Survive asked t) s [] all) last;
    }

pub returns-in-Err-clause-change : goal.returns-in-Err-clause-change
returns-in-Err-clause-change g c =
    let old = c.args.self.now in
    let s : State = old.state.value in
    let before = g.D.Disk.state c.args.disk.now in
    let behind = g.D.Disk.state c.take_container.new.disk in
    record {
      state = tt;
      left = tt;
      broken = c.break_log.ensures.broken.broken;
      writes = writes_failed (true ≡ true) before behind s old refl c.requires.intact.opened c.take_container.ensures.calls.time c.in-Err.ensures.calls.cause
          (λ calm made. let wrong = subst (λ r. IsOk r) c.in-Err.is (c.take_container.ensures.calls.steady calm made).0 in cc wrong);
      moments = λ asked t all last. crash_stored c.logs_are_copies_and_blocks.ensures.stands c.logs_are_copies_and_blocks.ensures.by_file before behind s (turned s) old
          c.requires.intact.opened c.take_container.ensures.meanwhile (valid_holds s c.requires.intact.sound.valid) (valid_holds (turned s) c.requires.may.valid)
          asked t (All-head (Survive asked t) s [] all) last;
    }

pub returns-clause-room : goal.returns-clause-room
returns-clause-room g c =
    let same = c.take_container.ensures.same in
    record {
      heads = λ place. omega (arith, ap (λ (l : Log). slice_index l.tables.room place) same);
      areas = ap (λ (l : Log). l.areas) same;
      ends = omega (arith, ap (λ (l : Log). l.archive.room) same);
    }

pub returns-clause-files : goal.returns-clause-files
returns-clause-files g c = c.in_default.ensures.files
