use Rattle.clfs_manager.proofs.Words.{◌≡◌, ◌≤◌, refl, sym, ap, subst, ◌∙◌, arith, true, false, [], ◌∷◌, All-head, Place, State, seal, fills_buffers}
use Rattle.clfs_manager.proofs.Words.{ChangesLog, IsIntact}
use Rattle.clfs_manager.proofs.Changing.{changes_nothing, Survive}
use Rattle.clfs_manager.proofs.Crashes.{crash_still}
use Rattle.clfs_manager.proofs.FlushedLog.{laid_log}
use Rattle.clfs_manager.proofs.Intact.{writes_nothing}
use Rattle.clfs_manager.proofs.Sealed.{seal_is_flush, intact_sealed}
use Rattle.clfs_manager.proofs.KeptFiles.{files_before, files_kept}
use Rattle.clfs_manager.proofs.log.Log.seal.Goals as goal

pub end_block-requires : goal.end_block-requires
end_block-requires g c =
    let sound = c.requires.intact.sound in
    record { laid = laid_log c.args.self.now sound (c.seals_and_flushes_keep_a_log.ensures.laid c.args.self.now.state.value sound.valid sound.storable) }

pub returns-then-place-eq0-clause-change : goal.returns-then-place-eq0-clause-change
returns-then-place-eq0-clause-change g c =
    let s : State = c.args.self.now.state.value in
    let holds = c.requires.intact.sound.holds in
    let none : s.place.records ≡ 0 = sym (ap (λ (p : Place). p.records) (c.place.ensures.place ∙ holds.place)) ∙ c.if-place-eq0.true in
    let same : s ≡ seal s = rw none refl in
    changes_nothing tt c.logs_are_copies_and_blocks.ensures.stands c.logs_are_copies_and_blocks.ensures.by_file (g.D.Disk.state c.args.disk.now) c.args.self.now []
    (seal s) c.requires.intact same

pub returns-then-fills_buffers-clause-change : goal.returns-then-fills_buffers-clause-change
returns-then-fills_buffers-clause-change g c =
    let s : State = c.args.self.now.state.value in
    let holds = c.requires.intact.sound.holds in
    let some : 1 ≤ s.place.records = omega (arith, c.if-place-eq0.false, ap (λ (p : Place). p.records) (c.place.ensures.place ∙ holds.place)) in
    let fills : fills_buffers s ≡ true = rw (sym holds.buffers, sym holds.waiting) (sym c.fills_buffers.ensures ∙ c.if-fills_buffers.true) in
    subst (λ (t : State). ChangesLog IsIntact c.write_all.result (s ∷ []) t (g.D.Disk.state c.args.disk.now) (g.D.Disk.state c.write_all.new.disk) c.write_all.new.self)
    (sym (seal_is_flush s fills some)) c.write_all.ensures.change

pub returns-clause-change : goal.returns-clause-change
returns-clause-change g c =
    let s : State = c.args.self.now.state.value in
    let sound = c.requires.intact.sound in
    let holds = sound.holds in
    let some : 1 ≤ s.place.records = omega (arith, c.if-place-eq0.false, ap (λ (p : Place). p.records) (c.place.ensures.place ∙ holds.place)) in
    let fills : fills_buffers s ≡ false = rw (sym holds.buffers, sym holds.waiting) (sym c.fills_buffers.ensures ∙ c.if-fills_buffers.false) in
    let laws = c.seals_and_flushes_keep_a_log.ensures in
    let laid = laws.laid s sound.valid sound.storable in
    let state : c.sealed-self.result.value ≡ seal s = c.sealed-self.ensures ∙ ap (λ (u : State). seal u) (ap (λ t. t.value) c.end_block.ensures.ended.state) in
    record {
      state = state;
      left = intact_sealed (g.D.Disk.state c.args.disk.now) c.args.self.now c.end_block.new.self c.sealed-self.result c.requires.intact fills some
          (laws.seal s sound.valid sound.storable) (laws.seal_tables s laid) (laws.seal_hold s laid) c.end_block.ensures.ended state;
      broken = tt;
      writes = writes_nothing _ (g.D.Disk.state c.args.disk.now) (λ f. cc f);
      moments = λ asked t all last. crash_still c.logs_are_copies_and_blocks.ensures.stands c.logs_are_copies_and_blocks.ensures.by_file
          (g.D.Disk.state c.args.disk.now) c.args.self.now c.requires.intact asked t (All-head (Survive asked t) s [] all);
    }

pub returns-then-place-eq0-clause-files : goal.returns-then-place-eq0-clause-files
returns-then-place-eq0-clause-files g c = files_kept (g.D.Disk.state c.args.disk.now) c.args.self.now.physical

pub returns-clause-files : goal.returns-clause-files
returns-clause-files g c =
    let disk = g.D.Disk.state c.args.disk.now in
    let old = c.args.self.now.physical in
    files_before disk disk old old c.end_block.new.self.physical c.end_block.ensures.ended.physical (files_kept disk old)
