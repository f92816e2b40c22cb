use Rattle.clfs_manager.proofs.Words.{◌≡◌, ℕ, length, refl, sym, subst, ◌∙◌, false, [], ◌∷◌, DiskState, readied, turned, ready_stages, joins, begins_here}
use Rattle.clfs_manager.proofs.Words.{LogEntry, State, seal, flush, IsStorable, IsValid}
use Rattle.clfs_manager.specs.Putting.{sealing_writes}
use Rattle.clfs_manager.proofs.ReadyLog.{it_joins, it_begins, it_turns, may_turn}
use Rattle.clfs_manager.proofs.Through.{through_changes, through_named, through_nothing}
use Rattle.clfs_manager.proofs.KeptFiles.{files_kept}
use Rattle.clfs_manager.proofs.log.Log.make_ready.Goals as goal

pub returns-in-BeginsBlock-clause-quiet : goal.returns-in-BeginsBlock-clause-quiet
returns-in-BeginsBlock-clause-quiet g c = λ quiet.
    let s : State = c.args.self.now.state.value in
    let begin = it_begins s.shape s.place c.args.len (sym c.placing.ensures ∙ c.in-BeginsBlock.is) in
    let none : sealing_writes s ≡ false = rw (begin.0, begin.1) at quiet in
    c.seal.ensures.quiet none

pub begin_container-requires-clause-may : goal.begin_container-requires-clause-may
begin_container-requires-clause-may g c =
    let s : State = c.args.self.now.state.value in
    let sound = c.requires.intact.sound in
    let entry : LogEntry = c.requires.may.0 in
    let may = c.requires.may.1 in
    let long = c.requires.may.2 in
    let turns = it_turns s.shape s.place c.args.len (sym c.placing.ensures ∙ c.in-BeginsContainer.is) in
    let laws = c.seals_and_flushes_keep_a_log.ensures in
    let laid = laws.laid s sound.valid sound.storable in
    let ready = c.logs_are_made_ready.ensures.ready s entry sound.valid sound.storable may in
    let same : readied s c.args.len ≡ turned (flush s) = rw (turns.0, turns.1) refl in
    let to : (P : State → Type 0) → P (readied s (length entry.bytes)) → P (turned (flush s)) = λ P is. subst P same (subst (λ (n : ℕ). P (readied s n)) long is) in
    may_turn s sound.valid (c.logs_are_made_ready.ensures.turn s entry sound.valid sound.storable may
    (subst (λ (n : ℕ). joins s.shape s.place n ≡ false) (sym long) turns.0)
    (subst (λ (n : ℕ). begins_here s.shape s.place n ≡ false) (sym long) turns.1))
    (to IsValid ready.valid) (to IsStorable ready.storable) (laws.flush_hold s laid) (laws.flush_container s) ((laws.flush_tables s laid).containers)

pub returns-in-BeginsContainer-clause-quiet : goal.returns-in-BeginsContainer-clause-quiet
returns-in-BeginsContainer-clause-quiet g c = λ quiet.
    let s : State = c.args.self.now.state.value in
    let turns = it_turns s.shape s.place c.args.len (sym c.placing.ensures ∙ c.in-BeginsContainer.is) in
    absurd (let wrong = rw (turns.0, turns.1) at quiet in cc wrong)

pub returns-in-Joins-clause-change : goal.returns-in-Joins-clause-change
returns-in-Joins-clause-change g c =
    let s : State = c.args.self.now.state.value in
    let join = it_joins s.shape s.place c.args.len (sym c.placing.ensures ∙ c.in-Joins.is) in
    let laws = c.logs_are_copies_and_blocks.ensures in
    let disk : DiskState = g.D.Disk.state c.args.disk.now in
    through_named _ (s ∷ []) (ready_stages s c.args.len) s (readied s c.args.len) disk disk c.args.self.now (rw join refl) (rw join refl)
    (through_nothing tt laws.stands laws.by_file disk c.args.self.now c.requires.intact)

pub returns-in-BeginsBlock-clause-change : goal.returns-in-BeginsBlock-clause-change
returns-in-BeginsBlock-clause-change g c =
    let s : State = c.args.self.now.state.value in
    let begin = it_begins s.shape s.place c.args.len (sym c.placing.ensures ∙ c.in-BeginsBlock.is) in
    through_named c.seal.result (s ∷ seal s ∷ []) (ready_stages s c.args.len) (seal s) (readied s c.args.len) _ _ _ (rw (begin.0, begin.1) refl) (rw (begin.0, begin.1) refl)
    (through_changes c.seal.result (s ∷ []) (seal s) _ _ _ c.seal.ensures.change)

pub returns-in-BeginsContainer-clause-change : goal.returns-in-BeginsContainer-clause-change
returns-in-BeginsContainer-clause-change g c =
    let s : State = c.args.self.now.state.value in
    let turns = it_turns s.shape s.place c.args.len (sym c.placing.ensures ∙ c.in-BeginsContainer.is) in
    through_named c.begin_container.result (s ∷ flush s ∷ turned (flush s) ∷ []) (ready_stages s c.args.len) (turned (flush s)) (readied s c.args.len) _ _ _
    (rw (turns.0, turns.1) refl) (rw (turns.0, turns.1) refl)
    (through_changes c.begin_container.result (s ∷ flush s ∷ []) (turned (flush s)) _ _ _ c.begin_container.ensures.change)

pub returns-in-Joins-clause-files : goal.returns-in-Joins-clause-files
returns-in-Joins-clause-files g c = files_kept (g.D.Disk.state c.args.disk.now) c.args.self.now.physical
