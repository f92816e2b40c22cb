use Rattle.clfs_manager.proofs.Words.{◌≡◌, List, [], ◌∷◌, false, refl, sym, ap, subst, ◌∙◌, length, IsErr, IsOk, area_at, IsWhole, ready_stages, Area, State}
use Rattle.clfs_manager.proofs.Words.{flush_if, hold_sizes, plain_record, put, seal_if, spend_if, fills_buffers, IsValid, GoesThrough, IsIntact}
use Rattle.clfs_manager.proofs.AppendCall.{hold_named}
use Rattle.clfs_manager.proofs.Reserved.{intact_after}
use Rattle.clfs_manager.proofs.Through.{through_changes, through_answered, through_failed, through_named, through_refused, through_then}
use Rattle.clfs_manager.proofs.KeptFiles.{files_behind, files_then}
use Rattle.clfs_manager.proofs.log.Log.append_grown.Goals as goal

pub hold_sizes-requires-clause-valid : goal.hold_sizes-requires-clause-valid
hold_sizes-requires-clause-valid g c =
    let area : Area = area_at c.args.place c.args.self.now.areas.areas in
    let here : Area = area_at c.args.place c.put_draft.new.self.areas.areas in
    let sizes = c.args.sizes.now in
    let u : State = spend_if c.args.reserved area (length c.args.draft.now.bytes) c.args.self.now.state.value in
    let whole : IsWhole (hold_sizes area sizes (put u (plain_record area c.args.draft.now))) =
    c.areas_hold_sectors.ensures.behind u area (plain_record area c.args.draft.now) sizes c.requires.takes refl in
    let same : hold_sizes here sizes c.put_draft.new.self.state.value ≡ hold_sizes area sizes (put u (plain_record area c.args.draft.now)) =
    hold_named here area sizes c.put_draft.new.self.state.value c.in_ok-lsn.ensures.area.client c.in_ok-lsn.ensures.area.number
    ∙ ap (λ (t : State). hold_sizes area sizes t) c.in_ok-lsn.ensures.change.state in
    subst IsValid (sym same) whole.valid

pub finish-requires : goal.finish-requires
finish-requires g c = record {
  intact = intact_after (g.D.Disk.state c.put_draft.new.disk) c.put_draft.new.self c.hold_sizes.new.self c.in_ok-lsn.ensures.change.left c.hold_sizes.ensures.areas c.hold_sizes.ensures.sound;
}

pub returns-in_err-finish-clause-quiet : goal.returns-in_err-finish-clause-quiet
returns-in_err-finish-clause-quiet g c = λ ready seal flush.
    let area : Area = area_at c.args.place c.args.self.now.areas.areas in
    let here : Area = area_at c.args.place c.put_draft.new.self.areas.areas in
    let sizes = c.args.sizes.now in
    let draft = c.args.draft.now in
    let u : State = spend_if c.args.reserved area (length draft.bytes) c.args.self.now.state.value in
    let same : c.hold_sizes.new.self.state.value ≡ hold_sizes area sizes (put u (plain_record area draft)) =
    c.hold_sizes.ensures.state
    ∙ hold_named here area sizes c.put_draft.new.self.state.value c.in_ok-lsn.ensures.area.client c.in_ok-lsn.ensures.area.number
    ∙ ap (λ (t : State). hold_sizes area sizes t) c.in_ok-lsn.ensures.change.state in
    let fine = (c.finish.ensures.quiet (λ asked. subst (λ (t : State). fills_buffers t ≡ false) (sym same) (seal asked)) flush).0 in
    absurd (let wrong = subst (λ r. IsOk r) c.in_err-finish.was fine in cc wrong)

pub returns-clause-quiet : goal.returns-clause-quiet
returns-clause-quiet g c = λ ready seal flush.
    let area : Area = area_at c.args.place c.args.self.now.areas.areas in
    let here : Area = area_at c.args.place c.put_draft.new.self.areas.areas in
    let sizes = c.args.sizes.now in
    let draft = c.args.draft.now in
    let u : State = spend_if c.args.reserved area (length draft.bytes) c.args.self.now.state.value in
    let same : c.hold_sizes.new.self.state.value ≡ hold_sizes area sizes (put u (plain_record area draft)) =
    c.hold_sizes.ensures.state
    ∙ hold_named here area sizes c.put_draft.new.self.state.value c.in_ok-lsn.ensures.area.client c.in_ok-lsn.ensures.area.number
    ∙ ap (λ (t : State). hold_sizes area sizes t) c.in_ok-lsn.ensures.change.state in
    let second = c.finish.ensures.quiet (λ asked. subst (λ (t : State). fills_buffers t ≡ false) (sym same) (seal asked)) flush in
    (refl, second.1 ∙ (c.put_draft.ensures.quiet ready).1)

pub returns-in_err-lsn-clause-change : goal.returns-in_err-lsn-clause-change
returns-in_err-lsn-clause-change g c =
    let area : Area = area_at c.args.place c.args.self.now.areas.areas in
    let draft = c.args.draft.now in
    let n = length draft.bytes in
    let u : State = spend_if c.args.reserved area n c.args.self.now.state.value in
    let joined : State = put u (plain_record area draft) in
    let held : State = hold_sizes area c.args.sizes.now joined in
    let last : State = flush_if draft.flush (seal_if draft.seal held) in
    through_failed c.put_draft.result c.from_residual.result (ready_stages u n) (held ∷ seal_if draft.seal held ∷ last ∷ []) joined last _ _ c.put_draft.new.self
    (subst (λ r. IsErr r) (sym c.in_err-lsn.was) refl) c.from_residual.ensures.0 c.put_draft.ensures.change

pub returns-in_err-finish-clause-change : goal.returns-in_err-finish-clause-change
returns-in_err-finish-clause-change g c =
    let area : Area = area_at c.args.place c.args.self.now.areas.areas in
    let here : Area = area_at c.args.place c.put_draft.new.self.areas.areas in
    let sizes = c.args.sizes.now in
    let draft = c.args.draft.now in
    let n = length draft.bytes in
    let u : State = spend_if c.args.reserved area n c.args.self.now.state.value in
    let joined : State = put u (plain_record area draft) in
    let held : State = hold_sizes area sizes joined in
    let last : State → State = λ t. flush_if draft.flush (seal_if draft.seal t) in
    let stages : State → List State = λ t. t ∷ seal_if draft.seal t ∷ last t ∷ [] in
    let t : State = c.hold_sizes.new.self.state.value in
    let same : t ≡ held = c.hold_sizes.ensures.state
    ∙ hold_named here area sizes c.put_draft.new.self.state.value c.in_ok-lsn.ensures.area.client c.in_ok-lsn.ensures.area.number
    ∙ ap (λ (v : State). hold_sizes area sizes v) c.in_ok-lsn.ensures.change.state in
    let before = g.D.Disk.state c.args.disk.now in
    let between = g.D.Disk.state c.put_draft.new.disk in
    let after = g.D.Disk.state c.finish.new.disk in
    let log = c.finish.new.self in
    let finishes : GoesThrough IsIntact c.finish.result (stages held) (last held) between after log =
    through_named c.finish.result (stages t) (stages held) (last t) (last held) between after log (ap stages same) (ap last same)
    (through_changes c.finish.result (t ∷ seal_if draft.seal t ∷ []) (last t) between after log c.finish.ensures.change) in
    through_then _ c.from_residual-in_err-finish.result (ready_stages u n) (stages held) joined (last held) before between after c.put_draft.new.self log c.in_ok-lsn.ensures.change
    (through_refused c.finish.result c.from_residual-in_err-finish.result (stages held) (last held) (last held) between after log
    (subst (λ r. IsErr r) (sym c.in_err-finish.was) refl) c.from_residual-in_err-finish.ensures.0 finishes)

pub returns-clause-change : goal.returns-clause-change
returns-clause-change g c =
    let area : Area = area_at c.args.place c.args.self.now.areas.areas in
    let here : Area = area_at c.args.place c.put_draft.new.self.areas.areas in
    let sizes = c.args.sizes.now in
    let draft = c.args.draft.now in
    let n = length draft.bytes in
    let u : State = spend_if c.args.reserved area n c.args.self.now.state.value in
    let joined : State = put u (plain_record area draft) in
    let held : State = hold_sizes area sizes joined in
    let last : State → State = λ t. flush_if draft.flush (seal_if draft.seal t) in
    let stages : State → List State = λ t. t ∷ seal_if draft.seal t ∷ last t ∷ [] in
    let t : State = c.hold_sizes.new.self.state.value in
    let same : t ≡ held = c.hold_sizes.ensures.state
    ∙ hold_named here area sizes c.put_draft.new.self.state.value c.in_ok-lsn.ensures.area.client c.in_ok-lsn.ensures.area.number
    ∙ ap (λ (v : State). hold_sizes area sizes v) c.in_ok-lsn.ensures.change.state in
    let before = g.D.Disk.state c.args.disk.now in
    let between = g.D.Disk.state c.put_draft.new.disk in
    let after = g.D.Disk.state c.finish.new.disk in
    let log = c.finish.new.self in
    let finishes : GoesThrough IsIntact c.finish.result (stages held) (last held) between after log =
    through_named c.finish.result (stages t) (stages held) (last t) (last held) between after log (ap stages same) (ap last same)
    (through_changes c.finish.result (t ∷ seal_if draft.seal t ∷ []) (last t) between after log c.finish.ensures.change) in
    through_then _ _ (ready_stages u n) (stages held) joined (last held) before between after c.put_draft.new.self log c.in_ok-lsn.ensures.change
    (through_answered c.finish.result _ _ (stages held) (last held) between after log c.in_ok-finish.was finishes)

pub returns-clause-files : goal.returns-clause-files
returns-clause-files g c =
    files_then _ _ _ _ _ _ c.in_ok-lsn.ensures.files (files_behind _ _ _ _ _ c.hold_sizes.ensures.areas.physical c.in_ok-finish.ensures.files)
