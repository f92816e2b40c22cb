use Rattle.clfs_manager.proofs.Words.{◌≡◌, ◌<◌, ℕ, refl, sym, ap, subst, ◌∙◌, List, length, false, AreaTable, area_at, LogEntry, MayPut, ready_stages, Area}
use Rattle.clfs_manager.proofs.Words.{State, plain_record, put, spend_if, making_ready_writes, unplaced}
use Rattle.clfs_manager.proofs.PutRecord.{intact_put}
use Rattle.clfs_manager.proofs.Reserved.{intact_after}
use Rattle.clfs_manager.proofs.Sealed.{on_ok_by}
use Rattle.clfs_manager.proofs.Through.{through_left, through_named}
use Rattle.clfs_manager.proofs.KeptFiles.{files_behind}
use Rattle.clfs_manager.proofs.log.Log.put_draft.Goals as goal

pub put_record-requires-clause-intact : goal.put_record-requires-clause-intact
put_record-requires-clause-intact g c =
    intact_after (g.D.Disk.state c.args.disk.now) c.args.self.now c.spend.new.self c.requires.intact c.spend.ensures.areas c.spend.ensures.sound

pub put_record-requires-clause-may : goal.put_record-requires-clause-may
put_record-requires-clause-may g c =
    let s : State = c.args.self.now.state.value in
    let area : Area = area_at c.args.place c.args.self.now.areas.areas in
    let n = length c.args.draft.now.bytes in
    let spent : c.spend.new.self.state.value ≡ spend_if c.args.reserved area n s = c.spend.ensures.state ∙ ap (λ (k : ℕ). spend_if c.args.reserved area k s) c.len.ensures in
    let is : unplaced c.plain_fields-fields.result c.as_slice.result.now ≡ plain_record area c.args.draft.now =
    ap (λ (bytes : List ℕ). unplaced c.plain_fields-fields.result bytes) c.as_slice.ensures
    ∙ c.plain_fields-fields.ensures.record area (sym c.area.ensures.stream) in
    subst (λ (u : State). MayPut u (unplaced c.plain_fields-fields.result c.as_slice.result.now)) (sym spent)
    (subst (λ (e : LogEntry). MayPut (spend_if c.args.reserved area n s) e) (sym is) c.requires.may)

pub returns-clause-quiet : goal.returns-clause-quiet
returns-clause-quiet g c = λ quiet.
    let s : State = c.args.self.now.state.value in
    let area : Area = area_at c.args.place c.args.self.now.areas.areas in
    let n = length c.args.draft.now.bytes in
    let spent : c.spend.new.self.state.value ≡ spend_if c.args.reserved area n s = c.spend.ensures.state ∙ ap (λ (k : ℕ). spend_if c.args.reserved area k s) c.len.ensures in
    c.put_record.ensures.quiet (subst (λ (u : State). making_ready_writes u (length c.as_slice.result.now) ≡ false) (sym spent)
    (subst (λ (bytes : List ℕ). making_ready_writes (spend_if c.args.reserved area n s) (length bytes) ≡ false) (sym c.as_slice.ensures) quiet))

pub returns-clause-change : goal.returns-clause-change
returns-clause-change g c =
    let s : State = c.args.self.now.state.value in
    let area : Area = area_at c.args.place c.args.self.now.areas.areas in
    let draft = c.args.draft.now in
    let n = length draft.bytes in
    let u : State = spend_if c.args.reserved area n s in
    let v : State = c.spend.new.self.state.value in
    let bytes : List ℕ = c.as_slice.result.now in
    let e : LogEntry = unplaced c.plain_fields-fields.result bytes in
    let spent : v ≡ u = c.spend.ensures.state ∙ ap (λ (k : ℕ). spend_if c.args.reserved area k s) c.len.ensures in
    let is : e ≡ plain_record area draft = ap (λ (b : List ℕ). unplaced c.plain_fields-fields.result b) c.as_slice.ensures
    ∙ c.plain_fields-fields.ensures.record area (sym c.area.ensures.stream) in
    let whole = c.records_are_put.ensures.plain u (plain_record area draft) c.requires.valid c.requires.storable c.requires.may refl in
    let before = g.D.Disk.state c.args.disk.now in
    let behind = g.D.Disk.state c.put_record.new.disk in
    let log = c.put_record.new.self in
    through_left c.put_record.result (ready_stages u n) (put u (plain_record area draft)) before behind log
    (intact_put behind u log (plain_record area draft) c.spend.new.self.areas (ap (λ (t : State). t.broken) (sym spent) ∙ c.spend.ensures.sound.whole) whole)
    (through_named c.put_record.result (ready_stages v (length bytes)) (ready_stages u n) (put v e) (put u (plain_record area draft)) before behind log
    (ap (λ (t : State). ready_stages t (length bytes)) spent ∙ ap (λ (b : List ℕ). ready_stages u (length b)) c.as_slice.ensures)
    (ap (λ (t : State). put t e) spent ∙ ap (λ (entry : LogEntry). put u entry) is) c.put_record.ensures.change)

pub returns-clause-area : goal.returns-clause-area
returns-clause-area g c =
    let place = c.args.place in
    let same = c.spend.ensures.area in
    on_ok_by c.put_record.result (λ is. record {
      place = subst (λ (table : AreaTable). place < length table.areas) (sym is.areas) same.place;
      client = ap (λ (table : AreaTable). (area_at place table.areas).client) is.areas ∙ same.client;
      number = ap (λ (table : AreaTable). (area_at place table.areas).number) is.areas ∙ same.number;
    }) c.put_record.ensures.change.left

pub returns-clause-files : goal.returns-clause-files
returns-clause-files g c = on_ok_by c.put_record.result (files_behind _ _ _ _ _ c.spend.ensures.areas.physical) c.put_record.ensures.files
