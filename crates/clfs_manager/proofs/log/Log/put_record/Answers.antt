use Rattle.clfs_manager.proofs.Words.{refl, sym, ap, subst, ◌∙◌, length, IsErr, DiskState, LogEntry, IsReadyFor, MayPut, readied, ready_stages, State}
use Rattle.clfs_manager.proofs.Words.{next_lsn, put, unplaced}
use Rattle.clfs_manager.proofs.PutRecord.{open_put}
use Rattle.clfs_manager.proofs.Through.{through_memory, through_refused}
use Rattle.clfs_manager.proofs.KeptFiles.{files_before}
use Rattle.clfs_manager.proofs.log.Log.put_record.Goals as goal

pub put-requires-clause-may : goal.put-requires-clause-may
put-requires-clause-may g c =
    let s : State = c.args.self.now.state.value in
    let e : LogEntry = unplaced c.args.fields.now c.args.bytes.now in
    let sound = c.requires.intact.sound in
    subst (λ (u : State). MayPut u e) (sym c.in_ok-make_ready.ensures.change.state) (c.logs_are_made_ready.ensures.ready s e sound.valid sound.storable c.requires.may).may

pub put-requires-clause-ready : goal.put-requires-clause-ready
put-requires-clause-ready g c =
    let s : State = c.args.self.now.state.value in
    let e : LogEntry = unplaced c.args.fields.now c.args.bytes.now in
    let sound = c.requires.intact.sound in
    subst (λ (u : State). IsReadyFor u (length c.args.bytes.now)) (sym c.in_ok-make_ready.ensures.change.state)
    (c.logs_are_made_ready.ensures.ready s e sound.valid sound.storable c.requires.may).ready

pub returns-clause-lsn : goal.returns-clause-lsn
returns-clause-lsn g c =
    let s : State = c.args.self.now.state.value in
    let e : LogEntry = unplaced c.args.fields.now c.args.bytes.now in
    let sound = c.requires.intact.sound in
    c.put.ensures.lsn ∙ ap (λ (u : State). next_lsn u (length c.args.bytes.now)) c.in_ok-make_ready.ensures.change.state
    ∙ (c.logs_are_made_ready.ensures.ready s e sound.valid sound.storable c.requires.may).lsn

pub returns-in_err-make_ready-clause-change : goal.returns-in_err-make_ready-clause-change
returns-in_err-make_ready-clause-change g c =
    let s : State = c.args.self.now.state.value in
    let n = length c.args.bytes.now in
    through_refused c.make_ready.result c.from_residual.result (ready_stages s n) (readied s n) _ _ _ c.make_ready.new.self
    (subst (λ r. IsErr r) (sym c.in_err-make_ready.was) refl) c.from_residual.ensures.0 c.make_ready.ensures.change

pub returns-clause-change : goal.returns-clause-change
returns-clause-change g c =
    let s : State = c.args.self.now.state.value in
    let e : LogEntry = unplaced c.args.fields.now c.args.bytes.now in
    let sound = c.requires.intact.sound in
    let n = length c.args.bytes.now in
    let ready = c.logs_are_made_ready.ensures.ready s e sound.valid sound.storable c.requires.may in
    let change = c.in_ok-make_ready.ensures.change in
    let intact = change.left in
    let r : State = c.make_ready.new.self.state.value in
    let disk : DiskState = g.D.Disk.state c.make_ready.new.disk in
    let may : MayPut r e = subst (λ (u : State). MayPut u e) (sym change.state) ready.may in
    let same = c.put.ensures.same in
    through_memory _ _ (ready_stages s n) (readied s n) (put s e) _ disk c.make_ready.new.self c.put.new.self change
    (c.put.ensures.state ∙ ap (λ (u : State). put u e) change.state ∙ ready.put)
    (record {
      opened = open_put disk c.make_ready.new.self c.put.new.self c.args.fields.now c.args.bytes.now intact
          (subst (λ (u : State). IsReadyFor u n) (sym change.state) ready.ready)
          (c.the_next_lsn_is_above_all.ensures.frontier r.shape r.place n intact.sound.valid.ranges.shape intact.sound.valid.ranges.place)
          (c.records_are_put.ensures.tables r e intact.sound.valid intact.sound.storable may) same c.put.ensures.state c.put.ensures.holds;
      unbroken = same.broken ∙ intact.sound.unbroken;
      areas = same.areas ∙ c.in_ok-make_ready.ensures.room.areas;
    })

pub returns-clause-files : goal.returns-clause-files
returns-clause-files g c = files_before _ _ _ _ c.put.new.self.physical c.put.ensures.same.physical c.in_ok-make_ready.ensures.files
