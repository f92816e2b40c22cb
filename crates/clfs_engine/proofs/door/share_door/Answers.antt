use Rattle.std.proofs.Common.{⊎_elim, ℕ, Bool, refl, ap, subst, inl, inr, List}
use Rattle.std.specs.String.{string_bytes}
use Rattle.clfs_operations.specs.Loaded.{IsLoaded, IsKeptOn}
use Rattle.clfs_share.specs.Visited.{AreVisited, comings_of}
use Rattle.clfs_engine.specs.Door.{AreVisitsBy}
use Rattle.clfs_engine.proofs.DoorEnds.{door_ran_out, door_refused, door_unopened, door_unready, visits_end}
use Rattle.clfs_engine.proofs.Unvisited.{none_visited}
use Rattle.clfs_engine.proofs.door.share_door.Goals as goal

-- the log wasn't opened
pub returns-in-Err : goal.returns-in-Err
returns-in-Err g c =
    let load = c.in-Err.ensures in
    let old = g.D.Disk.state c.args.disk in
    let new = g.D.Disk.state c.in-Err.field-0.disk in
    rw (c.unshared.ensures.status, c.unshared.ensures.disk, c.unshared.ensures.clients)
    (door_unopened _ _ c.refused.result c.args.door.now.write_buffers old new _ _ _ _
    (c.unopened_logs_are_told.ensures c.refused.result c.in-Err.field-0.cause c.args.disk c.in-Err.field-0.disk _ _ _ _
    (record {
      is = load.refused;
      cause = load.cause;
      steady = load.steady;
      same = load.same_refused.0;
      time = load.same_refused.1;
    })
    load.place c.refused.ensures))

-- the door wasn't opened
pub returns-in-Err-open : goal.returns-in-Err-open
returns-in-Err-open g c =
    let load = c.in-Ok.ensures in
    let F : List ℕ → Type 0 = λ place. g.M.Doors.stays_shut c.args.doors.now place in
    rw (c.unshared-in-Err-open.ensures.status, c.unshared-in-Err-open.ensures.disk, c.close.ensures, c.unshared-in-Err-open.ensures.clients)
    (door_refused _ _ c.refusal_status.result c.args.door.now.write_buffers (g.D.Disk.state c.args.disk) (g.D.Disk.state c.in-Ok.manager.1) _ _
    (⊎_elim (λ shut. inl (shut.0, subst F c.as_str.ensures.value (c.in-Err-open.ensures.shut (cc shut.1)))) inr c.refusal_status.ensures)
    (record { same = load.same.0; time = load.same.1 }))

-- it couldn't be said that programs may come
pub returns-then-printed-ne-DONE : goal.returns-then-printed-ne-DONE
returns-then-printed-ne-DONE g c =
    let load = c.in-Ok.ensures in
    elim c.printed.ensures.status [
      | inl done ↦ absurd (c.if-printed-ne-DONE.true done)
      | inr three ↦
          rw (
            c.unshared-then-printed-ne-DONE.ensures.status,
            c.unshared-then-printed-ne-DONE.ensures.disk,
            c.close-then-printed-ne-DONE.ensures,
            c.unshared-then-printed-ne-DONE.ensures.clients,
          )
          (door_unready _ _ 3 c.args.door.now.write_buffers (g.D.Disk.state c.args.disk) (g.D.Disk.state c.in-Ok.manager.1) _ _ _ _ refl
          (record { same = load.same.0; time = load.same.1 }) (c.printed.ensures.front three) (c.printed.ensures.cause three) c.printed.ensures.later)
    ]

-- no more programs come
pub returns-in-Ok-share_visits : goal.returns-in-Ok-share_visits
returns-in-Ok-share_visits g c =
    let load = c.in-Ok.ensures in
    let old = g.D.Disk.state c.args.disk in
    let mid = g.D.Disk.state c.in-Ok.manager.1 in
    let shared = c.in-Ok-share_visits.field-0 in
    let new = g.D.Disk.state shared.manager.1 in
    let s = c.in-Ok.manager.0 in
    let t = shared.manager.0 in
    let loaded : IsLoaded c.args.door.now.write_buffers old mid s = record {
      stands = load.loaded;
      buffers_are = load.buffers;
      valid = load.valid;
      storable = load.storable;
      stable = load.stable;
      same = load.same.0;
      time = load.same.1;
      left = c.stored.ensures.survives_nothing 0;
    } in
    let kept : IsKeptOn t new = record { files = c.stored-in-Ok-share_visits.ensures.files; settled = c.stored-in-Ok-share_visits.ensures.settled } in
    let from = c.journals_are_taken_from_logs.ensures c.args.door.now.write_buffers c.args.disk c.in-Ok.manager.1 shared.manager.1 s t shared.journal loaded kept
    c.in-Ok-share_visits.ensures.later c.in-Ok-share_visits.ensures.reached in
    let Opens : List ℕ → Type 0 = λ place. g.M.Doors.opens c.args.doors.now place c.in-Ok-open.visitors.items in
    let opens = subst Opens c.as_str.ensures.value c.in-Ok-open.ensures.opens in
    let AreOver : Bool → Type 0 = λ told. AreVisited g.P.Visitors g.S.Source.left g.S.Source.faults g.K.Sink.written g.K.Sink.faults told s shared.journal 1
    c.in-Ok-open.visitors.items shared.clients.items in
    let are = subst AreOver (ap (λ nature. nature.tells_contents) load.same.1.nature) c.in-Ok-share_visits.ensures.clients in
    let status = rw c.deref.ensures.value at c.end_status.ensures in
    rw c.close-in-Ok-share_visits.ensures
    (visits_end _ (AreVisitsBy (λ visitors. g.M.Doors.opens c.args.doors.now (string_bytes c.args.door.now.place) visitors) g.P.Visitors g.S.Source.left g.S.Source.faults
    g.K.Sink.written g.K.Sink.faults shared.clients.items)
    c.args.door.now.write_buffers old new s t kept shared.journal from
    (c.in-Ok-open.visitors.items, (opens, (are, c.in-Ok-share_visits.ensures.others)))
    c.end_status.result (comings_of shared.clients.items) _ _ _ _ (c.printed.ensures.whole c.if-printed-ne-DONE.false) c.printed.ensures.later
    (none_visited g.P.Visitors g.S.Source.left g.S.Source.faults g.K.Sink.written g.K.Sink.faults old.nature.tells_contents s shared.journal
    c.in-Ok-open.visitors.items shared.clients.items are c.in-Ok-share_visits.ensures.others)
    status)

-- there was no memory to begin
pub returns : goal.returns
returns g c =
    let load = c.in-Ok.ensures in
    rw (
      c.unshared-in-Err-share_visits.ensures.status,
      c.unshared-in-Err-share_visits.ensures.disk,
      c.close-in-Err-share_visits.ensures,
      c.in-Err-share_visits.ensures.refused.0,
      c.unshared-in-Err-share_visits.ensures.clients,
    )
    (door_ran_out _ _ 5 c.args.door.now.write_buffers (g.D.Disk.state c.args.disk) (g.D.Disk.state c.in-Ok.manager.1) _ _ _ _ refl
    (record { same = load.same.0; time = load.same.1 }) (c.printed.ensures.whole c.if-printed-ne-DONE.false) c.printed.ensures.later)
