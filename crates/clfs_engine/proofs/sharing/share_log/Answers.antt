use Rattle.std.proofs.Common.{refl, []}
use Rattle.clfs_operations.specs.Loaded.{IsLoaded, IsKeptOn}
use Rattle.clfs_engine.proofs.Shares.{shared_ends, share_refused, share_without_memory}
use Rattle.clfs_engine.proofs.Unserved.{none_taken}
use Rattle.clfs_engine.proofs.sharing.share_log.Goals as goal

-- the log wasn't opened
pub returns-in-Err : goal.returns-in-Err
returns-in-Err g c =
    let load = c.in-Err.ensures in
    let old = g.D.Disk.state c.args.disk in
    let new = g.D.Disk.state c.in-Err.field-0.disk in
    rw (c.unserved.ensures.status, c.unserved.ensures.disk, c.unserved.ensures.clients)
    (share_refused _ c.refused.result c.args.write_buffers old new [] _ _ _ _
    (c.unopened_logs_are_told.ensures c.refused.result c.in-Err.field-0.cause c.args.disk c.in-Err.field-0.disk _ _ _ _
    (record {
      is = load.refused;
      cause = load.cause;
      steady = load.steady;
      same = load.same_refused.0;
      time = load.same_refused.1;
    })
    load.place c.refused.ensures)
    refl)

-- all clients have ended
pub returns-in-Ok-share : goal.returns-in-Ok-share
returns-in-Ok-share g c =
    let old = g.D.Disk.state c.args.disk in
    let mid = g.D.Disk.state c.in-Ok.manager.1 in
    let shared = c.in-Ok-share.field-0 in
    let new = g.D.Disk.state shared.manager.1 in
    let s = c.in-Ok.manager.0 in
    let t = shared.manager.0 in
    let load = c.in-Ok.ensures in
    let loaded : IsLoaded c.args.write_buffers old mid s = record {
      stands = load.loaded;
      buffers_are = load.buffers;
      valid = load.valid;
      storable = load.storable;
      stable = load.stable;
      same = load.same.0;
      time = load.same.1;
      left = c.stored.ensures.survives_nothing 0;
    } in
    let kept : IsKeptOn t new = record { files = c.stored-in-Ok-share.ensures.files; settled = c.stored-in-Ok-share.ensures.settled } in
    let from = c.journals_are_taken_from_logs.ensures c.args.write_buffers c.args.disk c.in-Ok.manager.1 shared.manager.1 s t shared.journal loaded kept c.in-Ok-share.ensures.later c.in-Ok-share.ensures.reached in
    let told = c.end_status.ensures in
    let status = rw c.deref.ensures.value at told in
    rw c.close.ensures
    (shared_ends _ c.args.write_buffers old new s t kept shared.journal from (c.in-Ok-share.ensures.clients, c.in-Ok-share.ensures.others)
    c.end_status.result _ _ _
    (none_taken g.P.Openers g.S.Source.left g.S.Source.faults g.K.Sink.written g.K.Sink.faults shared.journal t c.args.openers.items shared.clients.items
    c.in-Ok-share.ensures.clients c.in-Ok-share.ensures.others)
    status)

-- there was no memory to begin
pub returns : goal.returns
returns g c =
    let load = c.in-Ok.ensures in
    rw (c.unserved-in-Err-share.ensures.status, c.unserved-in-Err-share.ensures.disk, c.close-in-Err-share.ensures, c.in-Err-share.ensures.refused.0, c.unserved-in-Err-share.ensures.clients)
    (share_without_memory _ 5 c.args.write_buffers (g.D.Disk.state c.args.disk) (g.D.Disk.state c.in-Ok.manager.1) [] _ _ refl load.same.0 load.same.1 refl)
