use Rattle.std.proofs.Common.{refl, map, length, ap, subst, List, [], arith}
use Rattle.std.proofs.lemmas.List.{length-map}
use Rattle.clfs_command.specs.Share.{paths_of}
use Rattle.clfs_command.specs.declared.share.PathPair.{PathPair}
use Rattle.clfs_engine.specs.Share.{AreOpeners}
use Rattle.clfs_engine.proofs.OpenersMade.{as_many}
use Rattle.clfs_engine.proofs.Shares.{ends_also, share_ran_out}
use Rattle.clfs_engine.proofs.sharing.share_asked.Goals as goal

pub share_log-requires-clause-clients : goal.share_log-requires-clause-clients
share_log-requires-clause-clients g c =
    let many = as_many _ 1 _ c.in-Ok.openers.items c.in-Ok.ensures in
    let same = length-map c.deref.result.now paths_of in
    let long = ap length c.deref.ensures.value in
    omega (arith, many, same, long, c.requires.1.0)

pub share_log-requires-clause-few : goal.share_log-requires-clause-few
share_log-requires-clause-few g c =
    let many = as_many _ 1 _ c.in-Ok.openers.items c.in-Ok.ensures in
    let same = length-map c.deref.result.now paths_of in
    let long = ap length c.deref.ensures.value in
    omega (arith, many, same, long, c.requires.1.1)

-- clients were served, or the log wasn't opened
pub returns-in-Ok : goal.returns-in-Ok
returns-in-Ok g c =
    let made = subst (λ (clients : List PathPair). AreOpeners (g.M.PathOpeners.makes c.args.maker.now) 1 (map paths_of clients) c.in-Ok.openers.items) c.deref.ensures.value c.in-Ok.ensures in
    ends_also _ _ (λ journal last serves. (c.in-Ok.openers.items, (made, serves))) _ _ _ _ _ _ _ _ _ c.share_log.ensures

-- there was no memory for what opens the paths
pub returns-in-Err : goal.returns-in-Err
returns-in-Err g c =
    rw (c.unserved.ensures.status, c.unserved.ensures.disk, c.unserved.ensures.clients)
    (share_ran_out _ 5 _ (g.D.Disk.state c.args.disk) [] _ _ (c.memory_runs_out_at_once.ensures.alone c.args.disk) refl refl)
