use Rattle.std.proofs.lemmas.Result.{IfOk-weaker}
use Rattle.clfs_shared.specs.Reached.{opening_of}
use Rattle.clfs_share.proofs.Visiting.{all_visited}
use Rattle.clfs_share.proofs.sharing.share_visits.Goals as goal

pub returns-clause-clients : goal.returns-clause-clients
returns-clause-clients g c =
    IfOk-weaker c.share_followed.result _ _
    (λ shared heard.
    all_visited c.rows_are_by_own_entries.ensures.rows (opening_of c.args.manager.0 (g.D.Disk.state c.args.manager.1))
    g.P.Visitors g.S.Source.left g.S.Source.faults g.K.Sink.written g.K.Sink.faults shared.journal 1 c.args.visitors.items shared.clients.items heard)
    c.share_followed.ensures.clients
