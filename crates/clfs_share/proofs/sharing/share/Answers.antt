use Rattle.clfs_shared.specs.Reached.{opening_of}
use Rattle.clfs_share.proofs.Making.{both_ok}
use Rattle.clfs_share.proofs.Taking.{all_taken}
use Rattle.clfs_share.proofs.sharing.share.Goals as goal

pub returns-clause-clients : goal.returns-clause-clients
returns-clause-clients g c =
    both_ok c.share_followed.result _ _ _
    (λ shared reached heard.
    all_taken g.P.Openers g.S.Source.left g.S.Source.faults g.K.Sink.written g.K.Sink.faults c.rows_are_by_own_entries.ensures.rows
    (opening_of c.args.manager.0 (g.D.Disk.state c.args.manager.1)) shared.journal shared.manager.0 reached.legal 1 c.args.openers.items shared.clients.items heard)
    c.share_followed.ensures.reached c.share_followed.ensures.clients
