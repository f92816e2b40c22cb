use Rattle.clfs_txn.proofs.Words.{true, ◌∙◌}
use Rattle.clfs_txn.proofs.LoadSteps.{says_is}
use Rattle.clfs_txn.proofs.Quiet.{QuietLaws}
use Rattle.clfs_txn.proofs.loading.is_broken.Goals as goal

pub returns : goal.returns
returns g c =
    let laws : QuietLaws = record { unbroken = c.unbroken_stays.ensures.calls; broken = c.broken_stays.ensures.calls } in
    c.says_broken.ensures ∙ says_is laws c.args.manager.now.0 1 c.info-reply.result (c.info-reply.ensures.step true 1)
