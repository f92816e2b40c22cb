use Rattle.std.proofs.Common.{arith, length}
use Rattle.std.proofs.lemmas.Result.{on_ok_weaker}
use Rattle.clfs_trial.proofs.Lengths.{client_short, more_short}
use Rattle.clfs_trial.proofs.drawn.push_client.Goals as goal

pub returns-clause-short : goal.returns-clause-short
returns-clause-short c =
    on_ok_weaker c.push_decimal.result
    (λ is. more_short _ _ _ (length c.args.out.now) 1 _ (omega arith) (client_short c.args.client (omega arith)) (omega arith) is)
    c.push_decimal.ensures.ok
