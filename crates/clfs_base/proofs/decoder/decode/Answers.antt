use Rattle.clfs_base.proofs.Words.{arith}
use Rattle.clfs_base.proofs.Copies.{written}
use Rattle.clfs_base.proofs.Images.{if_found, if_written}
use Rattle.clfs_base.proofs.decoder.decode.Goals as goal

pub returns-clause-exact : goal.returns-clause-exact
returns-clause-exact c = c.decode_within.ensures.anything c.anything.ensures

pub returns-clause-found : goal.returns-clause-found
returns-clause-found c = if_found c.decode_within.result c.args.bytes.now (λ i. omega (arith, c.type_inv.bytes i)) (returns-clause-exact c)

pub returns-clause-only : goal.returns-clause-only
returns-clause-only c image gate rest fits is =
    if_written c.decode_within.result c.args.bytes.now image (returns-clause-exact c) (written image gate rest c.args.bytes.now fits is)
