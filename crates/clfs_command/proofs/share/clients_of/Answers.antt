use Rattle.std.proofs.Common.{◌≡◌, map, length, arith}
use Rattle.std.proofs.lemmas.List.{length-map}
use Rattle.clfs_command.proofs.NoShares.{ranged}
use Rattle.clfs_command.proofs.share.clients_of.Goals as goal

pub returns-clause-range : goal.returns-clause-range
returns-clause-range c =
    let texts = map (λ p. p.now) c.args.paths.now in
    let range = c.can_be_shared.ensures.range c.if-not-can_be_shared.false in
    let many : length texts ≡ length c.args.paths.now = length-map c.args.paths.now (λ p. p.now) in
    ranged texts c.new-clients.result.items c.push_pairs.new.pairs.items c.in_ok-push_pairs.field-0 c.new-clients.ensures.items c.if-not-branch.false c.in_ok-push_pairs.ensures
    (omega (arith, many, range.0), omega (arith, many, range.1))
