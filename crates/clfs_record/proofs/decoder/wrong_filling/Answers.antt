use Rattle.std.proofs.Common.{sym, ◌∙◌}
use Rattle.clfs_record.proofs.Fillings.{no_fault}
use Rattle.clfs_record.proofs.decoder.wrong_filling.Goals as goal

pub returns-then-are_zeros-clause-exact : goal.returns-then-are_zeros-clause-exact
returns-then-are_zeros-clause-exact c =
    sym (no_fault c.args.bytes.now c.args.len c.size_of_record-size.result c.size_of_record-size.ensures (sym c.are_zeros.ensures ∙ c.if-are_zeros.true))
