use Rattle.std.proofs.Common.{◌∙◌, ap, ℕ, ◌-◌, List, arith}
use Rattle.std.proofs.lemmas.List.{take_rest}
use Rattle.byteorder.specs.Endian.{little_number}
use Rattle.clfs_record.proofs.Fillings.{ends_in_zeros}
use Rattle.clfs_record.proofs.decoder.are_zeros.Goals as goal

pub returns : goal.returns
returns c =
    ends_in_zeros c.args.bytes.now (λ i. omega (arith, c.type_inv.bytes i)) c.args.from c.args.end c.read_u64-word.result
    c.requires.word c.requires.whole c.requires.range c.requires.few
    (c.read_u64-word.ensures ∙ ap (λ (l : List ℕ). little_number 8 l) (take_rest c.args.bytes.now (c.args.end - 8)))
