use Rattle.std.proofs.Common.{arith}
use Rattle.hex.specs.Hex.{lower_digits}
use Rattle.hex.proofs.Pairs.{encode_step, encode_done}
use Rattle.clfs_text.proofs.bytes.encode_into.Goals as goal

pub loop-i-preserved : goal.loop-i-preserved
loop-i-preserved c =
    encode_step lower_digits c.args.bytes.now c.loop-i.text c.loop-i.i c.lower_digit.result c.lower_digit-in-loop-i.result (omega arith)
    (omega (arith, c.requires)) c.lower_digit.ensures c.lower_digit-in-loop-i.ensures c.loop-i.invariant

pub returns : goal.returns
returns c = encode_done lower_digits c.args.bytes.now c.loop-i.text c.loop-i.i (omega arith) (omega (arith, c.requires)) c.loop-i.invariant
