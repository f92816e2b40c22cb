use Rattle.std.proofs.Common.{sym}
use Rattle.clfs_text.proofs.Encoded.{encoded_more, encoded_all}
use Rattle.clfs_text.proofs.bytes.push_encoded.Goals as goal

pub loop-rest-preserved : goal.loop-rest-preserved
loop-rest-preserved c =
    rw c.in_ok-extend_from_slice.ensures.ok
    (encoded_more c.loop-rest.out _ c.loop-rest.rest.now c.split_at.result.0.now c.split_at.result.1.now c.encode_into.new.text
    c.min.result c.loop-rest.invariant c.split_at.ensures.front c.split_at.ensures.back c.encode_into.ensures)

pub returns : goal.returns
returns c = encoded_all c.loop-rest.out _ c.loop-rest.rest.now c.loop-rest.invariant (sym c.loop-rest-test.ensures)
