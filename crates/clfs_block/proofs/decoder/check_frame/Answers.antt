use Rattle.clfs_block.proofs.Words.{◌≡◌, ℕ, List, Result, Ok, Err, IfOk, refl, arith, Shape, payload_of, AreBytes, frame_at, IsFramed, BlockHead, BlockRefusal}
use Rattle.clfs_block.proofs.Reading.{is_framed}
use Rattle.clfs_block.proofs.decoder.check_frame.Goals as goal

-- what is answered as a head is framed
if_framed : (shape : Shape) (start : ℕ) (bytes : List ℕ) (answer : Result BlockHead BlockRefusal) → AreBytes bytes → frame_at shape start bytes ≡ answer
    → IfOk answer (λ head. IsFramed shape start bytes head (payload_of head.used bytes))
if_framed shape start bytes (Ok head) fits is = is_framed shape start bytes (payload_of head.used bytes) head fits is refl
if_framed shape start bytes (Err refusal) fits is = tt

pub returns-clause-framed : goal.returns-clause-framed
returns-clause-framed c =
    let e : frame_at c.args.shape.now c.args.start c.args.bytes.now ≡ c.frame.result = cc in
    if_framed c.args.shape.now c.args.start c.args.bytes.now c.frame.result (λ i. omega (arith, c.type_inv.bytes i)) e
