use Rattle.clfs_block.proofs.Words.{◌≡◌, sym, ◌∙◌, ap, arith, payload_of, rest_at, head_for, BlockHead}
use Rattle.std.proofs.Common.{inr}
use Rattle.clfs_block.proofs.Reading.{frame_read, rest_read, payload_read, answered_is_spelled, answered_is_framed, is_framed, wrong_is_behind, rest_is_open}
use Rattle.clfs_block.proofs.Reading.{not_refused, one_head}
use Rattle.clfs_block.proofs.decoder.decode_block.Goals as goal

pub returns-in_err-head-clause-only : goal.returns-in_err-head-clause-only
returns-in_err-head-clause-only c records content block more spells count fits is =
    absurd (not_refused (sym c.frame.ensures.exact ∙ c.in_err-head.was)
    (frame_read c.args.shape.now c.args.start records content block more c.args.bytes.now spells count.0 count.1 fits is))

pub returns-clause-only : goal.returns-clause-only
returns-clause-only c records content block more spells count fits is =
    let read = frame_read c.args.shape.now c.args.start records content block more c.args.bytes.now spells count.0 count.1 fits is in
    let same : c.in_ok-head.head ≡ head_for records content = one_head _ _ (sym c.in_ok-head.was ∙ c.frame.ensures.exact ∙ read) in
    inr (
      c.check_rest.ensures ∙ ap (rest_at c.args.bytes.now) same
          ∙ rest_read c.args.shape.now c.args.start records content block more c.args.bytes.now spells count.0 count.1 fits is,
      c.in_ok-fill_payload.ensures.ok ∙ ap (λ (h : BlockHead). payload_of h.used c.args.bytes.now) same
          ∙ payload_read c.args.shape.now c.args.start records content block more c.args.bytes.now spells count.0 count.1 fits is,
    )

pub returns-clause-found : goal.returns-clause-found
returns-clause-found c =
    answered_is_spelled c.args.shape.now c.args.start c.args.bytes.now c.fill_payload.new.payload c.in_ok-head.head c.check_rest.result
    (λ i. omega (arith, c.type_inv.bytes i))
    (sym c.frame.ensures.exact ∙ c.in_ok-head.was) c.check_rest.ensures c.in_ok-fill_payload.ensures.ok

pub returns-clause-framed : goal.returns-clause-framed
returns-clause-framed c =
    answered_is_framed c.args.shape.now c.args.start c.args.bytes.now c.fill_payload.new.payload c.in_ok-head.head c.check_rest.result
    (λ i. omega (arith, c.type_inv.bytes i))
    (sym c.frame.ensures.exact ∙ c.in_ok-head.was) c.check_rest.ensures c.in_ok-fill_payload.ensures.ok

pub returns-clause-filled : goal.returns-clause-filled
returns-clause-filled c head is memory =
    let same : c.in_ok-head.head ≡ head = one_head _ _ (sym c.in_ok-head.was ∙ c.frame.ensures.exact ∙ is) in
    is_framed c.args.shape.now c.args.start c.args.bytes.now c.fill_payload.new.payload head (λ i. omega (arith, c.type_inv.bytes i)) is
    (c.in_ok-fill_payload.ensures.ok ∙ ap (λ (h : BlockHead). payload_of h.used c.args.bytes.now) same)

pub returns-clause-wrong : goal.returns-clause-wrong
returns-clause-wrong c at is = inr
    (wrong_is_behind c.args.shape.now c.args.start c.args.bytes.now c.fill_payload.new.payload c.in_ok-head.head c.check_rest.result at
    (λ i. omega (arith, c.type_inv.bytes i)) (sym c.frame.ensures.exact ∙ c.in_ok-head.was) c.check_rest.ensures c.in_ok-fill_payload.ensures.ok is)

pub returns-clause-closed : goal.returns-clause-closed
returns-clause-closed c is = absurd (rest_is_open c.args.bytes.now c.in_ok-head.head (sym c.check_rest.ensures ∙ is))
