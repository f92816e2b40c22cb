use Rattle.std.proofs.Common.{◌≡◌, ℕ, List, ap, inr, refl, subst, sym, ◌∙◌}
use Rattle.clfs_model.specs.Lines.{without_return}
use Rattle.clfs_model.specs.Run.{Request}
use Rattle.clfs_share.specs.Answered.{AnswersRequest}
use Rattle.clfs_share.specs.Asked.{request}
use Rattle.clfs_share.specs.Lines.{own_request}
use Rattle.clfs_share.proofs.Making.{if_refused}
use Rattle.clfs_share.proofs.seat.SeatAnswering.answer.Goals as goal

pub returns-clause-err : goal.returns-clause-err
returns-clause-err g c =
    let s = c.args.self.now in
    let t = c.reply_to-reply.new.self in
    let asked = c.in_ok-asked.asked in
    let F : Request → Type 0 = λ (r : Request). AnswersRequest s r c.reply_to-reply.result t in
    let is : request s.client asked ≡ own_request s.client (without_return c.args.line.now) =
    ap (λ (n : ℕ). request n asked) (sym c.client-client.ensures)
    ∙ c.in_ok-asked.ensures.request
    ∙ ap (λ (n : ℕ). own_request n c.without_return.result.now) c.client-client.ensures
    ∙ ap (λ (z : List ℕ). own_request s.client z) c.without_return.ensures.value in
    if_refused c.write_reply.result (inr (_, record { reply = c.reply_to-reply.result; answered = subst F is c.reply_to-reply.ensures; is = refl }))
