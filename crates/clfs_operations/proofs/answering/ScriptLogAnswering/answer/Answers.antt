use Rattle.std.proofs.Common.{ap, inl, inr, refl}
use Rattle.std.proofs.lemmas.Result.{on_err_weaker}
use Rattle.clfs_operations.proofs.answering.ScriptLogAnswering.answer.Goals as goal

pub returns-clause-err : goal.returns-clause-err
returns-clause-err g c = on_err_weaker c.answer_line.result
    (λ given. elim given [
      | inl same ↦ inl (ap (λ manager. record { manager = manager }) same)
      | inr behind ↦ inr (_, record { reply = behind.reply; answered = behind.answered; is = refl })
    ])
    c.answer_line.ensures.err
