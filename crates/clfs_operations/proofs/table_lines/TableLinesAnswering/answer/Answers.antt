use Rattle.std.proofs.Common.{List, ℕ, inr, refl, subst}
use Rattle.clfs_cells.specs.Lines.{txn_call_in}
use Rattle.clfs_operations.specs.TableAnswered.{AnswersAsked}
use Rattle.clfs_operations.proofs.TableAsked.{if_refused}
use Rattle.clfs_operations.proofs.table_lines.TableLinesAnswering.answer.Goals as goal

pub returns-clause-err : goal.returns-clause-err
returns-clause-err g c = if_refused c.write_txn_reply.result (inr (
  _,
  record {
    reply = c.reply_to_line-reply.result;
    answered = subst (λ (line : List ℕ). AnswersAsked c.args.self.now.store.0 (g.D.Disk.state c.args.self.now.store.1) (txn_call_in line)
        c.reply_to_line-reply.result c.reply_to_line-reply.new.store.0 (g.D.Disk.state c.reply_to_line-reply.new.store.1))
        c.without_return.ensures.value c.reply_to_line-reply.ensures;
    is = refl;
  },
))
