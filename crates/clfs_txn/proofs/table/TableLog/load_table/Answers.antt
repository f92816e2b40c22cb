use Rattle.clfs_txn.proofs.Words.{ap, ◌∙◌, sym, ℕ, List, length, true, Some, None, subst, err_from_is_err_and, Nature, Unchanged, Passes}
use Rattle.clfs_model.specs.declared.reply.Reply.TheVariants as log_replies
use Rattle.clfs_cells.specs.Layout.{checkpoint_of}
use Rattle.clfs_txn.proofs.Joined.{tells_on, writes_then}
use Rattle.clfs_txn.proofs.Leads.{leads_call}
use Rattle.clfs_txn.proofs.LoadSteps.{ending, leaves_records, reading}
use Rattle.clfs_txn.proofs.LoadParts.{from_same, given_up, of_load, refused_as, restart_read, table_read}
use Rattle.clfs_txn.proofs.Written.{of_ok}
use Rattle.clfs_txn.proofs.Moments.{passes_then}
use Rattle.clfs_txn.proofs.table.TableLog.load_table.Goals as goal

pub returns-in_err-cursor-clause-step : goal.returns-in_err-cursor-clause-step
returns-in_err-cursor-clause-step g c =
    let p = err_from_is_err_and c.from_residual.result c.from_residual.ensures.1 in
    rw (p.1, p.2) (given_up _ _ _ _ _ c.args.self.now.0.memory c.read_restart.new.self.0.memory _ c.in_err-cursor.ensures.memory
    (leads_call _ _ _ _ _ (log_replies.Refused c.in_err-cursor.field-0.0) _ c.in_err-cursor.ensures.step))

pub returns-in-Some-clause-step : goal.returns-in-Some-clause-step
returns-in-Some-clause-step g c =
    let read = c.in_ok-cursor.ensures in
    let ended = c.end_read.ensures.ended true in
    table_read _ _ _ _ _ c.args.self.now.0.memory c.end_read.new.self.0.memory _ _ c.in_ok-cursor.restart c.in-Some.checkpoint _ _
    (ap (λ (n : Nature). n.tells_contents) (ap (λ d. (g.D.Disk.state d).nature) c.end_read.ensures.disk ∙ read.writes.time.nature))
    (c.end_read.ensures.memory ∙ read.memory)
    (ap length (leaves_records true _ _ _ _ _ _ (ending _ _) ended.1 ∙ leaves_records _ _ _ _ _ _ _ (reading _) read.step))
    (restart_read _ _ _ _ c.args.self.now.0.memory c.read_restart.new.self.0.memory _ c.in_ok-cursor.cursor c.in_ok-cursor.restart (Some c.in-Some.checkpoint) read.memory read.step
    (c.end_read.ensures.ended _) (sym c.in-Some.is ∙ c.from_bytes.ensures ∙ ap (λ (l : List ℕ). checkpoint_of l) c.as_slice.ensures))
    c.load_above.ensures.step

pub returns-clause-step : goal.returns-clause-step
returns-clause-step g c =
    let read = c.in_ok-cursor.ensures in
    given_up _ _ _ _ _ c.args.self.now.0.memory c.end_read.new.self.0.memory _ (c.end_read.ensures.memory ∙ read.memory)
    (restart_read _ _ _ _ c.args.self.now.0.memory c.read_restart.new.self.0.memory _ c.in_ok-cursor.cursor c.in_ok-cursor.restart None read.memory read.step
    (c.end_read.ensures.ended _) (sym c.in-None.is ∙ c.from_bytes.ensures ∙ ap (λ (l : List ℕ). checkpoint_of l) c.as_slice.ensures))

pub returns-in_err-cursor-clause-writes : goal.returns-in_err-cursor-clause-writes
returns-in_err-cursor-clause-writes g c =
    let p = err_from_is_err_and c.from_residual.result c.from_residual.ensures.1 in
    rw (p.1, p.2) (of_load _ _ c.in_err-cursor.field-0.0 c.in_err-cursor.ensures.writes)

pub returns-in-Some-clause-writes : goal.returns-in-Some-clause-writes
returns-in-Some-clause-writes g c =
    writes_then _ _ _ _ _ (λ f. absurd (cc f)) c.in_ok-cursor.ensures.writes
    (from_same _ _ _ _ (ap (λ d. g.D.Disk.state d) c.end_read.ensures.disk) c.load_above.ensures.writes)

pub returns-clause-writes : goal.returns-clause-writes
returns-clause-writes g c =
    rw c.end_read.ensures.disk (of_ok _ _ _ (c.in_ok-cursor.cursor, c.in_ok-cursor.restart) (λ f. absurd (cc f)) c.in_ok-cursor.ensures.writes)

pub returns-in_err-cursor-clause-damage : goal.returns-in_err-cursor-clause-damage
returns-in_err-cursor-clause-damage g c =
    let p = err_from_is_err_and c.from_residual.result c.from_residual.ensures.1 in
    rw (p.1, p.2) (λ tells container offset at is. c.in_err-cursor.ensures.damage tells container offset at (refused_as _ _ is))

pub returns-in-Some-clause-damage : goal.returns-in-Some-clause-damage
returns-in-Some-clause-damage g c = λ tells.
    c.load_above.ensures.damage (tells_on (g.D.Disk.state c.args.self.now.1) (g.D.Disk.state c.end_read.new.self.1) (ap (λ d. (g.D.Disk.state d).nature) c.end_read.ensures.disk ∙ c.in_ok-cursor.ensures.writes.time.nature) tells)

pub returns-in-Some-clause-time : goal.returns-in-Some-clause-time
returns-in-Some-clause-time g c =
    passes_then _ _ _ (subst (λ d. Passes Unchanged (g.D.Disk.state c.args.self.now.1) (g.D.Disk.state d)) (sym c.end_read.ensures.disk) c.in_ok-cursor.ensures.time) c.load_above.ensures.time

pub returns-clause-time : goal.returns-clause-time
returns-clause-time g c = rw c.end_read.ensures.disk c.in_ok-cursor.ensures.time
