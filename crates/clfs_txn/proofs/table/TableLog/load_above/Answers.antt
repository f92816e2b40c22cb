use Rattle.clfs_txn.proofs.Words.{◌<◌, ap, sym, subst, length, err_from_is_err_and, Nature, IsValid, Memory, GoesForward, to_come}
use Rattle.clfs_model.specs.declared.reply.Reply.TheVariants as log_replies
use Rattle.clfs_txn.proofs.Joined.{tells_on, writes_then}
use Rattle.clfs_txn.proofs.Leads.{leads_call}
use Rattle.clfs_txn.proofs.LoadParts.{above_few, above_read, at_forward, given_up, of_load, refused_as}
use Rattle.clfs_txn.proofs.Moments.{passes_then}
use Rattle.clfs_txn.proofs.table.TableLog.load_above.Goals as goal

pub read_records-requires-clause-forward : goal.read_records-requires-clause-forward
read_records-requires-clause-forward g c =
    subst (λ (m : Memory). GoesForward c.read.new.self.0.log m.client m.area c.in_ok-cursor.cursor) (sym c.in_ok-cursor.ensures.memory) (at_forward _ _ _ _ _ c.in_ok-cursor.ensures.at)

pub returns-clause-step : goal.returns-clause-step
returns-clause-step g c =
    let few = above_few c.reading_gives_the_chain.ensures.first _ _ _ _ _ _ _ _ (subst IsValid (ap (λ v. v.0.log) c.self.view_is) c.stored.ensures.valid) c.requires.whole c.in_ok-cursor.ensures.step in
    above_read _ _ _ _ _ c.args.self.now.0.memory c.read.new.self.0.memory _ _ _ _ _ _ (ap (λ (n : Nature). n.tells_contents) c.in_ok-cursor.ensures.writes.time.nature)
    c.in_ok-cursor.ensures.memory c.in_ok-cursor.ensures.step
    (c.read_records.ensures.step (length c.args.self.now.0.log.records)
    (subst (λ (m : Memory). length (to_come c.read.new.self.0.log m.client m.area c.in_ok-cursor.cursor) < length c.args.self.now.0.log.records) (sym c.in_ok-cursor.ensures.memory) few))

pub returns-in_err-cursor-clause-step : goal.returns-in_err-cursor-clause-step
returns-in_err-cursor-clause-step g c =
    let p = err_from_is_err_and c.from_residual.result c.from_residual.ensures.1 in
    rw (p.1, p.2) (given_up _ _ _ _ _ c.args.self.now.0.memory c.read.new.self.0.memory _ c.in_err-cursor.ensures.memory
    (leads_call _ _ _ _ _ (log_replies.Refused c.in_err-cursor.field-0.0) _ c.in_err-cursor.ensures.step))

pub returns-in_err-cursor-clause-writes : goal.returns-in_err-cursor-clause-writes
returns-in_err-cursor-clause-writes g c =
    let p = err_from_is_err_and c.from_residual.result c.from_residual.ensures.1 in
    rw (p.1, p.2) (of_load _ _ c.in_err-cursor.field-0.0 c.in_err-cursor.ensures.writes)

pub returns-clause-writes : goal.returns-clause-writes
returns-clause-writes g c = writes_then _ _ _ _ _ (λ f. absurd (cc f)) c.in_ok-cursor.ensures.writes c.read_records.ensures.writes

pub returns-in_err-cursor-clause-damage : goal.returns-in_err-cursor-clause-damage
returns-in_err-cursor-clause-damage g c =
    let p = err_from_is_err_and c.from_residual.result c.from_residual.ensures.1 in
    rw (p.1, p.2) (λ tells container offset at is. c.in_err-cursor.ensures.damage tells container offset at (refused_as _ _ is))

pub returns-clause-damage : goal.returns-clause-damage
returns-clause-damage g c = λ tells. c.read_records.ensures.damage (tells_on (g.D.Disk.state c.args.self.now.1) (g.D.Disk.state c.read.new.self.1) c.in_ok-cursor.ensures.writes.time.nature tells)

pub returns-clause-time : goal.returns-clause-time
returns-clause-time g c = passes_then _ _ _ c.in_ok-cursor.ensures.time c.read_records.ensures.time
