use Rattle.clfs_txn.proofs.Words.{◌≡◌, ◌<◌, ap, ◌∙◌, sym, subst, arith, ℕ, suc, ◌-◌, length, err_from_is_err_and, UndoNext, Nature, undo_from, transaction_of}
use Rattle.clfs_txn.proofs.Words.{Memory, standing, or_stopped, IsSet}
use Rattle.clfs_model.specs.declared.call.Call.TheVariants as log_calls
use Rattle.clfs_txn.proofs.Asked.{same_call}
use Rattle.clfs_txn.proofs.Damage.{handed_on}
use Rattle.clfs_txn.proofs.Joined.{tells_on, then_ok, writes_then}
use Rattle.clfs_txn.proofs.Logged.{newest_is_set}
use Rattle.clfs_txn.proofs.Leads.{by_client, by_told, leads_from}
use Rattle.clfs_txn.proofs.Undone.{read_meanwhile, sets_meanwhile, some_undone}
use Rattle.clfs_txn.proofs.Written.{nothing, of_same}
use Rattle.clfs_txn.proofs.Moments.{by_call, meanwhile_as, meanwhile_by}
use Rattle.clfs_txn.proofs.table.TableLog.undo_sets.Goals as goal

pub returns-in_err-cursor-clause-writes : goal.returns-in_err-cursor-clause-writes
returns-in_err-cursor-clause-writes g c =
    let p = err_from_is_err_and c.from_residual.result c.from_residual.ensures.1 in
    rw (p.1, p.2) (of_same _ _ c.in_err-cursor.field-0.0 c.in_err-cursor.ensures.writes)

pub undo_from-undone-requires-clause-set : goal.undo_from-undone-requires-clause-set
undo_from-undone-requires-clause-set g c =
    let t = transaction_of c.args.t.now in
    let memory = c.args.self.now.0.memory in
    let lsn = c.in_ok-cursor.entry.lsn in
    let read = c.in_ok-cursor.ensures in
    let some : 0 < length (standing t) = omega (arith, c.requires.few, c.if-count-eq0.false) in
    subst (λ (m : Memory). IsSet m c.number.result lsn) (sym read.memory)
    (subst (λ (n : ℕ). IsSet memory n lsn) (sym c.number.ensures)
    (subst (λ (l : ℕ). IsSet memory t.number l) (sym (read.there ∙ c.newest_standing.ensures)) (newest_is_set memory t.number t c.requires.there some)))

pub returns-clause-step : goal.returns-clause-step
returns-clause-step g c =
    let told = (g.D.Disk.state c.args.self.now.1).nature.tells_contents in
    let t = transaction_of c.args.t.now in
    let memory = c.args.self.now.0.memory in
    let read = c.in_ok-cursor.ensures in
    let undone = c.undo_from-undone.ensures in
    let less = c.args.count - 1 in
    let size : suc less ≡ c.args.count = omega (arith, c.if-count-eq0.false) in
    let entry = c.in_ok-cursor.entry in
    let cursor = c.in_ok-cursor.cursor in
    let tells = ap (λ (n : Nature). n.tells_contents) read.writes.time.nature in
    let client = ap (λ (m : Memory). m.client) read.memory in λ rest.
    some_undone told _ _ _ _ _ memory c.read.new.self.0.memory c.undo_from-undone.new.self.0.memory _ t c.args.count less cursor entry c.undo_from-undone.result rest size
    (same_call told _ _ _ _ _ _ _ (ap (λ (l : ℕ). log_calls.Read memory.area l UndoNext) c.newest_standing.ensures) read.step) read.memory
    (leads_from told _ _ _ (undo_from less c.read.new.self.0.memory c.number.result cursor entry.lsn rest) _ _
    (ap (λ (n : ℕ). undo_from less c.read.new.self.0.memory n cursor entry.lsn rest) (sym c.number.ensures))
    (by_client told _ _ _ _ _ _ client (by_told _ told _ _ _ _ _ tells (undone.step rest))))
    (by_client told _ _ _ _ _ _ (undone.area.client ∙ client)
    (c.end_read.ensures.step told (or_stopped rest c.undo_from-undone.result c.undo_from-undone.new.self.0.memory)))
    c.end_read.ensures.memory

pub returns-clause-writes : goal.returns-clause-writes
returns-clause-writes g c =
    rw c.end_read.ensures.disk (writes_then ⊥ _ _ _ _ (λ f. f)
    (then_ok _ _ _ (c.in_ok-cursor.cursor, c.in_ok-cursor.entry) (nothing ⊥ _ (λ f. f)) c.in_ok-cursor.ensures.writes) c.undo_from-undone.ensures.writes)

pub returns-in_err-cursor-clause-damage : goal.returns-in_err-cursor-clause-damage
returns-in_err-cursor-clause-damage g c =
    let p = err_from_is_err_and c.from_residual.result c.from_residual.ensures.1 in
    rw (p.1, p.2) (λ tells container offset at is. c.in_err-cursor.ensures.damage tells container offset at (handed_on _ _ is))

pub returns-clause-damage : goal.returns-clause-damage
returns-clause-damage g c = λ tells.
    c.undo_from-undone.ensures.damage (tells_on (g.D.Disk.state c.args.self.now.1) (g.D.Disk.state c.read.new.self.1) c.in_ok-cursor.ensures.writes.time.nature tells)

pub returns-then-count-eq0-clause-moments : goal.returns-then-count-eq0-clause-moments
returns-then-count-eq0-clause-moments g c = λ under rest along present. present

pub returns-in_err-cursor-clause-moments : goal.returns-in_err-cursor-clause-moments
returns-in_err-cursor-clause-moments g c =
    let t = transaction_of c.args.t.now in
    let memory = c.args.self.now.0.memory in
    let less = c.args.count - 1 in
    let size : suc less ≡ c.args.count = omega (arith, c.if-count-eq0.false) in λ under rest.
    read_meanwhile under _ _ _ memory t c.args.count less rest _ _ size c.requires.whole
    (by_call under _ _ _ _ _ _ (ap (λ (l : ℕ). log_calls.Read memory.area l UndoNext) c.newest_standing.ensures) (c.in_err-cursor.ensures.moments under))

pub returns-clause-moments : goal.returns-clause-moments
returns-clause-moments g c =
    let told = (g.D.Disk.state c.args.self.now.1).nature.tells_contents in
    let t = transaction_of c.args.t.now in
    let memory = c.args.self.now.0.memory in
    let read = c.in_ok-cursor.ensures in
    let undone = c.undo_from-undone.ensures in
    let less = c.args.count - 1 in
    let size : suc less ≡ c.args.count = omega (arith, c.if-count-eq0.false) in
    let entry = c.in_ok-cursor.entry in
    let cursor = c.in_ok-cursor.cursor in
    let tells = ap (λ (n : Nature). n.tells_contents) read.writes.time.nature in
    let client = ap (λ (m : Memory). m.client) read.memory in
    let call = ap (λ (l : ℕ). log_calls.Read memory.area l UndoNext) c.newest_standing.ensures in λ under rest.
    rw c.end_read.ensures.disk (sets_meanwhile under told _ _ _ memory c.read.new.self.0.memory t c.args.count less cursor entry rest _ _ _ size c.requires.whole
    read.writes.time.nature (same_call told _ _ _ _ _ _ _ call read.step) read.memory (by_call under _ _ _ _ _ _ call (read.moments under))
    (meanwhile_as under told _ _ (undo_from less c.read.new.self.0.memory c.number.result cursor entry.lsn rest) _ _ _
    (ap (λ (n : ℕ). undo_from less c.read.new.self.0.memory n cursor entry.lsn rest) (sym c.number.ensures))
    (meanwhile_by under _ told _ _ _ _ _ _ tells client (undone.moments under rest))))
