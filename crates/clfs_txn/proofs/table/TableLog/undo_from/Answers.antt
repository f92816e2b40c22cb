use Rattle.clfs_txn.proofs.Words.{◌≡◌, ap, ◌∙◌, refl, sym, subst, arith, suc, ◌+◌, ◌-◌, err_from_is_err_and, UndoNext, Nature, with_read_ended, Memory, IsSet}
use Rattle.clfs_txn.proofs.Damage.{handed_on}
use Rattle.clfs_txn.proofs.Joined.{tells_on, then_ok, writes_then}
use Rattle.clfs_txn.proofs.Leads.{by_client}
use Rattle.clfs_txn.proofs.Undone.{areas_then, at_by, behind_set, last_meanwhile, last_undone, next_meanwhile, not_undone, same_area, set_meanwhile, started}
use Rattle.clfs_txn.proofs.Undone.{step_by, went_nowhere, went_on}
use Rattle.clfs_txn.proofs.Written.{nothing, of_same}
use Rattle.clfs_txn.proofs.Moments.{by_client_call, meanwhile_by}
use Rattle.clfs_txn.proofs.table.TableLog.undo_from.Goals as goal

pub loop-init : goal.loop-init
loop-init g c = record {
  step = λ rest. started _ _ _ _ _ _ _ (c.args.more - 0) c.args.more rest (omega arith);
  moments = λ under rest along present. present;
  writes = nothing ⊥ _ (λ f. f);
  area = record { client = refl; area = refl };
  whole = c.requires.whole;
  set = c.requires.set;
  at = c.requires.at;
}

pub loop-preserved : goal.loop-preserved
loop-preserved g c =
    let told = (g.D.Disk.state c.args.self.now.1).nature.tells_contents in
    let before = c.loop.invariant in
    let undone = c.in_ok-undo_set.ensures in
    let read = c.in_ok-lsn.ensures in
    let less = c.args.more - (c.loop.counter + 1) in
    let size : suc less ≡ c.args.more - c.loop.counter = omega (arith, c.loop-test.true) in
    let tells = ap (λ (n : Nature). n.tells_contents) (undone.writes.time.nature ∙ before.writes.time.nature) in
    let client = undone.area.client ∙ before.area.client in
    let area = undone.area.area ∙ before.area.area in
    let at = undone.cursors c.args.cursor (at_by _ _ _ _ _ _ _ _ (sym before.area.client) (sym before.area.area) before.at) in
    let here = at_by _ _ _ _ _ _ _ _ (sym undone.area.client) (sym undone.area.area) at in
    record {
      step = λ rest.
          went_on told _ _ _ _ _ _ c.loop.self.0.memory c.undo_set.new.self.0.memory _ _ _ _ (c.args.more - c.loop.counter) less c.in_ok-lsn.field-0 rest size (before.step rest)
          (by_client told _ _ _ _ _ _ before.area.client (undone.step told c.args.cursor (behind_set less c.args.number c.args.cursor rest)))
          (step_by _ _ _ _ _ _ _ _ _ tells client read.step) read.memory;
      moments = λ under rest.
          next_meanwhile under told _ _ _ _ _ c.loop.self.0.memory c.undo_set.new.self.0.memory _ _ _ (c.args.more - c.loop.counter) less rest _ _ _ _ size
          before.writes.time.nature undone.writes.time.nature undone.whole (before.step rest) (before.moments under rest)
          (by_client told _ _ _ _ _ _ before.area.client (undone.step told c.args.cursor (behind_set less c.args.number c.args.cursor rest)))
          (meanwhile_by under _ told _ _ _ _ _ _ (ap (λ (n : Nature). n.tells_contents) before.writes.time.nature) before.area.client
          (undone.moments under c.args.cursor (behind_set less c.args.number c.args.cursor rest)))
          (by_client_call under _ _ _ _ _ _ client (read.moments under));
      writes = then_ok _ _ _ c.in_ok-lsn.field-0 (then_ok _ _ _ c.in_ok-undo_set.field-0 before.writes undone.writes) read.writes;
      area = areas_then _ _ _ (areas_then _ _ _ before.area undone.area) (same_area _ _ read.memory);
      whole = read.whole;
      set = subst (λ (m : Memory). IsSet m c.args.number c.in_ok-lsn.field-0.lsn) (sym read.memory) (read.set c.args.number c.loop.lsn here undone.set);
      at = at_by _ _ _ _ _ _ _ _ client area (read.at UndoNext c.loop.lsn here);
    }

pub returns-in_err-undo_set-clause-step : goal.returns-in_err-undo_set-clause-step
returns-in_err-undo_set-clause-step g c =
    let told = (g.D.Disk.state c.args.self.now.1).nature.tells_contents in
    let less = c.args.more - (c.loop.counter + 1) in
    let size : suc less ≡ c.args.more - c.loop.counter = omega (arith, c.loop-test.true) in
    let p = err_from_is_err_and c.from_residual.result c.from_residual.ensures.1 in
    rw (p.1, p.2) (λ rest.
    not_undone told _ _ _ _ _ c.loop.self.0.memory c.undo_set.new.self.0.memory _ _ _ (c.args.more - c.loop.counter) less c.in_err-undo_set.field-0.0 rest size (c.loop.invariant.step rest)
    (by_client told _ _ _ _ _ _ c.loop.invariant.area.client (c.in_err-undo_set.ensures.step told c.args.cursor (behind_set less c.args.number c.args.cursor rest))))

pub returns-in_err-undo_set-clause-writes : goal.returns-in_err-undo_set-clause-writes
returns-in_err-undo_set-clause-writes g c =
    let p = err_from_is_err_and c.from_residual.result c.from_residual.ensures.1 in
    rw (p.1, p.2) (writes_then ⊥ _ _ _ _ (λ f. f) c.loop.invariant.writes c.in_err-undo_set.ensures.writes)

pub returns-in_err-lsn-clause-step : goal.returns-in_err-lsn-clause-step
returns-in_err-lsn-clause-step g c =
    let told = (g.D.Disk.state c.args.self.now.1).nature.tells_contents in
    let before = c.loop.invariant in
    let undone = c.in_ok-undo_set.ensures in
    let read = c.in_err-lsn.ensures in
    let less = c.args.more - (c.loop.counter + 1) in
    let size : suc less ≡ c.args.more - c.loop.counter = omega (arith, c.loop-test.true) in
    let tells = ap (λ (n : Nature). n.tells_contents) (undone.writes.time.nature ∙ before.writes.time.nature) in
    let client = undone.area.client ∙ before.area.client in
    let p = err_from_is_err_and c.from_residual-in_err-lsn.result c.from_residual-in_err-lsn.ensures.1 in
    rw (p.1, p.2) (λ rest.
    went_nowhere told _ _ _ _ _ _ c.loop.self.0.memory c.undo_set.new.self.0.memory _ _ _ _ (c.args.more - c.loop.counter) less c.in_err-lsn.field-0.0 rest size (before.step rest)
    (by_client told _ _ _ _ _ _ before.area.client (undone.step told c.args.cursor (behind_set less c.args.number c.args.cursor rest)))
    (step_by _ _ _ _ _ _ _ _ _ tells client read.step) read.memory)

pub returns-in_err-lsn-clause-writes : goal.returns-in_err-lsn-clause-writes
returns-in_err-lsn-clause-writes g c =
    let p = err_from_is_err_and c.from_residual-in_err-lsn.result c.from_residual-in_err-lsn.ensures.1 in
    rw (p.1, p.2) (of_same _ _ c.in_err-lsn.field-0.0 (writes_then ⊥ _ _ _ _ (λ f. f)
    (then_ok _ _ _ c.in_ok-undo_set.field-0 c.loop.invariant.writes c.in_ok-undo_set.ensures.writes) c.in_err-lsn.ensures.writes))

pub returns-clause-step : goal.returns-clause-step
returns-clause-step g c =
    let told = (g.D.Disk.state c.args.self.now.1).nature.tells_contents in
    let none : c.args.more - c.loop.counter ≡ 0 = omega (arith, c.loop-test.false) in λ rest.
    last_undone told _ _ _ _ _ c.loop.self.0.memory c.undo_set-2.new.self.0.memory _ _ _ (c.args.more - c.loop.counter) c.undo_set-2.result rest none (c.loop.invariant.step rest)
    (by_client told _ _ _ _ _ _ c.loop.invariant.area.client (c.undo_set-2.ensures.step told c.args.cursor (λ (m : Memory). with_read_ended m c.args.cursor (rest m))))

pub returns-clause-writes : goal.returns-clause-writes
returns-clause-writes g c = writes_then ⊥ _ _ _ _ (λ f. f) c.loop.invariant.writes c.undo_set-2.ensures.writes

pub returns-in_err-undo_set-clause-damage : goal.returns-in_err-undo_set-clause-damage
returns-in_err-undo_set-clause-damage g c =
    let p = err_from_is_err_and c.from_residual.result c.from_residual.ensures.1 in
    rw (p.1, p.2) (λ tells container offset at is. c.in_err-undo_set.ensures.no_damage container offset at (handed_on _ _ is))

pub returns-in_err-lsn-clause-damage : goal.returns-in_err-lsn-clause-damage
returns-in_err-lsn-clause-damage g c =
    let p = err_from_is_err_and c.from_residual-in_err-lsn.result c.from_residual-in_err-lsn.ensures.1 in
    rw (p.1, p.2) (λ tells container offset at is.
    c.in_err-lsn.ensures.damage (tells_on (g.D.Disk.state c.args.self.now.1) (g.D.Disk.state c.undo_set.new.self.1)
    (c.in_ok-undo_set.ensures.writes.time.nature ∙ c.loop.invariant.writes.time.nature) tells) container offset at (handed_on _ _ is))

pub returns-clause-damage : goal.returns-clause-damage
returns-clause-damage g c = λ tells. c.undo_set-2.ensures.no_damage

pub returns-in_err-undo_set-clause-moments : goal.returns-in_err-undo_set-clause-moments
returns-in_err-undo_set-clause-moments g c =
    let told = (g.D.Disk.state c.args.self.now.1).nature.tells_contents in
    let before = c.loop.invariant in
    let less = c.args.more - (c.loop.counter + 1) in
    let size : suc less ≡ c.args.more - c.loop.counter = omega (arith, c.loop-test.true) in
    let tells = ap (λ (n : Nature). n.tells_contents) before.writes.time.nature in λ under rest.
    set_meanwhile under told _ _ _ _ c.loop.self.0.memory _ _ _ (c.args.more - c.loop.counter) less rest _ _ _ size before.writes.time.nature (before.step rest)
    (before.moments under rest)
    (meanwhile_by under _ told _ _ _ _ _ _ tells before.area.client (c.in_err-undo_set.ensures.moments under c.args.cursor (behind_set less c.args.number c.args.cursor rest)))

pub returns-in_err-lsn-clause-moments : goal.returns-in_err-lsn-clause-moments
returns-in_err-lsn-clause-moments g c =
    let told = (g.D.Disk.state c.args.self.now.1).nature.tells_contents in
    let before = c.loop.invariant in
    let undone = c.in_ok-undo_set.ensures in
    let read = c.in_err-lsn.ensures in
    let less = c.args.more - (c.loop.counter + 1) in
    let size : suc less ≡ c.args.more - c.loop.counter = omega (arith, c.loop-test.true) in
    let tells = ap (λ (n : Nature). n.tells_contents) before.writes.time.nature in
    let client = undone.area.client ∙ before.area.client in λ under rest.
    next_meanwhile under told _ _ _ _ _ c.loop.self.0.memory c.undo_set.new.self.0.memory _ _ _ (c.args.more - c.loop.counter) less rest _ _ _ _ size
    before.writes.time.nature undone.writes.time.nature undone.whole (before.step rest) (before.moments under rest)
    (by_client told _ _ _ _ _ _ before.area.client (undone.step told c.args.cursor (behind_set less c.args.number c.args.cursor rest)))
    (meanwhile_by under _ told _ _ _ _ _ _ tells before.area.client (undone.moments under c.args.cursor (behind_set less c.args.number c.args.cursor rest)))
    (by_client_call under _ _ _ _ _ _ client (read.moments under))

pub returns-clause-moments : goal.returns-clause-moments
returns-clause-moments g c =
    let told = (g.D.Disk.state c.args.self.now.1).nature.tells_contents in
    let before = c.loop.invariant in
    let none : c.args.more - c.loop.counter ≡ 0 = omega (arith, c.loop-test.false) in
    let tells = ap (λ (n : Nature). n.tells_contents) before.writes.time.nature in λ under rest.
    last_meanwhile under told _ _ _ _ c.loop.self.0.memory _ _ _ (c.args.more - c.loop.counter) rest _ _ _ none before.writes.time.nature (before.step rest)
    (before.moments under rest)
    (meanwhile_by under _ told _ _ _ _ _ _ tells before.area.client (c.undo_set-2.ensures.moments under c.args.cursor (λ (m : Memory). with_read_ended m c.args.cursor (rest m))))
