use Rattle.clfs_manager.proofs.Words.{sym, ◌∙◌, refl, flushed, LogEntry}
use Rattle.std.proofs.lemmas.Bool.{ltb-true}
use Rattle.clfs_model.specs.declared.refusal.Refusal.TheVariants as refusals
use Rattle.clfs_manager.proofs.Gotten.{gets_no_memory, gets_waiting, gets_stored, gets_unread, left_open}
use Rattle.clfs_manager.proofs.OwnRefusals.{error_of}
use Rattle.clfs_manager.proofs.fetching.fetch.Goals as goal

pub returns-in_err-waiting_entry-clause-gets : goal.returns-in_err-waiting_entry-clause-gets
returns-in_err-waiting_entry-clause-gets g c = rw (error_of c.from_residual.result refusals.NoMemory c.from_residual.ensures.1)
    (gets_no_memory g.D.Disk.state c.args.log.now.state.value c.args.head (λ (r : LogEntry). r) c.args.log.now c.args.disk.now refl
    (left_open (g.D.Disk.state c.args.disk.now) c.args.log.now c.requires.sound c.requires.open))

pub returns-then-not-is_stable-clause-gets : goal.returns-then-not-is_stable-clause-gets
returns-then-not-is_stable-clause-gets g c =
    gets_waiting g.D.Disk.state c.args.log.now.state.value c.args.head c.in_ok-waiting_entry.field-0 c.args.log.now c.args.disk.now
    c.in_ok-waiting_entry.ensures.exact c.in_ok-waiting_entry.ensures.small
    (left_open (g.D.Disk.state c.args.disk.now) c.args.log.now c.requires.sound c.requires.open)

pub returns-in-Ok-clause-gets : goal.returns-in-Ok-clause-gets
returns-in-Ok-clause-gets g c = gets_stored g.D.Disk.state c.args.head c.args.log.now c.stored_entry.new.log c.args.disk.now c.stored_entry.new.disk
    c.requires.there c.requires.sound c.requires.open c.in-Ok.entry
    (ltb-true c.args.head.lsn (flushed c.args.log.now.state.value) (sym c.is_stable.ensures ∙ c.if-not-is_stable.false))
    c.in-Ok.ensures.reads c.in-Ok.ensures.exact

pub returns-in-Err-clause-gets : goal.returns-in-Err-clause-gets
returns-in-Err-clause-gets g c = gets_unread g.D.Disk.state c.args.head c.args.log.now c.stored_entry.new.log c.args.disk.now c.stored_entry.new.disk
    c.requires.there c.requires.sound c.requires.open c.in-Err.refusal c.refuse.result c.refuse.new.log c.in-Err.ensures.reads c.in-Err.ensures.exact
    c.refuse.ensures.refusal c.refuse.ensures.state c.refuse.ensures.memory c.refuse.ensures.broken
