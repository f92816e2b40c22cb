use Rattle.clfs_restore.proofs.Words.{◌≡◌, Some, None, true, ap, sym, subst, ◌∙◌, State, flushed, tail_refusal, with_broken, WritesDisk}
use Rattle.std.specs.Prelude.{OnOk, IfErr, IsErrOf}
use Rattle.clfs_model.specs.declared.call.Call.TheVariants as calls
use Rattle.clfs_model.specs.declared.refusal.Refusal.TheVariants as refusals
use Rattle.clfs_model.specs.Run.{asks}
use Rattle.clfs_manager.specs.Crashes.{CrashSurvives}
use Rattle.clfs_restore.specs.Archiving.{all_archived}
use Rattle.clfs_restore.proofs.Moved.{was_moved, was_told, was_fault, highest_is_flushed, writes_as}
use Rattle.clfs_restore.proofs.moving.move_tail.Goals as goal

pub move_to-requires-clause-unbroken : goal.move_to-requires-clause-unbroken
move_to-requires-clause-unbroken g c =
    let s = c.args.manager.now.0 in
    let told = was_told s c.set_archive_tail.new.self.0 _ c.in-Err.refusal c.in-Some.lsn c.requires.unbroken c.requires.on ((c.in-Err.ensures.call 0).step true) c.in-Some.ensures in
    ap (λ (u : State). u.broken) told.0 ∙ c.requires.unbroken

pub move_to-requires-clause-on : goal.move_to-requires-clause-on
move_to-requires-clause-on g c none =
    let s = c.args.manager.now.0 in
    let told = was_told s c.set_archive_tail.new.self.0 _ c.in-Err.refusal c.in-Some.lsn c.requires.unbroken c.requires.on ((c.in-Err.ensures.call 0).step true) c.in-Some.ensures in
    c.requires.on (ap (λ (u : State). u.archive) (sym told.0) ∙ none)

pub move_to-requires-clause-stable : goal.move_to-requires-clause-stable
move_to-requires-clause-stable g c =
    let s = c.args.manager.now.0 in
    let told = was_told s c.set_archive_tail.new.self.0 _ c.in-Err.refusal c.in-Some.lsn c.requires.unbroken c.requires.on ((c.in-Err.ensures.call 0).step true) c.in-Some.ensures in
    told.1.0 ∙ ap flushed (sym told.0)

pub returns-in-Ok-clause-moved : goal.returns-in-Ok-clause-moved
returns-in-Ok-clause-moved g c =
    let s = c.args.manager.now.0 in
    let moved = was_moved s c.set_archive_tail.new.self.0 _ c.requires.unbroken c.in-Ok.field-0 ((c.in-Ok.ensures.call 0).step true) in
    let few = c.numbers_fit_their_types.ensures.flushed s c.stored.ensures.valid c.stored.ensures.storable in
    let stable = c.of_number.ensures ∙ highest_is_flushed s c.requires.on few (subst (λ n. tail_refusal s n ≡ None) c.of_number.ensures moved.0) in
    moved.1 ∙ ap (λ n. record s { archive = Some n }) stable

pub returns-in-Ok-clause-writes : goal.returns-in-Ok-clause-writes
returns-in-Ok-clause-writes g c = writes_as _ _ _ _ (λ e. cc e) (λ e. cc e) (c.in-Ok.ensures.call 0).writes

pub returns-in-Ok-clause-moments : goal.returns-in-Ok-clause-moments
returns-in-Ok-clause-moments g c client =
    let s = c.args.manager.now.0 in
    let moved = was_moved s c.set_archive_tail.new.self.0 _ c.requires.unbroken c.in-Ok.field-0 ((c.in-Ok.ensures.call 0).step true) in
    let few = c.numbers_fit_their_types.ensures.flushed s c.stored.ensures.valid c.stored.ensures.storable in
    let stable = c.of_number.ensures ∙ highest_is_flushed s c.requires.on few (subst (λ n. tail_refusal s n ≡ None) c.of_number.ensures moved.0) in
    subst (λ n. CrashSurvives (asks client (calls.SetArchiveTail n)) s (g.D.Disk.state c.args.manager.now.1) (g.D.Disk.state c.set_archive_tail.new.self.1))
    stable ((c.set_archive_tail.ensures.call client).moments)

pub returns-in-Some-clause-moved : goal.returns-in-Some-clause-moved
returns-in-Some-clause-moved g c =
    let s = c.args.manager.now.0 in
    let told = was_told s c.set_archive_tail.new.self.0 _ c.in-Err.refusal c.in-Some.lsn c.requires.unbroken c.requires.on ((c.in-Err.ensures.call 0).step true) c.in-Some.ensures in
    subst (λ (u : State). OnOk c.move_to.result (c.move_to.new.manager.0 ≡ all_archived u)) told.0 c.move_to.ensures.moved

pub returns-in-Some-clause-refused : goal.returns-in-Some-clause-refused
returns-in-Some-clause-refused g c =
    let s = c.args.manager.now.0 in
    let told = was_told s c.set_archive_tail.new.self.0 _ c.in-Err.refusal c.in-Some.lsn c.requires.unbroken c.requires.on ((c.in-Err.ensures.call 0).step true) c.in-Some.ensures in
    subst (λ (u : State). IfErr c.move_to.result (λ refusal. (refusal ≡ refusals.DiskFault) × (c.move_to.new.manager.0 ≡ with_broken u))) told.0
    c.move_to.ensures.refused

pub returns-in-Some-clause-writes : goal.returns-in-Some-clause-writes
returns-in-Some-clause-writes g c =
    let s = c.args.manager.now.0 in
    let told = was_told s c.set_archive_tail.new.self.0 _ c.in-Err.refusal c.in-Some.lsn c.requires.unbroken c.requires.on ((c.in-Err.ensures.call 0).step true) c.in-Some.ensures in
    let still = (c.in-Err.ensures.call 0).refused told.1.1 in
    subst (λ d. WritesDisk (IsErrOf c.move_to.result refusals.DiskFault) (g.D.Disk.state d) (g.D.Disk.state c.move_to.new.manager.1)) still c.move_to.ensures.writes

pub returns-in-Some-clause-moments : goal.returns-in-Some-clause-moments
returns-in-Some-clause-moments g c client =
    let s = c.args.manager.now.0 in
    let told = was_told s c.set_archive_tail.new.self.0 _ c.in-Err.refusal c.in-Some.lsn c.requires.unbroken c.requires.on ((c.in-Err.ensures.call 0).step true) c.in-Some.ensures in
    let still = (c.in-Err.ensures.call 0).refused told.1.1 in
    let moments = subst (λ (u : State). CrashSurvives (asks client (calls.SetArchiveTail (flushed u))) u (g.D.Disk.state c.set_archive_tail.new.self.1)
    (g.D.Disk.state c.move_to.new.manager.1)) told.0 (c.move_to.ensures.moments client) in
    subst (λ d. CrashSurvives (asks client (calls.SetArchiveTail (flushed s))) s (g.D.Disk.state d) (g.D.Disk.state c.move_to.new.manager.1)) still moments

pub returns-in-None-clause-refused : goal.returns-in-None-clause-refused
returns-in-None-clause-refused g c =
    let s = c.args.manager.now.0 in
    (was_fault s c.set_archive_tail.new.self.0 _ c.in-Err.refusal c.requires.unbroken c.requires.on ((c.in-Err.ensures.call 0).step true) c.in-None.ensures).1

pub returns-in-None-clause-writes : goal.returns-in-None-clause-writes
returns-in-None-clause-writes g c = writes_as _ _ _ _ (λ e. cc e) (λ e. cc e) (c.in-Err.ensures.call 0).writes

pub returns-in-None-clause-moments : goal.returns-in-None-clause-moments
returns-in-None-clause-moments g c client =
    let s = c.args.manager.now.0 in
    let fault = was_fault s c.set_archive_tail.new.self.0 _ c.in-Err.refusal c.requires.unbroken c.requires.on ((c.in-Err.ensures.call 0).step true) c.in-None.ensures in
    let few = c.numbers_fit_their_types.ensures.flushed s c.stored.ensures.valid c.stored.ensures.storable in
    let stable = c.of_number.ensures ∙ highest_is_flushed s c.requires.on few (subst (λ n. tail_refusal s n ≡ None) c.of_number.ensures fault.0) in
    subst (λ n. CrashSurvives (asks client (calls.SetArchiveTail n)) s (g.D.Disk.state c.args.manager.now.1) (g.D.Disk.state c.set_archive_tail.new.self.1))
    stable ((c.set_archive_tail.ensures.call client).moments)
