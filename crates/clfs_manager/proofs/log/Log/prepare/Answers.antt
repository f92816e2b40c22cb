use Rattle.clfs_manager.proofs.Words.{grown, ◌≡◌, ◌∙◌, false, refl, ap, subst, sym, IsErrOf, State, grows}
use Rattle.clfs_manager.proofs.Crashes.{crash_still, survives_as}
use Rattle.clfs_physical.specs.declared.refusal.PhysicalRefusal.TheVariants as physical
use Rattle.clfs_manager.proofs.Intact.{writes_as}
use Rattle.clfs_manager.proofs.RestartCall.{intact_same, left_broken, left_intact}
use Rattle.clfs_manager.proofs.KeptFiles.{counts_behind, counts_none, not_faulted}
use Rattle.clfs_manager.proofs.log.Log.prepare.Goals as goal

pub grow-requires-clause-intact : goal.grow-requires-clause-intact
grow-requires-clause-intact g c = intact_same (g.D.Disk.state c.args.disk.now) c.args.self.now c.take_memory.new.self c.take_memory.ensures.same c.requires.intact

pub returns-in_err-take_memory-clause-left : goal.returns-in_err-take_memory-clause-left
returns-in_err-take_memory-clause-left g c = left_intact (g.D.Disk.state c.args.disk.now) c.take_memory.new.self
    (intact_same (g.D.Disk.state c.args.disk.now) c.args.self.now c.take_memory.new.self c.take_memory.ensures.same c.requires.intact)

pub returns-in-Ok-clause-state : goal.returns-in-Ok-clause-state
returns-in-Ok-clause-state g c = c.in-Ok.ensures.change.state ∙ ap (λ t. grown t.value c.args.need) c.take_memory.ensures.same.state

pub returns-in-Ok-clause-intact : goal.returns-in-Ok-clause-intact
returns-in-Ok-clause-intact g c = c.in-Ok.ensures.change.intact

pub returns-in-Ok-clause-areas : goal.returns-in-Ok-clause-areas
returns-in-Ok-clause-areas g c = c.in-Ok.ensures.change.same.areas ∙ c.take_memory.ensures.same.areas

pub returns-in-Ok-clause-left : goal.returns-in-Ok-clause-left
returns-in-Ok-clause-left g c = left_intact (g.D.Disk.state c.grow.new.disk) c.grow.new.self c.in-Ok.ensures.change.intact

pub returns-in-Ok-clause-quiet : goal.returns-in-Ok-clause-quiet
returns-in-Ok-clause-quiet g c = λ none. (λ fault. cc fault, (c.grow.ensures.quiet (subst (λ t. grows t.value c.args.need ≡ false) (sym c.take_memory.ensures.same.state) none)).1.1)

pub returns-in-Ok-clause-writes : goal.returns-in-Ok-clause-writes
returns-in-Ok-clause-writes g c = writes_as (IsErrOf c.grow.result physical.DiskFault) _ _ _ (λ f. cc) (λ f. cc) c.grow.ensures.change.writes

pub returns-in-Err-NoMemory-clause-left : goal.returns-in-Err-NoMemory-clause-left
returns-in-Err-NoMemory-clause-left g c =
    let done = rw c.in-Err-NoMemory.field-0-is at c.in-Err-NoMemory.ensures in
    left_intact (g.D.Disk.state c.grow.new.disk) c.grow.new.self (done.change.kept refl)

pub returns-in-Err-NoMemory-clause-writes : goal.returns-in-Err-NoMemory-clause-writes
returns-in-Err-NoMemory-clause-writes g c = writes_as (IsErrOf c.grow.result physical.DiskFault) _ _ _ (λ f. cc) (λ f. cc) c.grow.ensures.change.writes

pub returns-in-Err-DiskFault-clause-left : goal.returns-in-Err-DiskFault-clause-left
returns-in-Err-DiskFault-clause-left g c =
    let done = rw c.in-Err-DiskFault.field-0-is at c.in-Err-DiskFault.ensures in
    let broken = done.change.broken refl in
    left_broken (g.D.Disk.state c.grow.new.disk) c.grow.new.self (ap (λ (s : State). s.broken) broken.state) broken.broken

pub returns-in-Err-DiskFault-clause-writes : goal.returns-in-Err-DiskFault-clause-writes
returns-in-Err-DiskFault-clause-writes g c = writes_as (IsErrOf c.grow.result physical.DiskFault) _ _ _ (λ f. refl) (λ f. cc) c.grow.ensures.change.writes

pub returns-in_err-take_memory-clause-moments : goal.returns-in_err-take_memory-clause-moments
returns-in_err-take_memory-clause-moments g c = λ asked s before grows. crash_still c.logs_are_copies_and_blocks.ensures.stands c.logs_are_copies_and_blocks.ensures.by_file
    (g.D.Disk.state c.args.disk.now) c.args.self.now c.requires.intact asked s before

pub returns-in-Ok-clause-moments : goal.returns-in-Ok-clause-moments
returns-in-Ok-clause-moments g c = λ asked s before grows.
    let same = ap (λ t. t.value) c.take_memory.ensures.same.state in
    c.grow.ensures.change.moments asked s (survives_as asked s _ c.args.self.now.state.value same before)
    (survives_as asked s _ (grown c.args.self.now.state.value c.args.need) (ap (λ t. grown t c.args.need) same) grows)

pub returns-in-Err-NoMemory-clause-moments : goal.returns-in-Err-NoMemory-clause-moments
returns-in-Err-NoMemory-clause-moments g c = λ asked s before grows.
    let same = ap (λ t. t.value) c.take_memory.ensures.same.state in
    c.grow.ensures.change.moments asked s (survives_as asked s _ c.args.self.now.state.value same before)
    (survives_as asked s _ (grown c.args.self.now.state.value c.args.need) (ap (λ t. grown t c.args.need) same) grows)

pub returns-in-Err-DiskFault-clause-moments : goal.returns-in-Err-DiskFault-clause-moments
returns-in-Err-DiskFault-clause-moments g c = λ asked s before grows.
    let same = ap (λ t. t.value) c.take_memory.ensures.same.state in
    c.grow.ensures.change.moments asked s (survives_as asked s _ c.args.self.now.state.value same before)
    (survives_as asked s _ (grown c.args.self.now.state.value c.args.need) (ap (λ t. grown t c.args.need) same) grows)

pub returns-in-Ok-clause-memory : goal.returns-in-Ok-clause-memory
returns-in-Ok-clause-memory g c =
    let taken = c.in_ok-take_memory.ensures.memory in
    record { heads = rw c.in-Ok.ensures.change.same.tables taken.heads; ends = rw c.in-Ok.ensures.change.same.archive taken.ends }

pub returns-in_err-take_memory-clause-no_memory : goal.returns-in_err-take_memory-clause-no_memory
returns-in_err-take_memory-clause-no_memory g c = λ wanting asked s before. crash_still c.logs_are_copies_and_blocks.ensures.stands
    c.logs_are_copies_and_blocks.ensures.by_file (g.D.Disk.state c.args.disk.now) c.args.self.now c.requires.intact asked s before

pub returns-in-Err-NoMemory-clause-no_memory : goal.returns-in-Err-NoMemory-clause-no_memory
returns-in-Err-NoMemory-clause-no_memory g c = λ wanting asked s before.
    let done = rw c.in-Err-NoMemory.field-0-is at c.in-Err-NoMemory.ensures in
    done.change.old_size refl asked s (survives_as asked s _ c.args.self.now.state.value (ap (λ t. t.value) c.take_memory.ensures.same.state) before)

pub returns-in_err-take_memory-clause-files : goal.returns-in_err-take_memory-clause-files
returns-in_err-take_memory-clause-files g c = λ fine.
    let disk = g.D.Disk.state c.args.disk.now in
    let same = c.take_memory.ensures.same in
    counts_none disk disk c.args.self.now c.take_memory.new.self (same.broken ∙ c.requires.intact.sound.unbroken) same.physical

pub returns-in-Ok-clause-files : goal.returns-in-Ok-clause-files
returns-in-Ok-clause-files g c = λ fine.
    counts_behind _ _ c.args.self.now c.take_memory.new.self c.grow.new.self c.take_memory.ensures.same.physical (c.in-Ok.ensures.change.files (λ f. cc f))

pub returns-in-Err-NoMemory-clause-files : goal.returns-in-Err-NoMemory-clause-files
returns-in-Err-NoMemory-clause-files g c = λ fine.
    let done = rw c.in-Err-NoMemory.field-0-is at c.in-Err-NoMemory.ensures in
    counts_behind _ _ c.args.self.now c.take_memory.new.self c.grow.new.self c.take_memory.ensures.same.physical (done.change.files not_faulted)

pub returns-in-Err-DiskFault-clause-files : goal.returns-in-Err-DiskFault-clause-files
returns-in-Err-DiskFault-clause-files g c = λ fine. absurd (fine refl)
