use Rattle.clfs_manager.proofs.Words.{◌∙◌, Fine}
use Rattle.clfs_manager.proofs.FilesHold.{files_hold, reopened, reopens_broken}
use Rattle.clfs_manager.proofs.Intact.{intact_managed}
use Rattle.clfs_manager.proofs.OpenedAnew.{managed_refused, refused_place, refused_reopens, refused_reads, answered_reads}
use Rattle.clfs_manager.proofs.ReadSteps.{broken_in}
use Rattle.clfs_manager.proofs.manager.Manager.reopen.Goals as goal

pub returns-then-self-clause-step : goal.returns-then-self-clause-step
returns-then-self-clause-step g c = reopens_broken _ c.args.self.now.0 Fine
    (broken_in (c.self.inside.log.state.value, c.self.inside.disk) c.args.self.now c.self.view_is (c.self.invariant.broken ∙ c.if-self.true))

pub flushed-stable-requires : goal.flushed-stable-requires
flushed-stable-requires g c = record { sound = (intact_managed _ c.in-Ok.log c.in-Ok.ensures.managed c.in-Ok.ensures.unbroken).sound }

pub returns-in-Ok-clause-step : goal.returns-in-Ok-clause-step
returns-in-Ok-clause-step g c =
    let old = g.D.Disk.state c.self.inside.disk in
    let log = c.self.inside.log in
    let s = log.state.value in
    let t = c.in-Ok.log.state.value in
    let managed = c.self.invariant in
    let whole = managed.broken ∙ c.if-self.false in
    let opened = managed.whole c.if-self.false in
    let read = c.in-Ok.ensures in
    rw (← c.self.view_is) (rw c.flushed-stable.ensures (reopened c.opening_anew_comes_to_the_cut.ensures.step c.files_have_one_meaning.ensures.state old.nature.tells_contents s t old.files
    managed.valid managed.storable whole read.managed.valid read.managed.storable read.stable (read.buffers ∙ c.buffers-write_buffers.ensures ∙ opened.memory.buffers)
    (λ tells. files_hold c.logs_are_copies_and_blocks.ensures.stands c.logs_are_copies_and_blocks.ensures.by_file c.opening_anew_comes_to_the_cut.ensures.step
    c.the_holds_container_never_falls.ensures.reopening s log.physical opened.blocks old.files managed.valid managed.storable whole opened.stored (opened.files tells))
    (λ tells. read.loaded tells)))

pub returns-in-Ok-clause-reads : goal.returns-in-Ok-clause-reads
returns-in-Ok-clause-reads g c = rw (← c.self.view_is) (answered_reads c.flushed-stable.result c.in-Ok.log (g.D.Disk.state c.self.inside.disk) (g.D.Disk.state c.read_log.new.disk)
    c.in-Ok.ensures.same c.in-Ok.ensures.time c.in-Ok.ensures.steady)

pub invariant_of-self-in-Err : goal.invariant_of-self-in-Err
invariant_of-self-in-Err g c = managed_refused c.in-Err.refusal c.refuse.result (g.D.Disk.state c.self.inside.disk) (g.D.Disk.state c.read_log.new.disk) c.self.inside.log c.refuse.new.log
    c.steps_keep_a_state_valid.ensures.reopening c.steps_keep_a_state_storable.ensures.reopening c.self.invariant c.if-self.false c.in-Err.ensures.same c.in-Err.ensures.time
    c.refuse.ensures.refusal c.refuse.ensures.state c.refuse.ensures.memory c.refuse.ensures.broken

pub returns-in-Err-clause-step : goal.returns-in-Err-clause-step
returns-in-Err-clause-step g c =
    let s = c.self.inside.log.state.value in
    let whole = c.self.invariant.broken ∙ c.if-self.false in
    rw (← c.self.view_is)
    (rw c.refuse.ensures.refusal (refused_reopens c.in-Err.refusal _ s c.refuse.new.log.state.value whole (rw c.refuse.ensures.refusal at c.refuse.ensures.state)))

pub returns-in-Err-clause-reads : goal.returns-in-Err-clause-reads
returns-in-Err-clause-reads g c =
    let old = g.D.Disk.state c.self.inside.disk in
    let log = c.self.inside.log in
    let s = log.state.value in
    let managed = c.self.invariant in
    let whole = managed.broken ∙ c.if-self.false in
    let opened = managed.whole c.if-self.false in
    let read = c.in-Err.ensures in
    rw (← c.self.view_is) (rw c.refuse.ensures.refusal (refused_reads c.files_have_one_meaning.ensures.no_damage c.files_have_one_meaning.ensures.no_base c.in-Err.refusal old
    (g.D.Disk.state c.read_log.new.disk) s
    (λ tells. files_hold c.logs_are_copies_and_blocks.ensures.stands c.logs_are_copies_and_blocks.ensures.by_file c.opening_anew_comes_to_the_cut.ensures.step
    c.the_holds_container_never_falls.ensures.reopening s log.physical opened.blocks old.files managed.valid managed.storable whole opened.stored (opened.files tells))
    read.refused read.same read.time read.cause read.steady))

pub returns-in-Err-clause-place : goal.returns-in-Err-clause-place
returns-in-Err-clause-place g c = rw c.refuse.ensures.refusal (refused_place c.in-Err.refusal c.in-Err.ensures.place)

pub returns-in-Err-clause-moments : goal.returns-in-Err-clause-moments
returns-in-Err-clause-moments g c = λ client.
    c.stored.ensures.survives_opening client c.read_log.new.disk (rw (← c.self.view_is) c.in-Err.ensures.time)

pub returns-in-Ok-clause-moments : goal.returns-in-Ok-clause-moments
returns-in-Ok-clause-moments g c = λ client.
    c.stored.ensures.survives_opening client c.read_log.new.disk (rw (← c.self.view_is) c.in-Ok.ensures.time)
