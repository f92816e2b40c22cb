use Rattle.clfs_manager.proofs.Words.{ℕ, ◌<◌, refl, sym, ap, subst, ◌∙◌, arith, false, Fine, State, with_containers, Policies, ResizesLog}
use Rattle.clfs_model.specs.declared.call.Call.TheVariants as calls
use Rattle.clfs_model.specs.declared.reply.Reply.TheVariants as replies
use Rattle.clfs_manager.proofs.Reserved.{grown_is_sized, not_growing, size_allowed}
use Rattle.clfs_manager.proofs.Sized.{resizes_nothing}
use Rattle.clfs_manager.proofs.log.Log.grow.Goals as goal

pub resize-requires-clause-valid : goal.resize-requires-clause-valid
resize-requires-clause-valid g c =
    let s : State = c.args.self.now.state.value in
    let n = c.room_for-room.result.containers in
    let sound = c.requires.intact.sound in
    let room = rw c.space.ensures at c.room_for-room.ensures in
    let more : s.containers < n = omega (arith, room.more, c.if-room-containers.false, c.containers.ensures.value) in
    let step = c.ways_of_a_step.ensures.answered false s 1 (calls.SetSize n) (replies.Containers n) (with_containers n s) sound.whole
    (size_allowed s n more (room.limit more)) refl refl in
    c.steps_keep_a_state_valid.ensures.step false s 1 (calls.SetSize n) Fine (replies.Containers n) (with_containers n s) sound.valid step

pub returns-then-not-self-clause-change : goal.returns-then-not-self-clause-change
returns-then-not-self-clause-change g c =
    let laws = c.logs_are_copies_and_blocks.ensures in
    resizes_nothing tt laws.stands laws.by_file (g.D.Disk.state c.args.disk.now) c.args.self.now _ c.requires.intact
    (sym (not_growing c.args.self.now.state.value c.args.need
    (sym (ap (λ (p : Policies). p.automatic) c.requires.intact.sound.holds.policies) ∙ c.if-not-self.true)))

pub returns-then-room-containers-clause-change : goal.returns-then-room-containers-clause-change
returns-then-room-containers-clause-change g c =
    let s : State = c.args.self.now.state.value in
    let laws = c.logs_are_copies_and_blocks.ensures in
    resizes_nothing tt laws.stands laws.by_file (g.D.Disk.state c.args.disk.now) c.args.self.now _ c.requires.intact
    (ap (λ (n : ℕ). with_containers n s) (sym (c.if-room-containers.true ∙ c.containers.ensures.value))
    ∙ grown_is_sized s c.args.need c.room_for-room.result.containers (rw c.space.ensures at c.room_for-room.ensures).containers)

pub returns-clause-change : goal.returns-clause-change
returns-clause-change g c =
    let s : State = c.args.self.now.state.value in
    subst (λ (t : State). ResizesLog c.resize.result t (g.D.Disk.state c.args.disk.now) (g.D.Disk.state c.resize.new.disk) c.args.self.now c.resize.new.self)
    (grown_is_sized s c.args.need c.room_for-room.result.containers (rw c.space.ensures at c.room_for-room.ensures).containers) c.resize.ensures.change
