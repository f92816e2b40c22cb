use Rattle.std.proofs.Common.{◌≡◌, ◌∙◌, sym, ap}
use Rattle.clfs_model.specs.declared.state.State.{State}
use Rattle.clfs_model.specs.Space.{free}
use Rattle.clfs_room.proofs.Grown.{stays_by, grows_by}
use Rattle.clfs_room.proofs.space.Space.room_for.Goals as goal

pub returns-then-not-self-clause-containers : goal.returns-then-not-self-clause-containers
returns-then-not-self-clause-containers c =
    let s : State = c.args.self.now in
    let of_automatic : c.self.inside.policies.automatic ≡ s.automatic = c.self.invariant.automatic ∙ ap (λ (t : State). t.automatic) c.self.view_is in
    c.containers-have.ensures.value ∙ sym (ap (λ (t : State). t.containers)
    (stays_by s c.args.need _ _ _ c.free-free.ensures.value c.reserved.ensures.value of_automatic c.then-not-self.either))

pub returns-then-not-self-clause-free : goal.returns-then-not-self-clause-free
returns-then-not-self-clause-free c =
    let s : State = c.args.self.now in
    let of_automatic : c.self.inside.policies.automatic ≡ s.automatic = c.self.invariant.automatic ∙ ap (λ (t : State). t.automatic) c.self.view_is in
    c.free-free.ensures.value ∙ sym (ap (λ (t : State). free t)
    (stays_by s c.args.need _ _ _ c.free-free.ensures.value c.reserved.ensures.value of_automatic c.then-not-self.either))

pub returns-clause-containers : goal.returns-clause-containers
returns-clause-containers c =
    let s : State = c.args.self.now in
    let of_automatic : c.self.inside.policies.automatic ≡ s.automatic = c.self.invariant.automatic ∙ ap (λ (t : State). t.automatic) c.self.view_is in
    sym (ap (λ (t : State). t.containers) (grows_by s c.args.need _ _ _ _ c.free-free.ensures.value c.reserved.ensures.value of_automatic
    c.if-not-self.false c.if-wanted-free.false c.grown_containers-containers.ensures.value))

pub returns-clause-free : goal.returns-clause-free
returns-clause-free c =
    let s : State = c.args.self.now in
    let of_automatic : c.self.inside.policies.automatic ≡ s.automatic = c.self.invariant.automatic ∙ ap (λ (t : State). t.automatic) c.self.view_is in
    c.free_in.ensures ∙ sym (ap (λ (t : State). free t) (grows_by s c.args.need _ _ _ _ c.free-free.ensures.value c.reserved.ensures.value of_automatic
    c.if-not-self.false c.if-wanted-free.false c.grown_containers-containers.ensures.value))
