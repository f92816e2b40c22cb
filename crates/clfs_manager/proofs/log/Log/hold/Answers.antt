use Rattle.clfs_manager.proofs.Words.{◌≤◌, ◌∙◌, ℕ, sym, subst, container_of}
use Rattle.clfs_manager.proofs.Holds.{hold_is}
use Rattle.clfs_manager.proofs.Numbers.{hold_within}
use Rattle.clfs_manager.proofs.log.Log.hold.Goals as goal

pub returns-clause-value : goal.returns-clause-value
returns-clause-value c =
    let holds = c.requires.sound.holds in
    hold_is c.args.self.now.state.value _ _ _ _ _ c.hold.ensures (c.records_are_as_their_heads.ensures.hold c.args.self.now.state.value) c.place-place.ensures.value (c.tail.ensures ∙ holds.archive) holds.streams holds.heads

pub returns-clause-container : goal.returns-clause-container
returns-clause-container c =
    subst (λ (n : ℕ). container_of n ≤ c.args.self.now.state.value.place.container) (sym (returns-clause-value c)) (hold_within c.args.self.now.state.value c.requires.sound.valid)
