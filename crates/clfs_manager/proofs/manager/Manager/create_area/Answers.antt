use Rattle.clfs_manager.proofs.Words.{refl, sym, ◌∙◌, List, ◌++◌, ◌∷◌, [], Area}
use Rattle.clfs_model.specs.declared.call.Call.TheVariants as calls
use Rattle.clfs_model.specs.Answers.{new_area}
use Rattle.clfs_manager.proofs.AreasChange.{managed_answered}
use Rattle.clfs_manager.proofs.manager.Manager.create_area.Goals as goal

pub invariant_of-self-2 : goal.invariant_of-self-2
invariant_of-self-2 g c =
    let log = c.self.inside.log in
    managed_answered (g.D.Disk.state c.self.inside.disk) log _ c.next-self-inside.result c.args.client (calls.CreateArea c.args.stream c.args.largest c.args.reads)
    (λ (areas : List Area). areas ++ new_area log.state.value c.args.client c.args.stream c.args.largest c.args.reads ∷ [])
    c.calls_follow_laws.ensures (record { is_client = c.requires.client; arguments = c.requires.reads }) c.if-self.false c.self.invariant
    (sym c.create_refusal.ensures ∙ c.in_default.is)
    refl c.next-self-inside.ensures (c.in_ok-number.ensures.areas log.state.value (sym (c.self.invariant.whole c.if-self.false).memory.areas))
