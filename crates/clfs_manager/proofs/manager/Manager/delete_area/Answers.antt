use Rattle.clfs_manager.proofs.Words.{refl, None, filter, not, Area, is_area}
use Rattle.clfs_model.specs.declared.call.Call.TheVariants as calls
use Rattle.clfs_manager.proofs.AreasChange.{managed_answered}
use Rattle.clfs_manager.proofs.manager.Manager.delete_area.Goals as goal

pub invariant_of-self : goal.invariant_of-self
invariant_of-self g c =
    let log = c.self.inside.log in
    managed_answered (g.D.Disk.state c.self.inside.disk) log _ c.next-self-inside.result c.args.client (calls.DeleteArea c.args.area)
    (filter (λ (area : Area). not (is_area c.args.client c.args.area area)))
    c.calls_follow_laws.ensures (record { is_client = c.requires.client; arguments = tt }) c.if-self.false c.self.invariant
    (c.in_ok-area_place.ensures.found (λ _. None))
    refl c.next-self-inside.ensures (c.delete.ensures.areas)
