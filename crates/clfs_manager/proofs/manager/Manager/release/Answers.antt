use Rattle.clfs_manager.proofs.Words.{refl, rules, Area, area_at, with_less_held, change_first, is_area}
use Rattle.clfs_model.specs.declared.call.Call.TheVariants as calls
use Rattle.clfs_manager.proofs.AreasChange.{managed_answered}
use Rattle.clfs_manager.proofs.manager.Manager.release.Goals as goal

pub invariant_of-self : goal.invariant_of-self
invariant_of-self g c =
    let log = c.self.inside.log in
    let here : Area = area_at c.in_ok-place.place log.areas.areas in
    managed_answered (g.D.Disk.state c.self.inside.disk) log _ c.next-self-inside.result c.args.client (calls.Release c.args.area c.args.sectors)
    (change_first (is_area here.client here.number) (with_less_held c.args.sectors))
    c.calls_follow_laws.ensures (record { is_client = c.requires.client; arguments = tt }) c.if-self.false c.self.invariant
    (search rules)
    (rw c.in_ok-place.ensures.there refl) c.next-self-inside.ensures (c.spend.ensures.areas)
