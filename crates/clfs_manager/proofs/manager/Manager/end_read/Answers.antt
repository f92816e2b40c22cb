use Rattle.clfs_manager.proofs.Words.{ℕ, refl, ap, ◌∙◌, rules, Area, area_at, change_first, is_area}
use Rattle.clfs_model.specs.declared.call.Call.TheVariants as calls
use Rattle.clfs_model.specs.Reading.{without_cursor}
use Rattle.clfs_manager.proofs.AreasChange.{managed_answered}
use Rattle.clfs_manager.proofs.manager.Manager.end_read.Goals as goal

pub invariant_of-self : goal.invariant_of-self
invariant_of-self g c =
    let log = c.self.inside.log in
    let here : Area = area_at c.in_ok-place.place log.areas.areas in
    managed_answered (g.D.Disk.state c.self.inside.disk) log _ c.next-self-inside.result c.args.client (calls.EndRead c.args.area c.args.cursor)
    (change_first (is_area c.args.client c.args.area) (without_cursor c.args.cursor))
    c.calls_follow_laws.ensures (record { is_client = c.requires.client; arguments = tt }) c.if-self.false c.self.invariant
    (search rules)
    refl c.next-self-inside.ensures (c.end_cursor.ensures.areas
    ∙ ap (λ (n : ℕ). change_first (is_area n here.number) (without_cursor c.args.cursor) log.areas.areas) c.in_ok-place.ensures.client
    ∙ ap (λ (n : ℕ). change_first (is_area c.args.client n) (without_cursor c.args.cursor) log.areas.areas) c.in_ok-place.ensures.number)
