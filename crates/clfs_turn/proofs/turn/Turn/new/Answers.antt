use Rattle.std.proofs.Common.{◌≡◌, Option, Some, List, [], ◌∷◌, ◌++◌, sym, ap, ◌∙◌, subst}
use Rattle.atomic_table.specs.Table.{opening}
use Rattle.clfs_turn.specs.declared.view.Roll.{Roll}
use Rattle.clfs_turn.specs.Rule.{KeepsTable, dealer}
use Rattle.clfs_turn.proofs.TableEnds.{opens}
use Rattle.clfs_turn.proofs.turn.Turn.new.Goals as goal

pub new-requires : goal.new-requires
new-requires g c =
    let v = g.V.Logged in
    let key : Roll g.row.V.Denot = record { first = c.of.result; clients = c.in-Ok.list } in
    let one : c.push_reserved.new.self.items ≡ Some c.args.value ∷ [] =
    c.push_reserved.ensures.items ∙ ap (λ z. z ++ Some c.args.value ∷ []) c.in-Ok-with_capacity-2.ensures.items in
    subst
    (λ (z : List (Option g.row.V.Denot)). KeepsTable v.entries v.client_of v.opening v.reached key (opening (0 ∷ 0 ∷ []) z (dealer v.opening key)))
    (sym one)
    (opens v.entries v.client_of v.opening v.reached key c.args.value c.of.ensures c.requires.empty (g.met.V.Logged.at_opening c.args.value c.requires.empty))
