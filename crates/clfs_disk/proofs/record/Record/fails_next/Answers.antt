use Rattle.std.proofs.Common.{ℕ, ◌+◌, List, Contains, eqb, subst}
use Rattle.std.specs.Bool.{Decides}
use Rattle.std.proofs.lemmas.Bool.Decides.{Decides-eqb}
use Rattle.std.proofs.lemmas.List.Elements.{contains_decides, Decides-contains}
use Rattle.clfs_disk.proofs.record.Record.fails_next.Goals as goal

pub returns : goal.returns
returns c =
    let listed = c.deref.result.now in
    let number = c.len.result + 1 in
    let decided : Decides c.contains.result (Contains listed number) = Decides-contains listed number c.contains.result
    (contains_decides eqb Decides-eqb listed number c.contains.result c.contains.ensures.cases) in
    subst (λ (n : ℕ). Decides c.contains.result (Contains c.args.self.now.failing.items (n + 1))) c.len.ensures
    (subst (λ (l : List ℕ). Decides c.contains.result (Contains l number)) c.deref.ensures.value decided)
