use Rattle.clfs_cells.proofs.Words.{◌∙◌, ap, List, take, memory_of, transaction_of, Memory, Transaction, is_numbered}
use Rattle.clfs_cells.specs.declared.begun.Transaction.{Transaction as Code}
use Rattle.clfs_cells.proofs.OpenOnes.{replaced_at, replaced_nowhere, same_place}
use Rattle.clfs_cells.proofs.memory.Memory.replace.Goals as goal

pub returns-in-Some : goal.returns-in-Some
returns-in-Some c =
    let p = is_numbered c.args.next.number in
    let same = c.open_of-open.ensures.transactions ∙ ap (λ (l : List Code). take c.self.inside.count l) c.as_slice.ensures.value in
    rw (← c.self.view_is)
    (ap (λ (l : List Transaction). let m : Memory = record (memory_of c.self.inside) { transactions = l } in m)
    (replaced_at p c.self.inside.transactions.items c.self.inside.count c.in-Some.place c.place_of.result c.args.next
    (same_place p c.open_of-open.result.now (take c.self.inside.count c.self.inside.transactions.items) c.place_of.result c.place_of.ensures same) c.in-Some.is))

pub returns-in_default : goal.returns-in_default
returns-in_default c =
    let p = is_numbered c.args.next.number in
    let same = c.open_of-open.ensures.transactions ∙ ap (λ (l : List Code). take c.self.inside.count l) c.as_slice.ensures.value in
    rw (← c.self.view_is)
    (ap (λ (l : List Transaction). let m : Memory = record (memory_of c.self.inside) { transactions = l } in m)
    (replaced_nowhere p (λ _. transaction_of c.args.next) (take c.self.inside.count c.self.inside.transactions.items) c.place_of.result
    (same_place p c.open_of-open.result.now (take c.self.inside.count c.self.inside.transactions.items) c.place_of.result c.place_of.ensures same) c.in_default.is))
