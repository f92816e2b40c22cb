use Rattle.clfs_cells.proofs.Words.{ap, arith, filter, length, not, take, Made}
use Rattle.std.proofs.lemmas.List.{length-reverse}
use Rattle.clfs_cells.proofs.Places.{standing_and_undone}
use Rattle.clfs_cells.proofs.begun.Transaction.records_made.Goals as goal

pub overflow_sub-result : goal.overflow_sub-result
overflow_sub-result c =
    let sets = take c.args.self.now.count c.args.self.now.sets in
    omega (arith, ap length c.made-made.ensures.made, standing_and_undone sets, c.standing.ensures.standing, length-reverse (filter (λ (made : Made). not made.undone) sets))

pub returns-clause-records : goal.returns-clause-records
returns-clause-records c =
    let sets = take c.args.self.now.count c.args.self.now.sets in
    omega (arith, ap length c.made-made.ensures.made, standing_and_undone sets, c.standing.ensures.standing, length-reverse (filter (λ (made : Made). not made.undone) sets))
