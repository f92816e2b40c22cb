use Rattle.clfs_physical.proofs.Words.{◌≡◌, sym, subst, arith, IsTrue, nat_tests, Nature}
use Rattle.clfs_physical.proofs.Joining.{settled_still}
use Rattle.clfs_physical.proofs.growth.make_files.Goals as goal

pub returns-clause-settled : goal.returns-clause-settled
returns-clause-settled g c fine settled =
    c.finish.ensures.settled fine
    (subst (λ (n : Nature). IsTrue n.tells_contents × IsTrue n.tells_images) (sym c.grow_each-grown.ensures.time.nature) settled.honest)
    (λ wanting none.
    let same : c.grow_each-grown.new.done ≡ c.args.made = grind (arith, nat_tests) in
    let still = c.grow_each-grown.ensures.none wanting same in
    settled_still _ _ still.0 still.1 settled)
