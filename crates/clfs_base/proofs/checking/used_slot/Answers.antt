use Rattle.clfs_base.proofs.Words.{◌≡◌, ◌∙◌, arith, front_of, slot_by}
use Rattle.clfs_base.proofs.checking.used_slot.Goals as goal

pub returns-clause-exact : goal.returns-clause-exact
returns-clause-exact c =
    let base = c.args.base.now in
    let first : c.front_of_bytes-first.result ≡ front_of base 0 = c.front_of_bytes-first.ensures.in_file base 0 16384 (omega arith) c.slot_of.ensures in
    let second : c.front_of_bytes-second.result ≡ front_of base 1 = c.front_of_bytes-second.ensures.in_file base 1 16384 (omega arith) c.slot_of-2.ensures in
    c.slot_by.ensures.exact ∙ (λ i. slot_by (first i) (second i))
