use Rattle.std.proofs.Common.{◌∙◌, ℕ, List, ap, sym, length, arith}
use Rattle.clfs_turn.specs.Lists.{is_in, are_distinct}
use Rattle.clfs_share.proofs.Numbers.{client_in, range_distinct, range_length}
use Rattle.clfs_share.proofs.sharing.share_followed.Goals as goal

pub start_told-requires-clause-some : goal.start_told-requires-clause-some
start_told-requires-clause-some g c =
    let many = ap (λ (z : List ℕ). length z) (c.deref.ensures.value ∙ c.in-Ok.ensures) in
    let counted = range_length 1 c.len-count.result in
    let some = c.requires.some in
    omega (arith, many, counted, c.len-count.ensures, some, c.args.openers.ok.0)

pub start_told-requires-clause-apart : goal.start_told-requires-clause-apart
start_told-requires-clause-apart g c = ap are_distinct (c.deref.ensures.value ∙ c.in-Ok.ensures) ∙ range_distinct 1 c.len-count.result

pub start_told-requires-clause-ranges : goal.start_told-requires-clause-ranges
start_told-requires-clause-ranges g c = λ k is.
    client_in c.len-count.result k (omega (arith, c.len-count.ensures, c.requires.few, c.args.openers.ok.0))
    (sym (ap (λ (z : List ℕ). is_in k z) (c.deref.ensures.value ∙ c.in-Ok.ensures)) ∙ is)

pub returns-in-Ok-start_told-clause-later : goal.returns-in-Ok-start_told-clause-later
returns-in-Ok-start_told-clause-later g c = c.unfollowed.ensures.follows c.args.manager.1 c.requires.begun
