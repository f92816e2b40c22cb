use Rattle.std.proofs.Common.{◌≤◌, ◌+◌, arith, length, length-append}
use Rattle.std.proofs.lemmas.Result.{on_ok_weaker}
use Rattle.clfs_trial.proofs.Lengths.{decimal_short, more_short}
use Rattle.clfs_trial.proofs.drawn.push_number.Goals as goal

pub returns-clause-short : goal.returns-clause-short
returns-clause-short c =
    let before : length c.extend_from_slice.new.self ≤ length c.args.out.now + length c.args.text.now =
    rw c.in_ok-extend_from_slice.ensures.ok (simp length-append (omega arith)) in
    on_ok_weaker c.push_decimal.result
    (λ is. more_short _ _ _ _ 10 _ before (decimal_short c.args.number (omega (arith, c.ranges.number.fits))) (omega arith) is)
    c.push_decimal.ensures.ok
