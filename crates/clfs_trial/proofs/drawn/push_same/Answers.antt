use Rattle.std.proofs.Common.{◌≡◌, ◌∙◌, arith, ◌≤◌, length, replicate}
use Rattle.std.proofs.lemmas.List.{take-replicate}
use Rattle.std.proofs.lemmas.Result.{on_ok_weaker}
use Rattle.clfs_lsn.specs.Words.{data_text}
use Rattle.clfs_trial.proofs.Lengths.{same_short, more_short}
use Rattle.clfs_trial.proofs.drawn.push_same.Goals as goal

pub returns-clause-text : goal.returns-clause-text
returns-clause-text c =
    let small : c.args.size ≤ 400 = omega arith in
    let bytes : c.split_at.result.0.now ≡ replicate c.args.size c.args.byte = c.split_at.ensures.front ∙ take-replicate c.args.size 400 c.args.byte small in
    rw (← bytes) c.push_data.ensures

pub returns-clause-short : goal.returns-clause-short
returns-clause-short c =
    let small : c.args.size ≤ 400 = omega arith in
    let bytes : c.split_at.result.0.now ≡ replicate c.args.size c.args.byte = c.split_at.ensures.front ∙ take-replicate c.args.size 400 c.args.byte small in
    let short : length (data_text c.split_at.result.0.now) ≤ 800 = rw bytes (same_short c.args.size c.args.byte small) in
    on_ok_weaker c.push_data.result (λ is. more_short _ _ _ (length c.args.out.now) 800 _ (omega arith) short (omega arith) is) c.push_data.ensures
