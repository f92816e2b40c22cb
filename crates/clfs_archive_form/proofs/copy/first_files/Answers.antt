use Rattle.clfs_archive_form.proofs.Words.{◌≡◌, ◌-◌, ◌∙◌, ℕ, List, length, ap, arith, range_with_len, length-range_with_len}
use Rattle.clfs_archive_form.proofs.RestoredCopies.{one_file_more}
use Rattle.clfs_archive_form.proofs.copy.first_files.Goals as goal

pub push-requires : goal.push-requires
push-requires c =
    let so_far : length c.loop-number.files ≡ c.loop-number.number - 1 =
    ap (λ (l : List ℕ). length l) c.loop-number.invariant.files ∙ length-range_with_len 1 (c.loop-number.number - 1) in
    omega (arith, so_far, c.requires, c.loop-number.auto.number-end (omega arith), c.loop-number-test.true)

pub loop-number-preserved : goal.loop-number-preserved
loop-number-preserved c = record {
  some = omega arith;
  files = c.push.ensures ∙ one_file_more c.loop-number.number c.loop-number.files c.loop-number.invariant.some c.loop-number.invariant.files;
}

pub returns : goal.returns
returns c =
    let end : c.loop-number.number - 1 ≡ c.args.count = omega (arith, c.loop-number-test.false, c.loop-number.auto.number-end (omega arith)) in
    c.loop-number.invariant.files ∙ ap (range_with_len 1) end
