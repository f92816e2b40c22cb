use Rattle.clfs_archive_form.proofs.Words.{◌+◌, ◌≤◌, length, ◌∙◌, sym, arith, has_letter}
use Rattle.clfs_archive_form.proofs.Searches.{passes_on, fails_here}
use Rattle.clfs_archive_form.proofs.archives.wrong_letter.Goals as goal

pub returns-then-not-has_letter-clause-exact : goal.returns-then-not-has_letter-clause-exact
returns-then-not-has_letter-clause-exact c =
    sym (fails_here (has_letter c.args.bytes.now c.args.at) c.loop-i.i 8 c.loop-i-test.true (sym c.has_letter.ensures.exact ∙ c.if-not-has_letter.true))
    ∙ c.loop-i.invariant.first

pub loop-i-preserved : goal.loop-i-preserved
loop-i-preserved c =
    let yes = sym c.has_letter.ensures.exact ∙ c.if-not-has_letter.false in
    let there : c.args.at + c.loop-i.i + 1 ≤ length c.args.bytes.now = omega (arith, c.has_letter.ensures.there c.if-not-has_letter.false) in
    record {
      first = passes_on (has_letter c.args.bytes.now c.args.at) c.loop-i.i 8 c.loop-i-test.true yes ∙ c.loop-i.invariant.first;
      there = omega (arith, there);
    }
