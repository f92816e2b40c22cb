use Rattle.clfs_cursor.proofs.Words.{◌≡◌, ℕ, ◌+◌, ◌<◌, true, ◌∙◌, length, sym, arith, is_numbered}
use Rattle.clfs_cursor.proofs.Counts.{next_is_unused}
use Rattle.clfs_cursor.proofs.Numbers.{unused_at, all_used}
use Rattle.clfs_cursor.proofs.keys.least_unused.Goals as goal

pub returns-then-not-is_numbered : goal.returns-then-not-is_numbered
returns-then-not-is_numbered c =
    let unused = sym c.is_numbered.ensures ∙ c.if-not-is_numbered.true in
    record {
      number = sym (unused_at (is_numbered c.args.keys.now) (length c.args.keys.now) c.loop-before.before c.loop-before-test.true c.loop-before.invariant unused);
      unused = unused;
    }

pub returns : goal.returns
returns c =
    let all : (k : ℕ) → k < length c.args.keys.now → is_numbered c.args.keys.now (k + 1) ≡ true =
    λ k less. c.loop-before.invariant k (omega (arith, less, c.loop-before-test.false)) in
    record {
      number = sym (all_used (is_numbered c.args.keys.now) (length c.args.keys.now) all);
      unused = next_is_unused c.args.keys.now all;
    }
