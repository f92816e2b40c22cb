use Rattle.std.proofs.Common.{◌≡◌, ◌+◌, List, ℕ, length, sym, ap, ◌∙◌, refl, arith}
use Rattle.std.specs.Prelude.{nat_le}
use Rattle.clfs_recover.specs.Whole.{all_long}
use Rattle.clfs_check.proofs.Readings.{unread, read_on, tells_still}
use Rattle.clfs_check.proofs.Lengths.{one_longer, one_short}
use Rattle.clfs_check.proofs.length.are_all_long.Goals as goal

pub returns-then-not-branch-clause-exact : goal.returns-then-not-branch-clause-exact
returns-then-not-branch-clause-exact g c tells =
    let first = g.D.Disk.state c.args.disk.now in
    let now = g.D.Disk.state c.loop-below.disk in
    let was = c.loop-below.invariant.was in
    let found = c.in_ok-is_long.ensures.exact (tells_still first now was.time tells) in
    sym (one_short first.files c.args.bytes c.args.last c.loop-below.below c.loop-below-test.true
    (ap (λ (l : List ℕ). nat_le c.args.bytes (length l)) (sym (was.same (c.loop-below.below + 1))) ∙ sym found ∙ c.if-not-branch.true))

pub loop-below-init : goal.loop-below-init
loop-below-init g c = record { was = unread (g.D.Disk.state c.args.disk.now); long = λ tells. refl }

pub loop-below-preserved : goal.loop-below-preserved
loop-below-preserved g c = record {
  was = read_on g.D.Disk.state c.calls_join.ensures c.args.disk.now c.loop-below.disk c.is_long.new.disk c.loop-below.invariant.was c.in_ok-is_long.ensures.reads.same
      c.in_ok-is_long.ensures.reads.time (λ s. (c.in_ok-is_long.ensures.reads.steady s).1);
  long = λ tells.
      let first = g.D.Disk.state c.args.disk.now in
      let now = g.D.Disk.state c.loop-below.disk in
      let was = c.loop-below.invariant.was in
      let found = c.in_ok-is_long.ensures.exact (tells_still first now was.time tells) in
      one_longer first.files c.args.bytes c.loop-below.below (c.loop-below.invariant.long tells)
      (ap (λ (l : List ℕ). nat_le c.args.bytes (length l)) (sym (was.same (c.loop-below.below + 1))) ∙ sym found ∙ c.if-not-branch.false);
}

pub returns-clause-exact : goal.returns-clause-exact
returns-clause-exact g c tells =
    let first = g.D.Disk.state c.args.disk.now in
    let end : c.loop-below.below ≡ c.args.last = omega (arith, c.loop-below-test.false, c.loop-below.auto.below-end) in
    sym (ap (all_long first.files c.args.bytes) (sym end) ∙ c.loop-below.invariant.long tells)
