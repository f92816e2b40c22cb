use Rattle.clfs_restore.proofs.Words.{⊎_elim, ◌≡◌, ℕ, ◌+◌, ◌-◌, ◌<◌, ◌≤◌, sym, ◌∙◌, subst, arith, IsTrue, cases_lt, container_of, Nature, HoldsKept}
use Rattle.clfs_restore.proofs.Kept.{holds_still}
use Rattle.clfs_restore.proofs.Moments.{base_then}
use Rattle.clfs_restore.proofs.filling.write_containers.Goals as goal

pub loop-i-preserved : goal.loop-i-preserved
loop-i-preserved g c =
    let L = c.loop-i.invariant in
    let W = c.in_ok-end.ensures in
    let i = c.loop-i.i in
    let archives = c.args.archives.now in
    let archive = c.args.archive.now in
    let old = (g.D.Disk.state c.loop-i.disk).files in
    let new = (g.D.Disk.state c.write_container.new.disk).files in
    let here : i ≡ i + 1 - 1 = omega arith in record {
      fronts = λ tells j lt. ⊎_elim
          (λ (before : j < i).
          let holds = L.fronts tells j before in
          (holds.0, holds_still archives archive c.args.up_to j holds.0 old new (W.others (1 + j) (λ is. omega (arith, is, before))) holds.1))
          (λ (at : i ≤ j).
          let same : i ≡ j = omega (arith, at, lt) in (
            c.in_ok-end.end,
            subst (λ (k : ℕ). HoldsKept archives archive c.args.up_to new k c.in_ok-end.end) same
                (W.holds (subst (λ (n : Nature). IsTrue n.tells_contents) (sym L.time.nature) tells)),
          ))
          (cases_lt j i);
      last = λ tells some. subst (λ (k : ℕ). HoldsKept archives archive c.args.up_to new k c.in_ok-end.end) here
          (W.holds (subst (λ (n : Nature). IsTrue n.tells_contents) (sym L.time.nature) tells));
      base = W.others 0 (λ is. omega (arith, is)) ∙ L.base;
      lengths = λ file. W.lengths file ∙ L.lengths file;
      time = base_then _ _ _ L.time W.time;
      calls = omega (arith, c.in_ok-end.ensures.calls, L.calls);
      steady = λ steady long.
          let within : i + 1 ≤ archive.image.containers = omega (arith, c.loop-i-test.true, c.container.ensures.value, c.requires.can.high, c.requires.can.low, c.requires.can.image.few_listed) in
          (W.steady (subst (λ (n : Nature). IsTrue n.steady) (sym L.time.nature) steady) (omega (arith, L.lengths (i + 1), long (i + 1) (omega arith) within))).1 ∙ L.steady steady long;
    }

pub returns-clause-filled : goal.returns-clause-filled
returns-clause-filled g c tells =
    let L = c.loop-i.invariant in
    let count : c.loop-i.i ≡ container_of c.args.up_to - c.args.archive.now.image.first + 1 =
    omega (arith, c.loop-i-test.false, c.loop-i.auto.i-end, c.container.ensures.value) in
    let last : c.loop-i.i - 1 ≡ container_of c.args.up_to - c.args.archive.now.image.first = omega (arith, count) in record {
      fronts = λ i within. L.fronts tells i (omega (arith, count, within));
      last = subst (λ (k : ℕ). HoldsKept c.args.archives.now c.args.archive.now c.args.up_to (g.D.Disk.state c.loop-i.disk).files k c.loop-i.end) last
          (L.last tells (omega (arith, count)));
    }
