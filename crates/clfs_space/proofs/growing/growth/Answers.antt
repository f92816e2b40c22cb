use Rattle.std.proofs.Common.{◌≡◌, ◌-◌, max, sym}
use Rattle.std.specs.Int.{div_ceil}
use Rattle.clfs_space.proofs.Steps.{growth-threshold, growth-past_maximum, growth-out_of_reach, growth-Some, growth-None}
use Rattle.clfs_space.proofs.growing.growth.Goals as goal

pub returns-in_err-enough-clause-value : goal.returns-in_err-enough-clause-value
returns-in_err-enough-clause-value c =
    rw c.from_residual.ensures
    (sym (growth-out_of_reach c.args.shape.now c.args.place.now c.args.hold c.args.containers c.args.rate c.args.maximum c.args.wanted
    c.in_err-enough.ensures.none))

pub returns-then-grown-maximum-clause-value : goal.returns-then-grown-maximum-clause-value
returns-then-grown-maximum-clause-value c =
    let steps : c.max-steps.result ≡ max (div_ceil (c.in_ok-enough.enough - c.args.containers) c.args.rate) 1 = cc in
    sym (growth-past_maximum c.args.shape.now c.args.place.now c.args.hold c.args.containers c.args.rate c.args.maximum c.args.wanted
    c.in_ok-enough.enough c.max-steps.result c.requires.rate c.requires.active c.in_ok-enough.ensures.some steps c.if-grown-maximum.true)

pub returns-then-grown-maximum-clause-none : goal.returns-then-grown-maximum-clause-none
returns-then-grown-maximum-clause-none c =
    let steps : c.max-steps.result ≡ max (div_ceil (c.in_ok-enough.enough - c.args.containers) c.args.rate) 1 = cc in
    growth-None c.args.shape.now c.args.place.now c.args.hold c.args.containers c.args.rate c.args.maximum c.args.wanted
    c.requires.rate c.requires.maximum
    (growth-past_maximum c.args.shape.now c.args.place.now c.args.hold c.args.containers c.args.rate c.args.maximum c.args.wanted
    c.in_ok-enough.enough c.max-steps.result c.requires.rate c.requires.active c.in_ok-enough.ensures.some steps c.if-grown-maximum.true)

pub returns-clause-value : goal.returns-clause-value
returns-clause-value c =
    let steps : c.max-steps.result ≡ max (div_ceil (c.in_ok-enough.enough - c.args.containers) c.args.rate) 1 = cc in
    sym (growth-threshold c.args.shape.now c.args.place.now c.args.hold c.args.containers c.args.rate c.args.maximum c.args.wanted
    c.in_ok-enough.enough c.max-steps.result c.requires.rate c.requires.maximum c.requires.active c.in_ok-enough.ensures.some steps
    c.if-grown-maximum.false)

pub returns-clause-some : goal.returns-clause-some
returns-clause-some c =
    let steps : c.max-steps.result ≡ max (div_ceil (c.in_ok-enough.enough - c.args.containers) c.args.rate) 1 = cc in
    growth-Some c.args.shape.now c.args.place.now c.args.hold c.args.containers c.args.rate c.args.maximum c.args.wanted _
    (growth-threshold c.args.shape.now c.args.place.now c.args.hold c.args.containers c.args.rate c.args.maximum c.args.wanted
    c.in_ok-enough.enough c.max-steps.result c.requires.rate c.requires.maximum c.requires.active c.in_ok-enough.ensures.some steps
    c.if-grown-maximum.false)
