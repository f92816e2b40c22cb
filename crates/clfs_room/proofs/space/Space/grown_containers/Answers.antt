use Rattle.std.proofs.Common.{◌≤◌, ℕ, sym, subst, arith}
use Rattle.clfs_lsn.specs.Limits.{most_containers}
use Rattle.clfs_model.specs.declared.state.State.{State}
use Rattle.clfs_model.specs.Live.{active}
use Rattle.clfs_room.proofs.Grown.{grown_is, grown_between, grown_to_limit}
use Rattle.clfs_room.proofs.space.Space.grown_containers.Goals as goal

pub returns-clause-value : goal.returns-clause-value
returns-clause-value c =
    let s : State = c.args.self.now in
    let kept = rw c.self.view_is at c.self.invariant in
    grown_is s _ _ _ _ _ _ _ _ _ c.growth.ensures.value c.unwrap_or.ensures kept.shape kept.place kept.needed c.containers-have.ensures.value
    c.growth_rate-rate.ensures.value c.size_limit-limit.ensures.value

pub returns-clause-enough : goal.returns-clause-enough
returns-clause-enough c =
    let s : State = c.args.self.now in
    let between = grown_between _ _ _ _ _ _ _ c.growth.result c.growth.ensures.some c.containers-have.ensures.few c.size_limit-limit.ensures.few in
    let used : active s ≤ s.containers = (rw c.self.view_is at c.self.invariant.valid).space.active in
    omega (arith, between.0, used, c.containers-have.ensures.value, c.unwrap_or.ensures)

pub returns-clause-few : goal.returns-clause-few
returns-clause-few c =
    let between = grown_between _ _ _ _ _ _ _ c.growth.result c.growth.ensures.some c.containers-have.ensures.few c.size_limit-limit.ensures.few in
    subst (λ (n : ℕ). n ≤ most_containers) (sym c.unwrap_or.ensures) between.1

pub returns-clause-more : goal.returns-clause-more
returns-clause-more c =
    let between = grown_between _ _ _ _ _ _ _ c.growth.result c.growth.ensures.some c.containers-have.ensures.few c.size_limit-limit.ensures.few in
    omega (arith, between.0, c.containers-have.ensures.value, c.unwrap_or.ensures)

pub returns-clause-limit : goal.returns-clause-limit
returns-clause-limit c = λ more.
    let limited = grown_to_limit _ _ _ _ _ _ _ c.growth.result c.growth.ensures.some
    (omega (arith, more, c.containers-have.ensures.value, c.unwrap_or.ensures)) in
    omega (arith, limited, c.size_limit-limit.ensures.value, c.unwrap_or.ensures)
