use Rattle.std.proofs.Common.{◌≡◌, ◌∙◌, ◌+◌, ◌<◌, ℕ, Bool, true, false, not, IsTrue, Contains, refl, sym, subst, arith}
use Rattle.std.specs.Prelude.{vec_len}
use Rattle.std.proofs.lemmas.Bool.{ltb-true}
use Rattle.clfs_disk.proofs.memory.Memory.admits.Goals as goal

negated : {P : Type 0} (b : Bool) → (IsTrue b → P) × (P → IsTrue b) → (IsTrue (not b) → P → ⊥) × ((P → ⊥) → IsTrue (not b))
negated true is = ((λ no holds. absurd (cc no)), λ fails. absurd (fails (is.0 refl)))
negated false is = ((λ no holds. absurd (cc (is.1 holds))), λ fails. refl)

pub returns-clause-exact : goal.returns-clause-exact
returns-clause-exact c =
    let disk = c.args.self.now in
    let place : vec_len disk.history.calls < disk.history.call_room = ltb-true _ _ (sym c.has_call.ensures.exact ∙ c.if-not-has_call.false) in
    let number : vec_len disk.history.calls + 1 ≡ disk.calls + 1 = omega (arith, disk.counted, place) in
    let listed = subst (λ (n : ℕ). (IsTrue c.fails_next.result → Contains disk.history.failing.items n)
    × (Contains disk.history.failing.items n → IsTrue c.fails_next.result)) number c.fails_next.ensures in
    let unlisted = negated c.fails_next.result listed in (
      λ passes. record { room = omega (arith, number, place); unlisted = unlisted.0 passes },
      λ admitted. unlisted.1 admitted.unlisted,
    )
