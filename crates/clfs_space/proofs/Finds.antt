-- The first step that passes a test.
use Rattle.std.proofs.Common.{◌≡◌, ℕ, ◌+◌, ◌<◌, ◌≤◌, ◌⊎◌, subst, zero, suc, Bool}
use Rattle.std.proofs.Common.{true, false, map, find, Some, None, refl, inl, inr, arith}
use Rattle.std.specs.List.{range_with_len}

-- y is the first of the steps f start, f (start + 1) and so on, of which there are len, that passes
pub record IsFirstStep (p : ℕ → Bool) (f : ℕ → ℕ) (start len y : ℕ) : Type 0 where
  pub step : ℕ
  pub from : start ≤ step
  pub below : step < start + len
  pub value : y ≡ f step
  pub passes : p (f step) ≡ true
  pub first : (j : ℕ) → start ≤ j → j < step → p (f j) ≡ false

-- a number from start on is start, or comes later
start_or_later : (start j : ℕ) → start ≤ j → (start ≡ j) ⊎ (start + 1 ≤ j)
start_or_later start j h = grind arith

-- one of two numbers is less, or they are equal
pub order : (a b : ℕ) → (a < b) ⊎ ((a ≡ b) ⊎ (b < a))
order a b = grind arith

-- what holds at start and later holds from start on
from_start : (P : ℕ → Type 0) (start : ℕ) → P start → ((j : ℕ) → start + 1 ≤ j → P j) → (j : ℕ) → start ≤ j → P j
from_start P start at_start later j h = elim (start_or_later start j h) [ inl e ↦ subst P e at_start | inr l ↦ later j l ]

pub find-Some : (p : ℕ → Bool) (f : ℕ → ℕ) (len start y : ℕ) → find p (map f (range_with_len start len)) ≡ Some y
    → IsFirstStep p f start len y
find-Some p f zero start y h = absurd (cc)
find-Some p f (suc len) start y h =
    elim (p (f start)) as (λ b. p (f start) ≡ b → IsFirstStep p f start (suc len) y) [
      | true ↦ λ e. record {
        step = start;
        from = omega arith;
        below = omega arith;
        value = cc (rw e at h);
        passes = e;
        first = λ j l k. absurd (omega arith);
      }
      | false ↦ λ e.
          let rest = find-Some p f len (start + 1) y (rw e at h) in
          record {
            step = rest.step;
            from = omega (arith, rest.from);
            below = omega (arith, rest.below);
            value = rest.value;
            passes = rest.passes;
            first = from_start (λ j. j < rest.step → p (f j) ≡ false) start (λ _. e) rest.first;
          }
    ] refl

pub find-None : (p : ℕ → Bool) (f : ℕ → ℕ) (len start : ℕ) → find p (map f (range_with_len start len)) ≡ None
    → (j : ℕ) → start ≤ j → j < start + len → p (f j) ≡ false
find-None p f zero start h = λ j l k. absurd (omega arith)
find-None p f (suc len) start h =
    elim (p (f start)) as (λ b. p (f start) ≡ b → (j : ℕ) → start ≤ j → j < start + suc len → p (f j) ≡ false) [
      | true ↦ λ e. absurd (cc (rw e at h))
      | false ↦ λ e. from_start (λ j. j < start + suc len → p (f j) ≡ false) start (λ _. e)
          (λ j l k. find-None p f len (start + 1) (rw e at h) j l (omega arith))
    ] refl

-- a step that passes and comes before every other that does is found
pub find-at : (p : ℕ → Bool) (f : ℕ → ℕ) (len start k : ℕ) → start ≤ k → k < start + len → p (f k) ≡ true
    → ((j : ℕ) → start ≤ j → j < k → p (f j) ≡ false) → find p (map f (range_with_len start len)) ≡ Some (f k)
find-at p f len start k from below passes first =
    elim (find p (map f (range_with_len start len))) as (λ o. find p (map f (range_with_len start len)) ≡ o → o ≡ Some (f k)) [
      | None ↦ λ e. let fails = find-None p f len start e k from below in absurd (cc (passes, fails))
      | Some y ↦ λ e.
          let found = find-Some p f len start y e in
          let same : found.step ≡ k = elim (order found.step k) [
            | inl earlier ↦ absurd (cc (found.passes, first found.step found.from earlier))
            | inr (inl equal) ↦ equal
            | inr (inr later) ↦ absurd (cc (passes, found.first k from later))
          ] in
          cc (found.value, same)
    ] refl

-- where no step passes none is found
pub find-nowhere : (p : ℕ → Bool) (f : ℕ → ℕ) (len start : ℕ) → ((j : ℕ) → start ≤ j → j < start + len → p (f j) ≡ false)
    → find p (map f (range_with_len start len)) ≡ None
find-nowhere p f len start fails =
    elim (find p (map f (range_with_len start len))) as (λ o. find p (map f (range_with_len start len)) ≡ o → o ≡ None) [
      | None ↦ λ _. refl
      | Some y ↦ λ e. let found = find-Some p f len start y e in
          absurd (cc (found.passes, fails found.step found.from found.below))
    ] refl
