-- How calls on a disk are joined.
use Rattle.clfs_manager.proofs.Words.{◌≡◌, ⊎_elim, ℕ, ◌<◌, ◌≤◌, ◌∙◌, subst, arith, cases_lt, Files, DiskState, Later, Leaves}

-- one call after another
pub later_then : (a b c : DiskState) → Later a b → Later b c → Later a c
later_then a b c p q = record {
  later = omega (arith, p.later, q.later);
  past = λ moment image le at. p.past moment image le (q.past moment image (omega (arith, p.later, le)) at);
  kept = λ moment image le at. q.kept moment image (omega (arith, p.later, le)) (p.kept moment image le at);
  images = λ moment image after until at. ⊎_elim
      (λ (late : b.clock < moment). from_old (q.images moment image late until at))
      (λ (early : moment ≤ b.clock). p.images moment image after early (q.past moment image early at))
      (cases_lt b.clock moment);
  faults = omega (arith, p.faults, q.faults);
  nature = q.nature ∙ p.nature;
}
  where
    from_old : (before : Files) × b.image_at b.clock before × Unit {0} → (before : Files) × a.image_at a.clock before × Unit {0}
    from_old from = ⊎_elim
        (λ (moved : a.clock < b.clock). p.images b.clock from.0 moved (omega arith) from.1)
        (λ (still : b.clock ≤ a.clock).
        let same : b.clock ≡ a.clock = omega (arith, still, p.later) in
        (from.0, p.past a.clock from.0 (omega arith) (subst (λ (n : ℕ). b.image_at n from.0) same from.1), tt))
        (cases_lt a.clock b.clock)

-- what a crash leaves of two calls
pub leaves_then : (P : Files → Type 0) (a b c : DiskState) → Leaves P a b → Leaves P b c → Leaves P a c
leaves_then P a b c p q = record {
  later = omega (arith, p.later, q.later);
  past = λ moment image le at. p.past moment image le (q.past moment image (omega (arith, p.later, le)) at);
  each = λ moment image from until at. ⊎_elim
      (λ (late : b.clock < moment). q.each moment image (omega (arith, late)) until at)
      (λ (early : moment ≤ b.clock). p.each moment image from early (q.past moment image early at))
      (cases_lt b.clock moment);
}

pub leaves_weaker : (P Q : Files → Type 0) (a b : DiskState) → ((image : Files) → P image → Q image) → Leaves P a b → Leaves Q a b
leaves_weaker P Q a b weaker p = record {
  later = p.later;
  past = p.past;
  each = λ moment image from until at. weaker image (p.each moment image from until at);
}
