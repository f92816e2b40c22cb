-- How calls on a disk are joined.
use Rattle.clfs_physical.proofs.Words.{◌≡◌, IsTrue, refl, ⊎_elim, ℕ, ◌<◌, ◌≤◌, sym, ◌∙◌, subst, arith, cases_lt, Files, DiskState, Nature, Passes, Leaves}
use Rattle.clfs_physical.proofs.Words.{IsSettled}
use Rattle.clfs_disk.specs.Files.{Unchanged}
use Rattle.clfs_disk.specs.State.{Later}

-- a call that says what changes lets time go on
pub later_from : (R : Files → Files → Type 0) (a b : DiskState) → Passes R a b → Later a b
later_from R a b p = record {
  later = p.later;
  past = p.past;
  kept = p.kept;
  images = λ moment image after until at. let from = p.images moment image after until at in (from.0, from.1, tt);
  faults = p.faults;
  nature = p.nature;
}

-- one call after another, where the two changes make one
pub passes_then : (R S T : Files → Files → Type 0) (a b c : DiskState)
    → ((d e f : Files) → R d e → S e f → T d f) → ((d e : Files) → R d e → T d e) → ((d e : Files) → S d e → T d e)
    → Passes R a b → Passes S b c → Passes T a c
passes_then R S T a b c both first second p q = record {
  later = omega (arith, p.later, q.later);
  past = λ moment image le at. p.past moment image le (q.past moment image (omega (arith, p.later, le)) at);
  kept = λ moment image le at. q.kept moment image (omega (arith, p.later, le)) (p.kept moment image le at);
  images = λ moment image after until at. ⊎_elim
      (λ (late : b.clock < moment). late_image moment image (q.images moment image late until at))
      (λ (early : moment ≤ b.clock).
      let from = p.images moment image after early (q.past moment image early at) in
      (from.0, from.1, first from.0 image from.2))
      (cases_lt b.clock moment);
  faults = omega (arith, p.faults, q.faults);
  nature = q.nature ∙ p.nature;
}
  where
    late_image : (moment : ℕ) (image : Files) → (before : Files) × b.image_at b.clock before × S before image
        → (before : Files) × a.image_at a.clock before × T before image
    late_image moment image from = ⊎_elim
        (λ (moved : a.clock < b.clock).
        let earlier = p.images b.clock from.0 moved (omega arith) from.1 in
        (earlier.0, earlier.1, both earlier.0 from.0 image earlier.2 from.2))
        (λ (still : b.clock ≤ a.clock).
        let same : b.clock ≡ a.clock = omega (arith, still, p.later) in
        (from.0, p.past a.clock from.0 (omega arith) (subst (λ (n : ℕ). b.image_at n from.0) same from.1), second from.0 image from.2))
        (cases_lt a.clock b.clock)

pub later_then : (a b c : DiskState) → Later a b → Later b c → Later a c
later_then a b c p q =
    passes_then (λ d e. Unit {0}) (λ d e. Unit {0}) (λ d e. Unit {0}) a b c (λ d e f x y. tt) (λ d e x. tt) (λ d e x. tt) p q

-- no call
pub passes_none : (R : Files → Files → Type 0) (a : DiskState) → Passes R a a
passes_none R a = record {
  later = omega arith;
  past = λ moment image le at. at;
  kept = λ moment image le at. at;
  images = λ moment image after until at. absurd (omega (arith, after, until));
  faults = omega arith;
  nature = refl;
}

pub same_files : (old new : Files) → Unchanged old new → new ≡ old
same_files old new same = λ i. λ file. same file i

-- nothing is pending where nothing was and nothing has changed
pub settled_still : (a b : DiskState) → Unchanged a.files b.files → Passes Unchanged a b → IsSettled a → IsSettled b
settled_still a b same p settled = record {
  honest = subst (λ (n : Nature). IsTrue n.tells_contents × IsTrue n.tells_images) (sym p.nature) settled.honest;
  only = λ image at. ⊎_elim
      (λ (moved : a.clock < b.clock).
      let from = p.images b.clock image moved (omega arith) at in
      λ file. from.2 file ∙ settled.only from.0 from.1 file ∙ sym (same file))
      (λ (still : b.clock ≤ a.clock).
      let is : b.clock ≡ a.clock = omega (arith, still, p.later) in
      let at_old : a.image_at a.clock image = p.past a.clock image (omega arith) (subst (λ (n : ℕ). b.image_at n image) is at) in
      λ file. settled.only image at_old file ∙ sym (same file))
      (cases_lt a.clock b.clock);
}

-- what a crash leaves of calls that change files so, from a disk on which nothing was pending
pub leaves_after : (R : Files → Files → Type 0) (P : Files → Type 0) (a b : DiskState) → IsSettled a → Passes R a b → P a.files
    → ((image : Files) → R a.files image → P image) → Leaves P a b
leaves_after R P a b settled p here changed = record {
  later = p.later;
  past = p.past;
  each = λ moment image from until at. ⊎_elim
      (λ (after : a.clock < moment).
      let found = p.images moment image after until at in
      changed image (subst (λ (d : Files). R d image) (same_files a.files found.0 (settled.only found.0 found.1)) found.2))
      (λ (early : moment ≤ a.clock).
      let same : moment ≡ a.clock = omega (arith, from, early) in
      let old = settled.only image (subst (λ (n : ℕ). a.image_at n image) same (p.past moment image early at)) in
      subst P (sym (same_files a.files image old)) here)
      (cases_lt a.clock moment);
}

-- what a crash leaves of two calls
pub leaves_then : (P : Files → Type 0) (a b c : DiskState) → Leaves P a b → Leaves P b c → Leaves P a c
leaves_then P a b c p q = record {
  later = omega (arith, p.later, q.later);
  past = λ moment image le at. p.past moment image le (q.past moment image (omega (arith, p.later, le)) at);
  each = λ moment image from until at. ⊎_elim
      (λ (late : b.clock < moment). q.each moment image (omega (arith, late)) until at)
      (λ (early : moment ≤ b.clock). p.each moment image from early (q.past moment image early at))
      (cases_lt b.clock moment);
}

-- what follows from what it leaves
pub leaves_weaker : (P Q : Files → Type 0) (a b : DiskState) → ((image : Files) → P image → Q image) → Leaves P a b → Leaves Q a b
leaves_weaker P Q a b weaker p = record {
  later = p.later;
  past = p.past;
  each = λ moment image from until at. weaker image (p.each moment image from until at);
}

-- two things that it leaves
pub leaves_both : (P Q R : Files → Type 0) (a b : DiskState) → ((image : Files) → P image → Q image → R image) → Leaves P a b → Leaves Q a b
    → Leaves R a b
leaves_both P Q R a b both p q = record {
  later = p.later;
  past = p.past;
  each = λ moment image from until at. both image (p.each moment image from until at) (q.each moment image from until at);
}

-- no call leaves what was there
pub leaves_nothing : (P : Files → Type 0) (a : DiskState) → IsSettled a → P a.files → Leaves P a a
leaves_nothing P a settled here = record {
  later = omega arith;
  past = λ moment image le at. at;
  each = λ moment image from until at.
      let same : moment ≡ a.clock = omega (arith, from, until) in
      let alike = settled.only image (subst (λ (n : ℕ). a.image_at n image) same at) in
      let files : image ≡ a.files = λ i. λ file. alike file i in
      subst P (sym files) here;
}

-- what each image has, the disk as it reads has
pub as_read : (P : Files → Type 0) (a b : DiskState) → Leaves P a b → b.image_at b.clock b.files → P b.files
as_read P a b leaves at = leaves.each b.clock b.files leaves.later (omega arith) at
