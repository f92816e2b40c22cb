-- How two calls of the log leave the disk, one after the other, and how one that reads does.
use Rattle.clfs_txn.proofs.Words.{◌≡◌, ◌⊎◌, ℕ, ◌<◌, ◌≤◌, inl, inr, sym, subst, ◌∙◌, arith, IsErrOf, IsTrue, cases_lt, Files, Unchanged, DiskState, Nature}
use Rattle.clfs_txn.proofs.Words.{Later, MayLeave, Passes, TellsContents, WritesDisk}
use Rattle.std.specs.Prelude.{Ok}
use Rattle.clfs_disk.specs.State.{IsSteady, Rises}
use Rattle.clfs_model.specs.declared.refusal.Refusal.TheVariants as log_refusals
use Rattle.clfs_txn.proofs.Written.{of_ok}

later_then : (a b c : DiskState) → Later a b → Later b c → Later a c
later_then a b c first next = record {
  later = omega (arith, first.later, next.later);
  past = λ moment image le at. first.past moment image le (next.past moment image (omega (arith, le, first.later)) at);
  kept = λ moment image le at. next.kept moment image (omega (arith, le, first.later)) (first.kept moment image le at);
  images = λ moment image after until at. left moment image after until at (cases_lt b.clock moment);
  faults = omega (arith, first.faults, next.faults);
  nature = next.nature ∙ first.nature;
}
  where
    before : (image : Files) → b.image_at b.clock image → (old : Files) × MayLeave a old × Unit {0}
    before image at = elim (cases_lt a.clock b.clock) [
      | inl later ↦ first.images b.clock image later (omega arith) at
      | inr same ↦ (image, first.past a.clock image (omega arith) (let one : b.clock ≡ a.clock = omega (arith, same, first.later) in subst (λ (k : ℕ). b.image_at k image) one at), tt)
    ]

    left : (moment : ℕ) (image : Files) → a.clock < moment → moment ≤ c.clock → c.image_at moment image → (b.clock < moment) ⊎ (moment ≤ b.clock)
        → (old : Files) × MayLeave a old × Unit {0}
    left moment image after until at (inl later) = let found = next.images moment image later until at in before found.0 found.1
    left moment image after until at (inr sooner) = first.images moment image after sooner (next.past moment image sooner at)

later_from : (a b : DiskState) → Passes Unchanged a b → Later a b
later_from a b p = record {
  later = p.later;
  past = p.past;
  kept = p.kept;
  images = λ moment image after until at. let from = p.images moment image after until at in (from.0, from.1, tt);
  faults = p.faults;
  nature = p.nature;
}

rises_before : (a b c : ℕ) → a ≤ b → Rises b c → Rises a c
rises_before a b c le rises = omega (arith, le, rises)

pub tells_on : (a b : DiskState) → b.nature ≡ a.nature → TellsContents a → TellsContents b
tells_on a b same tells = subst (λ (n : Nature). IsTrue n.tells_contents) (sym same) tells

-- the first met no fault
pub writes_then : (fault other : Type 0) (a b c : DiskState) → (fault → ⊥) → WritesDisk fault a b → WritesDisk other b c → WritesDisk other a c
writes_then fault other a b c fine first second = record {
  time = later_then a b c first.time second.time;
  cause = λ f. rises_before a.faults b.faults c.faults first.time.faults (second.cause f);
  whole = λ none tells whole. second.whole none (tells_on a b first.time.nature tells) (first.whole fine tells whole);
  steady = λ calm tells whole.
      let before = first.steady calm tells whole in
      let after = second.steady (subst (λ (n : Nature). IsTrue n.steady) (sym first.time.nature) calm) (tells_on a b first.time.nature tells) (first.whole fine tells whole) in
      (after.0, after.1 ∙ before.1);
}

-- a call that reads
pub reads_only : (fault : Type 0) (old new : DiskState) → Unchanged old.files new.files → Passes Unchanged old new → (fault → Rises old.faults new.faults)
    → (IsSteady old → (fault → ⊥) × (new.faults ≡ old.faults)) → WritesDisk fault old new
reads_only fault old new same time cause steady = record {
  time = later_from old new time;
  cause = cause;
  whole = λ none tells whole. let files : new.files ≡ old.files = λ i. λ file. same file i in rw files whole;
  steady = λ calm tells whole. steady calm;
}

-- a call that was answered, after others
pub then_ok : {A : Type 0} (a b c : DiskState) (value : A) → WritesDisk ⊥ a b → WritesDisk (IsErrOf (Ok value) log_refusals.DiskFault) b c → WritesDisk ⊥ a c
then_ok {A} a b c value first second =
    of_ok ⊥ a c value (λ f. f) (writes_then ⊥ (IsErrOf {T = A} (Ok value) log_refusals.DiskFault) a b c (λ f. f) first second)
