-- A disk on which nothing is pending stays so while it is only read.
use Rattle.clfs_manager.proofs.Words.{◌≡◌, ℕ, true, ◌<◌, ◌≤◌, ◌∙◌, sym, subst, ⊎_elim, arith, cases_lt, Unchanged, DiskState, Nature, IsHonest, IsSettled}
use Rattle.clfs_manager.proofs.Words.{Passes}

-- what a disk is by its making it was before
pub honest_before : (old new : DiskState) → new.nature ≡ old.nature → IsHonest new → IsHonest old
honest_before old new nature honest = subst (λ (n : Nature). (n.tells_contents ≡ true) × (n.tells_images ≡ true)) nature honest

pub honest_after : (old new : DiskState) → new.nature ≡ old.nature → IsHonest old → IsHonest new
honest_after old new nature honest = honest_before new old (sym nature) honest

-- calls that change no file leave nothing pending where nothing was
pub settled_by_reading : (old new : DiskState) → Unchanged old.files new.files → Passes Unchanged old new → IsSettled old → IsSettled new
settled_by_reading old new same time settled = record {
  honest = honest_after old new time.nature settled.honest;
  only = λ image left file. ⊎_elim
      (λ (later : old.clock < new.clock).
      let before = time.images new.clock image later (omega arith) left in
      before.2 file ∙ settled.only before.0 before.1 file ∙ sym (same file))
      (λ (still : new.clock ≤ old.clock).
      let at : new.clock ≡ old.clock = omega (arith, still, time.later) in
      settled.only image (subst (λ (moment : ℕ). old.image_at moment image) at (time.past new.clock image still left)) file ∙ sym (same file))
      (cases_lt old.clock new.clock);
}

-- what was settled where the disk keeps what it synced is so after
pub stays_settled : (old new : DiskState) → new.nature ≡ old.nature → (IsSettled old → IsSettled new) → (IsHonest old → IsSettled old) → IsHonest new → IsSettled new
stays_settled old new nature keeps settled honest = keeps (settled (honest_before old new nature honest))
