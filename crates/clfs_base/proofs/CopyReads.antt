-- What bytes the newest copy is told by.
use Rattle.clfs_base.proofs.Words.{◌≡◌, ◌<◌, ◌≤◌, ℕ, List, [], length, Result, Ok, Err, ⊎_elim, refl, sym, ap, subst, ◌∙◌, arith, cases_lt, Files, Unchanged}
use Rattle.clfs_base.proofs.Words.{DiskState, Passes, BaseImage, NewestRefusal, slot_bytes, image_at, front_of, slot_by, copy_in, GivesNewest}
use Rattle.clfs_disk.specs.State.{MayLeave}
use Rattle.clfs_base.specs.declared.newest.Front.{Front}
use Rattle.clfs_base.specs.declared.refusal.NewestRefusal.TheVariants as newest
use Rattle.clfs_base.specs.Decoding.{IsOutside}
use Rattle.clfs_base.specs.Reading.{copy_with, IsUsedSlot, IsReadCopy}

abbrev Slot : Type 0
Slot = Result ℕ NewestRefusal

abbrev Copy : Type 0
Copy = Result (ℕ × BaseImage) NewestRefusal

abbrev refused : NewestRefusal → Copy
refused refusal = Err refusal

-- an answer is its own
gives_itself : (answer : Slot) → GivesNewest answer answer
gives_itself (Ok slot) = refl
gives_itself (Err newest.NoBase) = refl
gives_itself (Err (newest.BadByte slot at)) = refl
gives_itself (Err newest.DiskFault) = tt
gives_itself (Err newest.NoMemory) = tt

-- the slot that counts, by what was read of each
pub used_by : (answer : Slot) (first second : Front) → ((bytes : List ℕ) × (length bytes ≤ 3) × (first ≡ front_of bytes 0))
    → ((bytes : List ℕ) × (length bytes ≤ 3) × (second ≡ front_of bytes 0)) → answer ≡ slot_by first second → IsUsedSlot answer
used_by answer first second a b is = record {
  first = a.0;
  second = b.0;
  few_first = a.1;
  few_second = b.1;
  used = subst (λ (r : Slot). GivesNewest answer r) (is ∙ (λ i. slot_by (a.2 i) (b.2 i))) (gives_itself answer);
}

-- a fault, or out of memory, is told by no bytes
pub used_outside : (refusal : NewestRefusal) → IsOutside refusal → IsUsedSlot (Err refusal)
used_outside refusal outside = record {
  first = [];
  second = [];
  few_first = omega arith;
  few_second = omega arith;
  used = ⊎_elim (λ is. subst (λ (r : NewestRefusal). GivesNewest {Y = ℕ} (Err r) (slot_by (front_of [] 0) (front_of [] 0))) (sym is) tt)
      (λ is. subst (λ (r : NewestRefusal). GivesNewest {Y = ℕ} (Err r) (slot_by (front_of [] 0) (front_of [] 0))) (sym is) tt) outside;
}

by_refusal : (refusal : NewestRefusal) (slot : Slot) → GivesNewest {Y = ℕ} (Err refusal) slot → GivesNewest (refused refusal) (copy_with [] slot)
by_refusal newest.NoBase slot is = ap (λ (r : Slot). copy_with [] r) is
by_refusal (newest.BadByte n at) slot is = ap (λ (r : Slot). copy_with [] r) is
by_refusal newest.DiskFault slot is = tt
by_refusal newest.NoMemory slot is = tt

-- no slot counts
pub none_used : (refusal : NewestRefusal) → IsUsedSlot (Err refusal) → IsReadCopy (Err refusal)
none_used refusal at = record {
  first = at.first;
  second = at.second;
  bytes = [];
  few_first = at.few_first;
  few_second = at.few_second;
  few = omega arith;
  read = by_refusal refusal (slot_by (front_of at.first 0) (front_of at.second 0)) at.used;
}

-- the copy is that of the bytes that were read of the slot that counts
pub copy_by : (answer : Copy) (slot : ℕ) (bytes : List ℕ) → IsUsedSlot (Ok slot) → length bytes ≤ slot_bytes
    → GivesNewest answer (copy_in slot (image_at bytes)) → IsReadCopy answer
copy_by answer slot bytes at few is = record {
  first = at.first;
  second = at.second;
  bytes = bytes;
  few_first = at.few_first;
  few_second = at.few_second;
  few = few;
  read = subst (λ (r : Slot). GivesNewest answer (copy_with bytes r)) (sym at.used) is;
}

-- ---- time over two reads

pub reads_join : (a b c : DiskState) → Passes Unchanged a b → Passes Unchanged b c → Passes Unchanged a c
reads_join a b c p q = record {
  later = omega (arith, p.later, q.later);
  past = λ moment image le at. p.past moment image le (q.past moment image (omega (arith, p.later, le)) at);
  kept = λ moment image le at. q.kept moment image (omega (arith, p.later, le)) (p.kept moment image le at);
  images = λ moment image after until at. ⊎_elim
      (λ (late : b.clock < moment). late_image moment image (q.images moment image late until at))
      (λ (early : moment ≤ b.clock). p.images moment image after early (q.past moment image early at))
      (cases_lt b.clock moment);
  faults = omega (arith, p.faults, q.faults);
  nature = q.nature ∙ p.nature;
}
  where
    late_image : (moment : ℕ) (image : Files) → (before : Files) × MayLeave b before × Unchanged before image → (before : Files) × MayLeave a before
        × Unchanged before image
    late_image moment image from = ⊎_elim
        (λ (moved : a.clock < b.clock). let earlier = p.images b.clock from.0 moved (omega arith) from.1 in
        (earlier.0, earlier.1, λ file. from.2 file ∙ earlier.2 file))
        (λ (still : b.clock ≤ a.clock).
        let same : b.clock ≡ a.clock = omega (arith, still, p.later) in
        (from.0, p.past a.clock from.0 (omega arith) (subst (λ (n : ℕ). b.image_at n from.0) same from.1), from.2))
        (cases_lt a.clock b.clock)
