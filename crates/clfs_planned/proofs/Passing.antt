-- How calls on a disk are joined.
use Rattle.std.proofs.Common.{◌≡◌, ℕ, ◌≤◌, sym, subst, arith, refl}
use Rattle.clfs_disk.specs.Files.{Files, Unchanged, TornIn, GrownIn}
use Rattle.clfs_disk.specs.State.{DiskState, Passes}

pub same_files : (old new : Files) → Unchanged old new → new ≡ old
same_files old new same = λ i. λ file. same file i

pub unchanged : (files : Files) → Unchanged files files
unchanged files = λ file. refl

-- a call after which the disk's images are those of before
pub passes_still : (R : Files → Files → Type 0) (disk : DiskState) (files : Files) (calls faults : ℕ) → disk.faults ≤ faults
    → Passes R disk (record disk { files = files; calls = calls; faults = faults })
passes_still R disk files calls faults le = record {
  later = omega arith;
  past = λ moment image le at. at;
  kept = λ moment image le at. at;
  images = λ moment image after until at. absurd (omega (arith, after, until));
  faults = le;
  nature = refl;
}

pub torn_none : (file at n : ℕ) (d : Files) → TornIn file at n d d
torn_none file at n d = record { here = record { same_length = refl; below = λ i lt. refl; above = λ i le. refl }; elsewhere = λ other apart. refl }

pub torn_unchanged : (file at n : ℕ) (d e : Files) → Unchanged d e → TornIn file at n d e
torn_unchanged file at n d e same = subst (TornIn file at n d) (sym (same_files d e same)) (torn_none file at n d)

pub grown_unchanged : (file len : ℕ) (d e : Files) → Unchanged d e → GrownIn file len d e
grown_unchanged file len d e same = subst (GrownIn file len d) (sym (same_files d e same))
    (record { here = record { no_shorter = omega arith; no_longer = omega arith; below = λ i lt. refl }; elsewhere = λ other apart. refl })
