-- The test tells that files are at full length.
use Rattle.clfs_recover.proofs.Words.{inl, inr, ◌≡◌, ℕ, zero, suc, ◌+◌, ◌*◌, ◌≤◌, ◌<◌, Bool, true, false, refl, sym, ap, subst, ◌∙◌, List, length, arith}
use Rattle.clfs_recover.proofs.Words.{nat_le, cases_lt, Files, BaseImage, NewestRefusal, newest_of}
use Rattle.std.specs.Prelude.{◌&&◌, ◌⊎◌, Result, Ok, Err}
use Rattle.clfs_lsn.specs.Format.{sector_bytes}
use Rattle.clfs_base.specs.Layout.{slot_bytes}
use Rattle.clfs_recover.specs.Files.{AreWholeFiles}
use Rattle.clfs_recover.specs.Whole.{all_long, are_long, are_whole}

-- both of two tests
both : (a b : Bool) → (a && b) ≡ true → (a ≡ true) × (b ≡ true)
both true true e = (refl, refl)
both true false e = absurd (cc e)
both false b e = absurd (cc e)

le_is : (a b : ℕ) → nat_le a b ≡ true → a ≤ b
le_is a b e = grind (arith, e)

is_le : (a b : ℕ) → a ≤ b → nat_le a b ≡ true
is_le a b e = grind (arith, e)

-- where the test of some files passes, each is so long, and where each is, it passes
each_long : (files : Files) (bytes n file : ℕ) → all_long files bytes n ≡ true → 1 ≤ file → file ≤ n → bytes ≤ length (files file)
each_long files bytes zero file e one few = absurd (omega (arith, one, few))
each_long files bytes (suc n) file e one few = elim (cases_lt file (suc n)) [
  | inl below ↦ each_long files bytes n file (both _ _ e).1 one (omega (arith, below))
  | inr not ↦ let same : suc n ≡ file = omega (arith, not, few) in subst (λ (k : ℕ). bytes ≤ length (files k)) same (le_is _ _ (both _ _ e).0)
]

all_are : (files : Files) (bytes n : ℕ) → ((file : ℕ) → 1 ≤ file → file ≤ n → bytes ≤ length (files file)) → all_long files bytes n ≡ true
all_are files bytes zero each = refl
all_are files bytes (suc n) each = rw (is_le bytes (length (files (suc n))) (each (suc n) (omega arith) (omega arith)), all_are files bytes n (λ file one few. each file one (omega (arith, few)))) refl

-- by what the base file has
by_copy : (files : Files) (found : Result (ℕ × BaseImage) NewestRefusal) → newest_of (files 0) ≡ found → are_long files found ≡ true → AreWholeFiles files
by_copy files (Ok found) is e = record {
  slot = found.0;
  image = found.1;
  newest = is;
  base_file = le_is _ _ (both _ _ e).0;
  containers = λ file one few. each_long files (sector_bytes * found.1.container_sectors) found.1.files_made file (both _ _ e).1 one few;
}
by_copy files (Err refusal) is e = absurd (cc e)

pub whole_by_test : (files : Files) → are_whole files ≡ true → AreWholeFiles files
whole_by_test files e = by_copy files (newest_of (files 0)) refl e

pub test_by_whole : (files : Files) → AreWholeFiles files → are_whole files ≡ true
test_by_whole files w = ap (are_long files) w.newest ∙ rw (is_le _ _ w.base_file, all_are files (sector_bytes * w.image.container_sectors) w.image.files_made w.containers) refl
