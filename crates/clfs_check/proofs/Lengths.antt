-- The test of files one by one.
use Rattle.std.proofs.Common.{inl, inr, ◌≡◌, ℕ, zero, suc, ◌+◌, ◌*◌, ◌<◌, Bool, true, false, refl, sym, ap, ap₂, ◌∙◌, subst, List, length, Ok, arith}
use Rattle.std.specs.Prelude.{◌&&◌, nat_le}
use Rattle.std.proofs.lemmas.Bool.{cases_lt}
use Rattle.clfs_lsn.specs.Format.{sector_bytes}
use Rattle.clfs_disk.specs.Files.{Files, Unchanged}
use Rattle.clfs_base.specs.declared.image.BaseImage.{BaseImage}
use Rattle.clfs_base.specs.Layout.{slot_bytes}
use Rattle.clfs_recover.specs.Whole.{all_long, are_long}

-- one more that is so long
pub one_longer : (files : Files) (bytes n : ℕ) → all_long files bytes n ≡ true → nat_le bytes (length (files (n + 1))) ≡ true → all_long files bytes (n + 1) ≡ true
one_longer files bytes n long here =
    let next : n + 1 ≡ suc n = omega arith in
    let here' : nat_le bytes (length (files (suc n))) ≡ true = subst (λ (k : ℕ). nat_le bytes (length (files k)) ≡ true) next here in
    ap (all_long files bytes) next ∙ rw (here', long) refl

-- one that is too short
pub one_short : (files : Files) (bytes n file : ℕ) → file < n → nat_le bytes (length (files (file + 1))) ≡ false → all_long files bytes n ≡ false
one_short files bytes zero file below short = absurd (omega (arith, below))
one_short files bytes (suc n) file below short = elim (cases_lt file n) [
  | inl others ↦ ends (nat_le bytes (length (files (suc n)))) (all_long files bytes n) (one_short files bytes n file others short)
  | inr not ↦
      let here : file + 1 ≡ suc n = omega (arith, below, not) in
      let short' : nat_le bytes (length (files (suc n))) ≡ false = subst (λ (k : ℕ). nat_le bytes (length (files k)) ≡ false) here short in
      rw short' refl
]
  where
    ends : (a b : Bool) → b ≡ false → (a && b) ≡ false
    ends true b e = e
    ends false b e = refl

-- files that hold the same are as long
pub long_still : (first now : Files) (bytes n : ℕ) → Unchanged first now → all_long now bytes n ≡ all_long first bytes n
long_still first now bytes zero same = refl
long_still first now bytes (suc n) same = ap₂ ◌&&◌ (ap (λ (l : List ℕ). nat_le bytes (length l)) (same (suc n))) (long_still first now bytes n same)

-- where the base file is too short the files aren't long
pub base_short : (files : Files) (slot : ℕ) (image : BaseImage) → nat_le (2 * slot_bytes) (length (files 0)) ≡ false → are_long files (Ok (slot, image)) ≡ false
base_short files slot image short = rw short refl

-- and else the others decide
pub base_long : (first : Files) (slot : ℕ) (image : BaseImage) (others : Bool) → nat_le (2 * slot_bytes) (length (first 0)) ≡ true
    → others ≡ all_long first (sector_bytes * image.container_sectors) image.files_made → others ≡ are_long first (Ok (slot, image))
base_long first slot image others long is = is ∙ sym (rw long refl)

-- so are all files of a log
pub long_files : (first now : Files) (slot : ℕ) (image : BaseImage) → Unchanged first now → are_long now (Ok (slot, image)) ≡ are_long first (Ok (slot, image))
long_files first now slot image same =
    ap₂ ◌&&◌ (ap (λ (l : List ℕ). nat_le (2 * slot_bytes) (length l)) (same 0)) (long_still first now (sector_bytes * image.container_sectors) image.files_made same)
