-- A copy that is written over the older slot.
use Rattle.clfs_physical.proofs.Words.{◌≡◌, inl, inr, ⊎_elim, ℕ, false, List, ◌∙◌, Files, DiskState, Leaves, BaseImage, HasNewest, EitherNewest}
use Rattle.clfs_base.specs.Slots.{is_open_slot}
use Rattle.clfs_base.specs.Writing.{body_of, IsOlder, IsFilled}
use Rattle.clfs_physical.specs.Joined.{Follows}
use Rattle.clfs_physical.proofs.Joining.{leaves_weaker}

-- the newest copy of before, kept once more
pub newest_then : (slot : ℕ) (image : BaseImage) (used : ℕ) (before : BaseImage) (old mid files : Files) → HasNewest used before old mid
    → HasNewest slot image mid files → HasNewest slot image old files
newest_then slot image used before old mid files first second = record {
  newest = second.newest;
  same_length = second.same_length ∙ first.same_length;
  elsewhere = λ file some. second.elsewhere file some ∙ first.elsewhere file some;
}

either_then : (slot used : ℕ) (image next : BaseImage) (old mid files : Files) → HasNewest used image old mid
    → EitherNewest slot used image next mid files → EitherNewest slot used image next old files
either_then slot used image next old mid files kept either = ⊎_elim
    (λ (is : HasNewest used image mid files). inl (newest_then used image used image old mid files kept is))
    (λ (is : HasNewest slot next mid files). inr (newest_then slot next used image old mid files kept is)) either

-- the slot is still the older one
pub still_older : (slot used : ℕ) (image : BaseImage) (old mid : Files) → IsOlder slot used image old → HasNewest used image old mid
    → IsOlder slot used image mid
still_older slot used image old mid older kept = record { newest = kept.newest; beside = older.beside }

-- the copy stands in its slot whole
pub filled : (slot used : ℕ) (image next : BaseImage) (body : List ℕ) (old files : Files) → Follows slot used image next body old
    → is_open_slot (files 0) slot ≡ false → body_of (files 0) slot ≡ body → IsFilled slot image next files
filled slot used image next body old files follows closed stands = record {
  next_image = follows.next_image;
  turn = follows.turn;
  closed = closed;
  body = stands ∙ follows.spells;
}

-- before the slot is opened
pub old_yet : (slot used : ℕ) (image next : BaseImage) (old : Files) (a b : DiskState) → Leaves (HasNewest used image old) a b
    → Leaves (EitherNewest slot used image next old) a b
old_yet slot used image next old a b keeps =
    leaves_weaker (HasNewest used image old) (EitherNewest slot used image next old) a b (λ files is. inl is) keeps

pub old_still : (used : ℕ) (image : BaseImage) (old mid : Files) (a b : DiskState) → HasNewest used image old mid → Leaves (HasNewest used image mid) a b
    → Leaves (HasNewest used image old) a b
old_still used image old mid a b kept keeps =
    leaves_weaker (HasNewest used image mid) (HasNewest used image old) a b (λ files is. newest_then used image used image old mid files kept is) keeps

-- while it is opened
pub old_or_new : (slot used : ℕ) (image next : BaseImage) (old mid : Files) (a b : DiskState) → HasNewest used image old mid
    → Leaves (EitherNewest slot used image next mid) a b → Leaves (EitherNewest slot used image next old) a b
old_or_new slot used image next old mid a b kept opens =
    leaves_weaker (EitherNewest slot used image next mid) (EitherNewest slot used image next old) a b
    (λ files either. either_then slot used image next old mid files kept either) opens
