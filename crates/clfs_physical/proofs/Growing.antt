-- A log whose other files have grown.
use Rattle.clfs_physical.proofs.Words.{◌≡◌, ◌⊎◌, inl, ⊎_elim, ℕ, ◌*◌, ◌<◌, ◌≤◌, Bool, true, List, length, sym, ◌∙◌, ap, subst, arith, cases_lt, Files}
use Rattle.clfs_physical.proofs.Words.{DiskState, IsSettled, Passes, Leaves, AreWhole, BaseImage, IsImage, newest_of, with_containers, GrownAbove, Blocks}
use Rattle.clfs_physical.proofs.Words.{Newest, AreMade, IsLog, Stores}
use Rattle.clfs_physical.proofs.Joining.{leaves_after}
use Rattle.clfs_physical.proofs.Logs.{listed_made}

-- files that no copy counts may have grown
made_longer : (image : BaseImage) (old new : Files) → GrownAbove image.files_made old new → AreMade image old → AreMade image new
made_longer image old new grown made = record {
  base = omega (arith, made.base, grown.longer 0);
  made = λ file from to. omega (arith, made.made file from to, grown.longer file);
}

pub log_grown : (whole : Bool) (slot : ℕ) (image : BaseImage) (blocks : Blocks) (old new : Files) → IsImage image
    → IsLog whole slot image blocks old → GrownAbove image.files_made old new → IsLog whole slot image blocks new
log_grown whole slot image blocks old new is log grown = record {
  newest = ap newest_of (grown.same 0 (omega arith)) ∙ log.newest;
  holds = record {
    made = λ full. made_longer image old new grown (log.holds.made full);
    opens = λ file listed. subst (λ (l : List ℕ). AreWhole image.container_sectors l (blocks file))
        (sym (grown.same file (listed_made image file is listed))) (log.holds.opens file listed);
  };
}

-- once they have, the next copy may count them
pub made_more : (image : BaseImage) (containers : ℕ) (old new : Files) → AreMade image old → GrownAbove image.files_made old new
    → ((file : ℕ) → image.files_made < file → file ≤ containers → 512 * image.container_sectors ≤ length (new file))
    → AreMade (with_containers containers image) new
made_more image containers old new made grown long = record {
  base = omega (arith, made.base, grown.longer 0);
  made = λ file from to. ⊎_elim
      (λ (above : image.files_made < file). long file above (omega (arith, above, to)))
      (λ (below : file ≤ image.files_made). omega (arith, made.made file from below, grown.longer file))
      (cases_lt image.files_made file);
}

-- ---- files that were made, and the copy that counts them; `count` is the copy by which they were made

module _ (whole : Bool) (now : Newest) (containers : ℕ) (blocks : Blocks) (count : BaseImage) (is : count ≡ now.image)
    (image_is : IsImage now.image) (old mid : Files) (stores : Stores whole now blocks old) (grown : GrownAbove count.files_made old mid) where
  grown_now : GrownAbove now.image.files_made old mid
  grown_now = subst (λ (i : BaseImage). GrownAbove i.files_made old mid) is grown

  pub stores_grown : Stores whole now blocks mid
  stores_grown = log_grown whole now.slot now.image blocks old mid image_is stores grown_now

  pub made_grown : ((file : ℕ) → count.files_made < file → file ≤ containers → 512 * count.container_sectors ≤ length (mid file))
      → whole ≡ true → AreMade (with_containers containers now.image) mid
  made_grown long full = made_more now.image containers old mid (stores.holds.made full) grown_now
      (subst (λ (i : BaseImage). (file : ℕ) → i.files_made < file → file ≤ containers → 512 * i.container_sectors ≤ length (mid file)) is long)

-- while files that no copy counts grow, a crash leaves the copy of before
pub grown_keeps : (whole : Bool) (now : Newest) (blocks : Blocks) (count : BaseImage) → count ≡ now.image → IsImage now.image
    → (a m : DiskState) → IsSettled a → Stores whole now blocks a.files → Passes (GrownAbove count.files_made) a m
    → Leaves (λ f. Stores whole now blocks f) a m
grown_keeps whole now blocks count is image_is a m settled stores time =
    leaves_after (GrownAbove now.image.files_made) (λ f. Stores whole now blocks f) a m settled
    (subst (λ (i : BaseImage). Passes (GrownAbove i.files_made) a m) is time) stores
    (λ f more. log_grown whole now.slot now.image blocks a.files f image_is stores more)

pub grown_leaves : (whole : Bool) (now next : Newest) (blocks : Blocks) (count : BaseImage) → count ≡ now.image → IsImage now.image
    → (a m : DiskState) → IsSettled a → Stores whole now blocks a.files → Passes (GrownAbove count.files_made) a m
    → Leaves (λ f. Stores whole now blocks f ⊎ Stores whole next blocks f) a m
grown_leaves whole now next blocks count is image_is a m settled stores time =
    leaves_after (GrownAbove now.image.files_made) (λ f. Stores whole now blocks f ⊎ Stores whole next blocks f) a m settled
    (subst (λ (i : BaseImage). Passes (GrownAbove i.files_made) a m) is time) (inl stores)
    (λ f more. inl (log_grown whole now.slot now.image blocks a.files f image_is stores more))
