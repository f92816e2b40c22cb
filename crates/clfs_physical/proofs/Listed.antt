-- Which files the next copy lists.
use Rattle.clfs_physical.proofs.Words.{◌≡◌, ◌⊎◌, ℕ, ◌+◌, ◌-◌, ◌%◌, ◌<◌, Bool, true, List, length, get_or, drop, refl, sym, ◌∙◌, ap, subst, arith, length-drop}
use Rattle.clfs_physical.proofs.Words.{get_or-drop, Files, BaseImage, Row, DiskState, Leaves, IsImage, Change, with_stream, with_containers, next_copy}
use Rattle.clfs_physical.proofs.Words.{Blocks, Lists, AreMade, Holds, IsLog, Newest, Stores}
use Rattle.clfs_physical.specs.declared.change.Change.TheVariants as changes

-- a copy that lists files of another and counts the same
record Relists (image next : BaseImage) : Type 0 where
  pub sectors : next.container_sectors ≡ image.container_sectors
  pub made : next.files_made ≡ image.files_made
  pub gone : ℕ
  pub files : next.files ≡ drop gone image.files

pub dropped_lists : (gone : ℕ) (image next : BaseImage) (file : ℕ) → next.files ≡ drop gone image.files → Lists next file → Lists image file
dropped_lists gone image next file files listed =
    let within : listed.place < length (drop gone image.files) = omega (arith, listed.within, ap (λ (l : List ℕ). length l) files) in
    record {
      place = gone + listed.place;
      within = omega (arith, within, length-drop gone image.files);
      is = sym (get_or-drop gone image.files listed.place 0) ∙ sym (ap (λ (l : List ℕ). get_or l listed.place 0) files) ∙ listed.is;
    }

pub made_as : (image next : BaseImage) (files : Files) → next.container_sectors ≡ image.container_sectors → next.files_made ≡ image.files_made
    → AreMade image files → AreMade next files
made_as image next files sectors made are = record {
  base = are.base;
  made = λ file from to. omega (arith, are.made file from (omega (arith, to, made)), sectors);
}

relisted : (whole : Bool) (image next : BaseImage) (blocks : Blocks) (files : Files) → Relists image next → Holds whole image blocks files
    → Holds whole next blocks files
relisted whole image next blocks files relists holds = record {
  made = λ full. made_as image next files relists.sectors relists.made (holds.made full);
  opens = λ file listed. rw relists.sectors (holds.opens file (dropped_lists relists.gone image next file relists.files listed));
}

relists : (first : ℕ) (change : Change) (image : BaseImage) → Relists image (next_copy first change image)
relists first changes.Listing image = record { sectors = refl; made = refl; gone = first - image.first; files = refl }
relists first (changes.Base stream base) image = record { sectors = refl; made = refl; gone = first - image.first; files = refl }
relists first (changes.Archive archiving tail) image = record { sectors = refl; made = refl; gone = first - image.first; files = refl }
relists first (changes.Policies automatic maximum minimum growth) image = record { sectors = refl; made = refl; gone = first - image.first; files = refl }

pub next_holds : (whole : Bool) (first : ℕ) (change : Change) (image : BaseImage) (blocks : Blocks) (files : Files) → Holds whole image blocks files
    → Holds whole (next_copy first change image) blocks files
next_holds whole first change image blocks files holds = relisted whole image (next_copy first change image) blocks files (relists first change image) holds

pub next_turn : (first : ℕ) (change : Change) (image : BaseImage) → (next_copy first change image).turn ≡ (image.turn + 1) % 3
next_turn first changes.Listing image = refl
next_turn first (changes.Base stream base) image = refl
next_turn first (changes.Archive archiving tail) image = refl
next_turn first (changes.Policies automatic maximum minimum growth) image = refl

-- a log under another copy that lists no other files and counts as many of them
pub stream_holds : (whole : Bool) (first : ℕ) (row : Row) (image : BaseImage) (blocks : Blocks) (files : Files) → Holds whole image blocks files
    → Holds whole (with_stream row (next_copy first changes.Listing image)) blocks files
stream_holds whole first row image blocks files holds =
    relisted whole image (with_stream row (next_copy first changes.Listing image)) blocks files
    (record { sectors = refl; made = refl; gone = first - image.first; files = refl }) holds

-- or more of them, where these were made
pub containers_hold : (whole : Bool) (first containers : ℕ) (image : BaseImage) (blocks : Blocks) (files : Files) → Holds whole image blocks files
    → (whole ≡ true → AreMade (with_containers containers image) files)
    → Holds whole (with_containers containers (next_copy first changes.Listing image)) blocks files
containers_hold whole first containers image blocks files holds made = record {
  made = λ full. record { base = (made full).base; made = (made full).made };
  opens = λ file listed. holds.opens file
      (dropped_lists (first - image.first) image (with_containers containers (next_copy first changes.Listing image)) file refl listed);
}

-- ---- the next copy, written

module _ (whole : Bool) (next_of : BaseImage → BaseImage) (turns : (image : BaseImage) → (next_of image).turn ≡ (image.turn + 1) % 3)
    (slot : ℕ) (image next : BaseImage) (now : Newest) (view : record { slot = slot; image = image } ≡ now)
    (is : next ≡ next_of image) (image_is : IsImage image) where
  turn_is : next.turn ≡ (image.turn + 1) % 3
  turn_is = ap (λ (n : BaseImage). n.turn) is ∙ turns image

  holds_next : (blocks : Blocks) (files : Files) → (Holds whole image blocks files → Holds whole (next_of image) blocks files) → Holds whole image blocks files
      → Holds whole next blocks files
  holds_next blocks files then holds = subst (λ (n : BaseImage). Holds whole n blocks files) (sym is) (then holds)

  pub copy_leaves : (a b : DiskState) → ((blocks : Blocks) → Holds whole now.image blocks a.files → Holds whole (next_of now.image) blocks a.files)
      → ((before : BaseImage) (blocks : Blocks) → IsImage before → next.turn ≡ (before.turn + 1) % 3 → IsLog whole slot before blocks a.files
      → Holds whole next blocks a.files → Leaves (λ files. IsLog whole slot before blocks files ⊎ IsLog whole (1 - slot) next blocks files) a b)
      → (blocks : Blocks) → Stores whole now blocks a.files
      → Leaves (λ files. Stores whole now blocks files ⊎ Stores whole (record { slot = 1 - now.slot; image = next_of now.image }) blocks files) a b
  copy_leaves a b still leaves = subst
      (λ (n : Newest). ((blocks : Blocks) → Holds whole n.image blocks a.files → Holds whole (next_of n.image) blocks a.files)
      → (blocks : Blocks) → Stores whole n blocks a.files
      → Leaves (λ files. Stores whole n blocks files ⊎ Stores whole (record { slot = 1 - n.slot; image = next_of n.image }) blocks files) a b) view
      (λ here blocks log. subst (λ (n : BaseImage). Leaves (λ files. IsLog whole slot image blocks files ⊎ IsLog whole (1 - slot) n blocks files) a b) is
      (leaves image blocks image_is turn_is log (holds_next blocks a.files (here blocks) log.holds)))
      still

  pub copy_written : (used : ℕ) (old new : Files) → used ≡ 1 - slot
      → ((blocks : Blocks) → Holds whole now.image blocks old → Holds whole (next_of now.image) blocks old)
      → ((before : BaseImage) (blocks : Blocks) → IsImage before → next.turn ≡ (before.turn + 1) % 3 → IsLog whole slot before blocks old
      → Holds whole next blocks old → IsLog whole (1 - slot) next blocks new)
      → (blocks : Blocks) → Stores whole now blocks old → IsLog whole used next blocks new
  copy_written used old new beside still written = subst
      (λ (n : Newest). ((blocks : Blocks) → Holds whole n.image blocks old → Holds whole (next_of n.image) blocks old)
      → (blocks : Blocks) → Stores whole n blocks old → IsLog whole used next blocks new) view
      (λ here blocks log. subst (λ (k : ℕ). IsLog whole k next blocks new) (sym beside)
      (written image blocks image_is turn_is log (holds_next blocks old (here blocks) log.holds)))
      still
