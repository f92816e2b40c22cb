-- The copy that lists another file, and what is a log under it.
use Rattle.clfs_physical.proofs.Words.{◌≡◌, ◌≢◌, ◌⊎◌, inl, inr, ⊎_elim, ℕ, ◌+◌, ◌-◌, ◌%◌, ◌<◌, ◌≤◌, Bool, true, false, cond, eqb, List, [], ◌∷◌, ◌++◌, length}
use Rattle.clfs_physical.proofs.Words.{get_or, drop, refl, sym, ◌∙◌, ap, subst, arith, length-append, get_or-append, get_or-append_seam, cases_lt, cases_eq}
use Rattle.clfs_physical.proofs.Words.{eq-eqb, Files, TornIn, DiskState, Leaves, AreWhole, BaseImage, IsImage, AreFiles, current, nat_tests, with_next_turn}
use Rattle.clfs_physical.proofs.Words.{with_file, next_copy, Blocks, IsIn, Lists, AreMade, Holds, IsLog, Newest, Stores, with_blocks, IsFree, low_of, taken_of}
use Rattle.clfs_physical.specs.declared.change.Change.TheVariants as changes
use Rattle.clfs_physical.specs.Taking.{HasRoom}
use Rattle.clfs_physical.proofs.Joining.{leaves_weaker, leaves_then}
use Rattle.clfs_physical.proofs.Lengths.{torn_lengths}
use Rattle.clfs_physical.proofs.Logs.{here, elsewhere, newest_same, holds_with, holds_beside}

-- ---- the copy

-- a file of the longer list is one of before or the new one
in_either : (files : List ℕ) (file other : ℕ) → IsIn (files ++ file ∷ []) other → (other ≡ file) ⊎ IsIn files other
in_either files file other is = ⊎_elim
    (λ (below : is.place < length files). inr (record { place = is.place; within = below; is = sym (get_or-append files (file ∷ []) 0 is.place below) ∙ is.is }))
    (λ (above : length files ≤ is.place). inl (sym is.is ∙ ap (λ (k : ℕ). get_or (files ++ file ∷ []) k 0) (last above) ∙ get_or-append_seam files file [] 0))
    (cases_lt is.place (length files))
  where
    last : length files ≤ is.place → is.place ≡ length files
    last above = omega (arith, above, is.within, length-append files (file ∷ []))

-- the number at a place of the longer list
at_place : (files : List ℕ) (file i : ℕ) → i < length (files ++ file ∷ []) → IsIn (files ++ file ∷ []) (get_or (files ++ file ∷ []) i 0)
at_place files file i within = record { place = i; within = within; is = refl }

more_files : (made : ℕ) (files : List ℕ) (file : ℕ) → AreFiles made files → IsFree made files file → AreFiles made (files ++ file ∷ [])
more_files made files file are is = record {
  from_one = λ i within. ⊎_elim
      (λ (same : get_or (files ++ file ∷ []) i 0 ≡ file). omega (arith, same, is.some))
      (λ (among : IsIn files (get_or (files ++ file ∷ []) i 0)). omega (arith, among.is, are.from_one among.place among.within))
      (in_either files file _ (at_place files file i within));
  to_last = λ i within. ⊎_elim
      (λ (same : get_or (files ++ file ∷ []) i 0 ≡ file). omega (arith, same, is.made_is))
      (λ (among : IsIn files (get_or (files ++ file ∷ []) i 0)). omega (arith, among.is, are.to_last among.place among.within))
      (in_either files file _ (at_place files file i within));
  different = λ i j below within same. ⊎_elim
      (λ (both : j < length files). are.different i j below both
      (sym (get_or-append files (file ∷ []) 0 i (omega (arith, below, both))) ∙ same ∙ get_or-append files (file ∷ []) 0 j both))
      (λ (last : length files ≤ j).
      let at_end : j ≡ length files = omega (arith, last, within, length-append files (file ∷ [])) in
      let early : i < length files = omega (arith, at_end, below) in
      is.free (record {
        place = i;
        within = early;
        is = sym (get_or-append files (file ∷ []) 0 i early) ∙ same ∙ ap (λ (k : ℕ). get_or (files ++ file ∷ []) k 0) at_end ∙ get_or-append_seam files file [] 0;
      }))
      (cases_lt j (length files));
}

pub file_image : (image : BaseImage) (file : ℕ) → IsImage (current image) → IsFree image.files_made image.files file → HasRoom image
    → IsImage (with_file file (with_next_turn image))
file_image image file is free room = record {
  version = is.version;
  turn = omega arith;
  shape = is.shape;
  some_containers = is.some_containers;
  containers_made = is.containers_made;
  few_made = is.few_made;
  first = is.first;
  some_listed = omega (arith, length-append image.files (file ∷ []));
  few_listed = omega (arith, length-append image.files (file ∷ []), room.few);
  last_id = omega (arith, length-append image.files (file ∷ []), room.id);
  maximum = is.maximum;
  minimum = is.minimum;
  growth = is.growth;
  tail = is.tail;
  dedicated = is.dedicated;
  files = more_files image.files_made image.files file is.files free;
  few_streams = is.few_streams;
  rows = is.rows;
}

-- ---- the log

-- blocks of a file that no container is in
pub log_unlisted : (whole : Bool) (slot : ℕ) (image : BaseImage) (blocks : Blocks) (file : ℕ) (is : List (List ℕ)) (files : Files) → (Lists image file → ⊥)
    → IsLog whole slot image (with_blocks file is blocks) files → IsLog whole slot image blocks files
log_unlisted whole slot image blocks file is files free log = record {
  newest = log.newest;
  holds = record {
    made = log.holds.made;
    opens = λ other listed. subst (AreWhole image.container_sectors (files other))
        (elsewhere file is blocks other (λ same. free (subst (Lists image) same listed))) (log.holds.opens other listed);
  };
}

-- the file that is to be taken has changed
pub log_beside : (whole : Bool) (slot : ℕ) (image : BaseImage) (blocks : Blocks) (file n : ℕ) (old new : Files) → IsFree image.files_made image.files file
    → IsLog whole slot image blocks old → TornIn file 0 n old new → IsLog whole slot image blocks new
log_beside whole slot image blocks file n old new free log torn = record {
  newest = newest_same image old new file free.some torn.elsewhere (torn_lengths file 0 n old new torn) slot log.newest;
  holds = holds_beside image old new file free.some torn.elsewhere (torn_lengths file 0 n old new torn) whole blocks log.holds free.free;
}

-- and its first gate is closed
pub log_closed : (whole : Bool) (slot : ℕ) (image : BaseImage) (blocks : Blocks) (file n : ℕ) (old new : Files) → IsFree image.files_made image.files file
    → IsLog whole slot image blocks old → TornIn file 0 n old new → AreWhole image.container_sectors (new file) []
    → IsLog whole slot image (with_blocks file [] blocks) new
log_closed whole slot image blocks file n old new free log torn none = record {
  newest = newest_same image old new file free.some torn.elsewhere (torn_lengths file 0 n old new torn) slot log.newest;
  holds = holds_with image old new file free.some torn.elsewhere (torn_lengths file 0 n old new torn) whole blocks [] log.holds none;
}

-- the copy that lists it says what the files have
pub holds_taken : (whole : Bool) (image : BaseImage) (blocks : Blocks) (file : ℕ) (files : Files) → Holds whole image (with_blocks file [] blocks) files
    → AreWhole image.container_sectors (files file) [] → Holds whole (with_file file (with_next_turn image)) (with_blocks file [] blocks) files
holds_taken whole image blocks file files holds none = record {
  made = λ full. record { base = (holds.made full).base; made = (holds.made full).made };
  opens = λ other listed. ⊎_elim
      (λ (same : other ≡ file). subst (AreWhole image.container_sectors (files other)) (sym (here file [] blocks other same))
      (subst (λ (k : ℕ). AreWhole image.container_sectors (files k) []) (sym same) none))
      (λ (among : IsIn image.files other). holds.opens other among)
      (in_either image.files file other listed);
}

-- ---- the file, taken

module _ (whole : Bool) (slot : ℕ) (image next : BaseImage) (now : Newest) (view : record { slot = slot; image = image } ≡ now) (file : ℕ)
    (is : next ≡ with_file file (with_next_turn image)) (image_is : IsImage image)
    (free_now : IsFree now.image.files_made now.image.files file) where
  free : IsFree image.files_made image.files file
  free = subst (λ (n : Newest). IsFree n.image.files_made n.image.files file) (sym view) free_now

  log_of : (blocks : Blocks) (files : Files) → Stores whole now blocks files → IsLog whole slot image blocks files
  log_of blocks files = subst (λ (n : Newest). Stores whole n blocks files) (sym view)

  of_log : (blocks : Blocks) (files : Files) → IsLog whole slot image blocks files → Stores whole now blocks files
  of_log blocks files = subst (λ (n : Newest). Stores whole n blocks files) view

  turn_is : next.turn ≡ (image.turn + 1) % 3
  turn_is = ap (λ (n : BaseImage). n.turn) is

  holds_next : (blocks : Blocks) (files : Files) → Holds whole image (with_blocks file [] blocks) files → AreWhole image.container_sectors (files file) []
      → Holds whole next (with_blocks file [] blocks) files
  holds_next blocks files holds none =
      subst (λ (n : BaseImage). Holds whole n (with_blocks file [] blocks) files) (sym is) (holds_taken whole image blocks file files holds none)

  pub taken_beside : (a b : DiskState) → Leaves (TornIn file 0 1 a.files) a b → (blocks : Blocks) → Stores whole now blocks a.files
      → Leaves (λ f. Stores whole now blocks f ⊎ Stores whole (taken_of file now) (with_blocks file [] blocks) f) a b
  taken_beside a b torn blocks stores =
      leaves_weaker (TornIn file 0 1 a.files) (λ f. Stores whole now blocks f ⊎ Stores whole (taken_of file now) (with_blocks file [] blocks) f) a b
      (λ f changed. inl (of_log blocks f (log_beside whole slot image blocks file 1 a.files f free (log_of blocks a.files stores) changed))) torn

  pub taken_leaves : (a m b : DiskState) → TornIn file 0 1 a.files m.files → AreWhole image.container_sectors (m.files file) []
      → Leaves (TornIn file 0 1 a.files) a m
      → ((before : BaseImage) (blocks : Blocks) → IsImage before → next.turn ≡ (before.turn + 1) % 3 → IsLog whole slot before blocks m.files
      → Holds whole next blocks m.files → Leaves (λ f. IsLog whole slot before blocks f ⊎ IsLog whole (1 - slot) next blocks f) m b)
      → (blocks : Blocks) → Stores whole now blocks a.files
      → Leaves (λ f. Stores whole now blocks f ⊎ Stores whole (taken_of file now) (with_blocks file [] blocks) f) a b
  taken_leaves a m b torn none first second blocks stores =
      let closed = log_closed whole slot image blocks file 1 a.files m.files free (log_of blocks a.files stores) torn none in
      leaves_then (λ f. Stores whole now blocks f ⊎ Stores whole (taken_of file now) (with_blocks file [] blocks) f) a m b
      (taken_beside a m first blocks stores)
      (leaves_weaker (λ f. IsLog whole slot image (with_blocks file [] blocks) f ⊎ IsLog whole (1 - slot) next (with_blocks file [] blocks) f)
      (λ f. Stores whole now blocks f ⊎ Stores whole (taken_of file now) (with_blocks file [] blocks) f) m b
      (λ f either. ⊎_elim
      (λ (old : IsLog whole slot image (with_blocks file [] blocks) f). inl (of_log blocks f (log_unlisted whole slot image blocks file [] f free.free old)))
      (λ (new : IsLog whole (1 - slot) next (with_blocks file [] blocks) f). inr (
      subst (λ (n : Newest). Stores whole (taken_of file n) (with_blocks file [] blocks) f) view
      (subst (λ (n : BaseImage). IsLog whole (1 - slot) n (with_blocks file [] blocks) f) is new)))
      either)
      (second image (with_blocks file [] blocks) image_is turn_is closed (holds_next blocks m.files closed.holds none)))

  pub taken_written : (used : ℕ) (old mid new : Files) → used ≡ 1 - slot → TornIn file 0 1 old mid → AreWhole image.container_sectors (mid file) []
      → ((before : BaseImage) (blocks : Blocks) → IsImage before → next.turn ≡ (before.turn + 1) % 3 → IsLog whole slot before blocks mid
      → Holds whole next blocks mid → IsLog whole (1 - slot) next blocks new)
      → (blocks : Blocks) → Stores whole now blocks old → IsLog whole used next (with_blocks file [] blocks) new
  taken_written used old mid new beside torn none written blocks stores =
      let closed = log_closed whole slot image blocks file 1 old mid free (log_of blocks old stores) torn none in
      subst (λ (k : ℕ). IsLog whole k next (with_blocks file [] blocks) new) (sym beside)
      (written image (with_blocks file [] blocks) image_is turn_is closed (holds_next blocks mid closed.holds none))

-- ---- the copy without the low containers

pub low_else : (first : ℕ) (now : Newest) → first ≢ now.image.first
    → record { slot = 1 - now.slot; image = next_copy first changes.Listing now.image } ≡ low_of first now
low_else first now apart = grind (arith, nat_tests)

pub low_files : (first : ℕ) (now : Newest) → (low_of first now).image.files ≡ drop (first - now.image.first) now.image.files
low_files first now = ⊎_elim
    (λ (same : first ≡ now.image.first).
    let none : first - now.image.first ≡ 0 = omega (arith, same) in
    ap (λ (b : Bool). (cond b now (record { slot = 1 - now.slot; image = next_copy first changes.Listing now.image })).image.files) (eq-eqb first now.image.first same)
    ∙ ap (λ (k : ℕ). drop k now.image.files) (sym none))
    (λ (apart : first ≢ now.image.first). ap (λ (n : Newest). n.image.files) (sym (low_else first now apart)))
    (cases_eq first now.image.first)

pub low_made : (first : ℕ) (now : Newest) → ((low_of first now).image.files_made ≡ now.image.files_made) × ((low_of first now).image.containers ≡ now.image.containers)
low_made first now = by_test (eqb first now.image.first)
  where
    by_test : (b : Bool) → let low = cond b now (record { slot = 1 - now.slot; image = next_copy first changes.Listing now.image }) in
        (low.image.files_made ≡ now.image.files_made) × (low.image.containers ≡ now.image.containers)
    by_test true = (refl, refl)
    by_test false = (refl, refl)

pub first_part : (A B C : Files → Type 0) (a b : DiskState) → Leaves (λ f. A f ⊎ B f) a b → Leaves (λ f. A f ⊎ B f ⊎ C f) a b
first_part A B C a b first = leaves_weaker (λ f. A f ⊎ B f) (λ f. A f ⊎ B f ⊎ C f) a b
    (λ f either. ⊎_elim (λ (x : A f). inl x) (λ (y : B f). inr (inl y)) either) first

-- two calls of a turn
pub turn_leaves : (A B C : Files → Type 0) (a b c : DiskState) → Leaves (λ f. A f ⊎ B f) a b → Leaves (λ f. B f ⊎ C f) b c
    → Leaves (λ f. A f ⊎ B f ⊎ C f) a c
turn_leaves A B C a b c first second =
    leaves_then (λ f. A f ⊎ B f ⊎ C f) a b c (first_part A B C a b first)
    (leaves_weaker (λ f. B f ⊎ C f) (λ f. A f ⊎ B f ⊎ C f) b c (λ f either. inr either) second)

-- it counts as many files
pub low_counts : (first : ℕ) (now : Newest) (files : Files) → AreMade now.image files → AreMade (low_of first now).image files
low_counts first now files are = by_test (eqb first now.image.first)
  where
    by_test : (b : Bool) → AreMade (cond b now (record { slot = 1 - now.slot; image = next_copy first changes.Listing now.image })).image files
    by_test true = are
    by_test false = record { base = are.base; made = are.made }
