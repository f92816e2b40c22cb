-- What is still a log after a file of it has changed.
use Rattle.clfs_physical.proofs.Words.{◌≡◌, ◌≢◌, ◌⊎◌, inl, inr, ⊎_elim, ℕ, ◌+◌, ◌-◌, ◌*◌, ◌<◌, ◌≤◌, Bool, true, false, cond, eqb, List, [], ◌∷◌, ◌++◌, length}
use Rattle.clfs_physical.proofs.Words.{get_or, drop, refl, sym, ◌∙◌, ap, subst, arith, length-drop, cases_eq, eq-eqb, nat_tests, get_or-drop, Files}
use Rattle.clfs_physical.proofs.Words.{DiskState, Leaves, AreWhole, IsBehind, HasBlocks, BaseImage, IsImage, newest_of, HasNewest, EitherNewest, SameLengths}
use Rattle.clfs_physical.proofs.Words.{HasGroup, HasNone, Blocks, Lists, AreMade, Holds, IsLog, with_blocks, IsPlaced, with_group}
use Rattle.std.proofs.Common.{◌/◌}
use Rattle.std.proofs.Common.{Ok}
use Rattle.std.proofs.lemmas.List.{length-take-le, append-nil}
use Rattle.clfs_container.specs.OpenBlocks.{block_sectors, Opens, total}
use Rattle.clfs_container.specs.Writing.{IsGroup}
use Rattle.clfs_physical.proofs.Joining.{leaves_weaker}
use Rattle.clfs_physical.specs.Stored.{last_file}

-- ---- lengths

-- files that are no shorter have what a copy counts
pub made_still : (image : BaseImage) (old new : Files) → SameLengths old new → AreMade image old → AreMade image new
made_still image old new same made = record {
  base = omega (arith, same 0, made.base);
  made = λ file from to. omega (arith, same file, made.made file from to);
}

-- ---- which file has which blocks

pub here : (file : ℕ) (is : List (List ℕ)) (blocks : Blocks) (other : ℕ) → other ≡ file → with_blocks file is blocks other ≡ is
here file is blocks other same = ap (λ (b : Bool). cond b is (blocks other)) (eq-eqb other file same)

pub elsewhere : (file : ℕ) (is : List (List ℕ)) (blocks : Blocks) (other : ℕ) → other ≢ file → with_blocks file is blocks other ≡ blocks other
elsewhere file is blocks other apart = grind (arith, nat_tests)

-- a listed file is none of the base file's number
pub listed_some : (image : BaseImage) (file : ℕ) → IsImage image → Lists image file → 1 ≤ file
listed_some image file is listed = omega (arith, is.files.from_one listed.place listed.within, listed.is)

pub listed_made : (image : BaseImage) (file : ℕ) → IsImage image → Lists image file → file ≤ image.files_made
listed_made image file is listed = omega (arith, is.files.to_last listed.place listed.within, listed.is)

pub last_listed : (image : BaseImage) → IsImage image → Lists image (last_file image)
last_listed image is = record { place = length image.files - 1; within = omega (arith, is.some_listed); is = refl }

-- ---- one file has changed

-- all files but one, which is not the base file, have stayed
module _ (image : BaseImage) (old new : Files) (file : ℕ) (some : 1 ≤ file) (others : (other : ℕ) → other ≢ file → new other ≡ old other)
    (lengths : SameLengths old new) where
  base_same : new 0 ≡ old 0
  base_same = others 0 (λ is. absurd (omega (arith, some, is)))

  pub newest_same : (slot : ℕ) → newest_of (old 0) ≡ Ok (slot, image) → newest_of (new 0) ≡ Ok (slot, image)
  newest_same slot newest = ap newest_of base_same ∙ newest

  -- it has these blocks now
  pub holds_with : (whole : Bool) (blocks : Blocks) (is : List (List ℕ)) → Holds whole image blocks old → AreWhole image.container_sectors (new file) is
      → Holds whole image (with_blocks file is blocks) new
  holds_with whole blocks is holds clean = record {
    made = λ full. made_still image old new lengths (holds.made full);
    opens = λ other listed. ⊎_elim
        (λ (same : other ≡ file). subst (AreWhole image.container_sectors (new other)) (sym (here file is blocks other same))
        (subst (λ (k : ℕ). AreWhole image.container_sectors (new k) is) (sym same) clean))
        (λ (apart : other ≢ file). subst (AreWhole image.container_sectors (new other)) (sym (elsewhere file is blocks other apart))
        (subst (λ (l : List ℕ). AreWhole image.container_sectors l (blocks other)) (sym (others other apart)) (holds.opens other listed)))
        (cases_eq other file);
  }

  -- it has the same blocks still
  pub holds_still : (whole : Bool) (blocks : Blocks) → Holds whole image blocks old → AreWhole image.container_sectors (new file) (blocks file)
      → Holds whole image blocks new
  holds_still whole blocks holds clean = record {
    made = λ full. made_still image old new lengths (holds.made full);
    opens = λ other listed. ⊎_elim
        (λ (same : other ≡ file). subst (λ (k : ℕ). AreWhole image.container_sectors (new k) (blocks k)) (sym same) clean)
        (λ (apart : other ≢ file). subst (λ (l : List ℕ). AreWhole image.container_sectors l (blocks other)) (sym (others other apart)) (holds.opens other listed))
        (cases_eq other file);
  }

  -- no container is in it
  pub holds_beside : (whole : Bool) (blocks : Blocks) → Holds whole image blocks old → (Lists image file → ⊥) → Holds whole image blocks new
  holds_beside whole blocks holds free = record {
    made = λ full. made_still image old new lengths (holds.made full);
    opens = λ other listed. ⊎_elim
        (λ (same : other ≡ file). absurd (free (subst (Lists image) same listed)))
        (λ (apart : other ≢ file). subst (λ (l : List ℕ). AreWhole image.container_sectors l (blocks other)) (sym (others other apart)) (holds.opens other listed))
        (cases_eq other file);
  }

-- ---- the base file has changed

made_beside_base : (image : BaseImage) (slot : ℕ) (copy : BaseImage) (old new : Files) → HasNewest slot copy old new → AreMade image old
    → AreMade image new
made_beside_base image slot copy old new has made = record {
  base = omega (arith, has.same_length, made.base);
  made = λ file from to. omega (arith, ap (λ (l : List ℕ). length l) (has.elsewhere file (λ none. absurd (omega (arith, from, none)))), made.made file from to);
}

pub holds_beside_base : (whole : Bool) (image : BaseImage) (blocks : Blocks) (slot : ℕ) (copy : BaseImage) (old new : Files) → IsImage image
    → Holds whole image blocks old → HasNewest slot copy old new → Holds whole image blocks new
holds_beside_base whole image blocks slot copy old new is holds has = record {
  made = λ full. made_beside_base image slot copy old new has (holds.made full);
  opens = λ file listed. subst (λ (l : List ℕ). AreWhole image.container_sectors l (blocks file))
      (sym (has.elsewhere file (λ none. absurd (omega (arith, listed_some image file is listed, none))))) (holds.opens file listed);
}

pub log_by_copy : (whole : Bool) (image : BaseImage) (blocks : Blocks) (slot : ℕ) (old new : Files) → IsImage image
    → Holds whole image blocks old → HasNewest slot image old new → IsLog whole slot image blocks new
log_by_copy whole image blocks slot old new is holds has = record {
  newest = has.newest;
  holds = holds_beside_base whole image blocks slot image old new is holds has;
}

pub log_by_either : (whole : Bool) (image next : BaseImage) (blocks : Blocks) (used slot : ℕ) (old new : Files) → IsImage image → IsImage next
    → Holds whole image blocks old → Holds whole next blocks old → EitherNewest slot used image next old new
    → IsLog whole used image blocks new ⊎ IsLog whole slot next blocks new
log_by_either whole image next blocks used slot old new is next_is holds next_holds either = ⊎_elim
    (λ (has : HasNewest used image old new). inl (log_by_copy whole image blocks used old new is holds has))
    (λ (has : HasNewest slot next old new). inr (log_by_copy whole next blocks slot old new next_is next_holds has)) either

-- ---- a group

-- how many sectors are left after open blocks
opens_left : (left : ℕ) (bytes : List ℕ) (blocks : List (List ℕ)) (rest : ℕ) → Opens left bytes blocks rest
    → total blocks + 512 * rest ≡ 512 * left
opens_left left bytes [] rest opens = omega (arith, opens)
opens_left left bytes (block ∷ blocks) rest opens =
    let n = block_sectors bytes in
    let size : length block ≡ 512 * n = ap (λ (l : List ℕ). length l) opens.0.is ∙ length-take-le (512 * n) bytes opens.0.whole in
    omega (arith, size, opens.0.fits, opens_left (left - n) (drop (512 * n) bytes) blocks rest opens.1)

-- a group takes a sector at least
group_room : (rest : ℕ) (body : List ℕ) (more : List (List ℕ)) (left : ℕ) → IsGroup rest body more left → 0 < rest
group_room rest body [] left group = omega (arith, group.some)
group_room rest body (block ∷ more) left group = omega (arith, group.opens.0.some, group.opens.0.fits)

-- and bytes after its gate
group_bytes : (rest : ℕ) (more : List (List ℕ)) (left : ℕ) → IsGroup rest [] more left → ⊥
group_bytes rest [] left group = absurd (omega (arith, group.some))
group_bytes rest (block ∷ more) left group = absurd (omega (arith, group.opens.0.some, group.opens.0.whole))

pub placed_bytes : (image : BaseImage) (blocks : Blocks) (at : ℕ) (body : List ℕ) (more : List (List ℕ)) → length body ≡ 0
    → IsPlaced image blocks at body more → ⊥
placed_bytes image blocks at [] more none placed = group_bytes _ more placed.left placed.group
placed_bytes image blocks at (byte ∷ body) more none placed = absurd (omega (arith, none))

pub is_empty : (body : List ℕ) (b : Bool) → b ≡ eqb (length body) 0 → b ≡ true → length body ≡ 0
is_empty body b test holds = grind (arith, nat_tests)

pub not_empty : (body : List ℕ) (b : Bool) → b ≡ eqb (length body) 0 → b ≡ false → body ≡ [] → ⊥
not_empty [] b test fails none = cc
not_empty (byte ∷ body) b test fails none = cc

-- the place of the next group has a closed gate
pub behind_whole : (sectors file : ℕ) (blocks : List (List ℕ)) (at : ℕ) (files : Files) → AreWhole sectors (files file) blocks → total blocks ≡ at
    → 0 < sectors - at / 512 → IsBehind sectors file blocks (sectors - at / 512) at files
behind_whole sectors file blocks at files whole place some =
    let left : whole.0 ≡ sectors - at / 512 = omega (arith, opens_left sectors (files file) blocks whole.0 whole.1, place) in
    ⊎_elim
    (λ (none : whole.0 ≡ 0). absurd (omega (arith, none, left, some)))
    (λ (shut : (0 < length (drop (total blocks) (files file))) × (get_or (drop (total blocks) (files file)) 0 0 ≢ 165)). record {
      opens = subst (Opens sectors (files file) blocks) left whole.1;
      place = place;
      there = omega (arith, shut.0, length-drop (total blocks) (files file), place);
      closed = λ is. shut.1 (get_or-drop (total blocks) (files file) 0 0 ∙ ap (λ (k : ℕ). get_or (files file) k 0) (omega (arith, place)) ∙ is);
    })
    whole.2

-- where the group goes
pub log_behind : (whole : Bool) (slot : ℕ) (image : BaseImage) (blocks : Blocks) (at : ℕ) (body : List ℕ) (more : List (List ℕ)) (old : Files)
    → IsImage image → IsLog whole slot image blocks old → (placed : IsPlaced image blocks at body more)
    → IsBehind image.container_sectors (last_file image) (blocks (last_file image)) (image.container_sectors - at / 512) at old
log_behind whole slot image blocks at body more old is log placed =
    behind_whole image.container_sectors (last_file image) (blocks (last_file image)) at old
    (log.holds.opens (last_file image) (last_listed image is)) placed.place
    (group_room _ body more placed.left placed.group)

-- all of the group is there
pub log_with : ((sectors file : ℕ) (blocks : List (List ℕ)) (rest : ℕ) (files : Files) → HasBlocks sectors file blocks rest files → AreWhole sectors (files file) blocks)
    → (whole : Bool) (slot : ℕ) (image : BaseImage) (blocks : Blocks) (more : List (List ℕ)) (left : ℕ) (old new : Files) → IsImage image
    → IsLog whole slot image blocks old → HasGroup image.container_sectors (last_file image) (blocks (last_file image)) more left old new
    → IsLog whole slot image (with_group image more blocks) new
log_with law whole slot image blocks more left old new is log has =
    let some = listed_some image (last_file image) is (last_listed image is) in
    record {
      newest = newest_same image old new (last_file image) some has.others has.lengths slot log.newest;
      holds = holds_with image old new (last_file image) some has.others has.lengths whole blocks (blocks (last_file image) ++ more) log.holds
          (law image.container_sectors (last_file image) (blocks (last_file image) ++ more) left new has.blocks_are);
    }

-- none of it is
pub log_still : ((sectors file : ℕ) (blocks : List (List ℕ)) (rest at : ℕ) (files : Files) → IsBehind sectors file blocks rest at files → AreWhole sectors (files file) blocks)
    → (whole : Bool) (slot : ℕ) (image : BaseImage) (blocks : Blocks) (rest at : ℕ) (old new : Files) → IsImage image
    → IsLog whole slot image blocks old → HasNone image.container_sectors (last_file image) (blocks (last_file image)) rest at old new
    → IsLog whole slot image blocks new
log_still law whole slot image blocks rest at old new is log has =
    let some = listed_some image (last_file image) is (last_listed image is) in
    record {
      newest = newest_same image old new (last_file image) some has.others has.lengths slot log.newest;
      holds = holds_still image old new (last_file image) some has.others has.lengths whole blocks log.holds
          (law image.container_sectors (last_file image) (blocks (last_file image)) rest at new has.behind);
    }

-- where nothing waits
pub log_no_group : (whole : Bool) (slot : ℕ) (image : BaseImage) (blocks : Blocks) (more : List (List ℕ)) (files : Files) → more ≡ []
    → IsLog whole slot image blocks files → IsLog whole slot image (with_group image more blocks) files
log_no_group whole slot image blocks more files none log = record {
  newest = log.newest;
  holds = record {
    made = log.holds.made;
    opens = λ other listed. subst (AreWhole image.container_sectors (files other)) (sym (still other)) (log.holds.opens other listed);
  };
}
  where
    still : (other : ℕ) → with_group image more blocks other ≡ blocks other
    still other = ⊎_elim
        (λ (same : other ≡ last_file image). here (last_file image) (blocks (last_file image) ++ more) blocks other same
        ∙ ap (λ (l : List (List ℕ)). blocks (last_file image) ++ l) none ∙ append-nil (blocks (last_file image)) ∙ ap blocks (sym same))
        (λ (apart : other ≢ last_file image). elsewhere (last_file image) (blocks (last_file image) ++ more) blocks other apart)
        (cases_eq other (last_file image))

-- what waited, written
module _ (whole : Bool) (slot : ℕ) (image : BaseImage) (blocks : Blocks) (at : ℕ) (body : List ℕ) (more : List (List ℕ)) (old : Files) (file : ℕ)
    (last : file ≡ last_file image) (is : IsImage image) (log : IsLog whole slot image blocks old) (placed : IsPlaced image blocks at body more) where
  behind_last : IsBehind image.container_sectors file (blocks (last_file image)) (image.container_sectors - at / 512) at old
  behind_last = subst (λ (k : ℕ). IsBehind image.container_sectors k (blocks (last_file image)) (image.container_sectors - at / 512) at old) (sym last)
      (log_behind whole slot image blocks at body more old is log placed)

  pub group_done : ((sectors file : ℕ) (blocks : List (List ℕ)) (rest : ℕ) (files : Files) → HasBlocks sectors file blocks rest files → AreWhole sectors (files file) blocks)
      → (new : Files)
      → ((sectors : ℕ) (blocks : List (List ℕ)) (rest : ℕ) (more : List (List ℕ)) (left : ℕ) → IsBehind sectors file blocks rest at old
      → IsGroup rest body more left → HasGroup sectors file blocks more left old new)
      → IsLog whole slot image (with_group image more blocks) new
  group_done law new written = log_with law whole slot image blocks more placed.left old new is log
      (subst (λ (k : ℕ). HasGroup image.container_sectors k (blocks (last_file image)) more placed.left old new) last
      (written image.container_sectors (blocks (last_file image)) _ more placed.left behind_last placed.group))

  pub group_moments : ((sectors file : ℕ) (blocks : List (List ℕ)) (rest : ℕ) (files : Files) → HasBlocks sectors file blocks rest files → AreWhole sectors (files file) blocks)
      → ((sectors file : ℕ) (blocks : List (List ℕ)) (rest at : ℕ) (files : Files) → IsBehind sectors file blocks rest at files → AreWhole sectors (files file) blocks)
      → (a b : DiskState)
      → ((sectors : ℕ) (blocks : List (List ℕ)) (rest : ℕ) (more : List (List ℕ)) (left : ℕ) → IsBehind sectors file blocks rest at old
      → IsGroup rest body more left → Leaves (λ f. HasNone sectors file blocks rest at old f ⊎ HasGroup sectors file blocks more left old f) a b)
      → Leaves (λ f. IsLog whole slot image blocks f ⊎ IsLog whole slot image (with_group image more blocks) f) a b
  group_moments written behind a b leaves =
      let rest = image.container_sectors - at / 512 in
      let here = blocks (last_file image) in
      let sectors = image.container_sectors in
      leaves_weaker (λ f. HasNone sectors file here rest at old f ⊎ HasGroup sectors file here more placed.left old f)
      (λ f. IsLog whole slot image blocks f ⊎ IsLog whole slot image (with_group image more blocks) f) a b
      (λ f either. ⊎_elim
      (λ (none : HasNone sectors file here rest at old f). inl (log_still behind whole slot image blocks rest at old f is log
      (subst (λ (k : ℕ). HasNone sectors k here rest at old f) last none)))
      (λ (has : HasGroup sectors file here more placed.left old f). inr (log_with written whole slot image blocks more placed.left old f is log
      (subst (λ (k : ℕ). HasGroup sectors k here more placed.left old f) last has))) either)
      (leaves sectors here rest more placed.left behind_last placed.group)
