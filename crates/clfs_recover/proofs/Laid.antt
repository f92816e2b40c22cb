-- Files in which opening finds a log: its base copy alone, in its slot, and the blocks of each container with a closed gate after them.
use Rattle.clfs_recover.proofs.Words.{◌≡◌, ◌≢◌, inr, ℕ, zero, suc, ◌-◌, ◌*◌, ◌<◌, ◌≤◌, Bool, true, false, cond, eqb, List, [], ◌∷◌, ◌++◌, length, get_or}
use Rattle.clfs_recover.proofs.Words.{take, drop, Result, Ok, refl, sym, ◌∙◌, ap, subst, arith, length-append, append-nil, get_or_append_left, get_or_past}
use Rattle.clfs_recover.proofs.Words.{take_at, take_all, drop_at, drop-drop, length-take-le, recursion_from_All, AllByRecursion, eq-eqb, ne_eqb, Files}
use Rattle.clfs_recover.proofs.Words.{block_sectors, BeginsWith, Opens, AreWhole, total, BaseImage, Front, NewestRefusal, IsImage, image_at, front_of}
use Rattle.clfs_recover.proofs.Words.{slot_by, slot_of, copy_in, copy_of, newest_of, Finds, HaveBlocks, HasLog, LieIn, IsLogOf, Parts}
use Rattle.std.proofs.Common.{replicate}
use Rattle.std.proofs.lemmas.List.{length-replicate, get_or-replicate, get_or_at}
use Rattle.clfs_base.specs.Spelling.{spelled}
use Rattle.clfs_recover.proofs.Meanings.{WholeAreOpen, stored_found}

-- ---- the blocks of a container

-- blocks one after the other, and what stands after them
laid : List (List ℕ) → List ℕ → List ℕ
laid [] rest = rest
laid (block ∷ blocks) rest = block ++ laid blocks rest

-- a block is one whatever stands after it
begins_laid : (left : ℕ) (block more : List ℕ) → BeginsWith left block block
    → BeginsWith left (block ++ more) block × (block_sectors (block ++ more) ≡ block_sectors block) × (length block ≡ 512 * block_sectors block)
begins_laid left block more first =
    let n : ℕ = block_sectors block in
    let size : length block ≡ 512 * n = ap length first.is ∙ length-take-le (512 * n) block first.whole in
    let long : 3 < length block = omega (arith, size, first.some) in
    let two = get_or_append_left block more 0 2 (omega (arith, long)) in
    let three = get_or_append_left block more 0 3 long in
    let same : block_sectors (block ++ more) ≡ n = omega (arith, two, three) in (
      record {
        gate = get_or_append_left block more 0 0 (omega (arith, long)) ∙ first.gate;
        some = omega (arith, same, first.some);
        fits = omega (arith, same, first.fits);
        whole = omega (arith, same, size, length-append block more);
        is = sym (take_at block more (512 * block_sectors (block ++ more)) (omega (arith, same, size)));
      },
      same,
      size,
    )

-- blocks that were laid are the open ones
opens_laid : (left : ℕ) (some : List (List ℕ)) (rest : List ℕ) → LieIn left some
    → (n : ℕ) × Opens left (laid some rest) some n × (drop (total some) (laid some rest) ≡ rest)
unfolding laid
opens_laid left [] rest lie = (left, refl, refl)
opens_laid left (block ∷ others) rest lie =
    let more : List ℕ = laid others rest in
    let first = begins_laid left block more lie.1 in
    let next = opens_laid (left - block_sectors block) others rest lie.2 in
    let behind : drop (512 * block_sectors (block ++ more)) (block ++ more) ≡ more =
    drop_at block more (512 * block_sectors (block ++ more)) (omega (arith, first.1, first.2)) in (
      next.0,
      (
        first.0,
        subst (λ (l : List ℕ). Opens (left - block_sectors (block ++ more)) l others next.0) (sym behind)
            (subst (λ (n : ℕ). Opens (left - n) more others next.0) (sym first.1) next.1),
      ),
      sym (drop-drop (total others) (length block) (block ++ more)) ∙ ap (drop (total others)) (drop_at block more (length block) refl) ∙ next.2,
    )

-- the bytes of a container: its blocks, and a closed gate
container_bytes : List (List ℕ) → List ℕ
container_bytes some = laid some (0 ∷ [])

whole_laid : (sectors : ℕ) (some : List (List ℕ)) → LieIn sectors some → AreWhole sectors (container_bytes some) some
unfolding container_bytes
whole_laid sectors some lie =
    let opens = opens_laid sectors some (0 ∷ []) lie in (
      opens.0,
      opens.1,
      inr (subst (λ (l : List ℕ). (0 < length l) × (get_or l 0 0 ≢ 165)) (sym opens.2) (omega arith, λ e. absurd (omega (arith, e)))),
    )

-- ---- the files of all containers

-- files of which these have the blocks of containers, and the others what they had
with_containers : Files → List ℕ → List (List (List ℕ)) → Files
with_containers others [] some = others
with_containers others (number ∷ numbers) [] = others
with_containers others (number ∷ numbers) (container ∷ containers) =
    λ file. cond (eqb file number) (container_bytes container) (with_containers others numbers containers file)

-- other files have the same blocks where the listed ones hold the same
have_same : (sectors : ℕ) (files same : Files) (numbers : List ℕ) (some : List (List (List ℕ)))
    → ((i : ℕ) → i < length numbers → files (get_or numbers i 0) ≡ same (get_or numbers i 0)) → HaveBlocks sectors files numbers some
    → HaveBlocks sectors same numbers some
have_same sectors files same [] [] e have = tt
have_same sectors files same [] (c ∷ cs) e have = have
have_same sectors files same (n ∷ ns) [] e have = have
have_same sectors files same (n ∷ ns) (c ∷ cs) e have =
    (subst (λ (l : List ℕ). AreWhole sectors l c) (e 0 (omega arith)) have.0, have_same sectors files same ns cs (λ i lt. e (suc i) (omega (arith, lt))) have.1)

-- listed files have the blocks that they were given
have_laid : (sectors : ℕ) (others : Files) (numbers : List ℕ) (some : List (List (List ℕ))) → length some ≡ length numbers
    → AllByRecursion (LieIn sectors) some → ((i j : ℕ) → i < j → j < length numbers → get_or numbers i 0 ≢ get_or numbers j 0)
    → HaveBlocks sectors (with_containers others numbers some) numbers some
unfolding with_containers
have_laid sectors others [] [] count lie different = tt
have_laid sectors others [] (c ∷ cs) count lie different = absurd (omega (arith, count))
have_laid sectors others (n ∷ ns) [] count lie different = absurd (omega (arith, count))
have_laid sectors others (n ∷ ns) (c ∷ cs) count lie different =
    let rest : Files = with_containers others ns cs in (
      subst (λ (b : Bool). AreWhole sectors (cond b (container_bytes c) (rest n)) c) (sym (eq-eqb n n refl)) (whole_laid sectors c lie.0),
      have_same sectors rest (λ file. cond (eqb file n) (container_bytes c) (rest file)) ns cs
          (λ i lt. ap (λ b. cond b (container_bytes c) (rest (get_or ns i 0)))
          (sym (ne_eqb (get_or ns i 0) n (λ e. different 0 (suc i) (omega arith) (omega (arith, lt)) (sym e)))))
          (have_laid sectors others ns cs (omega (arith, count)) lie.1 (λ i j before lt. different (suc i) (suc j) (omega (arith, before)) (omega (arith, lt)))),
    )

-- the base file is none of them
base_stays : (others : Files) (numbers : List ℕ) (some : List (List (List ℕ))) → ((i : ℕ) → i < length numbers → 1 ≤ get_or numbers i 0)
    → with_containers others numbers some 0 ≡ others 0
unfolding with_containers
base_stays others [] some from_one = refl
base_stays others (n ∷ ns) [] from_one = refl
base_stays others (n ∷ ns) (c ∷ cs) from_one =
    let one = from_one 0 (omega arith) in
    ap (λ b. cond b (container_bytes c) (with_containers others ns cs 0)) (ne_eqb 0 n (λ e. absurd (omega (arith, e, one))))
    ∙ base_stays others ns cs (λ i lt. from_one (suc i) (omega (arith, lt)))

-- ---- the base file

-- so many zeros
zeros : ℕ → List ℕ
zeros n = replicate n 0

length-zeros : (n : ℕ) → length (zeros n) ≡ n
unfolding zeros
length-zeros n = length-replicate n 0

first_zero : (n : ℕ) → 0 < n → get_or (zeros n) 0 0 ≡ 0
unfolding zeros
first_zero n some = get_or-replicate n 0 0 0 some

abbrev Used : Type 0
Used = Result ℕ NewestRefusal

first_open : (first second : Front) → first.is_open ≡ true → second.is_open ≡ false → slot_by first second ≡ Ok 0
first_open first second p q = rw (p, q) refl

second_open : (first second : Front) → first.is_open ≡ false → second.is_open ≡ true → slot_by first second ≡ Ok 1
second_open first second p q = rw (p, q) refl

module _ (image : BaseImage) (bytes : List ℕ) (long : length bytes ≡ 16383) (read : image_at (165 ∷ bytes) ≡ Ok image) where
  -- a copy in slot 0 alone
  newest_first : newest_of (165 ∷ bytes) ≡ Ok (0, image)
  newest_first =
      let base : List ℕ = 165 ∷ bytes in
      let past : get_or base 16384 0 ≡ 0 = get_or_past base 16384 0 (omega (arith, long)) in
      let used = first_open (front_of base 0) (front_of base 1) refl (ap (λ (n : ℕ). eqb n 165) past) in
      let copy : slot_of base 0 ≡ base = take_all 16384 base (omega (arith, long)) in
      ap (copy_of base) used ∙ ap (λ (l : List ℕ). copy_in 0 (image_at l)) copy ∙ ap (copy_in 0) read

  -- a copy in slot 1 alone
  newest_second : newest_of (zeros 16384 ++ 165 ∷ bytes) ≡ Ok (1, image)
  newest_second =
      let base : List ℕ = zeros 16384 ++ 165 ∷ bytes in
      let count = length-zeros 16384 in
      let closed : get_or base 0 0 ≡ 0 = get_or_append_left (zeros 16384) (165 ∷ bytes) 0 0 (omega (arith, count)) ∙ first_zero 16384 (omega arith) in
      let gate : get_or base 16384 0 ≡ 165 = get_or_at (zeros 16384) 165 bytes 0 16384 count in
      let used = second_open (front_of base 0) (front_of base 1) (ap (λ (n : ℕ). eqb n 165) closed) (ap (λ (n : ℕ). eqb n 165) gate) in
      let copy : slot_of base 1 ≡ 165 ∷ bytes = ap (take 16384) (drop_at (zeros 16384) (165 ∷ bytes) 16384 count) ∙ take_all 16384 (165 ∷ bytes) (omega (arith, long)) in
      ap (copy_of base) used ∙ ap (λ (l : List ℕ). copy_in 1 (image_at l)) copy ∙ ap (copy_in 1) read

  -- a base file with a copy in one slot alone
  newest_there : (slot : ℕ) → slot ≤ 1 → (base : List ℕ) × (newest_of base ≡ Ok (slot, image))
  newest_there zero few = (165 ∷ bytes, newest_first)
  newest_there (suc zero) few = (zeros 16384 ++ 165 ∷ bytes, newest_second)
  newest_there (suc (suc n)) few = absurd (omega (arith, few))

-- ---- the log

-- a copy is read as it was written
abbrev pub ReadsCopies : Type 0
ReadsCopies = (image : BaseImage) (gate : ℕ) (rest : List ℕ) → IsImage image
    → image_at (gate ∷ (spelled image ++ rest)) ≡ Ok image

-- a copy has as many bytes as a slot has after its gate
abbrev pub FillSlots : Type 0
FillSlots = (image : BaseImage) → IsImage image → length (spelled image) ≡ 16383

-- a log is found in some files
pub log_found : WholeAreOpen → ReadsCopies → FillSlots → (parts : Parts) → IsLogOf parts → (files : Files) × Finds files (Ok parts)
log_found open_too reads fills parts log =
    let image = parts.image in
    let bytes : List ℕ = spelled image in
    let read : image_at (165 ∷ bytes) ≡ Ok image =
    ap (λ (l : List ℕ). image_at (165 ∷ l)) (sym (append-nil bytes)) ∙ reads image 165 [] log.image in
    let base = newest_there image bytes (fills image log.image) read parts.slot log.slot in
    let files : Files = with_containers (λ file. base.0) image.files log.blocks in
    let is_log : HasLog parts.slot image log.blocks files = record {
      newest = ap newest_of (base_stays (λ file. base.0) image.files log.blocks log.image.files.from_one) ∙ base.1;
      containers = have_laid image.container_sectors (λ file. base.0) image.files log.blocks log.listed
          (recursion_from_All (LieIn image.container_sectors) log.blocks log.lie) log.image.files.different;
    } in
    (files, subst (λ (p : Parts). Finds files (Ok p)) (sym log.is) (stored_found parts.slot image log.blocks open_too files is_log parts.entries log.records log.fits))
