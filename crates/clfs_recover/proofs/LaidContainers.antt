-- The records that the walk meets in containers lie in blocks one after the other.
use Rattle.clfs_recover.proofs.Words.{◌≡◌, inl, inr, ℕ, ◌+◌, ◌-◌, ◌*◌, ◌/◌, ◌%◌, ◌<◌, ◌≤◌, Bool, true, false, cond, leb, List, [], ◌∷◌, ◌++◌, length, take}
use Rattle.clfs_recover.proofs.Words.{drop, Result, Ok, Err, refl, sym, ◌∙◌, ap, subst, arith, append_assoc, append-nil, length-take-le, get_or-take}
use Rattle.clfs_recover.proofs.Words.{lsn_number, IsShape, LogEntry, Place, Shape, Files, block_sectors, Opens, total, frame_at, AreReadAsWritten, BlockHead}
use Rattle.clfs_recover.proofs.Words.{BlockRefusal, behind_all, ◌>>=◌, told_as, block_records, Container, damage_at, end_at, blocks_end, blocks_records}
use Rattle.clfs_recover.proofs.Words.{container_records, listed_records, last_end, AreListed}
use Rattle.clfs_block.specs.declared.head.BlockRefusal.TheVariants as blocks
use Rattle.clfs_recover.proofs.Binding.{read, bound, one_value, told_value}
use Rattle.clfs_recover.proofs.Listing.{end_behind, ends_on}
use Rattle.clfs_recover.proofs.ReadBlocks.{ReadsFit, block_read}
use Rattle.clfs_recover.proofs.LaidBlocks.{BeginsAt, AreLaid, laid_on, block_laid}

-- after the last block nothing is read
nothing_at : (id offset : ℕ) (r : Result BlockHead BlockRefusal) (entries : List LogEntry) → end_at id offset r ≡ Ok entries → entries ≡ []
nothing_at id offset (Ok head) entries is = one_value (read []) entries [] is refl
nothing_at id offset (Err blocks.Closed) entries is = one_value (read []) entries [] is refl
nothing_at id offset (Err (blocks.BadByte at)) entries is = absurd (cc is)
nothing_at id offset (Err blocks.NoMemory) entries is = absurd (cc is)

nothing_by : (b : Bool) (id offset : ℕ) (r : Result BlockHead BlockRefusal) (entries : List LogEntry) → cond b (read []) (end_at id offset r) ≡ Ok entries
    → entries ≡ []
nothing_by true id offset r entries is = one_value (read []) entries [] is refl
nothing_by false id offset r entries is = nothing_at id offset r entries is

nothing_behind : (shape : Shape) (id offset : ℕ) (behind : List ℕ) (entries : List LogEntry) → blocks_end shape id behind offset ≡ Ok entries → entries ≡ []
nothing_behind shape id offset behind entries is =
    nothing_by (leb shape.container_sectors (offset / 512)) id offset (frame_at shape (lsn_number id offset 0) behind) entries is

-- the sectors that a block says to have are those that the bytes it begins say
same_sectors : (bytes : List ℕ) (n : ℕ) → 4 ≤ n → block_sectors (take n bytes) ≡ block_sectors bytes
same_sectors bytes n long =
    let second = get_or-take n bytes 2 0 (omega (arith, long)) in
    let third = get_or-take n bytes 3 0 (omega (arith, long)) in
    omega (arith, second, third)

-- where the next block begins in a container, the last one isn't in a later one
container_before : (place : Place) (id offset : ℕ) → BeginsAt place id offset → place.container < id + 1
container_before place id offset (inl here) = omega (arith, here.0)
container_before place id offset (inr further) = omega (arith, further.0)

module _ (written : AreReadAsWritten) (reads : ReadsFit) (shape : Shape) (good : IsShape shape) (streams : ℕ) where
  -- the open blocks of a container from an offset on
  blocks_laid : (id offset left rest : ℕ) (bytes behind : List ℕ) (blocks : List (List ℕ)) (place : Place) (entries : List LogEntry) → 1 ≤ id
      → offset % 512 ≡ 0 → offset + 512 * left ≤ 512 * shape.container_sectors → BeginsAt place id offset → Opens left bytes blocks rest
      → blocks_records shape streams id behind offset blocks ≡ Ok entries
      → AreLaid shape streams place (lsn_number id offset 0) id (offset + total blocks) entries
  blocks_laid id offset left rest bytes behind [] place entries some_id whole near begins opens is =
      let none = nothing_behind shape id offset behind entries is in
      let same : offset ≡ offset + 0 = omega arith in
      subst (λ (n : ℕ). AreLaid shape streams place (lsn_number id offset 0) id n entries) same
      (subst (AreLaid shape streams place (lsn_number id offset 0) id offset) (sym none) (record {
        laid = tt;
        next = begins;
        rise = omega arith;
        fit = tt;
        whole = whole;
        within = omega (arith, near);
      }))
  blocks_laid id offset left rest bytes behind (block ∷ blocks) place entries some_id whole near begins opens is =
      let n : ℕ = block_sectors bytes in
      let first = bound (told_as (damage_at id offset) (block_records shape streams (lsn_number id offset 0) block)) (λ (es : List LogEntry).
      blocks_records shape streams id behind (offset + length block) blocks >>= λ (others : List LogEntry). Ok (es ++ others)) entries is in
      let more = bound (blocks_records shape streams id behind (offset + length block) blocks) (λ (others : List LogEntry). Ok (first.first ++ others))
      entries first.then in
      let said : block_sectors block ≡ n = ap block_sectors opens.0.is ∙ same_sectors bytes (512 * n) (omega (arith, opens.0.some)) in
      let size : length block ≡ 512 * n = ap length opens.0.is ∙ length-take-le (512 * n) bytes opens.0.whole in
      let found = block_read written reads shape good.largest_block streams (lsn_number id offset 0) first.first block
      (told_value (damage_at id offset) (block_records shape streams (lsn_number id offset 0) block) first.first first.is) in
      let end : offset + 512 * block_sectors block ≡ offset + length block = omega (arith, said, size) in
      let here = subst (λ (k : ℕ). AreLaid shape streams place (lsn_number id offset 0) id k first.first) end
      (block_laid shape streams id offset place first.first block good some_id whole (omega (arith, near)) begins found) in
      let behind_block : Place = behind_all place first.first in
      let rest_laid = blocks_laid id (offset + length block) (left - n) rest (drop (512 * n) bytes) behind blocks behind_block more.first some_id
      (omega (arith, whole, size)) (omega (arith, near, size, opens.0.fits)) here.next opens.1 more.is in
      let sum : offset + length block + total blocks ≡ offset + (length block + total blocks) = omega arith in
      subst (AreLaid shape streams place (lsn_number id offset 0) id (offset + (length block + total blocks))) (one_value (read (first.first ++ more.first)) (first.first ++ more.first) entries refl more.then)
      (subst (λ (k : ℕ). AreLaid shape streams place (lsn_number id offset 0) id k (first.first ++ more.first)) sum
      (laid_on shape streams place (lsn_number id offset 0) id (offset + length block) (lsn_number id (offset + length block) 0) id
      (offset + length block + total blocks) first.first more.first here (omega arith) rest_laid))

  container_laid : (id : ℕ) (container : Container) (place : Place) (entries : List LogEntry) (rest : ℕ) → 1 ≤ id → place.container < id
      → Opens shape.container_sectors container.bytes container.blocks rest → container_records shape streams id container ≡ Ok entries
      → AreLaid shape streams place (lsn_number id 0 0) id (total container.blocks) entries
  container_laid id container place entries rest some_id before opens is =
      let same : 0 + total container.blocks ≡ total container.blocks = omega arith in
      subst (λ (n : ℕ). AreLaid shape streams place (lsn_number id 0 0) id n entries) same
      (blocks_laid id 0 shape.container_sectors rest container.bytes (drop (total container.blocks) container.bytes) container.blocks place entries some_id
      refl (omega arith) (inr (before, refl)) opens is)

  -- a container and those after it, whose records come after these
  containers_laid : (files : Files) (low : ℕ) (numbers : List ℕ) (others : List Container) (id end : ℕ) (place : Place) (front rest : List LogEntry)
      → AreLaid shape streams place low id end front → AreListed shape.container_sectors files numbers others
      → listed_records shape streams (id + 1) others ≡ Ok rest
      → AreLaid shape streams place low (id + length numbers) (end_behind end others) (front ++ rest)
  containers_laid files low [] [] id end place front rest here are is =
      let same : id ≡ id + 0 = omega arith in
      subst (λ (k : ℕ). AreLaid shape streams place low k end (front ++ rest)) same
      (subst (λ (es : List LogEntry). AreLaid shape streams place low id end (front ++ es)) (one_value (read []) [] rest refl is)
      (subst (AreLaid shape streams place low id end) (sym (append-nil front)) here))
  containers_laid files low [] (other ∷ others) id end place front rest here are is = absurd are
  containers_laid files low (number ∷ numbers) [] id end place front rest here are is = absurd are
  containers_laid files low (number ∷ numbers) (other ∷ others) id end place front rest here are is =
      let first = bound (container_records shape streams (id + 1) other) (λ (es : List LogEntry).
      listed_records shape streams (id + 1 + 1) others >>= λ (more : List LogEntry). Ok (es ++ more)) rest is in
      let more = bound (listed_records shape streams (id + 1 + 1) others) (λ (es : List LogEntry). Ok (first.first ++ es)) rest first.then in
      let before : (behind_all place front).container < id + 1 = container_before (behind_all place front) id end here.next in
      let there = container_laid (id + 1) other (behind_all place front) first.first are.1.0 (omega arith) before are.1.1 first.is in
      let both = laid_on shape streams place low id end (lsn_number (id + 1) 0 0) (id + 1) (total other.blocks) front first.first here
      (omega (arith, here.within, good.largest_container)) there in
      let all = containers_laid files low numbers others (id + 1) (total other.blocks) place (front ++ first.first) more.first both are.2 more.is in
      let joined : (front ++ first.first) ++ more.first ≡ front ++ rest =
      append_assoc front first.first more.first ∙ ap (λ (es : List LogEntry). front ++ es)
      (one_value (read (first.first ++ more.first)) (first.first ++ more.first) rest refl more.then) in
      let count : id + 1 + length numbers ≡ id + length (number ∷ numbers) = omega arith in
      subst (AreLaid shape streams place low (id + length (number ∷ numbers)) (last_end (other ∷ others))) joined
      (subst (λ (n : ℕ). AreLaid shape streams place low (id + length (number ∷ numbers)) n ((front ++ first.first) ++ more.first)) (sym (ends_on other others))
      (subst (λ (k : ℕ). AreLaid shape streams place low k (end_behind (total other.blocks) others) ((front ++ first.first) ++ more.first)) count all))

  -- the listed containers from one on
  pub listed_laid : (files : Files) (number : ℕ) (numbers : List ℕ) (container : Container) (others : List Container) (id : ℕ) (place : Place)
      (entries : List LogEntry) → 1 ≤ id → place.container < id → AreListed shape.container_sectors files (number ∷ numbers) (container ∷ others)
      → listed_records shape streams id (container ∷ others) ≡ Ok entries
      → AreLaid shape streams place (lsn_number id 0 0) (id + length numbers) (last_end (container ∷ others)) entries
  listed_laid files number numbers container others id place entries some_id before are is =
      let first = bound (container_records shape streams id container) (λ (es : List LogEntry).
      listed_records shape streams (id + 1) others >>= λ (more : List LogEntry). Ok (es ++ more)) entries is in
      let more = bound (listed_records shape streams (id + 1) others) (λ (es : List LogEntry). Ok (first.first ++ es)) entries first.then in
      let here = container_laid id container place first.first are.1.0 some_id before are.1.1 first.is in
      let all = containers_laid files (lsn_number id 0 0) numbers others id (total container.blocks) place first.first more.first here are.2 more.is in
      subst (AreLaid shape streams place (lsn_number id 0 0) (id + length numbers) (last_end (container ∷ others)))
      (one_value (read (first.first ++ more.first)) (first.first ++ more.first) entries refl more.then)
      (subst (λ (n : ℕ). AreLaid shape streams place (lsn_number id 0 0) (id + length numbers) n (first.first ++ more.first)) (sym (ends_on container others)) all)
