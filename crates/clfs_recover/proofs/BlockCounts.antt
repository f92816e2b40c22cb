-- How many blocks the records of stored blocks begin: one each.
use Rattle.clfs_recover.proofs.Words.{◌≡◌, ℕ, ◌+◌, ◌-◌, ◌*◌, ◌%◌, ◌≤◌, Bool, true, false, cond, eqb, List, [], ◌∷◌, length, drop, map, Ok, refl, sym, ◌∙◌, ap}
use Rattle.clfs_recover.proofs.Words.{subst, arith, AllByRecursion, eq-eqb, ne_eqb, length-take-le, recursion_from_All, lsn_number, sequence_of, LogEntry}
use Rattle.clfs_recover.proofs.Words.{Shape, Files, block_sectors, Opens, AreReadAsWritten, told_as, block_records, LieIn, IsLogOf, IsStoredIn, HaveBlocks}
use Rattle.clfs_recover.proofs.Words.{FitFrom, stored_in, stored_records, shape_of, damage_at, Parts}
use Rattle.std.specs.Prelude.{sum_by}
use Rattle.std.proofs.lemmas.List.Sums.{sum_by-append, sum_by-cons}
use Rattle.clfs_recover.specs.Counting.{blocks_begun}
use Rattle.clfs_recover.proofs.Binding.{told_value}
use Rattle.clfs_recover.proofs.FoundParts.{AreOpened}
use Rattle.clfs_recover.proofs.Joined.{AreBoth, both_there}
use Rattle.clfs_recover.proofs.ReadBlocks.{ReadsFit, block_read}

-- ---- the records of a block

abbrev begins : LogEntry → ℕ
begins entry = cond (eqb (sequence_of entry.lsn) 0) 1 0

-- the records after the first one begin none
none_begin : (streams start k : ℕ) (entries : List LogEntry) → start % 512 ≡ 0 → 1 ≤ k → k + length entries ≤ 512 → FitFrom (start + k) streams entries
    → blocks_begun entries ≡ 0
none_begin streams start k [] whole some few fit = refl
none_begin streams start k (entry ∷ entries) whole some few fit =
    let at : entry.lsn ≡ start + k = fit.0.at in
    let other : eqb (sequence_of entry.lsn) 0 ≡ false = ne_eqb (sequence_of entry.lsn) 0 (λ none. omega (arith, at, whole, some, few, none)) in
    let next : start + k + 1 ≡ start + (k + 1) = omega arith in
    let rest = none_begin streams start (k + 1) entries whole (omega arith) (omega (arith, few)) (subst (λ (l : ℕ). FitFrom l streams entries) next fit.1) in
    sum_by-cons begins entry entries ∙ ap (λ (b : Bool). cond b 1 0 + blocks_begun entries) other ∙ omega (arith, rest)

-- and the first one begins one
one_begins : (streams start : ℕ) (entries : List LogEntry) → start % 512 ≡ 0 → 1 ≤ length entries → length entries ≤ 511 → FitFrom start streams entries
    → blocks_begun entries ≡ 1
one_begins streams start [] whole some few fit = absurd (omega (arith, some))
one_begins streams start (entry ∷ entries) whole some few fit =
    let at : entry.lsn ≡ start = fit.0.at in
    let first : eqb (sequence_of entry.lsn) 0 ≡ true = eq-eqb (sequence_of entry.lsn) 0 (omega (arith, at, whole)) in
    let rest = none_begin streams start 1 entries whole (omega arith) (omega (arith, few)) fit.1 in
    sum_by-cons begins entry entries ∙ ap (λ (b : Bool). cond b 1 0 + blocks_begun entries) first ∙ omega (arith, rest)

-- ---- blocks one after the other

-- each has whole sectors
abbrev HaveSectors : List (List ℕ) → Type 0
HaveSectors = AllByRecursion (λ (block : List ℕ). length block % 512 ≡ 0)

lie_sectors : (left : ℕ) (blocks : List (List ℕ)) → LieIn left blocks → HaveSectors blocks
lie_sectors left [] lie = tt
lie_sectors left (block ∷ blocks) lie =
    let is = lie.1.is in
    let size : length block ≡ 512 * block_sectors block =
    ap (λ (l : List ℕ). length l) is ∙ length-take-le (512 * block_sectors block) block lie.1.whole in
    (omega (arith, size), lie_sectors (left - block_sectors block) blocks lie.2)

opens_sectors : (left : ℕ) (bytes : List ℕ) (blocks : List (List ℕ)) (rest : ℕ) → Opens left bytes blocks rest → HaveSectors blocks
opens_sectors left bytes [] rest opens = tt
opens_sectors left bytes (block ∷ blocks) rest opens =
    let size : length block ≡ 512 * block_sectors bytes =
    ap (λ (l : List ℕ). length l) opens.0.is ∙ length-take-le (512 * block_sectors bytes) bytes opens.0.whole in
    (omega (arith, size), opens_sectors (left - block_sectors bytes) (drop (512 * block_sectors bytes) bytes) blocks rest opens.1)

module _ (written : AreReadAsWritten) (reads : ReadsFit) (shape : Shape) (small : shape.block_sectors ≤ 128) (streams : ℕ) where
  in_container : (id offset : ℕ) (blocks : List (List ℕ)) (entries : List LogEntry) → offset % 512 ≡ 0 → HaveSectors blocks
      → stored_in shape streams id offset blocks ≡ Ok entries → blocks_begun entries ≡ length blocks
  in_container id offset [] entries whole sized is = let none : [] ≡ entries = cc is in ap blocks_begun (sym none)
  in_container id offset (block ∷ blocks) entries whole sized is =
      let start : ℕ = lsn_number id offset 0 in
      let own = told_as (damage_at id offset) (block_records shape streams start block) in
      let both : AreBoth own (stored_in shape streams id (offset + length block) blocks) entries =
      both_there own (stored_in shape streams id (offset + length block) blocks) entries is in
      let found = block_read written reads shape small streams start both.own block
      (told_value (damage_at id offset) (block_records shape streams start block) both.own both.first) in
      let one = one_begins streams start both.own (omega (arith, whole)) found.some found.few found.fit in
      let rest = in_container id (offset + length block) blocks both.others (omega (arith, whole, sized.0)) sized.1 both.second in
      ap blocks_begun both.is ∙ sum_by-append begins both.own both.others ∙ omega (arith, one, rest)

  in_containers : (id : ℕ) (containers : List (List (List ℕ))) (entries : List LogEntry) → AllByRecursion HaveSectors containers
      → stored_records shape streams id containers ≡ Ok entries → blocks_begun entries ≡ sum_by (λ (here : List (List ℕ)). length here) containers
  in_containers id [] entries sized is = let none : [] ≡ entries = cc is in ap blocks_begun (sym none)
  in_containers id (here ∷ others) entries sized is =
      let both : AreBoth (stored_in shape streams id 0 here) (stored_records shape streams (id + 1) others) entries =
      both_there (stored_in shape streams id 0 here) (stored_records shape streams (id + 1) others) entries is in
      let own = in_container id 0 here both.own refl sized.0 both.first in
      let rest = in_containers (id + 1) others both.others sized.1 both.second in
      ap blocks_begun both.is ∙ sum_by-append begins both.own both.others ∙ omega (arith, own, rest)
      ∙ sym (sum_by-cons (λ (blocks : List (List ℕ)). length blocks) here others)

-- ---- logs

all_lie : (sectors : ℕ) (containers : List (List (List ℕ))) → AllByRecursion (LieIn sectors) containers → AllByRecursion HaveSectors containers
all_lie sectors [] lie = tt
all_lie sectors (here ∷ others) lie = (lie_sectors sectors here lie.0, all_lie sectors others lie.1)

all_open : (sectors : ℕ) (files : Files) (numbers : List ℕ) (containers : List (List (List ℕ))) → HaveBlocks sectors files numbers containers
    → AllByRecursion HaveSectors containers
all_open sectors files [] [] have = tt
all_open sectors files [] (here ∷ others) have = absurd have
all_open sectors files (number ∷ numbers) [] have = absurd have
all_open sectors files (number ∷ numbers) (here ∷ others) have =
    (opens_sectors sectors (files number) here have.0.0 have.0.1, all_open sectors files numbers others have.1)

by_file : (blocks : ℕ → List (List ℕ)) (numbers : List ℕ)
    → sum_by (λ (here : List (List ℕ)). length here) (map blocks numbers) ≡ sum_by (λ (file : ℕ). length (blocks file)) numbers
by_file blocks [] = refl
by_file blocks (number ∷ numbers) =
    sum_by-cons (λ (here : List (List ℕ)). length here) (blocks number) (map blocks numbers)
    ∙ ap (λ (n : ℕ). length (blocks number) + n) (by_file blocks numbers)
    ∙ sym (sum_by-cons (λ (file : ℕ). length (blocks file)) number numbers)

pub known_blocks : AreReadAsWritten → ReadsFit → (parts : Parts) (log : IsLogOf parts)
    → blocks_begun parts.entries ≡ sum_by (λ (here : List (List ℕ)). length here) log.blocks
known_blocks written reads parts log =
    in_containers written reads (shape_of parts.image) log.image.shape.largest_block (length parts.image.streams) parts.image.first log.blocks parts.entries
    (all_lie parts.image.container_sectors log.blocks (recursion_from_All (LieIn parts.image.container_sectors) log.blocks log.lie)) log.records

pub stored_blocks : AreReadAsWritten → ReadsFit → (files : Files) (parts : Parts) (blocks : ℕ → List (List ℕ)) → AreOpened parts → IsStoredIn files parts blocks
    → blocks_begun parts.entries ≡ sum_by (λ (file : ℕ). length (blocks file)) parts.image.files
stored_blocks written reads files parts blocks opened stored =
    in_containers written reads (shape_of parts.image) opened.image_is.shape.largest_block (length parts.image.streams) parts.image.first
    (map blocks parts.image.files) parts.entries
    (all_open parts.image.container_sectors files parts.image.files (map blocks parts.image.files) stored.log.containers) stored.with.read
    ∙ by_file blocks parts.image.files
