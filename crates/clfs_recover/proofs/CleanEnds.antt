-- Where containers are read, the open blocks of each end cleanly, and are all that its records come of.
use Rattle.clfs_recover.proofs.Words.{◌≡◌, ◌⊎◌, inl, inr, ⊎_elim, ℕ, zero, suc, ◌+◌, ◌*◌, ◌/◌, ◌<◌, ◌≤◌, cond, eqb, List, [], ◌∷◌, ◌++◌, length, get_or, drop}
use Rattle.clfs_recover.proofs.Words.{map, Result, Ok, Err, refl, sym, ◌∙◌, ap, subst, arith, All, AllByRecursion, cases_lt, lt-leb, eq-eqb, cond-true}
use Rattle.clfs_recover.proofs.Words.{All-from_recursion, lsn_number, IsShape, LogEntry, Shape, Files, block_sectors, Ends, EndsCleanly, AreOpen, AreWhole}
use Rattle.clfs_recover.proofs.Words.{total, frame_at, AreReadAsWritten, BlockHead, BlockRefusal, ◌>>=◌, told_as, block_records, Container, damage_at, end_at}
use Rattle.clfs_recover.proofs.Words.{blocks_end, blocks_records, container_records, listed_records, AreListed, HaveBlocks, stored_in, stored_records}
use Rattle.clfs_block.specs.declared.head.BlockRefusal.TheVariants as blocks
use Rattle.clfs_recover.proofs.Binding.{read, bound}
use Rattle.clfs_recover.proofs.Containers.{sectors_said, left_here, closed_gate}
use Rattle.clfs_recover.proofs.Finding.{open_exist}
use Rattle.clfs_recover.proofs.Meanings.{OneList, opens_rest, whole_is}

-- a gate that isn't there is no closed one
no_gate : (shape : Shape) (start : ℕ) (bytes : List ℕ) → length bytes ≡ 0 → frame_at shape start bytes ≡ Err blocks.Closed → ⊥
unfolding frame_at
no_gate shape start bytes none is =
    let first : frame_at shape start bytes ≡ Err (blocks.BadByte 0) = cond-true (eqb (length bytes) 0) (Err (blocks.BadByte 0)) _ (eq-eqb (length bytes) 0 none) in
    absurd (cc (sym first ∙ is))

module _ (written : AreReadAsWritten) (shape : Shape) (good : IsShape shape) where
  -- where the walk ends after the open blocks of a container without damage, their list ends cleanly
  clean_end : (id rest size : ℕ) (behind : List ℕ) (entries : List LogEntry) → 512 * shape.container_sectors ≡ 512 * rest + size → Ends rest behind
      → blocks_end shape id behind size ≡ Ok entries → EndsCleanly rest behind
  clean_end id rest size behind entries sum ends is = elim (cases_lt (size / 512) shape.container_sectors) [
    | inr full ↦ inl (omega (arith, full, sum))
    | inl more ↦ by_frame (frame_at shape (lsn_number id size 0) behind) refl
        (sym (ap (λ b. cond b (read []) (end_at id size (frame_at shape (lsn_number id size 0) behind))) (lt-leb shape.container_sectors (size / 512) more)) ∙ is)
  ]
    where
      none_begins : (head : BlockHead) → frame_at shape (lsn_number id size 0) behind ≡ Ok head → ⊥
      none_begins head e =
          let frame = written.holds shape (lsn_number id size 0) behind head e in
          let said : head.sectors ≡ block_sectors behind = ap (λ (h : BlockHead). h.sectors) frame.numbers ∙ sectors_said behind in
          let left = left_here shape id size (omega (arith, sum)) (omega (arith, sum, good.largest_container)) in
          ⊎_elim (λ (none : rest ≡ 0). omega (arith, none, frame.some, frame.left, left, sum))
          (λ more. ⊎_elim (λ closed. closed frame.gate)
          (λ more. ⊎_elim (λ (none : block_sectors behind ≡ 0). omega (arith, none, frame.some, said))
          (λ more. ⊎_elim (λ (many : rest < block_sectors behind). omega (arith, many, frame.left, said, left, sum))
          (λ (short : length behind < 512 * block_sectors behind). omega (arith, short, frame.whole, said)) more) more) more) ends

      by_frame : (r : Result BlockHead BlockRefusal) → frame_at shape (lsn_number id size 0) behind ≡ r → end_at id size r ≡ Ok entries → EndsCleanly rest behind
      by_frame (Ok head) e is = absurd (none_begins head e)
      by_frame (Err blocks.Closed) e is = inr (there (cases_lt 0 (length behind)), λ gate. closed_gate shape (lsn_number id size 0) behind gate e)
        where
          there : (0 < length behind) ⊎ (length behind ≤ 0) → 0 < length behind
          there (inl some) = some
          there (inr none) = absurd (no_gate shape (lsn_number id size 0) behind (omega (arith, none)) e)
      by_frame (Err (blocks.BadByte at)) e is = absurd (cc is)
      by_frame (Err blocks.NoMemory) e is = absurd (cc is)

  module _ (streams : ℕ) where
    -- what is read of a container's open blocks is read up to their end
    to_the_end : (id offset : ℕ) (behind : List ℕ) (open_blocks : List (List ℕ)) (entries : List LogEntry)
        → blocks_records shape streams id behind offset open_blocks ≡ Ok entries
        → (rest : List LogEntry) × (blocks_end shape id behind (offset + total open_blocks) ≡ Ok rest)
    to_the_end id offset behind [] entries is =
        let same : offset ≡ offset + 0 = omega arith in
        (entries, subst (λ (n : ℕ). blocks_end shape id behind n ≡ Ok entries) same is)
    to_the_end id offset behind (block ∷ others) entries is =
        let first = bound (told_as (damage_at id offset) (block_records shape streams (lsn_number id offset 0) block)) (λ (es : List LogEntry).
        blocks_records shape streams id behind (offset + length block) others >>= λ (more : List LogEntry). Ok (es ++ more)) entries is in
        let more = bound (blocks_records shape streams id behind (offset + length block) others) (λ (es : List LogEntry). Ok (first.first ++ es)) entries first.then in
        let end = to_the_end id (offset + length block) behind others more.first more.is in
        let sum : offset + length block + total others ≡ offset + (length block + total others) = omega arith in
        (end.0, subst (λ (n : ℕ). blocks_end shape id behind n ≡ Ok end.0) sum end.1)

    -- a container that is read has its open blocks alone
    pub container_whole : (id : ℕ) (container : Container) (entries : List LogEntry) → AreOpen shape.container_sectors container.bytes container.blocks
        → container_records shape streams id container ≡ Ok entries → AreWhole shape.container_sectors container.bytes container.blocks
    container_whole id container entries are is =
        let behind : List ℕ = drop (total container.blocks) container.bytes in
        let end = to_the_end id 0 behind container.blocks entries is in
        let all : 0 + total container.blocks ≡ total container.blocks = omega arith in (
          are.0,
          are.1,
          clean_end id are.0 (total container.blocks) behind end.0 (opens_rest shape.container_sectors container.bytes container.blocks are.0 are.1) are.2
              (subst (λ (n : ℕ). blocks_end shape id behind n ≡ Ok end.0) all end.1),
        )

    -- the open blocks of listed containers that are read end cleanly, and their records are what is read of them
    pub record AreAllWhole (files : Files) (id : ℕ) (numbers : List ℕ) (listed : List Container) (entries : List LogEntry) : Type 0 where
      pub have : HaveBlocks shape.container_sectors files numbers (map (λ (c : Container). c.blocks) listed)
      pub read : stored_records shape streams id (map (λ (c : Container). c.blocks) listed) ≡ Ok entries

    pub listed_whole : (files : Files) (id : ℕ) (numbers : List ℕ) (listed : List Container) (entries : List LogEntry)
        → AreListed shape.container_sectors files numbers listed → listed_records shape streams id listed ≡ Ok entries
        → AreAllWhole files id numbers listed entries
    listed_whole files id [] [] entries are is = record { have = tt; read = is }
    listed_whole files id [] (container ∷ others) entries are is = absurd are
    listed_whole files id (number ∷ numbers) [] entries are is = absurd are
    listed_whole files id (number ∷ numbers) (container ∷ others) entries are is =
        let first = bound (container_records shape streams id container) (λ (es : List LogEntry).
        listed_records shape streams (id + 1) others >>= λ (more : List LogEntry). Ok (es ++ more)) entries is in
        let more = bound (listed_records shape streams (id + 1) others) (λ (es : List LogEntry). Ok (first.first ++ es)) entries first.then in
        let whole = container_whole id container first.first are.1 first.is in
        let rest = listed_whole files (id + 1) numbers others more.first are.2 more.is in
        let stored : stored_in shape streams id 0 container.blocks ≡ Ok first.first =
        sym (whole_is shape streams id container.bytes container.blocks whole) ∙ first.is in record {
          have = (subst (λ (bytes : List ℕ). AreWhole shape.container_sectors bytes container.blocks) are.0 whole, rest.have);
          read = (λ i. stored i >>= λ (es : List LogEntry). (rest.read i >>= λ (others : List LogEntry). Ok (es ++ others))) ∙ more.then;
        }

-- ---- by the numbers of files

-- the open blocks of each file
abbrev pub open_in : ℕ → Files → ℕ → List (List ℕ)
open_in sectors files number = (open_exist sectors sectors (files number) (omega arith)).0

-- containers that are listed have the open blocks of their files
pub listed_by_file : OneList → (sectors : ℕ) (files : Files) (numbers : List ℕ) (listed : List Container) → AreListed sectors files numbers listed
    → map (open_in sectors files) numbers ≡ map (λ (c : Container). c.blocks) listed
listed_by_file one sectors files [] [] are = refl
listed_by_file one sectors files [] (container ∷ others) are = absurd are
listed_by_file one sectors files (number ∷ numbers) [] are = absurd are
listed_by_file one sectors files (number ∷ numbers) (container ∷ others) are =
    let here : open_in sectors files number ≡ container.blocks =
    one sectors (files number) (open_in sectors files number) container.blocks (open_exist sectors sectors (files number) (omega arith)).1
    (subst (λ (bytes : List ℕ). AreOpen sectors bytes container.blocks) are.0 are.1) in
    let rest = listed_by_file one sectors files numbers others are.2 in
    λ i. here i ∷ rest i

-- blocks by the numbers of files are those of the containers, one by one
pub each_whole : (sectors : ℕ) (files : Files) (of_file : ℕ → List (List ℕ)) (numbers : List ℕ) → HaveBlocks sectors files numbers (map of_file numbers)
    → (i : ℕ) → i < length numbers → AreWhole sectors (files (get_or numbers i 0)) (of_file (get_or numbers i 0))
each_whole sectors files of_file [] have i lt = absurd (omega (arith, lt))
each_whole sectors files of_file (number ∷ numbers) have zero lt = have.0
each_whole sectors files of_file (number ∷ numbers) have (suc i) lt = each_whole sectors files of_file numbers have.1 i (omega (arith, lt))

pub all_whole : (sectors : ℕ) (files : Files) (of_file : ℕ → List (List ℕ)) (numbers : List ℕ)
    → ((i : ℕ) → i < length numbers → AreWhole sectors (files (get_or numbers i 0)) (of_file (get_or numbers i 0)))
    → HaveBlocks sectors files numbers (map of_file numbers)
all_whole sectors files of_file [] each = tt
all_whole sectors files of_file (number ∷ numbers) each =
    (each 0 (omega arith), all_whole sectors files of_file numbers (λ i lt. each (suc i) (omega (arith, lt))))

-- open blocks end within their container
pub blocks_within : (sectors : ℕ) (files : Files) (numbers : List ℕ) (stored : List (List (List ℕ))) → HaveBlocks sectors files numbers stored
    → All (λ (here : List (List ℕ)). total here ≤ 512 * sectors) stored
blocks_within sectors files numbers stored have =
    All-from_recursion (λ (here : List (List ℕ)). total here ≤ 512 * sectors) stored (each numbers stored have)
  where
    each : (numbers : List ℕ) (stored : List (List (List ℕ))) → HaveBlocks sectors files numbers stored
        → AllByRecursion (λ (here : List (List ℕ)). total here ≤ 512 * sectors) stored
    each [] [] have = tt
    each [] (here ∷ others) have = absurd have
    each (number ∷ numbers) [] have = absurd have
    each (number ∷ numbers) (here ∷ others) have =
        (let sum = opens_rest sectors (files number) here have.0.0 have.0.1 in omega (arith, sum), each numbers others have.1)
