-- The blocks of a container one by one, against all of them.
use Rattle.clfs_archive_form.proofs.Words.{inl, ◌≡◌, ℕ, zero, suc, ◌+◌, ◌*◌, ◌<◌, ◌≤◌, List, [], ◌∷◌, ◌++◌, length, take, drop, Option, Some, None, Result}
use Rattle.clfs_archive_form.proofs.Words.{Ok, Err, refl, sym, ◌∙◌, ap, append_assoc, arith, drop-drop, drop_all, length-drop, length-take-le, lsn_number}
use Rattle.clfs_archive_form.proofs.Words.{LogEntry, Shape, Row, head_of, frame_at, AreReadAsWritten, ◌>>=◌, told_as, block_records, BlockHead, BlockRefusal}
use Rattle.clfs_archive_form.proofs.Words.{RefusesAs, stored_in, damage_at, LoadRefusal, NoBase, Damaged, DiskFault, NoMemory, block_bytes, blocks_of}
use Rattle.clfs_archive_form.proofs.Words.{blocks_in, JudgesBlock}
use Rattle.clfs_lsn.specs.Format.{sector_bytes}
use Rattle.clfs_block.specs.Checks.{IsEnough, HasFrame}
use Rattle.clfs_block.specs.declared.head.BlockRefusal.TheVariants as blocks
use Rattle.clfs_recover.specs.Gathering.{GathersBlock}

-- what a gatherer's block says of the block alone
pub judges : (has : List LogEntry → Type 0) (rows : List Row) (bases : List ℕ) (before : List LogEntry) (container offset : ℕ)
    (result : Result (Option ℕ) LoadRefusal) (read : Result (List LogEntry) BlockRefusal)
    → GathersBlock has rows bases before container offset result read → JudgesBlock container offset result read
judges has rows bases before container offset (Ok (Some sectors)) read g = (g.0, g.1)
judges has rows bases before container offset (Ok None) read g = g.0
judges has rows bases before container offset (Err NoBase) read g = g
judges has rows bases before container offset (Err (Damaged c o at)) read g = g
judges has rows bases before container offset (Err DiskFault) read g = tt
judges has rows bases before container offset (Err NoMemory) read g = tt

-- the records of a block that was gathered
pub gathered : (has : List LogEntry → Type 0) (rows : List Row) (bases : List ℕ) (before : List LogEntry) (container offset sectors : ℕ)
    (result : Result (Option ℕ) LoadRefusal) (read : Result (List LogEntry) BlockRefusal) → result ≡ Ok (Some sectors)
    → GathersBlock has rows bases before container offset result read → (entries : List LogEntry) × (read ≡ Ok entries) × has (before ++ entries)
gathered has rows bases before container offset sectors (Ok (Some n)) read is g = (g.0, g.1, g.2.records)
gathered has rows bases before container offset sectors (Ok None) read is g = absurd (cc is)
gathered has rows bases before container offset sectors (Err refusal) read is g = absurd (cc is)

-- that records are read of their block alone
abbrev pub ReadAlone : Type 0
ReadAlone = (shape : Shape) (streams start : ℕ) (bytes : List ℕ) (count : ℕ) → IsEnough shape bytes count
    → block_records shape streams start (take count bytes) ≡ block_records shape streams start bytes

-- more records after some
abbrev pub behind : List LogEntry → Result (List LogEntry) LoadRefusal → Result (List LogEntry) LoadRefusal
behind entries read = read >>= (λ (others : List LogEntry). Ok (entries ++ others))

read_right : List LogEntry → Result (List LogEntry) LoadRefusal
read_right entries = Ok entries

behind_none : (r : Result (List LogEntry) LoadRefusal) → r ≡ behind [] r
behind_none (Ok entries) = refl
behind_none (Err refusal) = refl

behind_both : (a b : List LogEntry) (r : Result (List LogEntry) LoadRefusal) → behind a (behind b r) ≡ behind (a ++ b) r
unfolding read_right
behind_both a b (Ok entries) = ap read_right (sym (append_assoc a b entries))
behind_both a b (Err refusal) = refl

-- the first of some blocks, and the others
pub takes_first : (n : ℕ) (rest : List ℕ) → 0 < length rest → length rest ≤ n
    → (m : ℕ) × (n ≡ m + 1) × (blocks_of n rest ≡ take (block_bytes rest) rest ∷ blocks_of m (drop (block_bytes rest) rest))
takes_first n [] some few = absurd (omega (arith, some))
takes_first zero (byte ∷ rest) some few = absurd (omega (arith, few))
takes_first (suc m) (byte ∷ rest) some few = (m, omega arith, refl)

pub none_of : (n : ℕ) → blocks_of n [] ≡ []
none_of zero = refl
none_of (suc n) = refl

-- all blocks of bytes up to an offset are right, and their records are these
pub record AreRightTo (shape : Shape) (streams id : ℕ) (bytes : List ℕ) (offset : ℕ) : Type 0 where
  pub entries : List LogEntry
  pub most : ℕ
  pub enough : length bytes ≤ offset + most
  pub same : stored_in shape streams id 0 (blocks_in bytes) ≡ behind entries (stored_in shape streams id offset (blocks_of most (drop offset bytes)))

module _ (alone : ReadAlone) (written : AreReadAsWritten) (shape : Shape) (streams id : ℕ) where
  enough : (rest : List ℕ) → IsEnough shape rest (block_bytes rest)
  enough rest = record { first = omega arith; all = inl (omega arith) }

  -- the records of blocks are those of the first of them, and of the others after it
  first_then : (offset n : ℕ) (rest : List ℕ) → 0 < length rest → length rest ≤ n → (m : ℕ) × (n ≡ m + 1)
      × (stored_in shape streams id offset (blocks_of n rest)
      ≡ (told_as (damage_at id offset) (block_records shape streams (lsn_number id offset 0) rest)
      >>= (λ (entries : List LogEntry). behind entries (stored_in shape streams id (offset + length (take (block_bytes rest) rest)) (blocks_of m (drop (block_bytes rest) rest))))))
  first_then offset n rest some few =
      let t = takes_first n rest some few in (
        t.0,
        t.1,
        ap (stored_in shape streams id offset) t.2
            ∙ ap (λ (r : Result (List LogEntry) BlockRefusal). told_as (damage_at id offset) r
            >>= (λ (entries : List LogEntry). behind entries (stored_in shape streams id (offset + length (take (block_bytes rest) rest)) (blocks_of t.0 (drop (block_bytes rest) rest)))))
            (alone shape streams (lsn_number id offset 0) rest (block_bytes rest) (enough rest)),
      )

  pub starts : (bytes : List ℕ) → AreRightTo shape streams id bytes 0
  starts bytes = record {
    entries = [];
    most = length bytes;
    enough = omega arith;
    same = behind_none (stored_in shape streams id 0 (blocks_in bytes));
  }

  -- all blocks were judged
  pub all_right : (bytes : List ℕ) (offset : ℕ) → AreRightTo shape streams id bytes offset → length bytes ≤ offset
      → (entries : List LogEntry) × (stored_in shape streams id 0 (blocks_in bytes) ≡ Ok entries)
  all_right bytes offset right end = (
    right.entries ++ [],
    right.same ∙ ap (λ (l : List ℕ). behind right.entries (stored_in shape streams id offset (blocks_of right.most l))) (drop_all offset bytes end)
        ∙ ap (λ (l : List (List ℕ)). behind right.entries (stored_in shape streams id offset l)) (none_of right.most),
  )

  module _ (bytes : List ℕ) (offset : ℕ) (right : AreRightTo shape streams id bytes offset) (more : offset < length bytes) where
    left : 0 < length (drop offset bytes)
    left = omega (arith, length-drop offset bytes)

    few : length (drop offset bytes) ≤ right.most
    few = omega (arith, length-drop offset bytes, right.enough)

    -- a block is refused
    pub is_refused : (refusal : BlockRefusal) → block_records shape streams (lsn_number id offset 0) (drop offset bytes) ≡ Err refusal
        → stored_in shape streams id 0 (blocks_in bytes) ≡ Err (damage_at id offset refusal)
    is_refused refusal is =
        let t = first_then offset right.most (drop offset bytes) left few in
        let R = drop offset bytes in
        right.same ∙ ap (behind right.entries) t.2
        ∙ ap (λ (r : Result (List LogEntry) BlockRefusal). behind right.entries (told_as (damage_at id offset) r
        >>= (λ (entries : List LogEntry). behind entries (stored_in shape streams id (offset + length (take (block_bytes R) R)) (blocks_of t.0 (drop (block_bytes R) R)))))) is

    -- a block is right, and has so many sectors
    pub goes_on : (head : BlockHead) (entries : List LogEntry) → frame_at shape (lsn_number id offset 0) (drop offset bytes) ≡ Ok head
        → block_records shape streams (lsn_number id offset 0) (drop offset bytes) ≡ Ok entries → AreRightTo shape streams id bytes (offset + sector_bytes * head.sectors)
    goes_on head entries framed is =
        let t = first_then offset right.most (drop offset bytes) left few in
        let R = drop offset bytes in
        let holds : HasFrame shape (lsn_number id offset 0) R head = written.holds shape (lsn_number id offset 0) R head framed in
        let said : head.sectors ≡ (head_of R).sectors = ap (λ (h : BlockHead). h.sectors) holds.numbers in
        let size : block_bytes R ≡ sector_bytes * head.sectors = omega (arith, said, holds.some) in
        let len : length (take (block_bytes R) R) ≡ sector_bytes * head.sectors = length-take-le (block_bytes R) R (omega (arith, size, holds.whole)) ∙ size in
        let next : drop (block_bytes R) R ≡ drop (offset + sector_bytes * head.sectors) bytes =
        ap (λ (k : ℕ). drop k R) size ∙ drop-drop (sector_bytes * head.sectors) offset bytes in record {
          entries = right.entries ++ entries;
          most = t.0;
          enough = omega (arith, right.enough, t.1, holds.some);
          same = right.same ∙ ap (behind right.entries) t.2
              ∙ ap (λ (r : Result (List LogEntry) BlockRefusal). behind right.entries (told_as (damage_at id offset) r
              >>= (λ (entries : List LogEntry). behind entries (stored_in shape streams id (offset + length (take (block_bytes R) R)) (blocks_of t.0 (drop (block_bytes R) R)))))) is
              ∙ behind_both right.entries entries (stored_in shape streams id (offset + length (take (block_bytes R) R)) (blocks_of t.0 (drop (block_bytes R) R)))
              ∙ ap (λ (k : ℕ). behind (right.entries ++ entries) (stored_in shape streams id (offset + k) (blocks_of t.0 (drop (block_bytes R) R)))) len
              ∙ ap (λ (l : List ℕ). behind (right.entries ++ entries) (stored_in shape streams id (offset + sector_bytes * head.sectors) (blocks_of t.0 l))) next;
        }

-- what is left after a block
pub goes_within : (written : AreReadAsWritten) (shape : Shape) (start : ℕ) (bytes : List ℕ) (offset : ℕ) (head : BlockHead)
    → frame_at shape start (drop offset bytes) ≡ Ok head → offset < length bytes → (1 ≤ head.sectors) × (offset + sector_bytes * head.sectors ≤ length bytes)
goes_within written shape start bytes offset head framed more =
    let holds = written.holds shape start (drop offset bytes) head framed in
    (holds.some, omega (arith, holds.whole, more, length-drop offset bytes))

read_wrong : LoadRefusal → Result (List LogEntry) LoadRefusal
read_wrong refusal = Err refusal

-- a refusal of one block is that of all
pub refuses : (container offset : ℕ) (refusal : LoadRefusal) (read : Result (List LogEntry) BlockRefusal) (whole : Result (List LogEntry) LoadRefusal)
    → JudgesBlock container offset (Err refusal) read
    → ((other : BlockRefusal) → read ≡ Err other → whole ≡ Err (damage_at container offset other)) → RefusesAs refusal whole
unfolding read_wrong
refuses container offset NoBase read whole judged tells = judged
refuses container offset (Damaged c o at) read whole judged tells =
    tells (blocks.BadByte at) judged.2 ∙ ap read_wrong (ap (λ (n : ℕ). Damaged n offset at) (sym judged.0) ∙ ap (λ (n : ℕ). Damaged c n at) (sym judged.1))
refuses container offset DiskFault read whole judged tells = tt
refuses container offset NoMemory read whole judged tells = tt
