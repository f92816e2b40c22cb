-- Where the open blocks end that bytes begin with, one block after the other.
use Rattle.clfs_archive_form.proofs.Words.{⊎_elim, inl, ◌≡◌, ◌≢◌, ℕ, ◌+◌, ◌-◌, ◌*◌, ◌/◌, ◌%◌, ◌<◌, ◌≤◌, Bool, not, eqb, true, false, cond, List, [], ◌∷◌}
use Rattle.clfs_archive_form.proofs.Words.{◌++◌, length, drop, get_or, Result, Ok, Err, refl, sym, ◌∙◌, ap, subst, arith, drop-drop, length-take-le}
use Rattle.clfs_archive_form.proofs.Words.{length-drop, get_or-drop, ne_eqb, lsn_number, LogEntry, Shape, block_sectors, BeginsWith, Opens, EndsCleanly}
use Rattle.clfs_archive_form.proofs.Words.{AreWhole, total, head_of, frame_at, AreReadAsWritten, block_refused, ◌>>=◌, told_as, block_records, BlockHead}
use Rattle.clfs_archive_form.proofs.Words.{BlockRefusal, stored_in, damage_at, LoadRefusal, NoBase, Damaged, DiskFault, NoMemory, JudgesBlock}
use Rattle.clfs_block.specs.declared.head.BlockRefusal.TheVariants as blocks
use Rattle.clfs_archive_form.specs.Drafting.{EndsAt}
use Rattle.clfs_archive_form.proofs.Blocks.{ReadAlone}

-- these open blocks follow in bytes that have so many sectors, and end cleanly
abbrev pub Follow : ℕ → List ℕ → List (List ℕ) → Type 0
Follow left bytes [] = EndsCleanly left bytes
Follow left bytes (block ∷ others) =
    BeginsWith left bytes block × Follow (left - block_sectors bytes) (drop (512 * block_sectors bytes) bytes) others

-- a block has as many bytes as it says
pub block_len : (left : ℕ) (bytes block : List ℕ) → BeginsWith left bytes block → length block ≡ 512 * block_sectors bytes
block_len left bytes block begins = ap length begins.is ∙ length-take-le (512 * block_sectors bytes) bytes begins.whole

follow : (left : ℕ) (bytes : List ℕ) (here : List (List ℕ)) (rest : ℕ) → Opens left bytes here rest → EndsCleanly rest (drop (total here) bytes)
    → Follow left bytes here
follow left bytes [] rest opens ends = subst (λ (n : ℕ). EndsCleanly n bytes) (sym opens) ends
follow left bytes (block ∷ others) rest opens ends =
    let n = block_sectors bytes in
    let behind = ap (λ (k : ℕ). drop (k + total others) bytes) (block_len left bytes block opens.0) ∙ sym (drop-drop (total others) (512 * n) bytes) in (
      opens.0,
      follow (left - n) (drop (512 * n) bytes) others rest opens.1 (subst (λ (l : List ℕ). EndsCleanly rest l) behind ends),
    )

pub all_follow : (sectors : ℕ) (bytes : List ℕ) (here : List (List ℕ)) → AreWhole sectors bytes here → Follow sectors bytes here
all_follow sectors bytes here whole = follow sectors bytes here whole.0 whole.1 whole.2

-- the sectors that a block says to have
pub sectors_said : (bytes : List ℕ) → (head_of bytes).sectors ≡ block_sectors bytes
sectors_said bytes =
    let a = get_or-drop 2 bytes 0 0 ∙ ap (λ (k : ℕ). get_or bytes k 0) (plus 2 0 2 refl) in
    let b = get_or-drop 2 bytes 1 0 ∙ ap (λ (k : ℕ). get_or bytes k 0) (plus 2 1 3 refl) in
    omega (arith, a, b)
  where
    plus : (a b c : ℕ) → a + b ≡ c → a + b ≡ c
    plus a b c e = e

-- a gate that is there and closed ends them
closed_test : (some : Bool) (gate : Bool) (more : Result BlockHead BlockRefusal) → some ≡ false → gate ≡ false
    → cond some (Err (blocks.BadByte 0)) (cond (not gate) (Err blocks.Closed) more) ≡ Err blocks.Closed
closed_test true gate more a b = absurd (cc a)
closed_test false true more a b = absurd (cc b)
closed_test false false more a b = refl

is_some : (bytes : List ℕ) → 0 < length bytes → eqb (length bytes) 0 ≡ false
is_some bytes some = ne_eqb (length bytes) 0 (λ (none : length bytes ≡ 0). omega (arith, some, none))

pub closed_frame : (shape : Shape) (start : ℕ) (bytes : List ℕ) → 0 < length bytes → get_or bytes 0 0 ≢ 165 → frame_at shape start bytes ≡ Err blocks.Closed
unfolding frame_at
closed_frame shape start bytes some other = closed_test _ _ _ (is_some bytes some) (ne_eqb (get_or bytes 0 0) 165 other)

-- what blocks that are read begin with
read_first : (r : Result (List LogEntry) BlockRefusal) (id offset : ℕ) (others : Result (List LogEntry) LoadRefusal) (entries : List LogEntry)
    → (told_as (damage_at id offset) r >>= (λ (here : List LogEntry). others >>= (λ (more : List LogEntry). Ok (here ++ more)))) ≡ Ok entries
    → ((here : List LogEntry) × (r ≡ Ok here)) × ((more : List LogEntry) × (others ≡ Ok more))
read_first (Ok here) id offset (Ok more) entries is = ((here, refl), (more, refl))
read_first (Ok here) id offset (Err refusal) entries is = absurd (cc is)
read_first (Err refusal) id offset others entries is = absurd (cc is)

-- Of the open blocks of a container these are left from an offset on: what is read of them is right, and they end where all of them do.
pub record AreLeft (shape : Shape) (streams id : ℕ) (bytes : List ℕ) (offset end : ℕ) : Type 0 where
  pub rest : List (List ℕ)
  pub entries : List LogEntry
  pub follow : Follow (shape.container_sectors - offset / 512) (drop offset bytes) rest
  pub read : stored_in shape streams id offset rest ≡ Ok entries
  pub ends : offset + total rest ≡ end

module _ (shape : Shape) (streams id : ℕ) (bytes : List ℕ) where
  pub begin_left : (here : List (List ℕ)) (entries : List LogEntry) → AreWhole shape.container_sectors bytes here
      → stored_in shape streams id 0 here ≡ Ok entries → AreLeft shape streams id bytes 0 (total here)
  begin_left here entries whole read = record {
    rest = here;
    entries = entries;
    follow = subst (λ (n : ℕ). Follow n bytes here) (omega arith) (all_follow shape.container_sectors bytes here whole);
    read = read;
    ends = omega arith;
  }

  module _ (offset end : ℕ) (left : AreLeft shape streams id bytes offset end) where
    -- no sector is left
    at_end : (rest : List (List ℕ)) → Follow (shape.container_sectors - offset / 512) (drop offset bytes) rest → offset + total rest ≡ end
        → 512 * shape.container_sectors ≤ offset → offset ≡ end
    at_end [] follow ends full = omega (arith, ends)
    at_end (block ∷ others) follow ends full = absurd (omega (arith, follow.0.some, follow.0.fits, full))

    pub left_none : 512 * shape.container_sectors ≤ offset → offset ≡ end
    left_none full = at_end left.rest left.follow left.ends full

    module _ (alone : ReadAlone) (whole : offset % 512 ≡ 0) (more : offset < 512 * shape.container_sectors) where
      -- what is read of the bytes from the offset on is what is read of their first block
      same_block : (block : List ℕ) → BeginsWith (shape.container_sectors - offset / 512) (drop offset bytes) block
          → block_records shape streams (lsn_number id offset 0) block ≡ block_records shape streams (lsn_number id offset 0) (drop offset bytes)
      same_block block begins =
          let R = drop offset bytes in
          ap (block_records shape streams (lsn_number id offset 0)) begins.is
          ∙ alone shape streams (lsn_number id offset 0) R (512 * block_sectors R)
          (record { first = omega (arith, begins.some); all = inl (omega (arith, sectors_said R)) })

      gone : Follow (shape.container_sectors - offset / 512) (drop offset bytes) [] → frame_at shape (lsn_number id offset 0) (drop offset bytes) ≡ Err blocks.Closed
      gone follow = ⊎_elim (λ (none : shape.container_sectors - offset / 512 ≡ 0). absurd (omega (arith, none, whole, more)))
          (λ (closed : (0 < length (drop offset bytes)) × (get_or (drop offset bytes) 0 0 ≢ 165)).
          closed_frame shape (lsn_number id offset 0) (drop offset bytes) closed.0 closed.1) follow

      closes : (rest : List (List ℕ)) (entries : List LogEntry) → Follow (shape.container_sectors - offset / 512) (drop offset bytes) rest
          → stored_in shape streams id offset rest ≡ Ok entries → offset + total rest ≡ end
          → block_records shape streams (lsn_number id offset 0) (drop offset bytes) ≡ Err blocks.Closed → offset ≡ end
      closes [] entries follow read ends is = omega (arith, ends)
      closes (block ∷ others) entries follow read ends is =
          let first = read_first (block_records shape streams (lsn_number id offset 0) block) id offset _ entries read in
          let same = same_block block follow.0 in
          absurd (cc (first.0.1, same, is))

      -- a closed gate stands after the last of them
      pub on_closed : block_records shape streams (lsn_number id offset 0) (drop offset bytes) ≡ Err blocks.Closed → offset ≡ end
      on_closed is = closes left.rest left.entries left.follow left.read left.ends is

      fails : (rest : List (List ℕ)) (entries : List LogEntry) → Follow (shape.container_sectors - offset / 512) (drop offset bytes) rest
          → stored_in shape streams id offset rest ≡ Ok entries → (at : ℕ)
          → block_records shape streams (lsn_number id offset 0) (drop offset bytes) ≡ Err (blocks.BadByte at) → ⊥
      fails [] entries follow read at is =
          let closed = block_refused shape streams (lsn_number id offset 0) (drop offset bytes) blocks.Closed (gone follow) in
          absurd (cc (closed, is))
      fails (block ∷ others) entries follow read at is =
          let first = read_first (block_records shape streams (lsn_number id offset 0) block) id offset _ entries read in
          let same = same_block block follow.0 in
          absurd (cc (first.0.1, same, is))

      -- and no byte is wrong
      pub on_wrong : (at : ℕ) → block_records shape streams (lsn_number id offset 0) (drop offset bytes) ≡ Err (blocks.BadByte at) → ⊥
      on_wrong at is = fails left.rest left.entries left.follow left.read at is

      module _ (written : AreReadAsWritten) (head : BlockHead) (is : frame_at shape (lsn_number id offset 0) (drop offset bytes) ≡ Ok head) where
        said : head.sectors ≡ block_sectors (drop offset bytes)
        said = ap (λ (h : BlockHead). h.sectors) (written.holds shape (lsn_number id offset 0) (drop offset bytes) head is).numbers
            ∙ sectors_said (drop offset bytes)

        goes_on : (rest : List (List ℕ)) (entries : List LogEntry) → Follow (shape.container_sectors - offset / 512) (drop offset bytes) rest
            → stored_in shape streams id offset rest ≡ Ok entries → offset + total rest ≡ end
            → AreLeft shape streams id bytes (offset + 512 * head.sectors) end
        goes_on [] entries follow read ends = absurd (cc (gone follow, is))
        goes_on (block ∷ others) entries follow read ends =
            let R = drop offset bytes in
            let n = block_sectors R in
            let first = read_first (block_records shape streams (lsn_number id offset 0) block) id offset (stored_in shape streams id (offset + length block) others) entries read in
            let len = block_len (shape.container_sectors - offset / 512) R block follow.0 in
            let sectors : shape.container_sectors - offset / 512 - n ≡ shape.container_sectors - (offset + 512 * head.sectors) / 512 = omega (arith, said, whole) in
            let bytes_left : drop (512 * n) R ≡ drop (offset + 512 * head.sectors) bytes =
            drop-drop (512 * n) offset bytes ∙ ap (λ (k : ℕ). drop (offset + 512 * k) bytes) (sym said) in
            let here : offset + length block ≡ offset + 512 * head.sectors = omega (arith, len, said) in record {
              rest = others;
              entries = first.1.0;
              follow = subst (λ (l : List ℕ). Follow (shape.container_sectors - (offset + 512 * head.sectors) / 512) l others) bytes_left
                  (subst (λ (k : ℕ). Follow k (drop (512 * n) R) others) sectors follow.1);
              read = subst (λ (k : ℕ). stored_in shape streams id k others ≡ Ok first.1.0) here first.1.1;
              ends = omega (arith, ends, len, said);
            }

        -- the blocks after one that is right are left
        pub on_block : AreLeft shape streams id bytes (offset + 512 * head.sectors) end
        on_block = goes_on left.rest left.entries left.follow left.read left.ends

-- what follows a block that is right
pub ends_within : (written : AreReadAsWritten) (shape : Shape) (start : ℕ) (bytes : List ℕ) (offset : ℕ) (head : BlockHead)
    → frame_at shape start (drop offset bytes) ≡ Ok head → (1 ≤ head.sectors) × (offset + 512 * head.sectors ≤ length bytes)
ends_within written shape start bytes offset head framed =
    let holds = written.holds shape start (drop offset bytes) head framed in
    (holds.some, omega (arith, holds.whole, holds.some, length-drop offset bytes))

-- a refusal of a block that is right is out of memory
pub refused_end : (container offset end : ℕ) (refusal : LoadRefusal) (read : Result (List LogEntry) BlockRefusal)
    → JudgesBlock container offset (Err refusal) read → (refusal ≡ DiskFault → ⊥) → ((at : ℕ) → read ≡ Err (blocks.BadByte at) → ⊥)
    → EndsAt (Err refusal) end
refused_end container offset end NoBase read judged fine right = judged
refused_end container offset end (Damaged c o at) read judged fine right = right at judged.2
refused_end container offset end DiskFault read judged fine right = fine refl
refused_end container offset end NoMemory read judged fine right = tt
