-- What becomes of the ends of sealed blocks.
use Rattle.std.proofs.Common.{◌≡◌, ℕ, ◌+◌, ◌*◌, ◌/◌, ◌%◌, ◌<◌, ◌≤◌, Bool, true, false, refl, sym, ap, ◌∙◌, inl, inr, arith, List, [], ◌∷◌, ◌++◌, length, get_or}
use Rattle.std.specs.Prelude.{All, AllPairs, ◌==◌, ◌&&◌, filter, sum_by}
use Rattle.std.specs.List.{Any}
use Rattle.std.proofs.lemmas.Bool.{cases_lt, eqb-true}
use Rattle.std.proofs.lemmas.List.{append-nil, get_or_append_left, get_or_push, length_push}
use Rattle.std.proofs.lemmas.List.Elements.{All-push, All-weaker, filter-append}
use Rattle.clfs_lsn.specs.Format.{sector_bytes, block_header}
use Rattle.clfs_lsn.specs.Lsn.{container_of, offset_of, sequence_of}
use Rattle.clfs_lsn.specs.Size.{size, sectors}
use Rattle.clfs_lsn.specs.declared.entry.Head.{Head}
use Rattle.clfs_model.specs.Archive.{is_in_block}
use Rattle.clfs_model.specs.Heads.{block_end}
use Rattle.clfs_archive.specs.declared.block.BlockEnd.{BlockEnd}
use Rattle.clfs_archive.specs.Blocks.{IsBlock, AreBlocks, AreSealed, BlocksGoOn}

pub and_both : (a b : Bool) → (a && b) ≡ true → (a ≡ true) × (b ≡ true)
and_both true true is = (refl, refl)
and_both true false is = absurd (cc)
and_both false b is = absurd (cc)

-- two LSNs of one block are in one sector's worth of numbers
pub one_block : (a b : ℕ) → is_in_block a b ≡ true → a / sector_bytes ≡ b / sector_bytes
one_block a b is =
    let parts = and_both (container_of a == container_of b) (offset_of a == offset_of b) is in
    let container : a / 4294967296 ≡ b / 4294967296 = eqb-true _ _ parts.0 in
    let offset : a % 4294967296 / 512 * 512 ≡ b % 4294967296 / 512 * 512 = eqb-true _ _ parts.1 in
    omega (arith, container, offset)

-- A block begins with sequence 0, so a start of a block that is above one record of a block is above all of it.
pub all_below : (a b start : ℕ) → is_in_block a b ≡ true → sequence_of start ≡ 0 → a < start → b < start
all_below a b start is zero below =
    let same = one_block a b is in
    let sequence : start % 512 ≡ 0 = zero in
    omega (arith, same, sequence, below)

-- a record above all others, whose block is another one, changes no block's end
other_block : (block : ℕ) (heads : List Head) (head : Head) → is_in_block head.lsn block ≡ false → block_end (heads ++ head ∷ []) block ≡ block_end heads block
other_block block heads head other =
    let same : filter (λ (h : Head). is_in_block h.lsn block) (heads ++ head ∷ []) ≡ filter (λ (h : Head). is_in_block h.lsn block) heads
    = filter-append (λ (h : Head). is_in_block h.lsn block) heads (head ∷ []) ∙ rw other (append-nil _) in
    ap (λ (hs : List Head). offset_of block + sector_bytes * sectors (block_header + sum_by (λ (h : Head). size h.len) hs)) same

pub not_true : (b : Bool) → (b ≡ true → ⊥) → b ≡ false
not_true true isnt = absurd (isnt refl)
not_true false isnt = refl

pub rising_on : (heads : List Head) (head : Head) → AllPairs (λ (a b : Head). a.lsn < b.lsn) heads → All (λ (other : Head). other.lsn < head.lsn) heads
    → AllPairs (λ (a b : Head). a.lsn < b.lsn) (heads ++ head ∷ [])
rising_on heads head rising above = λ i j d before within. elim (cases_lt j (length heads)) [
  | inl inside ↦
      rw (get_or_append_left heads (head ∷ []) d i (omega (arith, before, inside)), get_or_append_left heads (head ∷ []) d j inside) (rising i j d before inside)
  | inr behind ↦
      let last : j ≡ length heads = omega (arith, behind, within, length_push heads head) in
      rw (get_or_append_left heads (head ∷ []) d i (omega (arith, before, last)), get_or_push heads head d j (sym last)) (above i d (omega (arith, before, last)))
]

-- a block of heads is one of heads with one more of another block
block_stays : (heads : List Head) (head : Head) (block : BlockEnd) → is_in_block head.lsn block.last ≡ false → IsBlock heads block → IsBlock (heads ++ head ∷ []) block
block_stays heads head block other is = record {
  last =
      let at = is.last in
      (at.0, at.1, omega (arith, at.2, length_push heads head), rw (get_or_append_left heads (head ∷ []) at.1 at.0 at.2) at.3, at.4);
  others = All-push (λ (h : Head). is_in_block h.lsn block.last ≡ true → h.lsn ≤ block.last) heads head is.others (λ same. absurd (let both = sym same ∙ other in cc both));
  behind = is.behind ∙ sym (other_block block.last heads head other);
}

-- ends of blocks of which one is below an LSN; a block that is found among them
abbrev IsEndBelow : ℕ → ℕ → BlockEnd → Type 0
IsEndBelow lsn next block = (is_in_block lsn block.last ≡ true) × (block.last < next)

-- an end that is found among some is found among these and one more
found_with : (P : BlockEnd → Type 0) (blocks : List BlockEnd) (block : BlockEnd) → Any P blocks → Any P (blocks ++ block ∷ [])
found_with P blocks block at =
    (at.0, at.1, omega (arith, at.2, length_push blocks block), rw (get_or_append_left blocks (block ∷ []) at.1 at.0 at.2) at.3, at.4)

-- the last one is found
found_last : (P : BlockEnd → Type 0) (blocks : List BlockEnd) (block : BlockEnd) → P block → Any P (blocks ++ block ∷ [])
found_last P blocks block is = (length blocks, block, omega (arith, length_push blocks block), get_or_push blocks block block (length blocks) refl, is)

-- an end that is found passes a weaker test too
found_weaker : (P Q : BlockEnd → Type 0) (blocks : List BlockEnd) → ((block : BlockEnd) → P block → Q block) → Any P blocks → Any Q blocks
found_weaker P Q blocks weaker at = (at.0, at.1, at.2, at.3, weaker at.1 at.4)

-- no end is told of the block that a record at or above the next one's start is in
not_told : (next lsn : ℕ) (block : BlockEnd) → sequence_of next ≡ 0 → next ≤ lsn → block.last < next → is_in_block lsn block.last ≡ false
not_told next lsn block zero from below =
    not_true (is_in_block lsn block.last) (λ same.
    let one = one_block lsn block.last same in
    let sequence : next % 512 ≡ 0 = zero in
    omega (arith, one, sequence, from, below))

pub join : (from next : ℕ) (blocks : List BlockEnd) (heads : List Head) (head : Head) → AreSealed from next blocks heads → next ≤ head.lsn
    → All (λ (other : Head). other.lsn < head.lsn) heads → AreSealed from next blocks (heads ++ head ∷ [])
join from next blocks heads head are above all = record {
  told = record {
    rising = rising_on heads head are.told.rising all;
    each = λ k d inside. block_stays heads head (get_or blocks k d) (not_told next head.lsn (get_or blocks k d) are.start above (are.below k d inside)) (are.told.each k d inside);
    told = All-push (λ (h : Head). from ≤ h.lsn → h.lsn < next → Any (IsEndBelow h.lsn next) blocks) heads head are.told.told (λ low high. absurd (omega (arith, high, above)));
  };
  below = are.below;
  start = are.start;
}

move : (from next later : ℕ) (blocks : List BlockEnd) (heads : List Head) → AreSealed from next blocks heads → next ≤ later → sequence_of later ≡ 0
    → All (λ (head : Head). head.lsn < next) heads → AreSealed from later blocks heads
move from next later blocks heads are up zero all = record {
  told = record {
    rising = are.told.rising;
    each = are.told.each;
    told = λ k d inside low high.
        found_weaker (IsEndBelow (get_or heads k d).lsn next) (IsEndBelow (get_or heads k d).lsn later) blocks (λ block is. (is.0, omega (arith, is.1, up))) (are.told.told k d inside low (all k d inside));
  };
  below = All-weaker (λ (block : BlockEnd). block.last < next) (λ (block : BlockEnd). block.last < later) (λ block is. omega (arith, is, up)) blocks are.below;
  start = zero;
}

on_disk : (from next stable : ℕ) (blocks : List BlockEnd) (heads : List Head) → AreSealed from next blocks heads → stable ≤ next → sequence_of stable ≡ 0
    → AreBlocks from stable blocks heads
on_disk from next stable blocks heads are down zero = record {
  rising = are.told.rising;
  each = are.told.each;
  told = λ k d inside low high.
      found_weaker (IsEndBelow (get_or heads k d).lsn next) (IsEndBelow (get_or heads k d).lsn stable) blocks
      (λ block is. (is.0, all_below (get_or heads k d).lsn block.last stable is.0 zero high)) (are.told.told k d inside low (omega (arith, high, down)));
}

pub go_on : BlocksGoOn
go_on = record { joined = join; moved = move; stable = on_disk }

-- the open block is sealed, and its end is told
pub sealed_one : (from start next : ℕ) (blocks : List BlockEnd) (block : BlockEnd) (heads : List Head) → AreSealed from start blocks heads → IsBlock heads block
    → start ≤ next → block.last < next → sequence_of next ≡ 0 → All (λ (head : Head). start ≤ head.lsn → is_in_block head.lsn block.last ≡ true) heads
    → AreSealed from next (blocks ++ block ∷ []) heads
sealed_one from start next blocks block heads are is up last zero open_block = record {
  told = record {
    rising = are.told.rising;
    each = All-push (IsBlock heads) blocks block are.told.each is;
    told = λ k d inside low high. elim (cases_lt (get_or heads k d).lsn start) [
      | inl before ↦
          found_with (IsEndBelow (get_or heads k d).lsn next) blocks block
          (found_weaker (IsEndBelow (get_or heads k d).lsn start) (IsEndBelow (get_or heads k d).lsn next) blocks (λ other at. (at.0, omega (arith, at.1, up))) (are.told.told k d inside low before))
      | inr behind ↦ found_last (IsEndBelow (get_or heads k d).lsn next) blocks block (open_block k d inside behind, last)
    ];
  };
  below = All-push (λ (other : BlockEnd). other.last < next) blocks block (All-weaker (λ (other : BlockEnd). other.last < start) (λ (other : BlockEnd). other.last < next) (λ other at. omega (arith, at, up)) blocks are.below) last;
  start = zero;
}
