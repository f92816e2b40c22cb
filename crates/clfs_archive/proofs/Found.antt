-- The blocks of records, as the heads of these are gone through.
use Rattle.std.proofs.Common.{◌≡◌, ℕ, ◌+◌, ◌*◌, ◌/◌, ◌<◌, ◌≤◌, ◌^◌, true, false, refl, sym, ap, subst, ◌∙◌, inl, inr, arith, List, [], ◌∷◌, ◌++◌, length, zero, suc, get_or, take, drop, take-append-drop}
use Rattle.std.specs.Prelude.{All, AllPairs, ◌==◌, filter, sum_by}
use Rattle.std.proofs.lemmas.Bool.{cases_lt, eqb-true, eq-eqb}
use Rattle.std.proofs.lemmas.List.{get_or_push, length_push, get_or-take, length-take, get_or_default, take_all, take_more}
use Rattle.std.proofs.lemmas.List.Elements.{All-push, All-weaker, filter-append}
use Rattle.std.proofs.lemmas.List.Sums.{sum_by-append}
use Rattle.clfs_lsn.specs.Format.{sector_bytes, block_header}
use Rattle.clfs_lsn.specs.Lsn.{container_of, offset_of, sequence_of}
use Rattle.clfs_lsn.specs.Size.{size, sectors}
use Rattle.clfs_lsn.specs.declared.entry.Head.{Head}
use Rattle.clfs_model.specs.Archive.{is_in_block}
use Rattle.clfs_model.specs.Heads.{block_end}
use Rattle.clfs_archive.specs.declared.block.BlockEnd.{BlockEnd}
use Rattle.clfs_archive.specs.Blocks.{IsBlock, AreSealed}
use Rattle.clfs_archive.specs.Found.{start_of_block, payload_of_block, AreFound}
use Rattle.clfs_archive.proofs.Among.{none_passes}
use Rattle.clfs_archive.proofs.Sealing.{one_block, and_both, not_true, join, sealed_one}

-- two LSNs with the same number but for the sequence are in one block
pub in_block : (a b : ℕ) → a / 512 ≡ b / 512 → is_in_block a b ≡ true
in_block a b same =
    let container : container_of a ≡ container_of b = omega (arith, same) in
    let offset : offset_of a ≡ offset_of b = omega (arith, same) in
    rw (eq-eqb (container_of a) (container_of b) container, eq-eqb (offset_of a) (offset_of b) offset) refl

-- the start of a block has no sequence and isn't above its records
start_sequence : (lsn : ℕ) → sequence_of (start_of_block lsn) ≡ 0
start_sequence lsn = omega arith

-- the sizes of the records of a block
record_sizes : List Head → ℕ → ℕ
record_sizes heads lsn = sum_by (λ (head : Head). size head.len) (filter (λ (head : Head). is_in_block head.lsn lsn) heads)

payload_behind : (heads more : List Head) (lsn : ℕ) → payload_of_block (heads ++ more) lsn ≡ payload_of_block heads lsn + record_sizes more lsn
unfolding record_sizes
payload_behind heads more lsn =
    let split = ap (λ (hs : List Head). sum_by (λ (head : Head). size head.len) hs) (filter-append (λ (head : Head). is_in_block head.lsn lsn) heads more) in
    let sum = sum_by-append (λ (head : Head). size head.len) (filter (λ (head : Head). is_in_block head.lsn lsn) heads) (filter (λ (head : Head). is_in_block head.lsn lsn) more) in
    omega (arith, split, sum)

size_of_one : (head : Head) (lsn : ℕ) → is_in_block head.lsn lsn ≡ true → record_sizes (head ∷ []) lsn ≡ size head.len
unfolding record_sizes
size_of_one head lsn is = rw is (omega arith)

-- the ends of blocks of the first records lie within those of all
pub ends_within : (heads more : List Head) (lsn : ℕ) → block_end heads lsn ≤ block_end (heads ++ more) lsn
ends_within heads more lsn =
    let split = payload_behind heads more lsn in
    omega (arith, split)

only_first : (first : Head) (k : ℕ) (d : Head) → k < 1 → get_or (first ∷ []) k d ≡ first
only_first first zero d inside = refl
only_first first (suc k) d inside = absurd (omega (arith, inside))

-- one record alone
pub found_first : (first : Head) → AreFound (first ∷ []) [] first.lsn (block_header + size first.len)
found_first first = record {
  ended = record {
    told = record {
      rising = λ i j d before inside. absurd (omega (arith, before, inside));
      each = λ k d inside. absurd (omega (arith, inside));
      told = λ k d inside low high.
          let same : (get_or (first ∷ []) k d).lsn ≡ first.lsn = ap (λ (head : Head). head.lsn) (only_first first k d inside) in
          absurd (omega (arith, same, high));
    };
    below = λ k d inside. absurd (omega (arith, inside));
    start = start_sequence first.lsn;
  };
  there = (0, first, omega arith, refl, refl);
  highest = λ k d inside. (let same : (get_or (first ∷ []) k d).lsn ≡ first.lsn = ap (λ (head : Head). head.lsn) (only_first first k d inside) in omega (arith, same));
  sizes =
      let own = size_of_one first first.lsn (in_block first.lsn first.lsn refl) in
      let none = payload_behind [] (first ∷ []) first.lsn in
      omega (arith, own, none);
}

-- one more record of the block of the last one
pub found_joined : (seen : List Head) (blocks : List BlockEnd) (last payload : ℕ) (head : Head) → AreFound seen blocks last payload
    → is_in_block head.lsn last ≡ true → All (λ (other : Head). other.lsn < head.lsn) seen → AreFound (seen ++ head ∷ []) blocks head.lsn (payload + size head.len)
found_joined seen blocks last payload head are same above =
    let number = one_block head.lsn last same in
    let parts = and_both (container_of head.lsn == container_of last) (offset_of head.lsn == offset_of last) same in
    let container : container_of head.lsn ≡ container_of last = eqb-true _ _ parts.0 in
    let offset : offset_of head.lsn ≡ offset_of last = eqb-true _ _ parts.1 in
    let start : start_of_block head.lsn ≡ start_of_block last = omega (arith, number) in
    let at = are.there in
    let over : last < head.lsn = rw (← at.4, ← at.3) (above at.0 at.1 at.2) in
    record {
      ended = rw start (join 0 (start_of_block last) blocks seen head are.ended (omega (arith, over)) above);
      there = (length seen, head, omega (arith, length_push seen head), get_or_push seen head head (length seen) refl, refl);
      highest = All-push (λ (other : Head). other.lsn ≤ head.lsn) seen head
          (All-weaker (λ (other : Head). other.lsn < head.lsn) (λ (other : Head). other.lsn ≤ head.lsn) (λ other less. omega (arith, less)) seen above) (omega arith);
      sizes =
          let behind = payload_behind seen (head ∷ []) head.lsn in
          let own = size_of_one head head.lsn (in_block head.lsn head.lsn refl) in
          let old : payload_of_block seen head.lsn ≡ payload_of_block seen last = rw (container, offset) refl in
          omega (arith, behind, own, old, are.sizes);
    }

-- the end of the last block, as one of ends of blocks
pub last_is_block : (seen : List Head) (blocks : List BlockEnd) (last payload : ℕ) (block : BlockEnd) → AreFound seen blocks last payload
    → block.last ≡ last → block.end ≡ offset_of last + sector_bytes * sectors payload → IsBlock seen block
last_is_block seen blocks last payload block are at end = record {
  last = rw at are.there;
  others = rw at (λ k d inside same. are.highest k d inside);
  behind = rw (end, at, are.sizes) refl;
}

-- what lies from the start of the last block on is in it
in_last : (seen : List Head) (blocks : List BlockEnd) (last payload : ℕ) → AreFound seen blocks last payload
    → All (λ (head : Head). start_of_block last ≤ head.lsn → is_in_block head.lsn last ≡ true) seen
in_last seen blocks last payload are = λ k d inside from.
    let up_to = are.highest k d inside in
    in_block (get_or seen k d).lsn last (omega (arith, from, up_to))

-- the last block is ended where the next one begins
pub found_ended : (seen : List Head) (blocks : List BlockEnd) (last payload next : ℕ) (block : BlockEnd) → AreFound seen blocks last payload
    → block.last ≡ last → block.end ≡ offset_of last + sector_bytes * sectors payload → last < next → sequence_of next ≡ 0
    → AreSealed 0 next (blocks ++ block ∷ []) seen
found_ended seen blocks last payload next block are at end below start =
    sealed_one 0 (start_of_block last) next blocks block seen are.ended (last_is_block seen blocks last payload block are at end)
    (omega (arith, below)) (rw at below) start (rw at (in_last seen blocks last payload are))

-- one more record, of another block
pub found_behind : (seen : List Head) (blocks : List BlockEnd) (last payload : ℕ) (block : BlockEnd) (head : Head) → AreFound seen blocks last payload
    → block.last ≡ last → block.end ≡ offset_of last + sector_bytes * sectors payload
    → is_in_block head.lsn last ≡ false → All (λ (other : Head). other.lsn < head.lsn) seen
    → AreFound (seen ++ head ∷ []) (blocks ++ block ∷ []) head.lsn (block_header + size head.len)
found_behind seen blocks last payload block head are at end other above =
    let there = are.there in
    let over : last < head.lsn = rw (← there.4, ← there.3) (above there.0 there.1 there.2) in
    let apart : last < start_of_block head.lsn = elim (cases_lt last (start_of_block head.lsn)) [
      | inl below ↦ below
      | inr from ↦ absurd (let both = sym (in_block head.lsn last (omega (arith, from, over))) ∙ other in cc both)
    ] in
    let ended = found_ended seen blocks last payload (start_of_block head.lsn) block are at end apart (start_sequence head.lsn) in
    record {
      ended = join 0 (start_of_block head.lsn) (blocks ++ block ∷ []) seen head ended (omega arith) above;
      there = (length seen, head, omega (arith, length_push seen head), get_or_push seen head head (length seen) refl, refl);
      highest = All-push (λ (other : Head). other.lsn ≤ head.lsn) seen head
          (All-weaker (λ (other : Head). other.lsn < head.lsn) (λ (other : Head). other.lsn ≤ head.lsn) (λ other less. omega (arith, less)) seen above) (omega arith);
      sizes =
          let behind = payload_behind seen (head ∷ []) head.lsn in
          let own = size_of_one head head.lsn (in_block head.lsn head.lsn refl) in
          let none : filter (λ (h : Head). is_in_block h.lsn head.lsn) seen ≡ []
          = none_passes (λ (h : Head). is_in_block h.lsn head.lsn) seen (λ k d inside.
          not_true (is_in_block (get_or seen k d).lsn head.lsn) (λ same.
          let number = one_block (get_or seen k d).lsn head.lsn same in
          let up_to = are.highest k d inside in
          omega (arith, number, up_to, apart))) in
          let old : payload_of_block seen head.lsn ≡ block_header = rw none refl in
          omega (arith, behind, own, old);
    }

-- the end of the last block fits where the ends of all blocks do
pub end_fits : (heads : List Head) (i : ℕ) (blocks : List BlockEnd) (last payload : ℕ) → AreFound (take i heads) blocks last payload
    → All (λ (head : Head). block_end heads head.lsn < 2 ^ 32) heads → offset_of last + sector_bytes * sectors payload < 2 ^ 32
end_fits heads i blocks last payload are fit =
    let at = are.there in
    let long = length-take i heads in
    let inside = at.2 in
    let before : at.0 < i = omega (arith, inside, long) in
    let within : at.0 < length heads = omega (arith, inside, long) in
    let same : get_or heads at.0 at.1 ≡ at.1 = sym (get_or-take i heads at.0 at.1 before) ∙ at.3 in
    let fits : block_end heads last < 2 ^ 32 = rw (← at.4, ← same) (fit at.0 at.1 within) in
    let front : block_end (take i heads) last ≤ block_end (take i heads ++ drop i heads) last = ends_within (take i heads) (drop i heads) last in
    let whole : block_end (take i heads ++ drop i heads) last ≡ block_end heads last = ap (λ (hs : List Head). block_end hs last) (take-append-drop i heads) in
    let own : offset_of last + sector_bytes * sectors payload ≡ block_end (take i heads) last = rw are.sizes refl in
    omega (arith, fits, front, whole, own)

-- the payload of a block that ends within four bytes fits in them
pub payload_fits : (last payload : ℕ) → offset_of last + sector_bytes * sectors payload < 2 ^ 32 → payload < 2 ^ 32
payload_fits last payload fits = omega (arith, fits)

-- the heads before the next one lie below it, and with it they are so many
pub before_next : (heads others : List Head) (first head : Head) (i : ℕ) → heads ≡ first ∷ others → AllPairs (λ (a b : Head). a.lsn < b.lsn) heads
    → i < length others → head ≡ get_or others i head
    → All (λ (other : Head). other.lsn < head.lsn) (take (i + 1) heads) × (take (i + 1 + 1) heads ≡ take (i + 1) heads ++ head ∷ [])
before_next heads others first head i is rising inside read =
    let within : i + 1 < length heads = (let long = ap length is in omega (arith, inside, long)) in
    let later : i + 1 ≡ suc i = omega arith in
    let here : head ≡ get_or heads (i + 1) head = rw (is, later) read in (
      (λ k d below.
          let long = length-take (i + 1) heads in
          let before : k < i + 1 = omega (arith, below, long, within) in
          let less = rising k (i + 1) d before within in
          let own : head ≡ get_or heads (i + 1) d = here ∙ get_or_default heads (i + 1) head d within in
          rw (get_or-take (i + 1) heads k d before, own) less),
      take_more heads (i + 1) head within ∙ ap (λ (h : Head). take (i + 1) heads ++ h ∷ []) (sym here),
    )

-- the last record lies below what all lie below
pub last_below : (heads : List Head) (blocks : List BlockEnd) (last payload next : ℕ) → AreFound heads blocks last payload
    → All (λ (head : Head). head.lsn < next) heads → last < next
last_below heads blocks last payload next are below =
    let at = are.there in
    rw (← at.4, ← at.3) (below at.0 at.1 at.2)

-- what is found of as many records as there are is found of all
pub found_all : (heads : List Head) (i : ℕ) (blocks : List BlockEnd) (last payload : ℕ) → AreFound (take i heads) blocks last payload → length heads ≤ i
    → AreFound heads blocks last payload
found_all heads i blocks last payload are long = subst (λ (hs : List Head). AreFound hs blocks last payload) (take_all i heads long) are
