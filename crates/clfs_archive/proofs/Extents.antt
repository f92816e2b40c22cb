-- The extent of a container, by the ends of its blocks.
use Rattle.std.proofs.Common.{◌≡◌, ℕ, ◌+◌, ◌-◌, ◌<◌, ◌≤◌, ◌↔◌, Bool, true, false, refl, sym, ap, ◌∙◌, inl, inr, arith, List, [], ◌∷◌, ◌++◌, length, Option, Some, None, get_or, slice_get}
use Rattle.std.specs.Prelude.{nat_le, nat_lt, ◌==◌, ◌&&◌}
use Rattle.std.specs.List.{last_or, Any, filter_map, range_with_len, cons_option}
use Rattle.std.specs.Option.{option_to_list}
use Rattle.std.proofs.lemmas.Bool.{cases_Bool, cases_lt, eq-eqb, eqb-true, le-leb, leb-true, lt-ltb, ltb-true}
use Rattle.std.proofs.lemmas.List.{get_or_default, map-id}
use Rattle.std.proofs.lemmas.List.Elements.{filter_map-append}
use Rattle.std.proofs.lemmas.List.FromFn.{map-range_with_len_more}
use Rattle.clfs_lsn.specs.Lsn.{container_of, offset_of}
use Rattle.clfs_lsn.specs.declared.entry.Head.{Head}
use Rattle.clfs_model.specs.Archive.{is_in_block}
use Rattle.clfs_model.specs.Heads.{archived_heads, container_extent}
use Rattle.clfs_model.specs.declared.info.Extent.{Extent}
use Rattle.clfs_archive.specs.declared.block.BlockEnd.{BlockEnd}
use Rattle.clfs_lsn.specs.Rising.{AreRising, IsPlaceOf}
use Rattle.clfs_archive.specs.Blocks.{lsn_of_block, IsBlock, AreBlocks}
use Rattle.clfs_archive.proofs.Among.{Passing, first_of, none_passes, last_of}

-- a head is at or above the tail, on the disk and in the container
abbrev pub is_archived : ℕ → ℕ → ℕ → Head → Bool
is_archived stable tail container head = (container_of head.lsn == container) && nat_le tail head.lsn && nat_lt head.lsn stable

-- the same of an LSN, as facts
pub record IsArchived (stable tail container lsn : ℕ) : Type 0 where
  pub within : container_of lsn ≡ container
  pub from : tail ≤ lsn
  pub below : lsn < stable

and_both : (a b c : Bool) → (a && b && c) ≡ true → (a ≡ true) × (b ≡ true) × (c ≡ true)
and_both true true true is = (refl, refl, refl)
and_both true true false is = absurd (cc)
and_both true false c is = absurd (cc)
and_both false b c is = absurd (cc)

archived_fact : (stable tail container : ℕ) (head : Head) → is_archived stable tail container head ≡ true → IsArchived stable tail container head.lsn
archived_fact stable tail container head passes =
    let parts = and_both (container_of head.lsn == container) (nat_le tail head.lsn) (nat_lt head.lsn stable) passes in
    record { within = eqb-true _ _ parts.0; from = leb-true _ _ parts.1; below = ltb-true _ _ parts.2 }

archived_test : (stable tail container : ℕ) (head : Head) → IsArchived stable tail container head.lsn → is_archived stable tail container head ≡ true
archived_test stable tail container head is =
    rw (eq-eqb _ _ is.within, le-leb _ _ is.from, lt-ltb _ _ is.below) refl

-- The blocks of a container that are to be archived stand between two places.
pub record AreBetween (stable tail container : ℕ) (blocks : List BlockEnd) (first end : ℕ) : Type 0 where
  pub inside : end ≤ length blocks
  pub passing : (k : ℕ) (d : BlockEnd) → first ≤ k → k < end → IsArchived stable tail container (get_or blocks k d).last
  pub others : (k : ℕ) (d : BlockEnd) → k < length blocks → IsArchived stable tail container (get_or blocks k d).last → (first ≤ k) × (k < end)

pub between_places : (stable tail container low high first end : ℕ) (blocks : List BlockEnd)
    → ((n : ℕ) → (low ≤ n) ↔ ((tail ≤ n) × (container ≤ container_of n))) → ((n : ℕ) → (n < high) ↔ ((n < stable) × (container_of n ≤ container)))
    → IsPlaceOf lsn_of_block blocks low first → IsPlaceOf lsn_of_block blocks high end → AreBetween stable tail container blocks first end
between_places stable tail container low high first end blocks from_low to_high at_first at_end = record {
  inside = at_end.within;
  passing = λ k d from to.
      let up = (from_low (get_or blocks k d).last).0 (at_first.above k d from (omega (arith, to, at_end.within))) in
      let down = (to_high (get_or blocks k d).last).0 (at_end.below k d to) in
      record { within = omega (arith, up.1, down.1); from = up.0; below = down.0 };
  others = λ k d inside is.
      let up : low ≤ (get_or blocks k d).last = (from_low (get_or blocks k d).last).1 (is.from, (let c = is.within in omega (arith, c))) in
      let down : (get_or blocks k d).last < high = (to_high (get_or blocks k d).last).1 (is.below, (let c = is.within in omega (arith, c))) in (
        elim (cases_lt k first) [
          | inl before ↦ absurd (let low_one = at_first.below k d before in omega (arith, low_one, up))
          | inr behind ↦ behind
        ],
        elim (cases_lt k end) [
          | inl before ↦ before
          | inr behind ↦ absurd (let high_one = at_end.above k d behind inside in omega (arith, high_one, down))
        ],
      );
}

-- the block of an archived head
record BlockOf (stable tail container : ℕ) (blocks : List BlockEnd) (first end : ℕ) (head : Head) : Type 0 where
  place : ℕ
  block : BlockEnd
  from : first ≤ place
  before : place < end
  is : get_or blocks place block ≡ block
  same : is_in_block head.lsn block.last ≡ true
  up_to : head.lsn ≤ block.last
  archived : IsArchived stable tail container block.last

same_container : (a b : ℕ) → is_in_block a b ≡ true → (container_of a ≡ container_of b) × (offset_of a ≡ offset_of b)
same_container a b is =
    let parts = and_two (container_of a == container_of b) (offset_of a == offset_of b) is in
    (eqb-true _ _ parts.0, eqb-true _ _ parts.1)
  where
    and_two : (a b : Bool) → (a && b) ≡ true → (a ≡ true) × (b ≡ true)
    and_two true true is = (refl, refl)
    and_two true false is = absurd (cc)
    and_two false b is = absurd (cc)

block_of : (stable tail container first end : ℕ) (blocks : List BlockEnd) (heads : List Head) (head : Head) → AreBlocks tail stable blocks heads
    → AreBetween stable tail container blocks first end → Passing (is_archived stable tail container) heads head
    → BlockOf stable tail container blocks first end head
block_of stable tail container first end blocks heads head are between passing =
    let fact = archived_fact stable tail container head passing.passes in
    let here : (from : tail ≤ (get_or heads passing.place passing.default).lsn) (below : (get_or heads passing.place passing.default).lsn < stable)
    → Any (λ (block : BlockEnd). (is_in_block (get_or heads passing.place passing.default).lsn block.last ≡ true) × (block.last < stable)) blocks
    = are.told passing.place passing.default passing.inside in
    let told : Any (λ (block : BlockEnd). (is_in_block head.lsn block.last ≡ true) × (block.last < stable)) blocks
    = (rw passing.is at here) fact.from fact.below in
    let block = told.1 in
    let right : IsBlock heads told.1 = rw told.3 at (are.each told.0 told.1 told.2) in
    let up_to : head.lsn ≤ told.1.last = (rw passing.is at (right.others passing.place passing.default passing.inside)) told.4.0 in
    let same = same_container head.lsn told.1.last told.4.0 in
    let archived : IsArchived stable tail container told.1.last
    = record { within = sym same.0 ∙ fact.within; from = omega (arith, fact.from, up_to); below = told.4.1 } in
    let places = between.others told.0 told.1 told.2 (rw told.3 archived) in
    record {
      place = told.0;
      block = told.1;
      from = places.0;
      before = places.1;
      is = told.3;
      same = told.4.0;
      up_to = up_to;
      archived = archived;
    }

-- Between no places no record is to be archived.
pub no_extent : (stable tail container first end : ℕ) (blocks : List BlockEnd) (heads : List Head) → AreBlocks tail stable blocks heads
    → AreBetween stable tail container blocks first end → end ≤ first → None ≡ container_extent stable tail heads container
no_extent stable tail container first end blocks heads are between none =
    let empty = none_passes (is_archived stable tail container) heads (λ k d inside. elim (cases_Bool (is_archived stable tail container (get_or heads k d))) [
      | inr fails ↦ fails
      | inl passes ↦
          let passing : Passing (is_archived stable tail container) heads (get_or heads k d)
          = record { place = k; default = d; inside = inside; is = refl; passes = passes } in
          let block = block_of stable tail container first end blocks heads (get_or heads k d) are between passing in
          absurd (let from = block.from in let before = block.before in omega (arith, from, before, none))
    ]) in
    rw empty refl

-- an LSN between two of one block is in it
between_in_block : (a b c : ℕ) → a ≤ b → b ≤ c → container_of a ≡ container_of c → offset_of a ≡ offset_of c → offset_of a ≡ offset_of b
between_in_block a b c low high container offset = omega arith

-- blocks in order
in_order : (blocks : List BlockEnd) (i j : ℕ) (d e : BlockEnd) → AreRising lsn_of_block blocks → i ≤ j → j < length blocks
    → (get_or blocks i d).last ≤ (get_or blocks j e).last
in_order blocks i j d e rising up inside =
    let other = ap (λ (b : BlockEnd). b.last) (get_or_default blocks j d e inside) in
    elim (cases_lt i j) [
      | inl before ↦ let over = rising i j d before inside in omega (arith, over, other)
      | inr back ↦ let same : i ≡ j = omega arith in rw same (omega (arith, other))
    ]

-- the first archived head: its offset is that of the first of the blocks
record FirstIn (stable tail container : ℕ) (heads : List Head) (lsn : ℕ) : Type 0 where
  head : Head
  is : slice_get (archived_heads stable tail container heads) 0 ≡ Some head
  within : container_of head.lsn ≡ container
  offset : offset_of head.lsn ≡ offset_of lsn

first_in : (stable tail container first end : ℕ) (blocks : List BlockEnd) (heads : List Head) (d : BlockEnd) → AreRising lsn_of_block blocks
    → AreBlocks tail stable blocks heads → AreBetween stable tail container blocks first end → first < end
    → FirstIn stable tail container heads (get_or blocks first d).last
first_in stable tail container first end blocks heads d rising are between some =
    let test = is_archived stable tail container in
    let fact = between.passing first d (omega arith) some in
    let own = (are.each first d (omega (arith, some, between.inside))).last in
    let own_is : IsArchived stable tail container (own.1).lsn = rw own.4 fact in
    let passes : test (get_or heads own.0 own.1) ≡ true = rw own.3 (archived_test stable tail container own.1 own_is) in
    let found = first_of test heads own.0 own.1 are.rising own.2 passes in
    let block = block_of stable tail container first end blocks heads found.head are between found.passing in
    let low : found.head.lsn ≤ (get_or blocks first d).last = (let up_to = found.up_to in let same = ap (λ (h : Head). h.lsn) own.3 in
    let is = own.4 in omega (arith, up_to, same, is)) in
    let order = in_order blocks first block.place d block.block rising block.from (let before = block.before in omega (arith, before, between.inside)) in
    let high : (get_or blocks first d).last ≤ block.block.last = rw block.is at order in
    let parts = same_container found.head.lsn block.block.last block.same in
    let within : container_of found.head.lsn ≡ container = rw parts.0 block.archived.within in
    record {
      head = found.head;
      is = found.is;
      within = within;
      offset = between_in_block found.head.lsn (get_or blocks first d).last block.block.last low high parts.0 parts.1;
    }

-- the last archived head is that of the last of the blocks
record LastIn (stable tail container : ℕ) (heads : List Head) (lsn : ℕ) : Type 0 where
  head : Head
  is : last_or None (archived_heads stable tail container heads) ≡ Some head
  same : head.lsn ≡ lsn

last_in : (stable tail container first end : ℕ) (blocks : List BlockEnd) (heads : List Head) (d : BlockEnd) → AreRising lsn_of_block blocks
    → AreBlocks tail stable blocks heads → AreBetween stable tail container blocks first end → first < end
    → LastIn stable tail container heads (get_or blocks (end - 1) d).last
last_in stable tail container first end blocks heads d rising are between some =
    let test = is_archived stable tail container in
    let fact = between.passing (end - 1) d (omega arith) (omega (arith, some)) in
    let own = (are.each (end - 1) d (omega (arith, some, between.inside))).last in
    let own_is : IsArchived stable tail container (own.1).lsn = rw own.4 fact in
    let passes : test (get_or heads own.0 own.1) ≡ true = rw own.3 (archived_test stable tail container own.1 own_is) in
    elim (last_of test None heads are.rising) [
      | inl none ↦ absurd (let fails = none own.0 own.1 own.2 in cc)
      | inr last ↦
          let block = block_of stable tail container first end blocks heads last.head are between last.passing in
          let order = in_order blocks block.place (end - 1) block.block d rising (let before = block.before in omega (arith, before))
          (omega (arith, some, between.inside)) in
          let high : block.block.last ≤ (get_or blocks (end - 1) d).last = rw block.is at order in
          let low = last.from own.0 own.1 own.2 passes in
          let same = ap (λ (h : Head). h.lsn) own.3 in
          let is = own.4 in
          let up_to = block.up_to in
          record { head = last.head; is = last.is; same = omega (arith, high, low, same, is, up_to) }
    ]

-- Between places the extent goes from the first block's offset to the last one's end.
pub some_extent : (stable tail container first end : ℕ) (blocks : List BlockEnd) (heads : List Head) (d e : BlockEnd) → AreRising lsn_of_block blocks
    → AreBlocks tail stable blocks heads → AreBetween stable tail container blocks first end → first < end
    → Some (record { container = container; low = offset_of (get_or blocks first d).last; high = (get_or blocks (end - 1) e).end })
    ≡ container_extent stable tail heads container
some_extent stable tail container first end blocks heads d e rising are between some =
    let low = first_in stable tail container first end blocks heads d rising are between some in
    let high = last_in stable tail container first end blocks heads e rising are between some in
    let behind = (are.each (end - 1) e (omega (arith, some, between.inside))).behind in
    rw (low.is, high.is) (rw (low.within, low.offset, high.same, behind) refl)

-- the extents of one more container
pub one_more : (f : ℕ → Option Extent) (first next : ℕ) → first ≤ next
    → filter_map f (range_with_len first (next + 1 - first)) ≡ filter_map f (range_with_len first (next - first)) ++ option_to_list (f next)
one_more f first next up =
    let long : next + 1 - first ≡ next - first + 1 = omega arith in
    let range = map-range_with_len_more (λ n. n) first (next - first) next (omega arith) in
    let same = sym (map-id (range_with_len first (next - first + 1))) ∙ range
    ∙ ap (λ (front : List ℕ). front ++ next ∷ []) (map-id (range_with_len first (next - first))) in
    rw long (ap (filter_map f) same ∙ filter_map-append f (range_with_len first (next - first)) (next ∷ [])
    ∙ ap (λ (end : List Extent). filter_map f (range_with_len first (next - first)) ++ end) (alone (f next)))
  where
    alone : (found : Option Extent) → cons_option found [] ≡ option_to_list found
    alone None = refl
    alone (Some extent) = refl
