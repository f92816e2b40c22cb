-- How many ends of blocks are kept, against the records.
use Rattle.std.proofs.Common.{◌≡◌, ℕ, ◌<◌, ◌≤◌, Bool, true, false, refl, sym, ap, subst, ◌∙◌, inl, inr, arith, List, [], ◌∷◌, ◌++◌, length, zero, suc, get_or}
use Rattle.std.specs.Prelude.{All, ◌&&◌, not, nat_le, nat_lt, filter}
use Rattle.std.specs.List.{Any}
use Rattle.std.proofs.lemmas.Bool.{cases_Bool, cases_eq, cases_lt, le-leb, le-ltb, leb-true, lt-ltb, ltb-true}
use Rattle.std.proofs.lemmas.List.{length-append}
use Rattle.std.proofs.lemmas.List.Elements.{All-filter, filter-append, filter_passes}
use Rattle.std.proofs.lemmas.List.Folds.{list_any_at, list_any_none}
use Rattle.std.proofs.lemmas.List.Kept.{AllPairs-filter}
use Rattle.clfs_lsn.specs.declared.entry.Head.{Head}
use Rattle.clfs_lsn.specs.Heads.{heads_from, lsn_of_head}
use Rattle.clfs_lsn.specs.Rising.{AreRising, rows_from}
use Rattle.clfs_model.specs.Archive.{is_in_block}
use Rattle.clfs_archive.specs.declared.block.BlockEnd.{BlockEnd}
use Rattle.clfs_archive.specs.Blocks.{AreFew, AreSealed, IsBlock, blocks_from, is_last_in_block, lsn_of_block, sealed_lasts}
use Rattle.clfs_archive.proofs.Found.{in_block}
use Rattle.clfs_archive.proofs.Sealing.{and_both, one_block}

-- One that isn't at the first of some rows is at one of the others.
among_others : {B : Type 0} (g : B → ℕ) (row : B) (rows : List B) (lsn : ℕ) → Any (λ (b : B). g b ≡ lsn) (row ∷ rows) → (g row ≡ lsn → ⊥)
    → Any (λ (b : B). g b ≡ lsn) rows
among_others {B} g row rows lsn there other = by_place there.0 there.1 there.2 there.3 there.4
  where
    by_place : (k : ℕ) (b : B) → k < length (row ∷ rows) → get_or (row ∷ rows) k b ≡ b → g b ≡ lsn → Any (λ (b : B). g b ≡ lsn) rows
    by_place zero b inside is at = absurd (other (ap g is ∙ at))
    by_place (suc k) b inside is at = (k, b, omega (arith, inside), is, at)

-- and lies above it
above_first : {B : Type 0} (g : B → ℕ) (row : B) (rows : List B) (lsn : ℕ) → AreRising g (row ∷ rows) → Any (λ (b : B). g b ≡ lsn) rows → g row < lsn
above_first {B} g row rows lsn rising there =
    let over = rising 0 (suc there.0) there.1 (omega arith) (let inside = there.2 in omega (arith, inside)) in
    let at = ap g there.3 ∙ there.4 in
    omega (arith, over, at)

rising_tail : {B : Type 0} (g : B → ℕ) (row : B) (rows : List B) → AreRising g (row ∷ rows) → AreRising g rows
rising_tail {B} g row rows rising = λ i j d before inside. rising (suc i) (suc j) d (omega (arith, before)) (omega (arith, inside))

-- Of two sorted rows, where each of the first one's from an LSN on is at one of the second one's, there are no more from there on in the first.
no_more : {A B : Type 0} (f : A → ℕ) (g : B → ℕ) (low : ℕ) (these : List A) (those : List B) → AreRising f these → AreRising g those
    → All (λ (x : A). low ≤ f x → Any (λ (y : B). g y ≡ f x) those) these → length (rows_from f low these) ≤ length (rows_from g low those)
no_more {A} {B} f g low [] those rising sorted each = omega arith
no_more {A} {B} f g low (x ∷ these) [] rising sorted each = elim (cases_Bool (nat_le low (f x))) [
  | inl from ↦ absurd (let there = each 0 x (omega arith) (leb-true _ _ from) in let inside = there.2 in omega (arith, inside))
  | inr below ↦ rw below (no_more f g low these [] (rising_tail f x these rising) sorted (λ k d inside. each (suc k) d (omega (arith, inside))))
]
no_more {A} {B} f g low (x ∷ these) (y ∷ those) rising sorted each = elim (cases_Bool (nat_le low (f x))) [
  | inl from ↦ elim (cases_eq (g y) (f x)) [
    | inl same ↦
        let others : All (λ (it : A). low ≤ f it → Any (λ (y : B). g y ≡ f it) those) these
        = λ k d inside up. among_others g y those _ (each (suc k) d (omega (arith, inside)) up)
        (λ at. let over = rising 0 (suc k) d (omega arith) (omega (arith, inside)) in omega (arith, at, same, over)) in
        let rest = no_more f g low these those (rising_tail f x these rising) (rising_tail g y those sorted) others in
        let also = ap (nat_le low) same ∙ from in
        rw (from, also) (omega (arith, rest))
    | inr other ↦
        let above = above_first g y those (f x) sorted (among_others g y those (f x) (each 0 x (omega arith) (leb-true _ _ from)) other) in
        let rest = no_more f g low (x ∷ these) those rising (rising_tail g y those sorted)
        (λ k d inside up. among_others g y those _ (each k d inside up) (apart above k d inside)) in
        no_fewer rest
  ]
  | inr below ↦ rw below (no_more f g low these (y ∷ those) (rising_tail f x these rising) sorted (λ k d inside. each (suc k) d (omega (arith, inside))))
]
  where
    apart : g y < f x → (k : ℕ) (d : A) → k < length (x ∷ these) → g y ≡ f (get_or (x ∷ these) k d) → ⊥
    apart above zero d inside at = omega (arith, above, at)
    apart above (suc k) d inside at = let over = rising 0 (suc k) d (omega arith) inside in omega (arith, above, at, over)

    no_fewer : {n : ℕ} → n ≤ length (rows_from g low those) → n ≤ length (rows_from g low (y ∷ those))
    no_fewer {n} rest = elim (cases_Bool (nat_le low (g y))) [
      | inl also ↦ rw also (omega (arith, rest))
      | inr under ↦ rw under rest
    ]

-- what stands among some and passes a test stands among those that pass
in_filter : {X : Type 0} (p : X → Bool) (P : X → Type 0) (xs : List X) (k : ℕ) (x : X) → k < length xs → get_or xs k x ≡ x → p x ≡ true → P x
    → Any P (filter p xs)
in_filter {X} p P [] k x inside is passes at = absurd (omega (arith, inside))
in_filter {X} p P (first ∷ xs) zero x inside is passes at =
    let first_passes : p first ≡ true = ap p is ∙ passes in
    rw first_passes (0, x, omega arith, is, at)
in_filter {X} p P (first ∷ xs) (suc k) x inside is passes at =
    let rest = in_filter p P xs k x (omega (arith, inside)) is passes at in
    elim (cases_Bool (p first)) [
      | inl also ↦ rw also (suc rest.0, rest.1, (let within = rest.2 in omega (arith, within)), rest.3, rest.4)
      | inr fails ↦ rw fails rest
    ]

-- the last record of each block is one of those of sealed blocks
last_is_among : (from next : ℕ) (blocks : List BlockEnd) (heads : List Head) → AreSealed from next blocks heads → (k : ℕ) (d : BlockEnd) → k < length blocks
    → Any (λ (head : Head). head.lsn ≡ (get_or blocks k d).last) (sealed_lasts next heads)
last_is_among from next blocks heads are k d inside =
    let block = are.told.each k d inside in
    let at = block.last in
    let same : at.1.lsn ≡ (get_or blocks k d).last = at.4 in
    let sealed = are.below k d inside in
    let below : at.1.lsn < next = omega (arith, same, sealed) in
    let others : All (λ (other : Head). (is_in_block other.lsn at.1.lsn && nat_lt at.1.lsn other.lsn) ≡ false) heads
    = λ i e within. none_above (get_or heads i e).lsn at.1.lsn
    (subst (λ (n : ℕ). is_in_block (get_or heads i e).lsn n ≡ true → (get_or heads i e).lsn ≤ n) (sym same) (block.others i e within)) in
    let alone : is_last_in_block heads at.1 ≡ true
    = ap not (list_any_none (λ (other : Head). is_in_block other.lsn at.1.lsn && nat_lt at.1.lsn other.lsn) heads others) in
    let passes : (nat_lt at.1.lsn next && is_last_in_block heads at.1) ≡ true = rw (lt-ltb at.1.lsn next below, alone) refl in
    in_filter (λ (head : Head). nat_lt head.lsn next && is_last_in_block heads head) (λ (head : Head). head.lsn ≡ (get_or blocks k d).last) heads at.0 at.1
    at.2 at.3 passes same
  where
    none_above : (lsn last : ℕ) → (is_in_block lsn last ≡ true → lsn ≤ last) → (is_in_block lsn last && nat_lt last lsn) ≡ false
    none_above lsn last up_to = elim (cases_Bool (is_in_block lsn last)) [
      | inl same ↦ rw same (le-ltb last lsn (up_to same))
      | inr other ↦ rw other refl
    ]

-- A record that is the last of its block is where the block ends.
last_ends : (heads : List Head) (head : Head) (block : BlockEnd) → IsBlock heads block → is_last_in_block heads head ≡ true
    → is_in_block head.lsn block.last ≡ true → head.lsn ≤ block.last → block.last ≡ head.lsn
last_ends heads head block is last same up_to = elim (cases_lt head.lsn block.last) [
  | inl over ↦
      let at = is.last in
      let place = at.0 in
      let lsn : (get_or heads at.0 at.1).lsn ≡ block.last = ap (λ (h : Head). h.lsn) at.3 ∙ at.4 in
      let above : (is_in_block (get_or heads at.0 at.1).lsn head.lsn && nat_lt head.lsn (get_or heads at.0 at.1).lsn) ≡ true
      = rw (lsn, in_block block.last head.lsn (sym (one_block head.lsn block.last same)), lt-ltb head.lsn block.last over) refl in
      let found = list_any_at (λ (other : Head). is_in_block other.lsn head.lsn && nat_lt head.lsn other.lsn) heads at.0 at.1 at.2 above in
      absurd (let both = sym last ∙ ap not found in cc both)
  | inr under ↦ omega (arith, up_to, under)
]

-- each of them that lies from the LSN on that is told is where a block ends
last_has_end : (from next : ℕ) (blocks : List BlockEnd) (heads : List Head) → AreSealed from next blocks heads → (k : ℕ) (d : Head)
    → k < length (sealed_lasts next heads) → from ≤ (get_or (sealed_lasts next heads) k d).lsn
    → Any (λ (block : BlockEnd). block.last ≡ (get_or (sealed_lasts next heads) k d).lsn) blocks
last_has_end from next blocks heads are k d inside low =
    let test : Head → Bool = λ (head : Head). nat_lt head.lsn next && is_last_in_block heads head in
    let head = get_or (sealed_lasts next heads) k d in
    let passes = and_both (nat_lt head.lsn next) (is_last_in_block heads head) (filter_passes test heads k d inside) in
    let at = All-filter test (λ (h : Head). from ≤ h.lsn → h.lsn < next
    → Any (λ (block : BlockEnd). (is_in_block h.lsn block.last ≡ true) × (block.last < next)) blocks) heads are.told.told k d inside low (ltb-true _ _ passes.0) in
    let block : IsBlock heads at.1 = subst (λ (b : BlockEnd). IsBlock heads b) at.3 (are.told.each at.0 at.1 at.2) in
    let same : is_in_block head.lsn at.1.last ≡ true = at.4.0 in
    let up_to = All-filter test (λ (h : Head). is_in_block h.lsn at.1.last ≡ true → h.lsn ≤ at.1.last) heads block.others k d inside same in
    (at.0, at.1, at.2, at.3, last_ends heads head at.1 block passes.1 same up_to)

-- From an LSN on there is just one end for each block that is sealed.
pub ends_are_counted : (lsn from next : ℕ) (blocks : List BlockEnd) (heads : List Head) → from ≤ lsn → AreRising lsn_of_block blocks
    → AreSealed from next blocks heads → length (blocks_from lsn blocks) ≡ length (heads_from lsn (sealed_lasts next heads))
ends_are_counted lsn from next blocks heads up rising are =
    let sorted : AreRising lsn_of_head (sealed_lasts next heads)
    = AllPairs-filter (λ (a b : Head). a.lsn < b.lsn) (λ (head : Head). nat_lt head.lsn next && is_last_in_block heads head) heads are.told.rising in
    let down : length (blocks_from lsn blocks) ≤ length (heads_from lsn (sealed_lasts next heads))
    = no_more lsn_of_block lsn_of_head lsn blocks (sealed_lasts next heads) rising sorted (λ k d inside above. last_is_among from next blocks heads are k d inside) in
    let back : length (heads_from lsn (sealed_lasts next heads)) ≤ length (blocks_from lsn blocks)
    = no_more lsn_of_head lsn_of_block lsn (sealed_lasts next heads) blocks sorted rising
    (λ k d inside above. last_has_end from next blocks heads are k d inside (omega (arith, up, above))) in
    omega (arith, down, back)

-- one more end from the LSN on leaves them few
pub few_with : (low : ℕ) (blocks : List BlockEnd) (block : BlockEnd) → low ≤ block.last → AreFew low blocks → AreFew low (blocks ++ block ∷ [])
few_with low blocks block from few =
    let test : BlockEnd → _ = λ (b : BlockEnd). nat_le low b.last in
    let one : length (blocks_from low (block ∷ [])) ≡ 1 = rw (le-leb low block.last from) refl in
    let all = ap length (filter-append test blocks (block ∷ [])) ∙ length-append (blocks_from low blocks) (blocks_from low (block ∷ [])) in
    omega (arith, few, one, all, length-append blocks (block ∷ []))
