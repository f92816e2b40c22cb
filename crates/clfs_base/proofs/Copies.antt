-- The newest copy of a base file whose other slot is written.
use Rattle.clfs_base.proofs.Words.{◌≡◌, ◌≢◌, inl, inr, ⊎_elim, ℕ, zero, suc, ◌+◌, ◌-◌, ◌*◌, ◌%◌, ◌<◌, ◌≤◌, Bool, true, false, cond, ◌&&◌, ◌||◌, eqb, ltb}
use Rattle.clfs_base.proofs.Words.{List, [], ◌∷◌, ◌++◌, length, get_or, take, drop, Option, Result, Ok, Err, refl, sym, ◌∙◌, ap, subst, arith, length-drop}
use Rattle.clfs_base.proofs.Words.{cases_eq, cases_lt, nat_tests, ext_get_or, length-take, get_or-take, get_or-drop, drop_more, append-nil, Files, TornIn}
use Rattle.clfs_base.proofs.Words.{WrittenIn, Unchanged, DiskState, Leaves, BaseImage, NewestRefusal, version_one, version_two, layout_of, layout_in}
use Rattle.clfs_base.proofs.Words.{numbers_of, fields, IsImage, spelled, unless_wrong, unless_ok, slot_fault, image_of, image_at, slot_place, slot_of}
use Rattle.clfs_base.proofs.Words.{is_open_slot, used_slot, copy_in, copy_of, newest_of, HasNewest, EitherNewest, NoneOrFirst}
use Rattle.std.proofs.Common.{◌⊎◌}
use Rattle.clfs_disk.specs.Files.{Torn, overwritten}
use Rattle.clfs_disk.specs.Overwriting.{StandsInPlace}
use Rattle.clfs_base.specs.declared.refusal.NewestRefusal.TheVariants as refusals
use Rattle.clfs_base.specs.Slots.{turn_of, is_wrong_turn, newer_slot}
use Rattle.clfs_base.specs.Writing.{older_of, body_of, IsOlder, IsFilled, IsFirst, HasNoCopy}
use Rattle.clfs_base.proofs.Searches.{both_none}
use Rattle.clfs_base.proofs.Chains.{chained}
use Rattle.clfs_base.proofs.Ranges.{all_pass, pass_right}
use Rattle.clfs_base.proofs.Spelled.{IsLayout, spelled_is_read, length-spelled}

-- a crash that leaves this leaves what follows from it
pub leaves_weaker : (P Q : Files → Type 0) (a b : DiskState) → ((image : Files) → P image → Q image) → Leaves P a b → Leaves Q a b
leaves_weaker P Q a b weaker p = record {
  later = p.later;
  past = p.past;
  each = λ moment image from until at. weaker image (p.each moment image from until at);
}

-- where two lists agree from a place on, the same part stands there
same_part : (a b : List ℕ) (from n : ℕ) → length a ≡ length b → ((i : ℕ) → from ≤ i → i < from + n → get_or a i 0 ≡ get_or b i 0)
    → take n (drop from a) ≡ take n (drop from b)
same_part a b from n same each = ext_get_or 0 (take n (drop from a)) (take n (drop from b))
    (omega (arith, length-take n (drop from a), length-take n (drop from b), length-drop from a, length-drop from b, same))
    (λ i lt.
    let within : i < n = omega (arith, lt, length-take n (drop from a)) in
    get_or-take n (drop from a) i 0 within ∙ get_or-drop from a i 0 ∙ each (from + i) (omega arith) (omega (arith, within))
    ∙ sym (get_or-drop from b i 0) ∙ sym (get_or-take n (drop from b) i 0 within))

-- each version's numbers fit their fields, and its rows the slot
pub layout_fits : (version : ℕ) → IsLayout (layout_of version)
layout_fits version = fits (eqb version 1)
  where
    fits : (b : Bool) → IsLayout (cond b version_one version_two)
    fits true = record { version = omega arith; streams = omega arith; name = omega arith; rows = omega arith }
    fits false = record { version = omega arith; streams = omega arith; name = omega arith; rows = omega arith }

-- an image that is spelled after a gate is read
pub written : (image : BaseImage) (gate : ℕ) (rest bytes : List ℕ) → IsImage image → bytes ≡ gate ∷ (spelled image ++ rest) → image_at bytes ≡ Ok image
written image gate rest bytes fits is =
    let layout = layout_of image.version in
    let read = spelled_is_read layout image gate rest bytes (layout_fits image.version) fits is in
    ap (λ (version : ℕ). unless_wrong (λ (at : ℕ). at) (slot_fault (layout_of version) bytes) (Ok (image_of (layout_of version) bytes))) read.version
    ∙ ap (λ (o : Option ℕ). unless_wrong (λ (at : ℕ). at) o (Ok (image_of layout bytes))) read.none_wrong ∙ ap (λ (i : BaseImage). Ok i) read.image_is

-- ---- which slot counts, by gates and turns

used_by : (g h v w : Bool) (a b : ℕ) → Result ℕ NewestRefusal
used_by g h v w a b =
    cond (g && h) (cond v (Err (refusals.BadByte 0 2)) (cond w (Err (refusals.BadByte 1 2)) (newer_slot a b)))
    (cond g (Ok 0) (cond h (Ok 1) (Err refusals.NoBase)))

used_is : (base : List ℕ)
    → used_slot base ≡ used_by (is_open_slot base 0) (is_open_slot base 1) (is_wrong_turn base 0) (is_wrong_turn base 1) (turn_of base 0) (turn_of base 1)
unfolding used_by
used_is base = refl

-- one of two
newer_two : (a b : ℕ) (slot : ℕ) → newer_slot a b ≡ Ok slot → (slot ≡ 0) ⊎ (slot ≡ 1)
newer_two a b slot e = decide (eqb a b) (eqb b ((a + 1) % 3)) e
  where
    decide : (x y : Bool) → cond x (Err (refusals.BadByte 1 2)) (cond y (Ok 1) (Ok 0)) ≡ Ok slot → (slot ≡ 0) ⊎ (slot ≡ 1)
    decide true y e = absurd (cc e)
    decide false true e = inr (cc e)
    decide false false e = inl (cc e)

used_two : (g h v w : Bool) (a b slot : ℕ) → used_by g h v w a b ≡ Ok slot → (slot ≡ 0) ⊎ (slot ≡ 1)
unfolding used_by
used_two true true true w a b slot e = absurd (cc e)
used_two true true false true a b slot e = absurd (cc e)
used_two true true false false a b slot e = newer_two a b slot e
used_two true false v w a b slot e = inl (cc e)
used_two false true v w a b slot e = inr (cc e)
used_two false false v w a b slot e = absurd (cc e)

first_open : (g h v w : Bool) (a b : ℕ) → used_by g h v w a b ≡ Ok 0 → g ≡ true
unfolding used_by
first_open true h v w a b e = refl
first_open false true v w a b e = absurd (cc e)
first_open false false v w a b e = absurd (cc e)

second_open : (g h v w : Bool) (a b : ℕ) → used_by g h v w a b ≡ Ok 1 → h ≡ true
unfolding used_by
second_open g true v w a b e = refl
second_open true false v w a b e = absurd (cc e)
second_open false false v w a b e = absurd (cc e)

first_alone : (v w : Bool) (a b : ℕ) → used_by true false v w a b ≡ Ok 0
unfolding used_by
first_alone v w a b = refl

second_alone : (v w : Bool) (a b : ℕ) → used_by false true v w a b ≡ Ok 1
unfolding used_by
second_alone v w a b = refl

first_still : (h now v w : Bool) (a b : ℕ) → used_by true h v w a b ≡ Ok 0 → h ≡ true → used_by true now v w a b ≡ Ok 0
unfolding used_by
first_still h false v w a b e was = refl
first_still true true v w a b e was = e
first_still false true v w a b e was = absurd (cc was)

second_still : (g now v w : Bool) (a b : ℕ) → used_by g true v w a b ≡ Ok 1 → g ≡ true → used_by now true v w a b ≡ Ok 1
unfolding used_by
second_still g false v w a b e was = refl
second_still true true v w a b e was = e
second_still false true v w a b e was = absurd (cc was)

-- ---- what is known of a slot by its bytes

module _ (base : List ℕ) (slot : ℕ) where
  gate_is : get_or base (slot_place slot) 0 ≡ get_or (slot_of base slot) 0 0
  gate_is =
      let here : slot_place slot + 0 ≡ slot_place slot = omega arith in
      sym (get_or-take 16384 (drop (slot_place slot) base) 0 0 (omega arith) ∙ get_or-drop (slot_place slot) base 0 0 ∙ ap (λ (k : ℕ). get_or base k 0) here)

  turn_is : turn_of base slot ≡ get_or (slot_of base slot) 2 0
  turn_is = sym (get_or-take 16384 (drop (slot_place slot) base) 2 0 (omega arith) ∙ get_or-drop (slot_place slot) base 2 0)

  -- a slot whose bytes after the gate are all there
  slot_is : length (body_of base slot) ≡ 16383 → slot_of base slot ≡ get_or base (slot_place slot) 0 ∷ body_of base slot
  slot_is whole =
      let p = slot_place slot in
      let there : p < length base = omega (arith, whole, length-take 16383 (drop (p + 1) base), length-drop (p + 1) base) in
      ap (λ (l : List ℕ). take 16384 l) (drop_more base p 0 there)

-- the same slot in two files
record SameSlot (slot : ℕ) (old new : List ℕ) : Type 0 where
  pub open_same : is_open_slot new slot ≡ is_open_slot old slot
  pub turn_same : turn_of new slot ≡ turn_of old slot
  pub wrong_same : is_wrong_turn new slot ≡ is_wrong_turn old slot

same_slot : (slot : ℕ) (old new : List ℕ) → length new ≡ length old → slot_of new slot ≡ slot_of old slot → SameSlot slot old new
same_slot slot old new size same =
    let turn : turn_of new slot ≡ turn_of old slot =
    turn_is new slot ∙ ap (λ (l : List ℕ). get_or l 2 0) same ∙ sym (turn_is old slot) in
    record {
      open_same = ap (λ (k : ℕ). eqb k 165) (gate_is new slot ∙ ap (λ (l : List ℕ). get_or l 0 0) same ∙ sym (gate_is old slot));
      turn_same = turn;
      wrong_same = ap (λ (k : ℕ). ltb k (slot_place slot + 3) || ltb 2 (turn_of new slot)) size
          ∙ ap (λ (k : ℕ). ltb (length old) (slot_place slot + 3) || ltb 2 k) turn;
    }

-- The used slot stays as it is, and the other one is closed, or has the turn with which it was open.
record Beside (slot used : ℕ) (old new : List ℕ) : Type 0 where
  pub same_length : length new ≡ length old
  pub same : slot_of new used ≡ slot_of old used
  pub other : (is_open_slot new slot ≡ false) ⊎ ((is_open_slot old slot ≡ true) × (turn_of new slot ≡ turn_of old slot))

wrong_as : (slot : ℕ) (old new : List ℕ) → length new ≡ length old → turn_of new slot ≡ turn_of old slot → is_wrong_turn new slot ≡ is_wrong_turn old slot
wrong_as slot old new size turn =
    ap (λ (k : ℕ). ltb k (slot_place slot + 3) || ltb 2 (turn_of new slot)) size ∙ ap (λ (k : ℕ). ltb (length old) (slot_place slot + 3) || ltb 2 k) turn

still_used : (used : ℕ) (old new : List ℕ) → used_slot old ≡ Ok used → Beside (older_of used) used old new → used_slot new ≡ Ok used
still_used zero old new is b =
    let s = same_slot 0 old new b.same_length b.same in
    let was = sym (used_is old) ∙ is in
    let opened : is_open_slot old 0 ≡ true = first_open _ _ _ _ _ _ was in
    let gate = s.open_same ∙ opened in
    ⊎_elim
    (λ closed. used_is new ∙ closed_first gate closed)
    (λ both.
    let wrong = wrong_as 1 old new b.same_length both.1 in
    used_is new
    ∙ (λ i. used_by (gate i) (is_open_slot new 1) (s.wrong_same i) (wrong i) (s.turn_same i) (both.1 i))
    ∙ first_still (is_open_slot old 1) (is_open_slot new 1) _ _ _ _
    ((λ i. used_by (sym opened i) (is_open_slot old 1) (is_wrong_turn old 0) (is_wrong_turn old 1) (turn_of old 0) (turn_of old 1)) ∙ was) both.0)
    b.other
  where
    closed_first : is_open_slot new 0 ≡ true → is_open_slot new 1 ≡ false
        → used_by (is_open_slot new 0) (is_open_slot new 1) (is_wrong_turn new 0) (is_wrong_turn new 1) (turn_of new 0) (turn_of new 1) ≡ Ok 0
    closed_first g h = (λ i. used_by (g i) (h i) (is_wrong_turn new 0) (is_wrong_turn new 1) (turn_of new 0) (turn_of new 1)) ∙ first_alone _ _ _ _
still_used (suc zero) old new is b =
    let s = same_slot 1 old new b.same_length b.same in
    let was = sym (used_is old) ∙ is in
    let opened : is_open_slot old 1 ≡ true = second_open _ _ _ _ _ _ was in
    let gate = s.open_same ∙ opened in
    ⊎_elim
    (λ closed. used_is new ∙ closed_second gate closed)
    (λ both.
    let wrong = wrong_as 0 old new b.same_length both.1 in
    used_is new
    ∙ (λ i. used_by (is_open_slot new 0) (gate i) (wrong i) (s.wrong_same i) (both.1 i) (s.turn_same i))
    ∙ second_still (is_open_slot old 0) (is_open_slot new 0) _ _ _ _
    ((λ i. used_by (is_open_slot old 0) (sym opened i) (is_wrong_turn old 0) (is_wrong_turn old 1) (turn_of old 0) (turn_of old 1)) ∙ was) both.0)
    b.other
  where
    closed_second : is_open_slot new 1 ≡ true → is_open_slot new 0 ≡ false
        → used_by (is_open_slot new 0) (is_open_slot new 1) (is_wrong_turn new 0) (is_wrong_turn new 1) (turn_of new 0) (turn_of new 1) ≡ Ok 1
    closed_second h g = (λ i. used_by (g i) (h i) (is_wrong_turn new 0) (is_wrong_turn new 1) (turn_of new 0) (turn_of new 1)) ∙ second_alone _ _ _ _
still_used (suc (suc n)) old new is b = ⊎_elim
    (λ (none : suc (suc n) ≡ 0). absurd (omega (arith, none)))
    (λ (one : suc (suc n) ≡ 1). absurd (omega (arith, one)))
    (used_two _ _ _ _ _ _ _ (sym (used_is old) ∙ is))

-- ---- the newest copy

-- a slot's image
record HasImage (base : List ℕ) (slot : ℕ) (image : BaseImage) : Type 0 where
  pub used : used_slot base ≡ Ok slot
  pub image_is : image_at (slot_of base slot) ≡ Ok image

copied_ok : ℕ × BaseImage → Result (ℕ × BaseImage) NewestRefusal
copied_ok x = Ok x

one_pair : (a b : ℕ × BaseImage) → copied_ok a ≡ copied_ok b → a ≡ b
unfolding copied_ok
one_pair a b e = cc e

copied : (s slot : ℕ) (x : Result BaseImage ℕ) (image : BaseImage) → copy_in s x ≡ Ok (slot, image) → (s ≡ slot) × (x ≡ Ok image)
unfolding copied_ok
copied s slot (Ok y) image e =
    let same = one_pair (s, y) (slot, image) e in (ap (λ (p : ℕ × BaseImage). p.0) same, ap (λ (p : ℕ × BaseImage). Ok p.1) same)
copied s slot (Err at) image e = absurd (cc e)

used_copy : (base : List ℕ) (slot : ℕ) (image : BaseImage) (r : Result ℕ NewestRefusal) → used_slot base ≡ r → copy_of base r ≡ Ok (slot, image)
    → HasImage base slot image
used_copy base slot image (Ok s) used e =
    let both = copied s slot (image_at (slot_of base s)) image e in
    record {
      used = used ∙ ap (λ (k : ℕ). Ok k) both.0;
      image_is = ap (λ (k : ℕ). image_at (slot_of base k)) (sym both.0) ∙ both.1;
    }
used_copy base slot image (Err refusal) used e = absurd (refused refusal e)
  where
    refused : (refusal : NewestRefusal) → copy_of base (Err refusal) ≡ Ok (slot, image) → ⊥
    refused refusal e = absurd (cc e)

newest_parts : (base : List ℕ) (slot : ℕ) (image : BaseImage) → newest_of base ≡ Ok (slot, image) → HasImage base slot image
newest_parts base slot image is = used_copy base slot image (used_slot base) refl is

newest_is : (base : List ℕ) (slot : ℕ) (image : BaseImage) → HasImage base slot image → newest_of base ≡ Ok (slot, image)
newest_is base slot image has = ap (λ (r : Result ℕ NewestRefusal). copy_of base r) has.used ∙ ap (λ (r : Result BaseImage ℕ). copy_in slot r) has.image_is

beside_keeps : (slot used : ℕ) (image : BaseImage) (old new : List ℕ) → slot ≡ older_of used → newest_of old ≡ Ok (used, image) → Beside slot used old new
    → newest_of new ≡ Ok (used, image)
beside_keeps slot used image old new is newest b =
    let has = newest_parts old used image newest in
    newest_is new used image (record {
      used = still_used used old new has.used (subst (λ (s : ℕ). Beside s used old new) is b);
      image_is = ap (λ (l : List ℕ). image_at l) b.same ∙ has.image_is;
    })

used_le : (base : List ℕ) (used : ℕ) → used_slot base ≡ Ok used → used ≤ 1
used_le base used is = ⊎_elim
    (λ (none : used ≡ 0). omega (arith, none))
    (λ (one : used ≡ 1). omega (arith, one))
    (used_two _ _ _ _ _ _ _ (sym (used_is base) ∙ is))

-- a range of the other slot was torn
torn_beside : (slot used at n : ℕ) (old new : List ℕ) → used ≤ 1 → slot ≡ older_of used → 16384 * slot ≤ at → at + n ≤ 16384 * slot + 16384
    → Torn at n old new → slot_of new used ≡ slot_of old used
torn_beside slot used at n old new le is low high torn =
    same_part new old (16384 * used) 16384 torn.same_length (λ i from until. place used i le is from until)
  where
    place : (used i : ℕ) → used ≤ 1 → slot ≡ older_of used → 16384 * used ≤ i → i < 16384 * used + 16384 → get_or new i 0 ≡ get_or old i 0
    place zero i le is from until = torn.below i (omega (arith, is, low, until))
    place (suc zero) i le is from until = torn.above i (omega (arith, is, high, from))
    place (suc (suc m)) i le is from until = absurd (omega (arith, le))

module _ (slot used : ℕ) (image : BaseImage) (old : Files) (older : IsOlder slot used image old) where
  le : used ≤ 1
  le = used_le (old 0) used (newest_parts (old 0) used image older.newest).used

  kept_torn : (at n : ℕ) (new : Files) → 16384 * slot ≤ at → at + n ≤ 16384 * slot + 16384 → TornIn 0 at n old new
      → (is_open_slot (new 0) slot ≡ false) ⊎ ((is_open_slot (old 0) slot ≡ true) × (turn_of (new 0) slot ≡ turn_of (old 0) slot)) → HasNewest used image old new
  kept_torn at n new low high torn other = record {
    newest = beside_keeps slot used image (old 0) (new 0) older.beside older.newest (record {
      same_length = torn.here.same_length;
      same = torn_beside slot used at n (old 0) (new 0) le older.beside low high torn.here;
      other = other;
    });
    same_length = torn.here.same_length;
    elsewhere = torn.elsewhere;
  }

  -- its open gate is torn
  pub closing : (new : Files) → is_open_slot (old 0) slot ≡ true → TornIn 0 (16384 * slot) 1 old new → HasNewest used image old new
  closing new was torn = kept_torn (16384 * slot) 1 new (omega arith) (omega arith) torn (inr (was, torn.here.above (16384 * slot + 2) (omega arith)))

  -- the bytes after its closed gate are torn
  pub filling : (new : Files) → is_open_slot (old 0) slot ≡ false → TornIn 0 (16384 * slot + 1) 16383 old new → HasNewest used image old new
  filling new was torn = kept_torn (16384 * slot + 1) 16383 new (omega arith) (omega arith) torn
      (inl (ap (λ (k : ℕ). eqb k 165) (torn.here.below (16384 * slot) (omega arith)) ∙ was))

-- ---- opening the slot of the next copy

turn_ok : (size at turn : ℕ) → at + 41 ≤ size → turn ≤ 2 → (ltb size (at + 3) || ltb 2 turn) ≡ false
turn_ok size at turn there low = grind (arith, nat_tests)

gate_ok : (gate : ℕ) → eqb gate 165 ≡ true → gate ≡ 165
gate_ok gate e = grind (arith, nat_tests)

newer_second : (a b : ℕ) → a ≤ 2 → b ≡ (a + 1) % 3 → newer_slot a b ≡ Ok 1
newer_second zero b low is = subst (λ (k : ℕ). newer_slot 0 k ≡ Ok 1) (sym is) refl
newer_second (suc zero) b low is = subst (λ (k : ℕ). newer_slot 1 k ≡ Ok 1) (sym is) refl
newer_second (suc (suc zero)) b low is = subst (λ (k : ℕ). newer_slot 2 k ≡ Ok 1) (sym is) refl
newer_second (suc (suc (suc n))) b low is = absurd (omega (arith, low))

newer_first : (a b : ℕ) → b ≤ 2 → a ≡ (b + 1) % 3 → newer_slot a b ≡ Ok 0
newer_first a zero low is = subst (λ (k : ℕ). newer_slot k 0 ≡ Ok 0) (sym is) refl
newer_first a (suc zero) low is = subst (λ (k : ℕ). newer_slot k 1 ≡ Ok 0) (sym is) refl
newer_first a (suc (suc zero)) low is = subst (λ (k : ℕ). newer_slot k 2 ≡ Ok 0) (sym is) refl
newer_first a (suc (suc (suc n))) low is = absurd (omega (arith, low))

-- two open slots with turns
record BothOpen (base : List ℕ) : Type 0 where
  pub first : is_open_slot base 0 ≡ true
  pub second : is_open_slot base 1 ≡ true
  pub first_turn : is_wrong_turn base 0 ≡ false
  pub second_turn : is_wrong_turn base 1 ≡ false

both_used : (base : List ℕ) → BothOpen base → used_slot base ≡ newer_slot (turn_of base 0) (turn_of base 1)
unfolding used_by
both_used base b = used_is base
    ∙ (λ i. used_by (b.first i) (b.second i) (b.first_turn i) (b.second_turn i) (turn_of base 0) (turn_of base 1)) ∙ whole (turn_of base 0) (turn_of base 1)
  where
    whole : (a b : ℕ) → used_by true true false false a b ≡ newer_slot a b
    whole a b = refl

-- a slot's image has the slot's turn, which is one
record HasTurn (base : List ℕ) (slot : ℕ) (image : BaseImage) : Type 0 where
  pub turn : turn_of base slot ≡ image.turn
  pub low : turn_of base slot ≤ 2
  pub right : is_wrong_turn base slot ≡ false

has_turn : (base : List ℕ) (slot : ℕ) (image : BaseImage) → image_at (slot_of base slot) ≡ Ok image → HasTurn base slot image
has_turn base slot image is =
    let bytes = slot_of base slot in
    let n = numbers_of bytes in
    let layout = layout_in bytes in
    let read = unless_ok (λ (at : ℕ). at) (slot_fault layout bytes) (Ok (image_of layout bytes)) image is in
    let same : image_of layout bytes ≡ image = cc read.1 in
    let parts = both_none _ _ (sym (chained layout bytes n refl) ∙ read.0) in
    let right = pass_right layout n bytes (all_pass bytes (fields layout n) parts.0) in
    let here : n.turn ≡ turn_of base slot = omega (arith, turn_is base slot, get_or-drop 2 bytes 0 0) in
    let there : slot_place slot + 41 ≤ length base = omega (arith, right.1, length-take 16384 (drop (slot_place slot) base), length-drop (slot_place slot) base) in
    let low : turn_of base slot ≤ 2 = omega (arith, here, right.0.turn) in
    record {
      turn = sym here ∙ ap (λ (i : BaseImage). i.turn) same;
      low = low;
      right = turn_ok (length base) (slot_place slot) (turn_of base slot) there low;
    }

used_open : (base : List ℕ) (used : ℕ) → used_slot base ≡ Ok used → is_open_slot base used ≡ true
used_open base zero is = first_open _ _ _ _ _ _ (sym (used_is base) ∙ is)
used_open base (suc zero) is = second_open _ _ _ _ _ _ (sym (used_is base) ∙ is)
used_open base (suc (suc n)) is = absurd (omega (arith, used_le base (suc (suc n)) is))

-- two slots with images, both open, the one beside with the next turn
record NextTo (base : List ℕ) (slot used : ℕ) (image next : BaseImage) : Type 0 where
  pub open_used : is_open_slot base used ≡ true
  pub open_slot : is_open_slot base slot ≡ true
  pub image_is : image_at (slot_of base used) ≡ Ok image
  pub next_is : image_at (slot_of base slot) ≡ Ok next
  pub turn : next.turn ≡ (image.turn + 1) % 3

next_used : (base : List ℕ) (used : ℕ) (image next : BaseImage) → used ≤ 1 → NextTo base (older_of used) used image next → used_slot base ≡ Ok (older_of used)
next_used base zero image next le n =
    let a = has_turn base 0 image n.image_is in
    let b = has_turn base 1 next n.next_is in
    both_used base (record { first = n.open_used; second = n.open_slot; first_turn = a.right; second_turn = b.right })
    ∙ newer_second (turn_of base 0) (turn_of base 1) a.low (b.turn ∙ n.turn ∙ ap (λ (t : ℕ). (t + 1) % 3) (sym a.turn))
next_used base (suc zero) image next le n =
    let a = has_turn base 1 image n.image_is in
    let b = has_turn base 0 next n.next_is in
    both_used base (record { first = n.open_slot; second = n.open_used; first_turn = b.right; second_turn = a.right })
    ∙ newer_first (turn_of base 0) (turn_of base 1) a.low (b.turn ∙ n.turn ∙ ap (λ (t : ℕ). (t + 1) % 3) (sym a.turn))
next_used base (suc (suc m)) image next le n = absurd (omega (arith, le))

gate_written : StandsInPlace → (at : ℕ) (old new : List ℕ) → at + 1 ≤ length old → new ≡ overwritten old at (165 ∷ []) → eqb (get_or new at 0) 165 ≡ true
gate_written stands at old new room is =
    let none : at - at ≡ 0 = omega arith in
    let gate : get_or new at 0 ≡ 165 =
    ap (λ (l : List ℕ). get_or l at 0) is ∙ stands.inside old at (165 ∷ []) room at (omega arith) (omega arith)
    ∙ ap (λ (k : ℕ). get_or (165 ∷ []) k 0) none in
    ap (λ (k : ℕ). eqb k 165) gate

-- A whole copy that stands after a gate is read where only the gate is torn.
opened_is_read : (slot : ℕ) (next : BaseImage) (old new : Files) → IsImage next → body_of (old 0) slot ≡ spelled next
    → TornIn 0 (16384 * slot) 1 old new → image_at (slot_of (new 0) slot) ≡ Ok next
opened_is_read slot next old new fits whole torn =
    let gate = get_or (new 0) (slot_place slot) 0 in
    let body : body_of (new 0) slot ≡ spelled next =
    same_part (new 0) (old 0) (16384 * slot + 1) 16383 torn.here.same_length (λ i from until. torn.here.above i (omega (arith, from))) ∙ whole in
    let bytes : slot_of (new 0) slot ≡ gate ∷ (spelled next ++ []) =
    slot_is (new 0) slot (ap (λ (l : List ℕ). length l) body ∙ length-spelled (layout_of next.version) next (layout_fits next.version) fits)
    ∙ ap (λ (l : List ℕ). gate ∷ l) (body ∙ sym (append-nil (spelled next))) in
    written next gate [] (slot_of (new 0) slot) fits bytes

module _ (slot used : ℕ) (image next : BaseImage) (old : Files) (older : IsOlder slot used image old) (filled : IsFilled slot image next old) where
  -- its gate is open over the whole copy
  opened : (new : Files) → TornIn 0 (16384 * slot) 1 old new → is_open_slot (new 0) slot ≡ true → HasNewest slot next old new
  opened new torn gate =
      let has = newest_parts (old 0) used image older.newest in
      let le = used_le (old 0) used has.used in
      let same = torn_beside slot used (16384 * slot) 1 (old 0) (new 0) le older.beside (omega arith) (omega arith) torn.here in
      let next_is = opened_is_read slot next old new filled.next_image filled.body torn in
      let beside : NextTo (new 0) slot used image next = record {
        open_used = (same_slot used (old 0) (new 0) torn.here.same_length same).open_same ∙ used_open (old 0) used has.used;
        open_slot = gate;
        image_is = ap (λ (l : List ℕ). image_at l) same ∙ has.image_is;
        next_is = next_is;
        turn = filled.turn;
      } in
      record {
        newest = newest_is (new 0) slot next (record {
          used = next_used (new 0) used image next le (subst (λ (s : ℕ). NextTo (new 0) s used image next) older.beside beside)
              ∙ ap (λ (s : ℕ). Ok s) (sym older.beside);
          image_is = next_is;
        });
        same_length = torn.here.same_length;
        elsewhere = torn.elsewhere;
      }

  -- its gate is torn
  pub opening : (new : Files) → TornIn 0 (16384 * slot) 1 old new → EitherNewest slot used image next old new
  opening new torn = either (is_open_slot (new 0) slot) refl
    where
      either : (b : Bool) → is_open_slot (new 0) slot ≡ b → EitherNewest slot used image next old new
      either true gate = inr (opened new torn gate)
      either false gate = inl (kept_torn slot used image old older (16384 * slot) 1 new (omega arith) (omega arith) torn (inl gate))

  -- its gate is written
  pub opened_whole : StandsInPlace → (new : Files) → TornIn 0 (16384 * slot) 1 old new → 16384 * slot + 1 ≤ length (old 0)
      → WrittenIn 0 (16384 * slot) (165 ∷ []) old new → HasNewest slot next old new
  opened_whole stands new torn room written =
      opened new torn (gate_written stands (16384 * slot) (old 0) (new 0) room written.here)

-- the gate of the first copy is written
first_with : (slot : ℕ) (next : BaseImage) (old new : Files) → slot ≤ 1 → IsFirst slot next old
    → TornIn 0 (16384 * slot) 1 old new → is_open_slot (new 0) slot ≡ true → HasNewest slot next old new
first_with slot next old new le first torn gate =
    record {
      newest = newest_is (new 0) slot next (record {
        used = alone slot le first torn gate;
        image_is = opened_is_read slot next old new first.next_image first.body torn;
      });
      same_length = torn.here.same_length;
      elsewhere = torn.elsewhere;
    }
  where
    alone : (slot : ℕ) → slot ≤ 1 → IsFirst slot next old → TornIn 0 (16384 * slot) 1 old new → is_open_slot (new 0) slot ≡ true → used_slot (new 0) ≡ Ok slot
    alone zero le first torn gate =
        let shut : is_open_slot (new 0) 1 ≡ false = ap (λ (k : ℕ). eqb k 165) (torn.here.above 16384 (omega arith)) ∙ first.closed 1 (omega arith) in
        used_is (new 0) ∙ (λ i. used_by (gate i) (shut i) (is_wrong_turn (new 0) 0) (is_wrong_turn (new 0) 1) (turn_of (new 0) 0) (turn_of (new 0) 1))
        ∙ first_alone _ _ _ _
    alone (suc zero) le first torn gate =
        let shut : is_open_slot (new 0) 0 ≡ false = ap (λ (k : ℕ). eqb k 165) (torn.here.below 0 (omega arith)) ∙ first.closed 0 (omega arith) in
        used_is (new 0) ∙ (λ i. used_by (shut i) (gate i) (is_wrong_turn (new 0) 0) (is_wrong_turn (new 0) 1) (turn_of (new 0) 0) (turn_of (new 0) 1))
        ∙ second_alone _ _ _ _
    alone (suc (suc n)) le first torn gate = absurd (omega (arith, le))

pub first_opened : StandsInPlace → (slot : ℕ) (next : BaseImage) (old new : Files) → slot ≤ 1 → IsFirst slot next old
    → TornIn 0 (16384 * slot) 1 old new → 16384 * slot + 1 ≤ length (old 0) → WrittenIn 0 (16384 * slot) (165 ∷ []) old new → HasNewest slot next old new
first_opened stands slot next old new le first torn room written =
    first_with slot next old new le first torn (gate_written stands (16384 * slot) (old 0) (new 0) room written.here)

-- the gate of the first copy is torn
pub first_opening : (slot : ℕ) (next : BaseImage) (old new : Files) → slot ≤ 1 → IsFirst slot next old → TornIn 0 (16384 * slot) 1 old new
    → NoneOrFirst slot next old new
first_opening slot next old new le first torn = either (is_open_slot (new 0) slot) refl
  where
    other_gate : (other : ℕ) → other ≤ 1 → other ≢ slot → is_open_slot (new 0) other ≡ false
    other_gate other few apart = ⊎_elim
        (λ (below : other < slot). ap (λ (k : ℕ). eqb k 165) (torn.here.below (16384 * other) (omega (arith, below))) ∙ first.closed other few)
        (λ (above : slot ≤ other).
        ap (λ (k : ℕ). eqb k 165) (torn.here.above (16384 * other) (omega (arith, above, apart))) ∙ first.closed other few)
        (cases_lt other slot)

    none : is_open_slot (new 0) slot ≡ false → HasNoCopy new
    none gate other few = ⊎_elim
        (λ (is : other ≡ slot). subst (λ (k : ℕ). is_open_slot (new 0) k ≡ false) (sym is) gate)
        (λ (apart : other ≢ slot). other_gate other few apart)
        (cases_eq other slot)

    either : (b : Bool) → is_open_slot (new 0) slot ≡ b → NoneOrFirst slot next old new
    either true gate = inr (first_with slot next old new le first torn gate)
    either false gate = inl (none gate)

-- the bytes after a gate are written
pub body_written : StandsInPlace → (slot : ℕ) (body : List ℕ) (old new : Files) → length body ≡ 16383 → 16384 * slot + 1 + length body ≤ length (old 0)
    → WrittenIn 0 (16384 * slot + 1) body old new → body_of (new 0) slot ≡ body
body_written stands slot body old new size room written =
    ap (λ (n : ℕ). take n (drop (16384 * slot + 1) (new 0))) (sym size) ∙ ap (λ (l : List ℕ). take (length body) (drop (16384 * slot + 1) l)) written.here
    ∙ stands.part (old 0) (16384 * slot + 1) body room

-- nothing was changed
pub kept_unchanged : (slot used : ℕ) (image : BaseImage) (old new : Files) → IsOlder slot used image old → Unchanged old new → HasNewest used image old new
kept_unchanged slot used image old new older same = record {
  newest = ap newest_of (same 0) ∙ older.newest;
  same_length = ap (λ (l : List ℕ). length l) (same 0);
  elsewhere = λ file apart. same file;
}
