-- Fields of which narrower ranges are asked.
use Rattle.clfs_base.proofs.Words.{◌≡◌, ℕ, ◌≤◌, Bool, true, false, not, ◌&&◌, ◌||◌, leb, cond, List, [], ◌∷◌, length, find, Option, Some, None, Result, Ok}
use Rattle.clfs_base.proofs.Words.{Err, refl, sym, ◌∙◌, ap, subst, arith, nat_tests, zip, option_map, option_or, length-map-range_with_len, IfOk, Asked}
use Rattle.clfs_base.proofs.Words.{Anything, Demands, BaseImage, Field, Layout, Numbers, BaseRefusal, unless_wrong, most_containers, numbers_of, layout_in}
use Rattle.clfs_base.proofs.Words.{fields, flag, is_wrong_field, wrong_field, behind_fields, row_of, slot_fault, image_of, image_at, Gives, anything, asked}
use Rattle.clfs_base.proofs.Words.{is_wrong_within, wrong_within, fault_within}
use Rattle.clfs_base.specs.declared.demands.Asked.TheVariants.{Between}
use Rattle.clfs_base.specs.declared.refusal.BaseRefusal.TheVariants as refusals
use Rattle.clfs_base.specs.Demands.{is_asked, IsAsked, Meets}
use Rattle.clfs_base.proofs.Searches.{both_none, goes_on}
use Rattle.clfs_base.proofs.Ranges.{all_pass, pass_right}
use Rattle.clfs_base.proofs.Taken.{few_listed, flag_back}
use Rattle.clfs_base.proofs.Images.{image_is}

-- each field's number is asked for
AreAsked : List Field → List Asked → Type 0
AreAsked [] asks = Unit {0}
AreAsked (f ∷ fs) [] = ⊥
AreAsked (f ∷ fs) (a ∷ asks) = (is_asked a f.number ≡ true) × AreAsked fs asks

-- where no field is wrong and each number is asked for, none is wrong within what is asked
asked_pass : (bytes : List ℕ) (fs : List Field) (asks : List Asked) → wrong_field bytes fs ≡ None → AreAsked fs asks
    → wrong_within bytes (zip fs asks) ≡ None
unfolding AreAsked
asked_pass bytes [] asks none are = refl
asked_pass bytes (f ∷ fs) [] none are = absurd are
asked_pass bytes (f ∷ fs) (a ∷ asks) none are =
    by (is_wrong_field bytes f) (is_asked a f.number) (find (is_wrong_field bytes) fs) (find (is_wrong_within bytes) (zip fs asks)) are.0 none
    (λ rest. asked_pass bytes fs asks rest are.1)
  where
    by : (b c : Bool) (rest : Option Field) (more : Option (Field × Asked)) → c ≡ true
        → option_map (λ (g : Field). g.at) (cond b (Some f) rest) ≡ None
        → (option_map (λ (g : Field). g.at) rest ≡ None → option_map (λ (x : Field × Asked). x.0.at) more ≡ None)
        → option_map (λ (x : Field × Asked). x.0.at) (cond (b || not c) (Some (f, a)) more) ≡ None
    by true c rest more is none next = absurd (cc none)
    by false true rest more is none next = next none
    by false false rest more is none next = absurd (cc is)

-- and the other way round
pass_asked : (bytes : List ℕ) (fs : List Field) (asks : List Asked) → length fs ≤ length asks → wrong_within bytes (zip fs asks) ≡ None
    → (wrong_field bytes fs ≡ None) × AreAsked fs asks
unfolding AreAsked
pass_asked bytes [] asks few none = (refl, tt)
pass_asked bytes (f ∷ fs) [] few none = absurd (omega (arith, few))
pass_asked bytes (f ∷ fs) (a ∷ asks) few none =
    let here = by (is_wrong_field bytes f) (is_asked a f.number) (find (is_wrong_within bytes) (zip fs asks)) none in
    let rest = pass_asked bytes fs asks (omega (arith, few)) here.2 in
    (ap (λ (b : Bool). option_map (λ (g : Field). g.at) (cond b (Some f) (find (is_wrong_field bytes) fs))) here.0 ∙ rest.0, (here.1, rest.1))
  where
    by : (b c : Bool) (more : Option (Field × Asked)) → option_map (λ (x : Field × Asked). x.0.at) (cond (b || not c) (Some (f, a)) more) ≡ None
        → (b ≡ false) × (c ≡ true) × (option_map (λ (x : Field × Asked). x.0.at) more ≡ None)
    by true c more none = absurd (cc none)
    by false true more none = (refl, refl, none)
    by false false more none = absurd (cc none)

-- where anything is asked for, the first field that is wrong is the same
abbrev AskNothing : List Asked → Type 0
AskNothing [] = Unit {0}
AskNothing (Anything ∷ asks) = AskNothing asks
AskNothing (Between least most ∷ asks) = ⊥

same_field : (bytes : List ℕ) (fs : List Field) (asks : List Asked) → AskNothing asks → length fs ≤ length asks
    → wrong_within bytes (zip fs asks) ≡ wrong_field bytes fs
same_field bytes [] asks none few = refl
same_field bytes (f ∷ fs) [] none few = absurd (omega (arith, few))
same_field bytes (f ∷ fs) (Between least most ∷ asks) none few = absurd none
same_field bytes (f ∷ fs) (Anything ∷ asks) none few =
    by (is_wrong_field bytes f) (find (is_wrong_field bytes) fs) (find (is_wrong_within bytes) (zip fs asks)) (same_field bytes fs asks none (omega (arith, few)))
  where
    by : (b : Bool) (rest : Option Field) (more : Option (Field × Asked))
        → option_map (λ (x : Field × Asked). x.0.at) more ≡ option_map (λ (g : Field). g.at) rest
        → option_map (λ (x : Field × Asked). x.0.at) (cond (b || false) (Some (f, Anything)) more) ≡ option_map (λ (g : Field). g.at) (cond b (Some f) rest)
    by true rest more same = refl
    by false rest more same = same

pub any_fault : (layout : Layout) (bytes : List ℕ) → fault_within anything layout bytes ≡ slot_fault layout bytes
unfolding fault_within slot_fault
any_fault layout bytes =
    let n = numbers_of bytes in
    ap (λ (o : Option ℕ). option_or o (behind_fields layout bytes n)) (same_field bytes (fields layout n) (asked anything) tt (omega arith))

-- ---- what is asked, of the numbers and of the image

asked_is : (a : Asked) (number : ℕ) → is_asked a number ≡ true → IsAsked a number
asked_is Anything number is = tt
asked_is (Between least most) number is = between is
  where
    between : (leb least number && leb number most) ≡ true → (least ≤ number) × (number ≤ most)
    between e = (grind (arith, nat_tests), grind (arith, nat_tests))

is_asked_for : (a : Asked) (number : ℕ) → IsAsked a number → is_asked a number ≡ true
is_asked_for Anything number is = refl
is_asked_for (Between least most) number is = between is.0 is.1
  where
    between : least ≤ number → number ≤ most → (leb least number && leb number most) ≡ true
    between low high = grind (arith, nat_tests)

module _ (demands : Demands) (layout : Layout) (bytes : List ℕ) where
  abbrev n : Numbers
  n = numbers_of bytes

  abbrev image : BaseImage
  image = image_of layout bytes

  streams_are : length image.streams ≡ n.streams
  streams_are = length-map-range_with_len (row_of layout bytes) 0 n.streams

  archiving_is : wrong_field bytes (fields layout n) ≡ None → flag image.archiving ≡ n.archiving
  archiving_is right = flag_back n.archiving (pass_right layout n bytes (all_pass bytes (fields layout n) right)).0.archiving

  met : wrong_field bytes (fields layout n) ≡ None → AreAsked (fields layout n) (asked demands) → Meets demands image
  unfolding AreAsked
  met right (version, (turn, (zero, (block, (container, (c12, (c14, (c16, (c20, (streams, (archiving, (c25, (c26, (c28, (c30, (tail, last)))))))))))))))) = record {
    version = asked_is demands.version n.version version;
    turn = asked_is demands.turn n.turn turn;
    block_sectors = asked_is demands.block_sectors n.block_sectors block;
    container_sectors = asked_is demands.container_sectors n.container_sectors container;
    streams = subst (λ (k : ℕ). IsAsked demands.streams k) (sym streams_are) (asked_is demands.streams n.streams streams);
    archiving = subst (λ (k : ℕ). IsAsked demands.archiving k) (sym (archiving_is right)) (asked_is demands.archiving n.archiving archiving);
    tail = asked_is demands.tail n.tail tail;
  }

  are_asked : wrong_field bytes (fields layout n) ≡ None → Meets demands image → AreAsked (fields layout n) (asked demands)
  unfolding AreAsked
  are_asked right m = (
    is_asked_for demands.version n.version m.version,
    (
      is_asked_for demands.turn n.turn m.turn,
      (
        refl,
        (
          is_asked_for demands.block_sectors n.block_sectors m.block_sectors,
          (
            is_asked_for demands.container_sectors n.container_sectors m.container_sectors,
            (
              refl,
              (
                refl,
                (
                  refl,
                  (
                    refl,
                    (
                      is_asked_for demands.streams n.streams (subst (λ (k : ℕ). IsAsked demands.streams k) streams_are m.streams),
                      (
                        is_asked_for demands.archiving n.archiving (subst (λ (k : ℕ). IsAsked demands.archiving k) (archiving_is right) m.archiving),
                        (refl, (refl, (refl, (refl, (is_asked_for demands.tail n.tail m.tail, (refl, tt)))))),
                      ),
                    ),
                  ),
                ),
              ),
            ),
          ),
        ),
      ),
    ),
  )

  found : fault_within demands layout bytes ≡ None → (slot_fault layout bytes ≡ None) × Meets demands image
  unfolding fault_within slot_fault
  found none =
      let parts = both_none _ _ none in
      let here = pass_asked bytes (fields layout n) (asked demands) (omega arith) parts.0 in
      (goes_on _ _ _ here.0 parts.1, met here.0 here.1)

  only : slot_fault layout bytes ≡ None → Meets demands image → fault_within demands layout bytes ≡ None
  unfolding fault_within slot_fault
  only none m =
      let parts = both_none _ _ none in
      goes_on _ _ _ (asked_pass bytes (fields layout n) (asked demands) parts.0 (are_asked parts.0 m)) parts.1

-- no more containers are listed than a log can have
pub few_asked : (demands : Demands) (layout : Layout) (bytes : List ℕ) → fault_within demands layout bytes ≡ None
    → (numbers_of bytes).listed ≤ most_containers
few_asked demands layout bytes none = few_listed layout bytes (found demands layout bytes none).0

-- ---- what a decoder answers

pub if_asked : (demands : Demands) (bytes : List ℕ) (r : Result BaseImage BaseRefusal)
    → Gives r (fault_within demands (layout_in bytes) bytes) (image_of (layout_in bytes) bytes)
    → IfOk r (λ image. (image_at bytes ≡ Ok image) × Meets demands image)
if_asked demands bytes (Err refusal) gives = tt
if_asked demands bytes (Ok found_one) gives =
    let layout = layout_in bytes in
    let here = found demands layout bytes gives.0 in (
      ap (λ (o : Option ℕ). unless_wrong (λ (at : ℕ). at) o (Ok (image_of layout bytes))) here.0 ∙ ap (λ (i : BaseImage). Ok i) (sym gives.1),
      subst (λ (i : BaseImage). Meets demands i) (sym gives.1) here.1,
    )

pub if_met : (demands : Demands) (bytes : List ℕ) (r : Result BaseImage BaseRefusal) (image : BaseImage)
    → Gives r (fault_within demands (layout_in bytes) bytes) (image_of (layout_in bytes) bytes) → image_at bytes ≡ Ok image → Meets demands image
    → Gives r None image
if_met demands bytes r image gives is m =
    let layout = layout_in bytes in
    let here = image_is bytes image is in
    let none = only demands layout bytes here.0 (subst (λ (i : BaseImage). Meets demands i) (sym here.1) m) in
    by r gives none here.1
  where
    by : (r : Result BaseImage BaseRefusal) → Gives r (fault_within demands (layout_in bytes) bytes) (image_of (layout_in bytes) bytes)
        → fault_within demands (layout_in bytes) bytes ≡ None → image_of (layout_in bytes) bytes ≡ image → Gives r None image
    by (Ok x) gives none same = (refl, gives.1 ∙ same)
    by (Err refusals.NoMemory) gives none same = tt
    by (Err (refusals.BadByte at)) gives none same = sym none ∙ gives

pub if_any : (demands : Demands) (bytes : List ℕ) (r : Result BaseImage BaseRefusal)
    → Gives r (fault_within demands (layout_in bytes) bytes) (image_of (layout_in bytes) bytes) → demands ≡ anything
    → Gives r (slot_fault (layout_in bytes) bytes) (image_of (layout_in bytes) bytes)
if_any demands bytes r gives is =
    subst (λ (o : Option ℕ). Gives r o (image_of (layout_in bytes) bytes))
    (ap (λ (d : Demands). fault_within d (layout_in bytes) bytes) is ∙ any_fault (layout_in bytes) bytes) gives
